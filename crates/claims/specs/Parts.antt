-- What is claimed of the parts, each by itself and for every value of its types: the rules of document 01 that a part keeps
-- whatever stands around it; those of document 02 are in Requests, Bytes, TestMode and Order. proofs/PartsProved.antt proves
-- each by citing its law.
-- Assumes nothing.
use Rattle.std.specs.Prelude.{◌≡◌, ℕ, ◌+◌, ◌/◌, ◌^◌, ◌<◌, ◌≤◌, Bool, true, false, not, ◌&&◌, ◌||◌, ◌↔◌, List, ◌++◌, length, ◌==◌, ◌≢◌, nat_le, nat_lt, slice_index}
use Rattle.bits.specs.Bits.{bit_at, one_if_of, NoBitOutside, NoBitOutsideOf}
use Rattle.registers.specs.Csr as csr
use Rattle.registers.specs.Control.{inputs}
use Rattle.registers.specs.CsrBits.{is_status_bit, bit_after}
use Rattle.registers.specs.Registers.{last_register, numbered_of, facts, facts_of}
use Rattle.registers.specs.Registers.{factor_width, timer_width, interval_width, control_bits}
use Rattle.registers.specs.Registers.{is_valid_control, is_valid_factor, is_valid_interval, is_valid_timer, is_valid_assign}
use Rattle.registers.specs.declared.csr.Request.TheVariants.{Reset}
use Rattle.registers.specs.declared.register.Register.TheVariants.{Absent}
use Rattle.registers.specs.declared.csr.Csr.{Csr}
use Rattle.prescaler.specs.Prescaler as prescaler
use Rattle.prescaler.specs.declared.Prescalers.{Prescalers}
use Rattle.prescaler.specs.Prescaler.{EightPlaces, ScaledAt}
use Rattle.prescaler.specs.PrescalerFields.{counter_at, factor_at}
use Rattle.sync.specs.SyncCounter.{is_due, after_load_of}
use Rattle.sync.specs.UserSync as user
use Rattle.sync.specs.declared.counter.SyncCounter.{SyncCounter}
use Rattle.sync.specs.declared.user.UserSync.{UserSync}
use Rattle.sequencer.specs.MainSequencer as main
use Rattle.sequencer.specs.States.{is_idle}
use Rattle.sequencer.specs.declared.main_sequencer.MainSequencer.{MainSequencer}
use Rattle.sequencer.specs.declared.main_sequencer.Tests.{Tests}
use Rattle.branch.specs.Branch as branch
use Rattle.branch.specs.Slots.{words_in}
use Rattle.branch.specs.declared.Branch.{Branch}
use Rattle.branch.specs.declared.Phase.TheVariants.{Strobe}
use Rattle.branch.specs.Slots.{Slot}
use Rattle.supervisor.specs.declared.Supervisor.{Supervisor}
use Rattle.declines.specs.Calls.{memory_places, memory_after_of}

-- ---- registers

-- [Widths.1] [Widths.2] A factor is valid exactly where it has no bit outside its width, 20 or 14 by its input; a timer
-- by its own width.
abbrev pub FactorFitsItsWidth : Type 0
FactorFitsItsWidth = (input v : ℕ) → (is_valid_factor input v ≡ true) ↔ NoBitOutside (factor_width input) v

abbrev pub TimerFitsItsWidth : Type 0
TimerFitsItsWidth = (timer v : ℕ) → (is_valid_timer timer v ≡ true) ↔ NoBitOutside (timer_width timer) v

-- [Registers.1] [Control.1] The interval by its width, control by its bits.
abbrev pub IntervalFitsItsWidth : Type 0
IntervalFitsItsWidth = (v : ℕ) → (is_valid_interval v ≡ true) ↔ NoBitOutside interval_width v

abbrev pub ControlFitsItsBits : Type 0
ControlFitsItsBits = (v : ℕ) → (is_valid_control v ≡ true) ↔ NoBitOutsideOf control_bits v

-- [Declines.2b] A number past the last names no register.
abbrev pub PastLastIsAbsent : Type 0
PastLastIsAbsent = (n : ℕ) → last_register < n → numbered_of n ≡ Absent

-- [Declines.2b] [Declines.2c] [Declines.3a] Registers 0–19 are read and written, and 1–16 are protected while active;
-- [State.8a] [State.8b] 20 is read only, [Test.5b] 21 is written only; [Test.2] of the protected ones test mode opens 1.
abbrev pub FactsByNumber : Type 0
FactsByNumber =
    (n : ℕ) → facts_of (numbered_of n) ≡ facts (nat_le n 20) (nat_le n 19 || n == 21) (nat_le 1 n && nat_le n 16) (n == 1)

-- [Memory.1] The memory has a place for each pattern of the twelve inputs.
abbrev pub PlaceForEachPattern : Type 0
PlaceForEachPattern = memory_places ≡ 2 ^ inputs

-- [Declines.1b] A memory write, declined or not, leaves every other place as it is.
abbrev pub WriteLeavesOtherPlaces : Type 0
WriteLeavesOtherPlaces =
    (memory : List ℕ) (place word : ℕ) (s : Supervisor) (k : ℕ) → (k ≢ place)
    → slice_index (memory_after_of memory place word s) k ≡ slice_index memory k

-- [Assign.1] The assign codes 40h–4Fh, and those from 60h, name nothing.
abbrev pub AssignDeclines40To4F : Type 0
AssignDeclines40To4F = (v : ℕ) → 64 ≤ v → v < 80 → is_valid_assign v ≡ false

abbrev pub AssignDeclines60Up : Type 0
AssignDeclines60Up = (v : ℕ) → 96 ≤ v → is_valid_assign v ≡ false

-- [CSRWrite.1] [CSRWrite.2a] [CSRWrite.2b] [CSRWrite.2c] Every bit of the CSR after a write, by what the write asks.
abbrev pub CsrBitAfterWrite : Type 0
CsrBitAfterWrite = (v : ℕ) (c : Csr) (i : ℕ) → csr.has_bit (csr.written_of v c).next i ≡ bit_after (csr.requested_of v) v c i

-- [CSRWrite.2a] Where a write both sets and clears a bit, it clears it.
abbrev pub ClearWins : Type 0
ClearWins = (v : ℕ) (c : Csr) (i : ℕ) → i < csr.settable_count → bit_at v (16 + i) ≡ true → csr.has_bit (csr.set_then_cleared_of v c) i ≡ false

-- [CSRWrite.2d] RESET clears bits 0–3.
abbrev pub ResetClearsBits0To3 : Type 0
ResetClearsBits0To3 = (v : ℕ) (c : Csr) (i : ℕ) → i < 4 → csr.has_bit (csr.after_request_of Reset v c) i ≡ false

-- [CSR.2] What a tick or a declined call marks in the CSR is status bits alone.
abbrev pub MarksSetStatusBits : Type 0
MarksSetStatusBits =
    (marks : ℕ) (c : Csr) (i : ℕ) → csr.has_bit (csr.marked_of marks c) i ≡ (csr.has_bit c i || (bit_at marks i && is_status_bit i))

-- [Main.14] The end of Sync hold clears bits 0 and 1, if bit 1 was set, and no other bit.
abbrev pub SyncHoldEndsARun : Type 0
SyncHoldEndsARun =
    (c : Csr) (i : ℕ) → csr.has_bit (csr.sync_hold_ended_of c) i ≡ (csr.has_bit c i && not (csr.pauses_on_next_sync c && nat_lt i 2))

-- [Usersync.2] The end of a user sync clears bits 2 and 3, and bit 0 if bit 2 was set, and no other bit.
abbrev pub UserSyncEndsARun : Type 0
UserSyncEndsARun =
    (c : Csr) (i : ℕ)
    → csr.has_bit (csr.user_sync_ended_of c) i
    ≡ ((csr.has_bit c i && not (nat_le 2 i && nat_lt i 4)) && not (csr.pauses_and_syncs c && nat_lt i 1))

-- ---- prescalers

-- [Account.11] Each counted pulse is stopped, scaled or passed, and only one of them.
abbrev pub PulseHasOneFate : Type 0
PulseHasOneFate =
    (runs : Bool) (pulses : ℕ) (b : Prescalers) (i : ℕ) → i < inputs
    → one_if_of (bit_at pulses i)
    ≡ one_if_of (bit_at (prescaler.step_of runs pulses b).stopped i)
    + one_if_of (bit_at (prescaler.step_of runs pulses b).scaled i)
    + one_if_of (bit_at (prescaler.step_of runs pulses b).passed i)

-- [Account.17] `PassCount` says of n pulses since the load, p of them passed: n + counter = p × (F + 1) + F and counter ≤ F.
-- A counter just loaded has it with n and p 0; every pulse keeps it; and from it p = n div (F + 1).
abbrev pub LoadStartsPassCount : Type 0
LoadStartsPassCount = (factor : ℕ) → prescaler.PassCount 0 0 factor factor

abbrev pub PulseKeepsPassCount : Type 0
PulseKeepsPassCount =
    (counted runs : Bool) (n p counter factor : ℕ) → prescaler.PassCount n p counter factor
    → prescaler.PassCount (n + one_if_of (counted && runs))
    (p + one_if_of (prescaler.facts_of (prescaler.fate_of counted runs (counter == 0))).is_passed)
    (prescaler.counter_after (prescaler.fate_of counted runs (counter == 0)) counter factor) factor

abbrev pub PassCountDivides : Type 0
PassCountDivides = (n p counter factor : ℕ) → prescaler.PassCount n p counter factor → p ≡ n / (factor + 1)

-- [Bench.10] After a load with a factor above 0 the first pulse does not pass.
abbrev pub FirstPulseIsScaled : Type 0
FirstPulseIsScaled =
    (pulses i : ℕ) → i < prescaler.prescaled_inputs → bit_at pulses i ≡ true → (input factor : ℕ) (b : Prescalers)
    → i + 1 ≡ input → EightPlaces b → 0 < factor
    → ScaledAt (prescaler.step_of true pulses (prescaler.with_factor_of true input factor b)) i

-- [CSRWrite.2d] The same after RESET, which loads every counter.
abbrev pub FirstPulseIsScaledAfterReset : Type 0
FirstPulseIsScaledAfterReset =
    (pulses i : ℕ) → i < prescaler.prescaled_inputs → bit_at pulses i ≡ true → (b : Prescalers) → 0 < factor_at b i
    → ScaledAt (prescaler.step_of true pulses (prescaler.reloaded_of b)) i

-- [Pulses.4] [Pulses.5] A counted pulse that meets 0 passes where the bank runs; so does every one of inputs 9–12.
abbrev pub ZeroIsPassed : Type 0
ZeroIsPassed =
    (pulses : ℕ) (b : Prescalers) (i : ℕ) → bit_at pulses i ≡ true → i < prescaler.prescaled_inputs → counter_at b i ≡ 0
    → prescaler.fate_at true pulses b i ≡ prescaler.passed

abbrev pub Inputs9To12Pass : Type 0
Inputs9To12Pass =
    (pulses : ℕ) (b : Prescalers) (i : ℕ) → bit_at pulses i ≡ true → prescaler.prescaled_inputs ≤ i
    → prescaler.fate_at true pulses b i ≡ prescaler.passed

-- ---- main sequencer

-- [Main.3] Fail is acted on before pass, in Wait 2 and in Wait 3.
abbrev pub FailBeatsPass2 : Type 0
FailBeatsPass2 = (late pass class2 : Bool) → main.move_in_wait2 true late pass class2 ≡ main.move_in_wait2 true late false false

abbrev pub FailBeatsPass3 : Type 0
FailBeatsPass3 = (late pass : Bool) → main.move_in_wait3 true late pass ≡ main.move_in_wait3 true late false

-- [Main.17] The move to Idle leaves the sequencer as it is at Idle: nothing of the event stays.
abbrev pub ToIdleZeroes : Type 0
ToIdleZeroes =
    (t : Tests) (m : MainSequencer) → is_idle m.state ≡ false → is_idle (main.step_of t m).next.state ≡ true
    → (main.step_of t m).next ≡ main.idle_of

-- ---- syncs

-- [Bench.7] With an interval of 1 every event is a sync event; the load of one counts no further.
abbrev pub IntervalOneIsDue : Type 0
IntervalOneIsDue = (count : ℕ) → is_due true (record { interval = 1; count = count }) ≡ true

abbrev pub SyncLoadKeepsCount : Type 0
SyncLoadKeepsCount = (enabled : Bool) (c : SyncCounter) → is_due enabled c ≡ true → after_load_of enabled c ≡ c

-- [Usersync.2] A user sync's wait ends exactly where every branch is empty.
abbrev pub UserSyncEndsExactly : Type 0
UserSyncEndsExactly =
    (wanted idle empty : Bool) (u : UserSync) → (user.step_of wanted idle empty u).ended ≡ (u.waiting && empty)

-- ---- branches

-- [Account.15] In a branch that no rule finds spoiled, with room for a word of six bits: what finished, followed by what is
-- held, is what was held followed by what was loaded.
abbrev pub BranchKeepsOrder : Type 0
BranchKeepsOrder =
    (acks enabled : ℕ) (b : Branch) (load : Slot) → branch.is_six_bit_load load ≡ true → branch.has_place_for load b ≡ true
    → branch.WellFormedBranch b
    → words_in (branch.step_of acks enabled load b).finished ++ branch.held (branch.step_of acks enabled load b).next
    ≡ branch.held b ++ words_in load

-- [Spoiled.1d] A branch at Strobe that no rule finds spoiled holds a word.
abbrev pub StrobeHasWord : Type 0
StrobeHasWord = (b : Branch) → branch.WellFormedBranch b → b.phase ≡ Strobe → 0 < length (branch.held b)

-- [Branches.4] With no line enabled, all enabled lines are high, and all are low.
abbrev pub NoneEnabledIsHigh : Type 0
NoneEnabledIsHigh = (acks : ℕ) → branch.all_high acks 0 ≡ true

abbrev pub NoneEnabledIsLow : Type 0
NoneEnabledIsLow = (acks : ℕ) → branch.all_low acks 0 ≡ true
