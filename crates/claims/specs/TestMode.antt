-- What is claimed of document 02's request N5, test pulses and a held clock, for every value of the types.
-- proofs/TestModeProved.antt proves each by citing its law.
-- Assumes nothing.
use Rattle.std.specs.Prelude.{◌≡◌, ℕ, ◌/◌, ◌<◌, Bool, true, false, not, ◌&&◌, ◌||◌, ◌↔◌, List, [], ◌∷◌, ◌==◌, nat_le, slice_index}
use Rattle.bits.specs.Bits.{bit_at, NoBitOutsideOf}
use Rattle.run.specs.Run.{is_run_of, has_byte3, overlaid_of, cut_of}
use Rattle.run.specs.declared.Run.{Run}
use Rattle.registers.specs.Csr as csr
use Rattle.registers.specs.Control.{inputs, is_enabled, counts}
use Rattle.registers.specs.Registers.{test_bits, numbered_of, is_valid_test, is_valid_control}
use Rattle.registers.specs.declared.csr.Request.TheVariants.{Reset}
use Rattle.registers.specs.declared.register.Setting.TheVariants.{Control}
use Rattle.branches.specs.Readout.{module_branches}
use Rattle.trigger.specs.Lines.{has_strobe}
use Rattle.trigger.specs.declared.lines.Inputs.{Inputs}
use Rattle.testing.specs.TestWord.{pulses_inputs, acknowledges, replaces_acks, written_of}
use Rattle.testing.specs.declared.TestWord.{TestWord}
use Rattle.supervisor.specs.Supervisor.{is_spoiled_of, in_force_of, is_held_of, ticked_of, StandsStill}
use Rattle.supervisor.specs.declared.Supervisor.{Supervisor}
use Rattle.access.specs.Access.{csr_written_of, setting_written_of, test_written_of}
use Rattle.declines.specs.Answers.{declined, done}
use Rattle.declines.specs.Calls.{is_guarded_of}
use Rattle.declines.specs.Runs.{write_register, read_register, ask_of}
use Rattle.declines.specs.Modes.{switched, modes_in, FollowsTheModes}
use Rattle.bench.specs.Bench.{all_right}
use Rattle.bench.specs.TestMode.{test_examples}
use Rattle.bench.specs.Hold.{hold_examples}

-- ---- TEST

-- [Test.5a] A value of TEST is valid exactly where it has no bit but 0, 2–5 and 7–14.
abbrev pub TestFitsItsBits : Type 0
TestFitsItsBits = (v : ℕ) → (is_valid_test v ≡ true) ↔ NoBitOutsideOf test_bits v

-- [Test.1] [Test.5a] A record that is not spoiled takes such a value, active or not, by any run of bytes, whose own bytes count,
-- and nothing but what waits changes; [Test.5b] it declines a read with 3 and is left as it is.
abbrev pub TestIsWritten : Type 0
TestIsWritten =
    (r : Run) (memory : List ℕ) (s : Supervisor) → is_spoiled_of s ≡ false → (v : ℕ) → is_run_of r ≡ true
    → is_valid_test (cut_of r v) ≡ true
    → ask_of (write_register 21 r v) memory s ≡ record { reply = done; next = test_written_of (cut_of r v) s }

abbrev pub TestIsNotRead : Type 0
TestIsNotRead =
    (r : Run) (memory : List ℕ) (s : Supervisor) → is_spoiled_of s ≡ false
    → ask_of (read_register 21 r) memory s ≡ record { reply = declined 3; next = s }

-- [Test.6] [Test.8a] Bit i waits after a write if it waited before or is written; bit 7, the single step, only under hold.
abbrev pub WritesWaitTogether : Type 0
WritesWaitTogether =
    (hold : Bool) (v : ℕ) (w : TestWord) (i : ℕ)
    → bit_at (written_of hold v w).word i ≡ (bit_at w.word i || (bit_at v i && (hold || not (i == 7))))

-- ---- test mode

-- [Test.2] [Test.3] Lines 0–6 in force in test mode are bits 0, 2, 4, 3, 5, 8 and 9 of what waits.
abbrev pub TestBitsAreLines : Type 0
TestBitsAreLines =
    (x : Inputs) (s : Supervisor) → csr.is_test_mode s.core.csr ≡ true → (i : ℕ) → i < 7
    → bit_at (in_force_of x s).lines.word i ≡ bit_at s.core.test.word (slice_index (0 ∷ 2 ∷ 4 ∷ 3 ∷ 5 ∷ 8 ∷ 9 ∷ []) i)

-- [Test.4] With bit 14 every acknowledge in force in test mode is the bit of its branch; without it those from outside stay.
abbrev pub TestBitsAreAcks : Type 0
TestBitsAreAcks =
    (x : Inputs) (s : Supervisor) → csr.is_test_mode s.core.csr ≡ true → replaces_acks s.core.test ≡ true
    → (i : ℕ) → i < 32 → bit_at (in_force_of x s).acks i ≡ acknowledges s.core.test (i / 8)

abbrev pub OutsideAcksStay : Type 0
OutsideAcksStay =
    (x : Inputs) (s : Supervisor) → replaces_acks s.core.test ≡ false → (in_force_of x s).acks ≡ x.acks

-- [Test.3] In test mode a pulse counts exactly at the inputs that are enabled, where bit 0 waits; [Test.6] outside it a tick that
-- runs meets the outside as it is.
abbrev pub WrittenPulseCounts : Type 0
WrittenPulseCounts =
    (x : Inputs) (s : Supervisor) → csr.is_test_mode s.core.csr ≡ true → (i : ℕ) → i < inputs
    → counts s.core.control (has_strobe (in_force_of x s).lines) (in_force_of x s).triggers i
    ≡ (pulses_inputs s.core.test && is_enabled s.core.control i)

abbrev pub OutsideIsInForce : Type 0
OutsideIsInForce = (x : Inputs) (s : Supervisor) → csr.is_test_mode s.core.csr ≡ false → in_force_of x s ≡ x

-- [Test.2] In test mode a tick, held or not, gives the same answer and the same next record for the same acknowledges,
-- whatever else comes from outside; [Test.4] with bit 14 written for it, for any acknowledges too. (Outside words that are out
-- of range get 5 before, in test mode as ever: [Declines.5c].)
abbrev pub TestModeBlocksOutside : Type 0
TestModeBlocksOutside =
    (memory : List ℕ) (x y : Inputs) (s : Supervisor) → csr.is_test_mode s.core.csr ≡ true → x.acks ≡ y.acks
    → ticked_of memory x s ≡ ticked_of memory y s

abbrev pub TestAcksBlockOutside : Type 0
TestAcksBlockOutside =
    (memory : List ℕ) (x y : Inputs) (s : Supervisor) → csr.is_test_mode s.core.csr ≡ true
    → replaces_acks s.core.test ≡ true → ticked_of memory x s ≡ ticked_of memory y s

-- [Test.2] In test mode a record that is not spoiled takes a valid value of control, active or not, and stores it.
abbrev pub ControlIsOpenInTestMode : Type 0
ControlIsOpenInTestMode =
    (r : Run) (memory : List ℕ) (s : Supervisor) → is_spoiled_of s ≡ false → (v : ℕ) → is_run_of r ≡ true
    → csr.is_test_mode s.core.csr ≡ true → is_valid_control (overlaid_of r s.core.control.word v) ≡ true
    → ask_of (write_register 1 r v) memory s
    ≡ record { reply = done; next = setting_written_of Control (has_byte3 r) (overlaid_of r s.core.control.word v) s }

-- [Declines.2c] [Test.2] Registers 1–16 are not written while active, but for control in test mode.
abbrev pub GuardedByNumber : Type 0
GuardedByNumber =
    (n : ℕ) (s : Supervisor)
    → is_guarded_of (numbered_of n) s ≡ ((nat_le 1 n && nat_le n 16) && not (n == 1 && csr.is_test_mode s.core.csr))

-- ---- the held clock

-- [Test.7a] A held tick leaves the record as it is, and its answer stands still: counted outside pulses are stopped, in test mode
-- none, and nothing else happens.
abbrev pub HeldTickLeavesRecord : Type 0
HeldTickLeavesRecord =
    (memory : List ℕ) (x : Inputs) (s : Supervisor) → is_held_of s ≡ true → (ticked_of memory x s).next ≡ s

abbrev pub HeldTickStandsStill : Type 0
HeldTickStandsStill =
    (memory : List ℕ) (x : Inputs) (s : Supervisor) → is_held_of s ≡ true → StandsStill x s (ticked_of memory x s).answer

-- [Test.6] [Test.8a] A tick that runs leaves nothing that waits, in test mode or not.
abbrev pub RunningTickDropsWaiting : Type 0
RunningTickDropsWaiting =
    (memory : List ℕ) (x : Inputs) (s : Supervisor) → is_held_of s ≡ false → (ticked_of memory x s).next.core.test.word ≡ 0

-- [Test.8a] A single step that is written under hold lets the next tick through; under hold it is the only one: the tick after
-- it is held.
abbrev pub StepLetsATickThrough : Type 0
StepLetsATickThrough =
    (v : ℕ) (s : Supervisor) → csr.holds_clock s.core.csr ≡ true → bit_at v 7 ≡ true → is_held_of (test_written_of v s) ≡ false

abbrev pub OneStepOneTick : Type 0
OneStepOneTick =
    (memory : List ℕ) (x : Inputs) (s : Supervisor) → csr.holds_clock s.core.csr ≡ true → is_held_of s ≡ false
    → is_held_of (ticked_of memory x s).next ≡ true

-- [Test.8b] A write that asks for RESET leaves both modes as its own bits 12, 13, 28 and 29 do, and drops what waits.
abbrev pub ResetKeepsModes : Type 0
ResetKeepsModes =
    (v : ℕ) (s : Supervisor) → csr.requested_of v ≡ Reset → modes_in (csr_written_of v s) ≡ switched v 0 (modes_in s)

-- ---- the whole list

-- [Test.9] After every list of calls from a fresh supervisor, refused ones among them, both modes and what waits of TEST are what
-- a bystander follows from the log: what the account of demand 3 counts pulses by.
abbrev pub EveryRunFollowsTheModes : Type 0
EveryRunFollowsTheModes = FollowsTheModes module_branches

-- [Test.1]–[Test.10] The examples of test mode and of the held clock, as one statement over each table.
abbrev pub TestExamples : Type 0
TestExamples = all_right test_examples ≡ true

abbrev pub HoldExamples : Type 0
HoldExamples = all_right hold_examples ≡ true
