-- What is claimed of document 02's requests N1 and N2, for every value of the types; N4 has Bytes, N5 TestMode, N6 Order, N7 Table;
-- what they change of document 01's claims stands with those. proofs/RequestsProved.antt proves each by citing its law.
-- Assumes nothing.
use Rattle.std.specs.Prelude.{◌≡◌, ℕ, suc, ◌<◌, Bool, true, false, List}
use Rattle.bits.specs.Bits.{bit_at}
use Rattle.run.specs.declared.Run.{Run}
use Rattle.scalers.specs.Scalers.{is_some}
use Rattle.branches.specs.Readout.{module_branches}
use Rattle.trigger.specs.BlindTime.{LosesAll}
use Rattle.trigger.specs.declared.lines.Inputs.{Inputs}
use Rattle.module_core.specs.Core as core
use Rattle.module_core.specs.declared.Core.{Core}
use Rattle.supervisor.specs.Supervisor.{fresh_of, reset_of, is_spoiled_of, in_force_of, is_held_of, ticked_of}
use Rattle.supervisor.specs.declared.Supervisor.{Supervisor}
use Rattle.state.specs.State.{state_bit_at, state_of, latest_tick_in, ShowsTick}
use Rattle.declines.specs.Answers.{declined, value}
use Rattle.declines.specs.Runs.{write_register, plain_read, ask_of}
use Rattle.declines.specs.LatestTick.{KeepsTheLatestTick}
use Rattle.bench.specs.Bench.{all_right}
use Rattle.bench.specs.Blind.{blind_examples}
use Rattle.bench.specs.State.{state_examples}

-- ---- N1: the blind time after a rejected pattern

-- [Blind.2] After a tick of the core that rejects a pattern, the blind count is 2.
abbrev pub FastResetBlinds : Type 0
FastResetBlinds =
    (room empty : Bool) (x : Inputs) (memory : List ℕ) (c : Core)
    → is_some (core.step_of room empty x memory c).masks.rejected ≡ true
    → (core.step_of room empty x memory c).next.blind.count ≡ 2

-- [Blind.2] [Blind.4] A tick that starts with a blind count of k + 1 loses what passes, rejects and accepts nothing, and
-- leaves k.
abbrev pub BlindTickLosesAll : Type 0
BlindTickLosesAll =
    (room empty : Bool) (x : Inputs) (memory : List ℕ) (c : Core) (k : ℕ) → c.blind.count ≡ suc k
    → LosesAll (core.pulsed_of x c).passed (core.step_of room empty x memory c).masks
    × ((core.step_of room empty x memory c).next.blind.count ≡ k)

-- [Blind.3] RESET zeroes the count, and a count above 2 spoils a record.
abbrev pub ResetEndsBlindTime : Type 0
ResetEndsBlindTime = (c : Core) → (core.reset_of c).blind.count ≡ 0

abbrev pub BlindAbove2IsSpoiled : Type 0
BlindAbove2IsSpoiled = (s : Supervisor) → 2 < s.core.blind.count → is_spoiled_of s ≡ true

-- [Blind.2]–[Blind.4] The examples of the blind time, as one statement over their table.
abbrev pub BlindExamples : Type 0
BlindExamples = all_right blind_examples ≡ true

-- ---- N2: the STATE register

-- [State.8a] A record that is not spoiled answers a read of register 20 with its STATE; [State.8b] it declines a write with
-- 3, by any run of bytes, active or not, and is left as it is.
abbrev pub StateIsRead : Type 0
StateIsRead =
    (memory : List ℕ) (s : Supervisor) → is_spoiled_of s ≡ false → (ask_of (plain_read 20) memory s).reply ≡ value (state_of s)

abbrev pub StateIsNotWritten : Type 0
StateIsNotWritten =
    (r : Run) (v : ℕ) (memory : List ℕ) (s : Supervisor) → is_spoiled_of s ≡ false
    → ask_of (write_register 20 r v) memory s ≡ record { reply = declined 3; next = s }

-- [State.2] Every bit of the word that a read gives is its test of the list; past the last there is none.
abbrev pub StateShowsItsBits : Type 0
StateShowsItsBits = (s : Supervisor) (i : ℕ) → bit_at (state_of s) i ≡ state_bit_at s i

-- [State.7] A fresh record reads 49242000h.
abbrev pub FreshStateReads : Type 0
FreshStateReads = state_of (fresh_of module_branches) ≡ 0x49242000

-- [State.3] RESET keeps what is kept of the latest tick: its lines, whether it latched a pattern, its acknowledges.
abbrev pub ResetKeepsLatest : Type 0
ResetKeepsLatest = (s : Supervisor) → latest_tick_in (reset_of s) ≡ latest_tick_in s

-- [State.3] [State.6] [State.7] [Test.7b] After a tick that runs, bits 2, 3, 6, 7, 10, 11 and 12 are that tick's, with the lines
-- in force in it.
abbrev pub StateShowsTheTick : Type 0
StateShowsTheTick =
    (memory : List ℕ) (x : Inputs) (s : Supervisor) → is_held_of s ≡ false
    → ShowsTick (in_force_of x s) (ticked_of memory x s).answer.masks (ticked_of memory x s).next

-- [State.3] [Test.7b] After every list of calls from a fresh supervisor, refused ones among them, the record keeps what a
-- bystander finds in the log: the lines and the acknowledges in force, and the latched pattern, of the latest tick that ran
-- since the start or INITIALIZE.
abbrev pub EveryRunKeepsTheLatestTick : Type 0
EveryRunKeepsTheLatestTick = KeepsTheLatestTick module_branches

-- [State.2]–[State.8b] The examples of reads of STATE, as one statement over their table.
abbrev pub StateExamples : Type 0
StateExamples = all_right state_examples ≡ true
