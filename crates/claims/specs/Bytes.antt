-- What is claimed of document 02's request N4, register access by a run of bytes, for every value of the types.
-- proofs/BytesProved.antt proves each by citing its law.
-- Assumes nothing.
use Rattle.std.specs.Prelude.{◌≡◌, ℕ, suc, ◌-◌, ◌/◌, ◌<◌, true, false, List, if◌then◌else◌}
use Rattle.bits.specs.Bits.{bit_at}
use Rattle.run.specs.Run.{run, ten_runs, is_in, is_run_of, holds_byte, has_byte3, overlaid_of, cut_of}
use Rattle.run.specs.declared.Run.{Run}
use Rattle.registers.specs.Registers.{numbered_of, is_valid_factor}
use Rattle.prescaler.specs.PrescalerFields.{counter_at}
use Rattle.prescaler.specs.Prescaler.{with_factor_of, EightPlaces}
use Rattle.prescaler.specs.declared.Prescalers.{Prescalers}
use Rattle.branches.specs.Readout.{module_branches}
use Rattle.supervisor.specs.Supervisor.{initialized_of, is_spoiled_of}
use Rattle.supervisor.specs.declared.Supervisor.{Supervisor}
use Rattle.access.specs.Access.{shown_of}
use Rattle.declines.specs.Answers.{done, value, verdict_reply, reading_reply}
use Rattle.declines.specs.Calls.{write_register_of, read_register_of}
use Rattle.declines.specs.Runs.{write_register, read_register, plain_read, ask_of}
use Rattle.declines.specs.Latches.{cut_reply, is_scaler, keeps_value, latch_at, scaler_at, scaler_number}
use Rattle.declines.specs.Latches.{with_latched, without_latches, LatchStands}
use Rattle.account.specs.Owed.{PassCountIsOwed, LoadOwes}
use Rattle.account.specs.OwedExamples.{owed_logs, owed_after, owed_answers}
use Rattle.bench.specs.Bench.{all_right}
use Rattle.bench.specs.Bytes.{bytes_examples}

-- ---- runs

-- [Bytes.2] [Bytes.11] A first byte and a count are a run exactly if they are one of the ten of source document 001.
abbrev pub TheRunsAreTen : Type 0
TheRunsAreTen = (first count : ℕ) → is_run_of (run first count) ≡ is_in (run first count) ten_runs

-- [Bytes.2] [Bytes.3a] Bit i of a merged word is the value's where the run holds its byte, which is BYTE(3 - i div 8), and
-- the old one's elsewhere.
abbrev pub RunTakesItsBytes : Type 0
RunTakesItsBytes =
    (r : Run) (old v i : ℕ) → i < 32
    → bit_at (overlaid_of r old v) i ≡ (if holds_byte r (3 - i / 8) then bit_at v i else bit_at old i)

-- ---- calls

-- [Bytes.2] [Bytes.5a] A call by the whole run is the plain call: the same reply and the same next record.
abbrev pub WholeRunIsPlainWrite : Type 0
WholeRunIsPlainWrite =
    (number v : ℕ) (memory : List ℕ) (s : Supervisor)
    → ask_of (write_register number (run 0 4) v) memory s
    ≡ record { reply = verdict_reply (write_register_of number v s).answer; next = (write_register_of number v s).next }

abbrev pub WholeRunIsPlainRead : Type 0
WholeRunIsPlainRead =
    (number : ℕ) (memory : List ℕ) (s : Supervisor)
    → ask_of (read_register number (run 0 4)) memory s
    ≡ record { reply = reading_reply (read_register_of number s).answer; next = (read_register_of number s).next }

-- [Bytes.3a] After a write to one of registers 1–16 or to assign that was carried out, the register shows the run's bytes of the
-- value, and the others as it showed them before. (The code's arrays have eight places; a list of any length stands for them.)
abbrev pub WrittenBytesAreRead : Type 0
WrittenBytesAreRead =
    (number : ℕ) (r : Run) (v : ℕ) (s : Supervisor) → EightPlaces s.core.prescalers
    → keeps_value (numbered_of number) ≡ true → (memory : List ℕ) → (ask_of (write_register number r v) memory s).reply ≡ done
    → shown_of (numbered_of number) (ask_of (write_register number r v) memory s).next
    ≡ overlaid_of r (shown_of (numbered_of number) s) v

-- [Bytes.4a] A factor written without BYTE(3) leaves every counter.
abbrev pub FactorAloneKeepsCounters : Type 0
FactorAloneKeepsCounters = (input v : ℕ) (b : Prescalers) → (with_factor_of false input v b).counters ≡ b.counters

-- [Bytes.7] A read of a part of a register that is no scaler gives its bytes in the plain read, and 0 elsewhere; it is declined
-- as the plain read is.
abbrev pub PartialReadIsCut : Type 0
PartialReadIsCut =
    (s : Supervisor) (number : ℕ) (r : Run) (memory : List ℕ) → is_run_of r ≡ true → is_scaler (numbered_of number) ≡ false
    → (ask_of (read_register number r) memory s).reply ≡ cut_reply r (ask_of (plain_read number) memory s).reply

-- [Bytes.5a] No register read changes anything of a record but a latch.
abbrev pub ReadsLeaveTheRest : Type 0
ReadsLeaveTheRest =
    (s : Supervisor) (number : ℕ) (r : Run) (memory : List ℕ)
    → without_latches (ask_of (read_register number r) memory s).next ≡ without_latches s

-- ---- scalers: n is 0 or 1, the run r is one of the ten, and the record is not spoiled

-- [Bytes.5a] A read of a scaler with BYTE(3) gives the scaler's bytes and latches it.
abbrev pub ScalerReadLatches : Type 0
ScalerReadLatches =
    (s : Supervisor) (memory : List ℕ) → is_spoiled_of s ≡ false → (r : Run) → is_run_of r ≡ true → has_byte3 r ≡ true
    → (n : ℕ) → n < 2
    → ask_of (read_register (scaler_number n) r) memory s
    ≡ record { reply = value (cut_of r (scaler_at n s)); next = with_latched n s }

-- [Bytes.5b] One without BYTE(3) gives the latch's bytes and leaves the record as it is.
abbrev pub ScalerReadByLatch : Type 0
ScalerReadByLatch =
    (s : Supervisor) (memory : List ℕ) → is_spoiled_of s ≡ false → (r : Run) → is_run_of r ≡ true → has_byte3 r ≡ false
    → (n : ℕ) → n < 2
    → ask_of (read_register (scaler_number n) r) memory s ≡ record { reply = value (cut_of r (latch_at n s)); next = s }

-- [Bytes.6] A write to a scaler without BYTE(3) is carried out and leaves the record as it is.
abbrev pub ScalerWriteLeaves : Type 0
ScalerWriteLeaves =
    (s : Supervisor) (memory : List ℕ) → is_spoiled_of s ≡ false → (r : Run) → is_run_of r ≡ true → has_byte3 r ≡ false
    → (n : ℕ) → n < 2 → (v : ℕ)
    → ask_of (write_register (scaler_number n) r v) memory s ≡ record { reply = done; next = s }

-- [Bytes.5a] [Bytes.5b] A latch stands through every list of calls, from any record, in which there is neither a read of that
-- scaler by a run with BYTE(3) nor an INITIALIZE, which zeroes it.
abbrev pub LatchedCountStands : Type 0
LatchedCountStands = LatchStands

abbrev pub InitializeZeroesLatches : Type 0
InitializeZeroesLatches = (s : Supervisor) (n : ℕ) → latch_at n (initialized_of s) ≡ 0

-- ---- counters and pass counts

-- [Bytes.9] A counter that does not fit the width of its factor spoils a record.
abbrev pub CounterBeyondWidthIsSpoiled : Type 0
CounterBeyondWidthIsSpoiled =
    (s : Supervisor) (i : ℕ) → i < 8 → is_valid_factor (suc i) (counter_at s.core.prescalers i) ≡ false
    → is_spoiled_of s ≡ true

-- [Bytes.10a] After every list of calls from a fresh supervisor, the pass count of an input is n div (F + 1), as document 01 has
-- it, if no ask of the list is a write of its factor without BYTE(3), not even a refused one; and whatever the list, if no such
-- ask comes after a load that was carried out. By the account's rule such a write that leaves the factor as it was keeps it
-- owed too (still_owed); the table below has one.
abbrev pub PassCountOwed : Type 0
PassCountOwed = PassCountIsOwed module_branches

abbrev pub PassCountOwedFromALoad : Type 0
PassCountOwedFromALoad = LoadOwes module_branches

-- [Bytes.10a] [Bytes.10b] Where it is owed and where not, as one statement over a table of logs: a factor changed, left as it
-- was, changed back, loaded again.
abbrev pub OwedExamples : Type 0
OwedExamples = owed_after owed_logs ≡ owed_answers

-- ---- examples

-- [Bytes.2]–[Bytes.5a] [Bytes.6] [Bytes.7] [Bytes.9] [Bytes.11] The examples of register calls by a run of bytes, as one
-- statement over their table.
abbrev pub BytesExamples : Type 0
BytesExamples = all_right bytes_examples ≡ true
