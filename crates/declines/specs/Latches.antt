-- The latches of the scalers, and reads by a run of bytes, as a user meets them.
--     document 02     N4
--     cut_reply        a reply that gives a value, cut to a run; is_scaler: only a scaler is read otherwise
--     keeps_value      a register that reads what was written
--     latch_at         the value last latched of a scaler; scaler_at: its value
--     with_latched     the record with a scaler latched; without_latches: all of a record but the latches
--     leaves_latch     a call that neither reads that scaler with BYTE(3) nor asks for INITIALIZE
--     LatchStands     such calls leave it as it is: all of them, refused ones among them
-- Own rules of 02 used here: none. Decisions: R7. Left out: nothing.
-- Assumes nothing.
use Rattle.std.specs.Prelude.{◌≡◌, ℕ, ◌+◌, ◌<◌, Bool, true, false, not, ◌&&◌, List, ◌==◌, if◌then◌else◌}
use Rattle.bits.specs.Notation.{◌▷◌}
use Rattle.run.specs.Run.{has_byte3, cut_of}
use Rattle.run.specs.declared.Run.{Run}
use Rattle.registers.specs.Registers.{numbered_of}
use Rattle.registers.specs.declared.csr.Request.{Request}
use Rattle.registers.specs.declared.csr.Request.TheVariants.{Nothing, Reset, Initialize}
use Rattle.registers.specs.declared.register.Register.{Register}
use Rattle.registers.specs.declared.register.Register.TheVariants.{Csr, Setting, Scaler, Assign, State, Test, Absent}
use Rattle.scalers.specs.ScalersFields.{with_latch0, with_latch1}
use Rattle.scalers.specs.Scalers.{latched_of, latch_of}
use Rattle.module_core.specs.CoreFields.{with_scalers}
use Rattle.supervisor.specs.Supervisor.{on_core}
use Rattle.supervisor.specs.declared.Supervisor.{Supervisor}
use Rattle.access.specs.Access.{requested_by}
use Rattle.declines.specs.Answers.{Reply, declined, done, value, ticked}
use Rattle.declines.specs.Runs.{Ask, write_register, read_register, write_memory, read_memory, fill_memory, tick}
use Rattle.declines.specs.Runs.{Call, record_after, every_ask}

-- ---- registers by what a call by a run of bytes does with them

-- [Bytes.7] 0 outside the run
abbrev pub cut_reply : Run → Reply → Reply
cut_reply run (value v) = value (cut_of run v)
cut_reply run (declined n) = declined n
cut_reply run done = done
cut_reply run (ticked y) = ticked y

-- [Bytes.5a] registers 17 and 18
abbrev pub is_scaler : Register → Bool
is_scaler Csr = false
is_scaler (Setting r) = false
is_scaler (Scaler n) = true
is_scaler Assign = false
is_scaler State = false
is_scaler Test = false
is_scaler Absent = false

-- [Declines.3b] registers 1–16 and assign: what is written is what is read
abbrev pub keeps_value : Register → Bool
keeps_value Csr = false
keeps_value (Setting r) = true
keeps_value (Scaler n) = false
keeps_value Assign = true
keeps_value State = false
keeps_value Test = false
keeps_value Absent = false

-- ---- a scaler and its latch

-- scaler n, which is 0 or 1
abbrev pub latch_at : (n : ℕ) → Supervisor → ℕ
latch_at n s = latch_of n s.core.scalers

abbrev pub scaler_at : (n : ℕ) → Supervisor → ℕ
scaler_at n s = if n == 0 then s.core.scalers.scaler0 else s.core.scalers.scaler1

-- [Registers.1] registers 17 and 18
abbrev pub scaler_number : (n : ℕ) → ℕ
scaler_number n = 17 + n

-- [Bytes.5a]
abbrev pub with_latched : (n : ℕ) → Supervisor → Supervisor
with_latched n s = s ▷ on_core (with_scalers (latched_of n s.core.scalers))

-- for what a read leaves: all else
abbrev pub without_latches : Supervisor → Supervisor
without_latches s = s ▷ on_core (with_scalers (s.core.scalers ▷ with_latch0 0 ▷ with_latch1 0))

-- ---- what changes a latch

abbrev pub is_initialize : Request → Bool
is_initialize Initialize = true
is_initialize Reset = false
is_initialize Nothing = false

-- [Bytes.5b] only INITIALIZE zeroes it
abbrev pub write_leaves_latch : Register → Run → (v : ℕ) → Bool
write_leaves_latch Csr run v = not (is_initialize (requested_by run v))
write_leaves_latch (Setting r) run v = true
write_leaves_latch (Scaler n) run v = true
write_leaves_latch Assign run v = true
write_leaves_latch State run v = true
write_leaves_latch Test run v = true
write_leaves_latch Absent run v = true

-- [Bytes.5a] only a read of that scaler with BYTE(3) changes it
abbrev pub read_leaves_latch : (n : ℕ) → Register → Run → Bool
read_leaves_latch n Csr run = true
read_leaves_latch n (Setting r) run = true
read_leaves_latch n (Scaler m) run = not (m == n && has_byte3 run)
read_leaves_latch n Assign run = true
read_leaves_latch n State run = true
read_leaves_latch n Test run = true
read_leaves_latch n Absent run = true

abbrev pub leaves_latch : (n : ℕ) → Ask → Bool
leaves_latch n (write_register number run v) = write_leaves_latch (numbered_of number) run v
leaves_latch n (read_register number run) = read_leaves_latch n (numbered_of number) run
leaves_latch n (write_memory place word) = true
leaves_latch n (read_memory place) = true
leaves_latch n (fill_memory words) = true
leaves_latch n (tick x) = true

-- [Bytes.5a] [Bytes.5b] from any record
abbrev pub LatchStands : Type 0
LatchStands =
    (n : ℕ) → n < 2 → (calls : List Call) (s : Supervisor) → every_ask (leaves_latch n) calls ≡ true
    → latch_at n (record_after calls s) ≡ latch_at n s
