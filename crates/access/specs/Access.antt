-- What a register write that is carried out changes, and what a read leaves and shows.
--     document 01     "Registers"; document 02, N2, N4 and N5
--     merged_of        the value that a write by a run of bytes writes: the bytes that it lacks are base_of's
--     written_of       the record after the write: csr_written_of for the CSR, setting_written_of for registers 1–16
--     requested_by     what a CSR write by a run asks of the record
--     after_read_of     the record after a read
--     shown_of         what a read then shows: setting_of for registers 1–16
-- A value is cut to the width of its place; one that does not fit never comes this far ([Declines.2d]).
-- Own rules of 01 used here: none. Decisions: R7, R8, R9. Left out: STATE's bits, in state.
-- Assumes nothing.
use Rattle.std.specs.Prelude.{ℕ, ◌%◌, ◌^◌, Bool, if◌then◌else◌}
use Rattle.bits.specs.Notation.{◌▷◌}
use Rattle.run.specs.Run.{overlaid_of, cut_of}
use Rattle.run.specs.declared.Run.{Run}
use Rattle.registers.specs.Csr as csr
use Rattle.registers.specs.declared.csr.CsrWrite.{CsrWrite}
use Rattle.registers.specs.declared.csr.Request.{Request}
use Rattle.registers.specs.declared.csr.Request.TheVariants.{Nothing, Reset, Initialize}
use Rattle.registers.specs.declared.register.Register.{Register}
use Rattle.registers.specs.declared.register.Register.TheVariants.{Csr, Scaler, Assign, State, Test, Absent}
use Rattle.registers.specs.declared.register.Register.TheVariants as register
use Rattle.registers.specs.declared.register.Setting.{Setting}
use Rattle.registers.specs.declared.register.Setting.TheVariants.{Control, Factor, RocEnable, Interval, Timer}
use Rattle.prescaler.specs.Prescaler as prescaler
use Rattle.timers.specs.Timers as timers
use Rattle.sync.specs.SyncCounter as counter
use Rattle.scalers.specs.ScalersFields.{with_assign}
use Rattle.scalers.specs.Scalers as scalers
use Rattle.branches.specs.ReadoutFields.{with_roc}
use Rattle.testing.specs.TestWord as test
use Rattle.module_core.specs.CoreFields.{with_prescalers, with_csr, with_control, with_test, with_scalers, with_timers, with_sync}
use Rattle.supervisor.specs.Supervisor.{with_readout, on_core, initialized_of, reset_of}
use Rattle.supervisor.specs.declared.Supervisor.{Supervisor}
use Rattle.state.specs.State.{state_of}

-- ---- a CSR write, by what it asks of the record

-- [CSRWrite.1] [CSRWrite.2d] INITIALIZE makes it fresh, RESET comes after the CSR's own bits
abbrev pub after_csr_of : Request → CsrWrite → Supervisor → Supervisor
after_csr_of Initialize w s = initialized_of s
after_csr_of Reset w s = s ▷ on_core (with_csr w.next) ▷ reset_of
after_csr_of Nothing w s = s ▷ on_core (with_csr w.next)

unfoldable pub csr_written_of : (v : ℕ) → Supervisor → Supervisor
csr_written_of v s = after_csr_of (csr.written_of v s.core.csr).request (csr.written_of v s.core.csr) s

-- [Bytes.3b] [Bytes.4b] what a CSR write by a run asks: the bytes that it lacks count as 0
abbrev pub requested_by : Run → (v : ℕ) → Request
requested_by run v = csr.requested_of (cut_of run v)

-- ---- a setting

-- [Registers.2] [Bytes.4a] writing a factor loads its counter where the run has BYTE(3); no other setting looks at that
unfoldable pub setting_written_of : Setting → (loads : Bool) (v : ℕ) → Supervisor → Supervisor
setting_written_of Control loads v s = s ▷ on_core (with_control (record { word = v }))
setting_written_of (Factor input) loads v s =
    s ▷ on_core (with_prescalers (prescaler.with_factor_of loads input v s.core.prescalers))
setting_written_of RocEnable loads v s = s ▷ with_readout (s.readout ▷ with_roc v)
setting_written_of Interval loads v s = s ▷ on_core (with_sync (s.core.sync ▷ counter.with_interval (v % 2 ^ 16)))
setting_written_of (Timer n) loads v s = s ▷ on_core (with_timers (timers.written_of n v s.core.timers))

-- ---- any register

-- [Test.6] what is written waits with what waits already; [Test.8a] a single step only under hold
abbrev pub test_written_of : (v : ℕ) → Supervisor → Supervisor
test_written_of v s = s ▷ on_core (with_test (test.written_of (csr.holds_clock s.core.csr) v s.core.test))

-- [Registers.3] [Bytes.4a] writing a scaler zeroes it where the run has BYTE(3); [Bytes.6] else it changes nothing
abbrev pub scaler_written_of : (n : ℕ) (loads : Bool) → Supervisor → Supervisor
scaler_written_of n loads s = if loads then s ▷ on_core (with_scalers (scalers.zeroed_of n s.core.scalers)) else s

-- [State.8b] STATE is not written; [CSRWrite.3] none of these touches memory, which is not part of the record
-- [Bytes.4b] the CSR's RESET does not look at whether the run has BYTE(3)
unfoldable pub written_of : Register → (loads : Bool) (v : ℕ) → Supervisor → Supervisor
written_of Csr loads v s = csr_written_of v s
written_of (register.Setting r) loads v s = setting_written_of r loads v s
written_of (Scaler n) loads v s = scaler_written_of n loads s
written_of Assign loads v s = s ▷ on_core (with_scalers (s.core.scalers ▷ with_assign v))
written_of State loads v s = s
written_of Test loads v s = test_written_of v s
written_of Absent loads v s = s

-- ---- the value of a write by a run of bytes

-- [Declines.3b] what is stored of a setting
unfoldable pub setting_of : Setting → Supervisor → ℕ
setting_of Control s = s.core.control.word
setting_of (Factor input) s = prescaler.factor_of input s.core.prescalers
setting_of RocEnable s = s.readout.roc
setting_of Interval s = s.core.sync.interval
setting_of (Timer n) s = timers.stored_of n s.core.timers

-- [Bytes.3a] the bytes that a write lacks are the stored ones; [Bytes.3b] the CSR's count as 0, as TEST's do, and a scaler takes
-- any value
unfoldable pub base_of : Register → Supervisor → ℕ
base_of Csr s = 0
base_of (register.Setting r) s = setting_of r s
base_of (Scaler n) s = 0
base_of Assign s = s.core.scalers.assign
base_of State s = 0
base_of Test s = 0
base_of Absent s = 0

-- [Bytes.3a] the run's bytes of the value, the others of what is stored
abbrev pub merged_of : Register → Run → (v : ℕ) → Supervisor → ℕ
merged_of register run v s = overlaid_of run (base_of register s) v

-- ---- a read

-- [Bytes.5a] a scaler is latched where the run has BYTE(3); every other read changes nothing
unfoldable pub after_read_of : Register → (latches : Bool) → Supervisor → Supervisor
after_read_of Csr latches s = s
after_read_of (register.Setting r) latches s = s
after_read_of (Scaler n) latches s =
    if latches then s ▷ on_core (with_scalers (scalers.latched_of n s.core.scalers)) else s
after_read_of Assign latches s = s
after_read_of State latches s = s
after_read_of Test latches s = s
after_read_of Absent latches s = s

-- [Declines.3b] [State.8a] the stored value; [Bytes.5b] of a scaler the value last latched; [Test.5b] TEST is not read
unfoldable pub shown_of : Register → Supervisor → ℕ
shown_of Csr s = s.core.csr.word
shown_of (register.Setting r) s = setting_of r s
shown_of (Scaler n) s = scalers.latch_of n s.core.scalers
shown_of Assign s = s.core.scalers.assign
shown_of State s = state_of s
shown_of Test s = 0
shown_of Absent s = 0
