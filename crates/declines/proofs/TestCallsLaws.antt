-- The calls on TEST, and on control in test mode.
--     test_is_not_read    a read gets 3, by any run of bytes
--     test_is_written_lem     a write of its bits is carried out, active or not
--     step_lets_a_tick_through   after one with a step, under hold, the next tick runs
--     control_is_open_lem     in test mode a write of control is carried out, active or not
--     guarded_by_number   which registers are not written while active: 1–16, in test mode 2–16
-- Assumes nothing.
use Rattle.std.proofs.Common.{◌≡◌, ℕ, true, false, not, ◌&&◌, eqb, leb, List, refl, ap}
use Rattle.bits.specs.Bits.{bit_at}
use Rattle.bits.proofs.TestLaws.{and_fails, or_true}
use Rattle.run.specs.Run.{is_run_of, has_byte3, overlaid_of, cut_of}
use Rattle.run.specs.declared.Run.{Run}
use Rattle.registers.specs.Csr as csr
use Rattle.registers.specs.Registers.{numbered_of, is_valid_control, is_valid_test}
use Rattle.registers.specs.declared.register.Facts.{Facts}
use Rattle.registers.specs.declared.register.Setting.TheVariants.{Control}
use Rattle.registers.proofs.RegistersLaws.{facts_by_number}
use Rattle.testing.proofs.TestingLaws.{written_at}
use Rattle.supervisor.specs.Supervisor.{is_active_of, is_spoiled_of, is_held_of}
use Rattle.supervisor.specs.declared.Supervisor.{Supervisor}
use Rattle.access.specs.Access.{setting_written_of, test_written_of, written_of, base_of, setting_of}
use Rattle.declines.specs.Answers.{declined, done}
use Rattle.declines.specs.Calls.{is_guarded_of, write_run_of, write_bytes_of, read_bytes_of}
use Rattle.declines.specs.Runs.{write_register, read_register, ask_of}

module _ (r : Run) (memory : List ℕ) (s : Supervisor) (clean : is_spoiled_of s ≡ false) where
  -- [Test.5b]
  pub test_is_not_read : ask_of (read_register 21 r) memory s ≡ record { reply = declined 3; next = s }
  unfolding read_bytes_of numbered_of
  test_is_not_read = rw clean

  module _ (v : ℕ) (one : is_run_of r ≡ true) where
    -- [Test.1] [Test.5a]
    pub test_is_written_lem : is_valid_test (cut_of r v) ≡ true
        → ask_of (write_register 21 r v) memory s ≡ record { reply = done; next = test_written_of (cut_of r v) s }
    unfolding write_bytes_of write_run_of numbered_of base_of written_of
    test_is_written_lem valid = rw (clean, one, and_fails (is_active_of s) {q = false} refl, valid)

    -- [Test.2]
    pub control_is_open_lem : csr.is_test_mode s.core.csr ≡ true
        → is_valid_control (overlaid_of r s.core.control.word v) ≡ true
        → ask_of (write_register 1 r v) memory s
        ≡ record { reply = done; next = setting_written_of Control (has_byte3 r) (overlaid_of r s.core.control.word v) s }
    unfolding write_bytes_of write_run_of numbered_of base_of setting_of written_of
    control_is_open_lem test valid = rw (clean, one, test, and_fails (is_active_of s) {q = false} refl, valid)

-- [Declines.2c] [Test.2]
pub guarded_by_number : (n : ℕ) (s : Supervisor)
    → is_guarded_of (numbered_of n) s ≡ ((leb 1 n && leb n 16) && not (eqb n 1 && csr.is_test_mode s.core.csr))
guarded_by_number n s =
    ap (λ (f : Facts). f.protected && not (f.opened && csr.is_test_mode s.core.csr)) (facts_by_number n)

-- [Test.8a] a step written under hold: the next tick runs
pub step_lets_a_tick_through : (v : ℕ) (s : Supervisor) → csr.holds_clock s.core.csr ≡ true → bit_at v 7 ≡ true
    → is_held_of (test_written_of v s) ≡ false
unfolding is_held_of
step_lets_a_tick_through v s hold step =
    rw (
      written_at (csr.holds_clock s.core.csr) v s.core.test 7,
      hold,
      step,
      or_true (bit_at s.core.test.word 7) true refl,
    )
