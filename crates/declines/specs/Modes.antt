-- What a bystander follows of the two modes and of what waits of TEST, from the writes that were carried out and from the ticks.
--     document 02    N5
--     Modes          hold, test mode, and the bits of TEST that wait
--     after_write     after a register write that was carried out; after_tick: after a tick
--     runs           whether the next tick runs
--     modes_of, modes_in   what a core and a record have of them
--     FollowsTheModes   that the two agree, after every list of calls from a fresh supervisor
-- Own rules of 02 used here: none. Decisions: R9, T9. Left out: nothing.
-- Assumes nothing.
use Rattle.std.specs.Prelude.{◌≡◌, ℕ, Bool, false, not, ◌||◌, List, if◌then◌else◌}
use Rattle.bits.specs.Bits.{bit_at, bits_from, set_of, clear_of}
use Rattle.run.specs.Run.{cut_of}
use Rattle.run.specs.declared.Run.{Run}
use Rattle.registers.specs.Csr.{holds_clock, is_test_mode}
use Rattle.registers.specs.CsrBits.{set_or_cleared}
use Rattle.registers.specs.declared.csr.Request.{Request}
use Rattle.registers.specs.declared.csr.Request.TheVariants.{Nothing, Reset, Initialize}
use Rattle.registers.specs.declared.register.Register.{Register}
use Rattle.registers.specs.declared.register.Register.TheVariants.{Csr, Setting, Scaler, Assign, State, Test, Absent}
use Rattle.module_core.specs.declared.Core.{Core}
use Rattle.supervisor.specs.Supervisor.{fresh_of}
use Rattle.supervisor.specs.declared.Supervisor.{Supervisor}
use Rattle.access.specs.Access.{requested_by}
use Rattle.declines.specs.Runs.{Call, log_of, record_after}
use Rattle.declines.specs.Follow.{Rules, after_log}

pub record Modes : Type 0 where
  pub hold : Bool
  pub test : Bool
  -- the bits of TEST written since the latest tick that ran
  pub waiting : ℕ

-- [Registers.4]
abbrev pub no_modes : Modes
no_modes = record { hold = false; test = false; waiting = 0 }

-- ---- a register write carried out

-- [Test.1] bits 12 and 13 set, 28 and 29 clear, and clear wins
abbrev pub switched : (v : ℕ) (waiting : ℕ) → Modes → Modes
switched v waiting m =
    record { hold = set_or_cleared v 12 m.hold; test = set_or_cleared v 13 m.test; waiting = waiting }

-- [Test.8b] RESET drops what waits and keeps both modes as its own write leaves them
abbrev pub after_request : Request → (v : ℕ) → Modes → Modes
after_request Initialize v m = no_modes
after_request Reset v m = switched v 0 m
after_request Nothing v m = switched v m.waiting m

-- [Test.6] the bits of several writes wait together; [Test.8a] a single step, bit 7, only under hold
abbrev pub after_test : (v : ℕ) → Modes → Modes
after_test v m =
    record {
      hold = m.hold;
      test = m.test;
      waiting = set_of (if m.hold then v else clear_of (bits_from 7 1) v) m.waiting;
    }

-- [Bytes.3b] what a write of the CSR or of TEST lacks counts as 0; every other register leaves them alone
abbrev pub after_write : Register → Run → (v : ℕ) → Modes → Modes
after_write Csr run v m = after_request (requested_by run v) (cut_of run v) m
after_write (Setting r) run v m = m
after_write (Scaler n) run v m = m
after_write Assign run v m = m
after_write State run v m = m
after_write Test run v m = after_test (cut_of run v) m
after_write Absent run v m = m

-- ---- a tick

-- [Test.7a] [Test.8a] the clock is not held, or a single step waits
abbrev pub runs : Modes → Bool
runs m = not m.hold || bit_at m.waiting 7

-- [Test.6] [Test.8a] a tick that runs leaves nothing that waits; [Test.7a] one that is held leaves it
abbrev pub after_tick : Modes → Modes
after_tick m = if runs m then record { hold = m.hold; test = m.test; waiting = 0 } else m

-- ---- a whole log

abbrev pub rules : Rules Modes
rules = record { wrote = after_write; ticked = λ x y m. after_tick m }

abbrev pub modes_of : Core → Modes
modes_of c = record { hold = holds_clock c.csr; test = is_test_mode c.csr; waiting = c.test.word }

abbrev pub modes_in : Supervisor → Modes
modes_in s = modes_of s.core

-- [Test.9] after every list of calls from a fresh supervisor of any number of branches
abbrev pub FollowsTheModes : (branches : ℕ) → Type 0
FollowsTheModes n =
    (calls : List Call) → modes_in (record_after calls (fresh_of n)) ≡ after_log rules (log_of calls (fresh_of n)) no_modes
