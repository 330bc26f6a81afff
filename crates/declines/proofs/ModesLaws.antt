-- The modes and what waits of TEST, as a bystander follows them, are the record's.
--     runs_unless_held       a tick runs exactly where he finds that it does
--     write_keeps_modes, read_keeps_modes, marked_keeps_modes, ran_keeps_modes, held_keeps_modes   one call, by how it ends
--     reset_keeps_modes_lem      RESET, with what its own write switches
--     every_run_follows_the_modes   every list of calls
-- Assumes nothing.
use Rattle.std.proofs.Common.{◌≡◌, ℕ, ◌<◌, ◌≤◌, Bool, true, false, not, ◌&&◌, ◌||◌, List, refl, ap, lit<, lit≤}
use Rattle.bits.proofs.TestLaws.{by_cond}
use Rattle.run.specs.Run.{has_byte3, cut_of}
use Rattle.run.specs.declared.Run.{Run}
use Rattle.registers.specs.Csr as csr
use Rattle.registers.specs.Registers.{numbered_of}
use Rattle.registers.specs.declared.csr.Request.{Request}
use Rattle.registers.specs.declared.csr.Request.TheVariants.{Nothing, Reset, Initialize}
use Rattle.registers.specs.declared.register.Setting.{Setting}
use Rattle.registers.specs.declared.register.Setting.TheVariants.{Control, Factor, RocEnable, Interval, Timer}
use Rattle.registers.specs.declared.register.Register.{Register}
use Rattle.registers.specs.declared.register.Register.TheVariants.{Csr, Scaler, Assign, State, Test, Absent}
use Rattle.registers.specs.declared.register.Register.TheVariants as register
use Rattle.registers.proofs.CsrLaws.{mode_after_reset, mode_after_write, marked_keeps_mode}
use Rattle.trigger.specs.declared.lines.Inputs.{Inputs}
use Rattle.testing.specs.TestWord as test
use Rattle.testing.specs.declared.TestWord.{TestWord}
use Rattle.module_core.specs.Core as core
use Rattle.supervisor.specs.Supervisor.{fresh_of, initialized_of, reset_of, ran_of, is_held_of}
use Rattle.supervisor.specs.declared.Supervisor.{Supervisor}
use Rattle.supervisor.proofs.SupervisorLaws.{ran_keeps_mode, ran_drops_waiting}
use Rattle.access.specs.Access.{after_csr_of, csr_written_of, setting_written_of, written_of, base_of, merged_of}
use Rattle.access.specs.Access.{requested_by, after_read_of}
use Rattle.declines.specs.Answers.{Reply}
use Rattle.declines.specs.Calls.{marked_of}
use Rattle.declines.specs.Runs.{Ask}
use Rattle.declines.specs.Follow.{after_call}
use Rattle.declines.specs.Modes.{Modes, switched, after_request, after_write, runs, after_tick, rules, modes_in}
use Rattle.declines.specs.Modes.{FollowsTheModes}
use Rattle.declines.proofs.CallEnds.{End, refused, refused_active, wrote, read, gave, stored, filled, ran, held}
use Rattle.declines.proofs.CallEnds.{run_is_chain}
use Rattle.declines.proofs.FollowLaws.{chain_follows}

-- [Test.7a] [Test.8a]
not_held : (hold step : Bool) → (not hold || step) ≡ not (hold && not step)
not_held true true = refl
not_held true false = refl
not_held false step = refl

pub runs_unless_held : (s : Supervisor) → runs (modes_in s) ≡ not (is_held_of s)
unfolding is_held_of
runs_unless_held s = not_held (csr.holds_clock s.core.csr) (test.steps s.core.test)

-- modes by bits 12 and 13, and what waits
abbrev modes : (hold test : Bool) (waiting : ℕ) → Modes
modes hold test waiting = record { hold = hold; test = test; waiting = waiting }

modes_alike : {f g : ℕ → Bool} {v w : ℕ} → ((i : ℕ) → 4 ≤ i → i < csr.settable_count → f i ≡ g i) → v ≡ w
    → modes (f 12) (f 13) v ≡ modes (g 12) (g 13) w
modes_alike bit waits = λ j. modes (bit 12 (lit≤ tt) (lit< tt) j) (bit 13 (lit≤ tt) (lit< tt) j) (waits j)

module _ (s : Supervisor) where
  -- ---- a register write, and a read

  -- [Test.1] [Test.8b]
  request_keeps_modes : (r : Request) (v : ℕ)
      → modes_in (after_csr_of r (record { next = csr.after_request_of r v s.core.csr; request = r }) s)
      ≡ after_request r v (modes_in s)
  unfolding initialized_of reset_of fresh_of core.fresh_of core.reset_of
  request_keeps_modes Initialize v = refl
  request_keeps_modes Reset v = modes_alike (λ i low high. mode_after_reset i low high v s.core.csr) refl
  request_keeps_modes Nothing v = modes_alike (λ i low high. mode_after_write i low high v s.core.csr) refl

  setting_keeps_modes : (r : Setting) (loads : Bool) (v : ℕ) → modes_in (setting_written_of r loads v s) ≡ modes_in s
  unfolding setting_written_of
  setting_keeps_modes Control loads v = refl
  setting_keeps_modes (Factor input) loads v = refl
  setting_keeps_modes RocEnable loads v = refl
  setting_keeps_modes Interval loads v = refl
  setting_keeps_modes (Timer n) loads v = refl

  pub write_keeps_modes : (r : Register) (run : Run) (v : ℕ)
      → modes_in (written_of r (has_byte3 run) (merged_of r run v s) s) ≡ after_write r run v (modes_in s)
  unfolding written_of base_of csr_written_of csr.written_of test.written_of
  write_keeps_modes Csr run v = request_keeps_modes (requested_by run v) (cut_of run v)
  write_keeps_modes (register.Setting r) run v = setting_keeps_modes r (has_byte3 run) _
  write_keeps_modes (Scaler n) run v =
      by_cond (λ (next : Supervisor). modes_in next ≡ modes_in s) (has_byte3 run) (λ e. refl) (λ e. refl)
  write_keeps_modes Assign run v = refl
  write_keeps_modes State run v = refl
  write_keeps_modes Test run v = refl
  write_keeps_modes Absent run v = refl

  pub read_keeps_modes : (r : Register) (latches : Bool) → modes_in (after_read_of r latches s) ≡ modes_in s
  unfolding after_read_of
  read_keeps_modes Csr latches = refl
  read_keeps_modes (register.Setting r) latches = refl
  read_keeps_modes (Scaler n) true = refl
  read_keeps_modes (Scaler n) false = refl
  read_keeps_modes Assign latches = refl
  read_keeps_modes State latches = refl
  read_keeps_modes Test latches = refl
  read_keeps_modes Absent latches = refl

  pub marked_keeps_modes : (marks : ℕ) → modes_in (marked_of marks s) ≡ modes_in s
  unfolding marked_of
  marked_keeps_modes marks = modes_alike (λ i low high. marked_keeps_mode i low high marks s.core.csr) refl

  -- ---- a tick

  -- [Test.6] [Test.8a]
  pub ran_keeps_modes : (memory : List ℕ) (x : Inputs) → is_held_of s ≡ false
      → modes_in (ran_of memory x s).next ≡ after_tick (modes_in s)
  ran_keeps_modes memory x unheld =
      rw (runs_unless_held s, unheld)
      (modes_alike (ran_keeps_mode memory x s) (ap (λ (w : TestWord). w.word) (ran_drops_waiting memory x s)))

  -- [Test.7a]
  pub held_keeps_modes : is_held_of s ≡ true → modes_in s ≡ after_tick (modes_in s)
  held_keeps_modes stands = rw (runs_unless_held s, stands)

  -- ---- a call

  end_keeps_modes : {memory : List ℕ} {a : Ask} {reply : Reply} {next : Supervisor} → End memory s a reply next
      → modes_in next ≡ after_call rules a reply (modes_in s)
  end_keeps_modes (refused a n h) = refl
  end_keeps_modes (refused_active a) = marked_keeps_modes _
  end_keeps_modes (wrote number run v valid) = write_keeps_modes (numbered_of number) run v
  end_keeps_modes (read number run v) = read_keeps_modes (numbered_of number) (has_byte3 run)
  end_keeps_modes (gave place v) = refl
  end_keeps_modes (stored place word) = refl
  end_keeps_modes (filled words taken) = refl
  end_keeps_modes {memory = memory} (ran x clean unheld) = ran_keeps_modes memory _ unheld
  end_keeps_modes (held x stands) = held_keeps_modes stands

-- [Test.8b] both modes as the write leaves them, and nothing that waits
pub reset_keeps_modes_lem : (v : ℕ) (s : Supervisor) → csr.requested_of v ≡ Reset
    → modes_in (csr_written_of v s) ≡ switched v 0 (modes_in s)
unfolding csr_written_of csr.written_of
reset_keeps_modes_lem v s asks = rw asks (request_keeps_modes s Reset v)

-- [Test.9]
pub every_run_follows_the_modes : (branches : ℕ) → FollowsTheModes branches
unfolding fresh_of core.fresh_of
every_run_follows_the_modes n calls =
    chain_follows rules modes_in (λ memory s a reply next end. end_keeps_modes s end) (run_is_chain calls (fresh_of n))
