-- The calls on STATE, and what a record keeps for it: what a bystander finds of the latest tick in the log.
--     state_is_read, state_is_not_written   a read is answered, a write gets 3
--     end_keeps_seen         what is kept, and the modes, however a call ends
--     every_run_keeps_the_latest_tick   .. and after every list of calls
-- Assumes nothing.
use Rattle.std.proofs.Common.{◌≡◌, ℕ, Bool, true, false, cond, List, refl, ap}
use Rattle.bits.proofs.TestLaws.{by_cond}
use Rattle.run.specs.Run.{is_run_of, has_byte3, overlaid_of}
use Rattle.run.specs.declared.Run.{Run}
use Rattle.registers.specs.Csr as csr
use Rattle.registers.specs.Registers.{numbered_of}
use Rattle.registers.specs.declared.csr.CsrWrite.{CsrWrite}
use Rattle.registers.specs.declared.csr.Request.{Request}
use Rattle.registers.specs.declared.csr.Request.TheVariants.{Nothing, Reset, Initialize}
use Rattle.registers.specs.declared.register.Setting.{Setting}
use Rattle.registers.specs.declared.register.Setting.TheVariants.{Control, Factor, RocEnable, Interval, Timer}
use Rattle.registers.specs.declared.register.Register.{Register}
use Rattle.registers.specs.declared.register.Register.TheVariants.{Csr, Scaler, Assign, State, Test, Absent}
use Rattle.registers.specs.declared.register.Register.TheVariants as register
use Rattle.branches.specs.Readout as readout
use Rattle.trigger.specs.declared.lines.Inputs.{Inputs}
use Rattle.testing.proofs.TestingLaws.{in_force_by}
use Rattle.module_core.specs.Core as core
use Rattle.supervisor.specs.Supervisor.{fresh_of, initialized_of, reset_of, joined_of, core_step_of, readout_step_of}
use Rattle.supervisor.specs.Supervisor.{ran_of, in_force_of, is_held_of, is_spoiled_of}
use Rattle.supervisor.specs.declared.Supervisor.{Supervisor}
use Rattle.state.specs.State.{state_of, LatestTick, latest_tick_in}
use Rattle.access.specs.Access.{after_csr_of, csr_written_of, setting_written_of, written_of, base_of, merged_of}
use Rattle.access.specs.Access.{requested_by, after_read_of, shown_of}
use Rattle.declines.specs.Answers.{Reply, declined, value}
use Rattle.declines.specs.Calls.{marked_of, read_run_of, write_bytes_of, read_bytes_of}
use Rattle.declines.specs.Runs.{Ask, write_register, plain_read, ask_of}
use Rattle.declines.specs.Follow.{after_call}
use Rattle.declines.specs.Modes.{Modes, runs, modes_in}
use Rattle.declines.specs.LatestTick.{Seen, after_request, tick_after_write, tick_seen, rules, KeepsTheLatestTick}
use Rattle.declines.proofs.CallEnds.{End, refused, refused_active, wrote, read, gave, stored, filled, ran, held}
use Rattle.declines.proofs.CallEnds.{run_is_chain}
use Rattle.declines.proofs.FollowLaws.{chain_follows}
use Rattle.declines.proofs.ModesLaws.{runs_unless_held, write_keeps_modes, read_keeps_modes, marked_keeps_modes}
use Rattle.declines.proofs.ModesLaws.{ran_keeps_modes, held_keeps_modes}

-- ---- the calls

-- [State.8a]
pub state_is_read : (memory : List ℕ) (s : Supervisor) → is_spoiled_of s ≡ false
    → (ask_of (plain_read 20) memory s).reply ≡ value (state_of s)
unfolding read_bytes_of read_run_of is_run_of numbered_of after_read_of shown_of overlaid_of
state_is_read memory s clean = rw clean

-- [State.8b] active or not
pub state_is_not_written : (run : Run) (v : ℕ) (memory : List ℕ) (s : Supervisor) → is_spoiled_of s ≡ false
    → ask_of (write_register 20 run v) memory s ≡ record { reply = declined 3; next = s }
unfolding write_bytes_of numbered_of
state_is_not_written run v memory s clean = rw clean

-- ---- what is kept

-- what a bystander sees of a record
abbrev sees : Modes → LatestTick → Seen
sees m t = record { modes = m; tick = t }

abbrev seen : Supervisor → Seen
seen s = sees (modes_in s) (latest_tick_in s)

both : {m n : Modes} {t u : LatestTick} → m ≡ n → t ≡ u → sees m t ≡ sees n u
both p q = λ j. sees (p j) (q j)

module _ (s : Supervisor) where
  -- [CSRWrite.1] [CSRWrite.2d]
  request_keeps : (r : Request) (w : CsrWrite) → latest_tick_in (after_csr_of r w s) ≡ after_request r (latest_tick_in s)
  unfolding initialized_of reset_of fresh_of core.fresh_of core.reset_of readout.emptied_of
  request_keeps Initialize w = refl
  request_keeps Reset w = refl
  request_keeps Nothing w = refl

  setting_keeps : (r : Setting) (loads : Bool) (v : ℕ) → latest_tick_in (setting_written_of r loads v s) ≡ latest_tick_in s
  unfolding setting_written_of
  setting_keeps Control loads v = refl
  setting_keeps (Factor input) loads v = refl
  setting_keeps RocEnable loads v = refl
  setting_keeps Interval loads v = refl
  setting_keeps (Timer n) loads v = refl

  write_keeps : (r : Register) (run : Run) (v : ℕ)
      → latest_tick_in (written_of r (has_byte3 run) (merged_of r run v s) s) ≡ tick_after_write r run v (latest_tick_in s)
  unfolding written_of base_of csr_written_of csr.written_of
  write_keeps Csr run v = request_keeps (requested_by run v) _
  write_keeps (register.Setting r) run v = setting_keeps r (has_byte3 run) _
  write_keeps (Scaler n) run v = by_cond (λ (next : Supervisor). latest_tick_in next ≡ latest_tick_in s) (has_byte3 run) (λ e. refl) (λ e. refl)
  write_keeps Assign run v = refl
  write_keeps State run v = refl
  write_keeps Test run v = refl
  write_keeps Absent run v = refl

  -- [Bytes.5a] a read may change a latch
  read_keeps : (r : Register) (latches : Bool) → latest_tick_in (after_read_of r latches s) ≡ latest_tick_in s
  unfolding after_read_of
  read_keeps Csr latches = refl
  read_keeps (register.Setting r) latches = refl
  read_keeps (Scaler n) true = refl
  read_keeps (Scaler n) false = refl
  read_keeps Assign latches = refl
  read_keeps State latches = refl
  read_keeps Test latches = refl
  read_keeps Absent latches = refl

  -- [State.3] [Test.7b]
  ran_is_latest : (memory : List ℕ) (x : Inputs) → is_held_of s ≡ false
      → latest_tick_in (ran_of memory (in_force_of x s) s).next
      ≡ cond (runs (modes_in s)) (tick_seen (modes_in s) x (ran_of memory (in_force_of x s) s).answer) (latest_tick_in s)
  unfolding ran_of joined_of core_step_of readout_step_of core.step_of core.settled_of readout.step_of in_force_of
  ran_is_latest memory x unheld =
      let c = s.core in
      rw (
        runs_unless_held s,
        unheld,
        ← in_force_by (λ (y : Inputs). y.lines) c.csr c.control c.test x,
        ← in_force_by (λ (y : Inputs). y.acks) c.csr c.control c.test x,
      )

  end_keeps_seen : {memory : List ℕ} {a : Ask} {reply : Reply} {next : Supervisor} → End memory s a reply next
      → seen next ≡ after_call rules a reply (seen s)
  unfolding marked_of
  end_keeps_seen (refused a n h) = refl
  end_keeps_seen (refused_active a) = both (marked_keeps_modes s _) refl
  end_keeps_seen (wrote number run v valid) =
      both (write_keeps_modes s (numbered_of number) run v) (write_keeps (numbered_of number) run v)
  end_keeps_seen (read number run v) =
      both (read_keeps_modes s (numbered_of number) (has_byte3 run)) (read_keeps (numbered_of number) (has_byte3 run))
  end_keeps_seen (gave place v) = refl
  end_keeps_seen (stored place word) = refl
  end_keeps_seen (filled words taken) = refl
  end_keeps_seen {memory = memory} (ran x clean unheld) =
      both (ran_keeps_modes s memory _ unheld) (ran_is_latest memory x unheld)
  end_keeps_seen (held x stands) = both (held_keeps_modes s stands) (rw (runs_unless_held s, stands))

-- [State.3]
pub every_run_keeps_the_latest_tick : (branches : ℕ) → KeepsTheLatestTick branches
unfolding fresh_of core.fresh_of
every_run_keeps_the_latest_tick n calls =
    ap (λ (z : Seen). z.tick)
    (chain_follows rules seen (λ memory s a reply next end. end_keeps_seen s end) (run_is_chain calls (fresh_of n)))
