-- What a bystander finds in a log of the latest tick that ran: what STATE shows of it.
--     document 02    N2, N5
--     Seen           the modes that he follows, and the latest tick
--     rules          what a register write and a tick leave of them
--     KeepsTheLatestTick   that it is what the record keeps, after every list of calls from a fresh supervisor
-- Own rules of 02 used here: none. Decisions: R6, T9. Left out: nothing.
-- Assumes nothing.
use Rattle.std.specs.Prelude.{◌≡◌, ℕ, List, if◌then◌else◌}
use Rattle.run.specs.declared.Run.{Run}
use Rattle.registers.specs.declared.csr.Request.{Request}
use Rattle.registers.specs.declared.csr.Request.TheVariants.{Nothing, Reset, Initialize}
use Rattle.registers.specs.declared.register.Register.{Register}
use Rattle.registers.specs.declared.register.Register.TheVariants.{Csr, Setting, Scaler, Assign, State, Test, Absent}
use Rattle.trigger.specs.Latest as latest
use Rattle.trigger.specs.declared.lines.Inputs.{Inputs}
use Rattle.trigger.specs.declared.lines.Lines.{Lines}
use Rattle.testing.specs.TestWord.{lines_of}
use Rattle.testing.specs.InForce.{test_acks_of}
use Rattle.testing.specs.declared.TestWord.{TestWord}
use Rattle.supervisor.specs.Supervisor.{fresh_of}
use Rattle.supervisor.specs.declared.Answer.{Answer}
use Rattle.state.specs.State.{LatestTick, latest_tick_in, has_latched}
use Rattle.access.specs.Access.{requested_by}
use Rattle.declines.specs.Runs.{Call, log_of, record_after}
use Rattle.declines.specs.Follow.{Rules, after_log}
use Rattle.declines.specs.Modes as modes
use Rattle.declines.specs.Modes.{Modes, no_modes, runs}

pub record Seen : Type 0 where
  pub modes : Modes
  pub tick : LatestTick

-- [State.3] before any tick
abbrev pub no_tick : LatestTick
no_tick = record { kept = latest.fresh_of; acks = 0 }

abbrev pub nothing_seen : Seen
nothing_seen = record { modes = no_modes; tick = no_tick }

-- ---- a register write carried out

-- [CSRWrite.1] INITIALIZE forgets it; RESET does not
abbrev pub after_request : Request → LatestTick → LatestTick
after_request Initialize t = no_tick
after_request Reset t = t
after_request Nothing t = t

-- [Bytes.3b] what a CSR write lacks counts as 0
abbrev pub tick_after_write : Register → Run → (v : ℕ) → LatestTick → LatestTick
tick_after_write Csr run v t = after_request (requested_by run v) t
tick_after_write (Setting r) run v t = t
tick_after_write (Scaler n) run v t = t
tick_after_write Assign run v t = t
tick_after_write State run v t = t
tick_after_write Test run v t = t
tick_after_write Absent run v t = t

abbrev pub after_write : Register → Run → (v : ℕ) → Seen → Seen
after_write r run v z = record { modes = modes.after_write r run v z.modes; tick = tick_after_write r run v z.tick }

-- ---- a tick

abbrev waiting_in : Modes → TestWord
waiting_in m = record { word = m.waiting }

-- [Test.2] [Test.7b] the lines in force in a tick that runs: in test mode those written
abbrev pub lines_in : Modes → Inputs → Lines
lines_in m x = if m.test then lines_of (waiting_in m) else x.lines

-- [Test.4]
abbrev pub acks_in : Modes → Inputs → ℕ
acks_in m x = if m.test then test_acks_of (waiting_in m) x.acks else x.acks

-- [State.3] its lines, its acknowledges, and whether its answer has a pattern rejected or accepted
abbrev pub tick_seen : Modes → Inputs → Answer → LatestTick
tick_seen m x y = record { kept = record { lines = lines_in m x; latched = has_latched y.masks }; acks = acks_in m x }

-- [Test.7b] a held tick is not the latest one
abbrev pub after_tick : Inputs → Answer → Seen → Seen
after_tick x y z =
    record {
      modes = modes.after_tick z.modes;
      tick = if runs z.modes then tick_seen z.modes x y else z.tick;
    }

-- ---- a whole log

abbrev pub rules : Rules Seen
rules = record { wrote = after_write; ticked = after_tick }

-- [State.3] after every list of calls from a fresh supervisor of any number of branches
abbrev pub KeepsTheLatestTick : (branches : ℕ) → Type 0
KeepsTheLatestTick n =
    (calls : List Call)
    → latest_tick_in (record_after calls (fresh_of n)) ≡ (after_log rules (log_of calls (fresh_of n)) nothing_seen).tick
