-- The supervisor: the whole record, the fresh one, the active and the spoiled rule, and the tick.
--     document 01    "Registers", a fresh record; Active; "The tick"; "When a call is declined", Spoiled; document 02, N5
--     fresh_of        the fresh record, of any number of branches: the module has four
--     reset_of        the record after RESET
--     is_active_of, is_spoiled_of   the two rules
--     ran_of          a tick that runs, with the inputs in force: the next record and the answer
--     held_of         one that the held clock keeps from running
--     ticked_of       the tick: one of the two
--     StandsStill    what a held tick answers
-- The core and the branches meet here alone: two facts one way, the word to load the other.
-- Own rules of 01 used here: none. Decisions: T1, T9, A4. Left out: the declines, in declines.
-- Assumes nothing.
use Rattle.std.specs.Prelude.{◌≡◌, ℕ, ◌+◌, ◌<◌, Bool, not, ◌&&◌, ◌||◌, List, length, slice_index_or, if◌then◌else◌}
use Rattle.bits.specs.Bits.{bit_at}
use Rattle.registers.specs.Csr as csr
use Rattle.registers.specs.Control.{inputs, counts}
use Rattle.branch.specs.Slots.{Slot}
use Rattle.std.specs.Prelude.{None, Some}
use Rattle.branch.specs.Branch.{shown_in}
use Rattle.branches.specs.ReadoutFields.{branch_at}
use Rattle.branches.specs.Readout as readout
use Rattle.branches.specs.declared.Readout.{Readout}
use Rattle.branches.specs.declared.ReadoutStep.{ReadoutStep}
use Rattle.sequencer.specs.declared.states.Outcome.{Outcome}
use Rattle.sequencer.specs.declared.states.Outcome.TheVariants.{Cleared, Event, Tag}
use Rattle.sequencer.specs.declared.states.Outcome.TheVariants as outcome
use Rattle.trigger.specs.Lines.{has_strobe}
use Rattle.trigger.specs.declared.lines.Inputs.{Inputs}
use Rattle.testing.specs.InForce as testing
use Rattle.module_core.specs.Core as core
use Rattle.module_core.specs.Spoiled.{allows_eight_of, is_sound_of}
use Rattle.module_core.specs.declared.Core.{Core}
use Rattle.module_core.specs.declared.CoreStep.{CoreStep}
use Rattle.supervisor.specs.declared.Supervisor.{Supervisor}
use Rattle.supervisor.specs.declared.Answer.{Answer}
use Rattle.supervisor.specs.declared.Ticked.{Ticked}

-- ---- changes of one part

abbrev pub with_readout : Readout → Supervisor → Supervisor
with_readout v s = record { readout = v; core = s.core }

abbrev pub with_core : Core → Supervisor → Supervisor
with_core v s = record { readout = s.readout; core = v }

abbrev pub on_core : (Core → Core) → Supervisor → Supervisor
on_core f s = with_core (f s.core) s

-- ---- fresh, and RESET

-- [Registers.4] [Declines.6] all zero, all idle; nothing declines it
unfoldable pub fresh_of : (branches : ℕ) → Supervisor
fresh_of n = record { readout = readout.fresh_of n; core = core.fresh_of }

-- [CSRWrite.1] INITIALIZE: a fresh record with as many branches
unfoldable pub initialized_of : Supervisor → Supervisor
initialized_of s = fresh_of (length s.readout.branches)

-- [CSRWrite.2d]
unfoldable pub reset_of : Supervisor → Supervisor
reset_of s = record { readout = readout.emptied_of s.readout; core = core.reset_of s.core }

-- ---- two rules on the record

-- [Active.1]
unfoldable pub is_active_of : Supervisor → Bool
is_active_of s = core.is_active_of s.core || not (readout.is_quiet_of s.readout.branches)

-- 01 calls such a record spoiled: some clause of its list does not hold
-- [Spoiled.1d] [Spoiled.1f] [Spoiled.1g] of the branches; the other clauses of the core
unfoldable pub is_spoiled_of : Supervisor → Bool
is_spoiled_of s =
    not (readout.is_well_formed_of (allows_eight_of s.core) s.readout.branches && is_sound_of s.core)

-- ---- the tick

-- [Branches.5] [Account.15] what an outcome loads onto every branch
abbrev pub load_of : Outcome → Slot
load_of outcome.Nothing = None
load_of Cleared = None
load_of (Event w) = Some w
load_of (Tag w) = Some w

-- [Main.13] [Main.14] [Usersync.2] the core's step, with the two facts of the branches at the tick's start
unfoldable pub core_step_of : List ℕ → Inputs → Supervisor → CoreStep
core_step_of memory x s =
    core.step_of
    (readout.has_room_of (csr.locks_roc s.core.csr) (csr.locks_branch4 s.core.csr) s.readout.branches)
    (readout.is_empty_of s.readout.branches) x memory s.core

-- the branches' step, with the word that the core loads
unfoldable pub readout_step_of : Inputs → Outcome → Supervisor → ReadoutStep
readout_step_of x o s = readout.step_of x.acks (load_of o) s.readout

-- [Tick.3] [Answer.1] lines out are those after the tick
unfoldable pub joined_of : CoreStep → ReadoutStep → Ticked
joined_of c r =
    record {
      next = record { readout = r.next; core = c.next };
      answer = record { masks = c.masks; lines = core.lines_out_of c.next; outcome = c.outcome; sides = r.sides };
    }

unfoldable pub ran_of : List ℕ → Inputs → Supervisor → Ticked
ran_of memory x s = joined_of (core_step_of memory x s) (readout_step_of x (core_step_of memory x s).outcome s)

-- ---- test mode and a held clock

-- [Test.2] [Test.6] what a tick that runs meets
unfoldable pub in_force_of : Inputs → Supervisor → Inputs
in_force_of x s = testing.in_force_of s.core.csr s.core.control s.core.test x

-- [Test.7a] [Test.8a] hold, and no single step waits
unfoldable pub is_held_of : Supervisor → Bool
is_held_of s = testing.is_held_of s.core.csr s.core.test

-- [Test.7a] [Test.7b] the record as it is, with what it keeps for STATE; lines out and shown words as they stand
unfoldable pub held_of : Inputs → Supervisor → Ticked
held_of x s =
    record {
      next = s;
      answer = record {
        masks = testing.held_masks_of s.core.csr s.core.control x;
        lines = core.lines_out_of s.core;
        outcome = outcome.Nothing;
        sides = readout.standing_of s.readout.branches;
      };
    }

unfoldable pub ticked_of : List ℕ → Inputs → Supervisor → Ticked
ticked_of memory x s = if is_held_of s then held_of x s else ran_of memory (in_force_of x s) s

-- ---- a statement

-- [Test.7a] the answer of a held tick, by input and by branch: place k is branch k + 1
pub record StandsStill (x : Inputs) (s : Supervisor) (y : Answer) : Type 0 where
  pub stopped : (i : ℕ) → i < inputs
      → bit_at y.masks.stopped i
      ≡ (not (csr.is_test_mode s.core.csr) && counts s.core.control (has_strobe x.lines) x.triggers i)
  pub others : y.masks.scaled + y.masks.lost + y.masks.rejected + y.masks.accepted ≡ 0
  pub outcome : y.outcome ≡ outcome.Nothing
  pub lines : y.lines ≡ core.lines_out_of s.core
  pub finished : (k : ℕ) → (slice_index_or y.sides k readout.no_side).finished ≡ None
  pub shown : (k : ℕ) → k < length s.readout.branches
      → (slice_index_or y.sides k readout.no_side).shown
      ≡ shown_in (branch_at s.readout.branches k).phase (branch_at s.readout.branches k)
