-- Document 01's worked script: its eight calls and every field of their replies, computed from the definitions.
--     worked_script     the replies are those that document 01 prints
-- Assumes nothing.
use Rattle.std.proofs.Common.{◌≡◌, ℕ, List, [], ◌∷◌, refl}
use Rattle.branch.specs.Slots.{Slot}
use Rattle.std.specs.Prelude.{None, Some}
use Rattle.branches.specs.declared.Side.{Side}
use Rattle.sequencer.specs.declared.states.Outcome.{Outcome}
use Rattle.sequencer.specs.declared.states.Outcome.TheVariants as outcome
use Rattle.declines.specs.Answers.{Reply, done, ticked}
use Rattle.declines.specs.Runs.{Ask}
use Rattle.bench.specs.Asks.{csr, control, write, store, pulse, ticks}
use Rattle.bench.specs.Sessions.{replies_to}
use Rattle.bench.proofs.Opened.{machine}

-- [Console.9]
abbrev script : List Ask
script = store 0x0153 ∷ write control 2 ∷ write csr 1 ∷ pulse 1 ∷ ticks 4

-- the same on all four branches
abbrev sides : (finished shown : Slot) → List Side
sides f s =
    let side : Side = record { finished = f; shown = s } in
    side ∷ side ∷ side ∷ side ∷ []

-- masks are 0 but for accepted
abbrev printed : (accepted lines : ℕ) → Outcome → (finished shown : Slot) → Reply
printed a l o f s =
    ticked (record {
      masks = record { stopped = 0; scaled = 0; lost = 0; rejected = 0; accepted = a };
      lines = l;
      outcome = o;
      sides = sides f s;
    })

-- [Console.10]
pub worked_script : replies_to script
    ≡ done
    ∷ done
    ∷ done
    ∷ printed 1 0x0101 outcome.Nothing None None
    ∷ printed 0 0x0115 outcome.Nothing None None
    ∷ printed 0 0x0115 (outcome.Event 5) None None
    ∷ printed 0 0 outcome.Nothing None (Some 5)
    ∷ printed 0 0 outcome.Nothing (Some 5) None
    ∷ []
unfolding machine
worked_script = refl
