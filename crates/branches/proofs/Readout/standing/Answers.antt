-- `branches::Readout::standing` meets its contract: its four sides are those of the list (`standing_of_four`).
-- Assumes nothing.
use Rattle.branches.proofs.ReadoutChoices.{standing_of_four}
use Rattle.branches.proofs.Readout.standing.Goals as goal

pub returns : goal.returns
returns c =
    let bs = c.args.self.branches in
    let four = c.well_formed.0.1.1.0.1.0.1 in
    rw (
      c.standing_side-4.ensures,
      c.standing_side-3.ensures,
      c.standing_side-2.ensures,
      c.standing_side.ensures,
    ) (standing_of_four bs four)
