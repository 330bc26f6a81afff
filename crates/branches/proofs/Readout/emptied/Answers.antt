-- `branches::Readout::emptied` meets its contract: four fresh branches are what RESET leaves (`emptied_of_four`).
-- Assumes nothing.
use Rattle.branches.proofs.ReadoutChoices.{emptied_of_four}
use Rattle.branches.proofs.Readout.emptied.Goals as goal

pub returns : goal.returns
returns c =
    let four = c.well_formed.0.1.1.0.1.0.1 in
    let r = c.args.self in
    rw c.fresh-b.ensures (emptied_of_four r four)
