-- `branches::Readout::is_empty` meets its contract: its four tests are the test of every branch (`every_of_four`).
-- Assumes nothing.
use Rattle.branches.specs.Readout.{is_empty_of}
use mathlib.Core.Bool.{not}
use lib.ListN.{length}
use Rattle.branch.specs.Branch.{has_word}
use Rattle.branches.specs.ReadoutFields.{branch_at}
use Rattle.branches.proofs.ReadoutChoices.{every_of_four}
use Rattle.std.proofs.Common.{length}
use Rattle.branches.proofs.Readout.is_empty.Goals as goal

pub returns : goal.returns
unfolding is_empty_of
returns c =
    let four = c.well_formed.0.1.1.0.1.0.1 in
    let bs = c.args.self.branches in
    every_of_four (length bs) (λ k. not (has_word (branch_at bs k))) four
