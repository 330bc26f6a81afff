-- `branches::Readout::is_quiet` meets its contract: its four tests are the test of every branch (`every_of_four`).
-- Assumes nothing.
use Rattle.branches.specs.Readout.{is_quiet_of}
use lib.ListN.{length}
use Rattle.branch.specs.Branch as branch
use Rattle.branches.specs.ReadoutFields.{branch_at}
use Rattle.branches.proofs.ReadoutChoices.{every_of_four}
use Rattle.std.proofs.Common.{length}
use Rattle.branch.specs.Branch.{queue_depth}
use Rattle.branches.proofs.Readout.is_quiet.Goals as goal

pub returns : goal.returns
unfolding is_quiet_of
returns c =
    let four = c.well_formed.0.1.1.0.1.0.1 in
    let bs = c.args.self.branches in
    rw (
      c.is_quiet-4.ensures,
      c.is_quiet-3.ensures,
      c.is_quiet-2.ensures,
      c.is_quiet.ensures,
    ) (every_of_four (length bs) (λ k. branch.is_quiet_of (branch_at bs k)) four)
