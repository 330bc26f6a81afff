-- `branches::Readout::has_room` meets its contract: its four tests are the test of every branch (`every_of_four`),
-- the fourth with its own lock. Assumes nothing.
use Rattle.branches.specs.Readout.{has_room_of}
use lib.Dec.{ltb}
use lib.ListN.{length}
use Rattle.branches.specs.Readout.{depth_of}
use Rattle.branches.specs.ReadoutFields.{branch_at}
use Rattle.branches.proofs.ReadoutChoices.{every_of_four}
use Rattle.std.proofs.Common.{length}
use Rattle.branches.proofs.Readout.has_room.Goals as goal

pub returns : goal.returns
unfolding has_room_of
returns c =
    let four = c.well_formed.0.1.1.0.1.0.1 in
    let a = c.args in
    let bs = a.self.branches in
    rw (
      c.depth-fourth.ensures,
      c.depth-plain.ensures,
    ) (every_of_four (length bs) (λ k. ltb (branch_at bs k).len (depth_of a.lock a.lock4 k)) four)
