-- `branches::gathered` meets its contract: the literal is the definition, field by field. Assumes nothing.
use Rattle.branches.specs.Readout.{gathered_of}
use Rattle.branches.proofs.gathered.Goals as goal

pub returns : goal.returns
unfolding gathered_of
returns c =
    rw (
      c.side_after-4.ensures,
      c.side_after-3.ensures,
      c.side_after-2.ensures,
      c.side_after.ensures,
    )
