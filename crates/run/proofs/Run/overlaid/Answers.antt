-- `run::Run::overlaid` meets its contract: the whole run is the value; any other sets the value's bits in the old
-- word. Assumes nothing.
use Rattle.run.specs.Run.{overlaid_of}
use Rattle.run.proofs.RunLaws.{set_is_overlaid}
use Rattle.std.proofs.Common.{rules}
use Rattle.run.proofs.Run.overlaid.Goals as goal

pub returns-then-is_whole : goal.returns-then-is_whole
unfolding overlaid_of
returns-then-is_whole c = rw (← c.is_whole.ensures, c.if-is_whole.true)

pub returns : goal.returns
unfolding overlaid_of
returns c =
    rw (
      c.set.ensures,
      c.clear.ensures,
      c.mask-mask.ensures,
      ← c.is_whole.ensures,
      c.if-is_whole.false,
    )
    (set_is_overlaid _ _ _ (search rules) (search rules))
