-- `run::Run::mask` meets its contract: the bytes that are held, as four masks. Assumes nothing.
use Rattle.run.proofs.RunLaws.{bytes_are_mask}
use Rattle.run.proofs.Run.mask.Goals as goal

pub returns : goal.returns
returns c =
    rw (
      c.select-4.ensures,
      c.holds-4.ensures,
      c.select-3.ensures,
      c.holds-3.ensures,
      c.select-2.ensures,
      c.holds-2.ensures,
      c.select.ensures,
      c.holds.ensures,
    )
    (bytes_are_mask _)
