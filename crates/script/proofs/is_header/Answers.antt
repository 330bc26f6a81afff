-- `script::is_header` meets its contract: the library compares two slices as the definition does (`same_pointwise`). Assumes nothing.
use Rattle.script.specs.Script.{header}
use Rattle.script.proofs.HeaderLaws.{same_pointwise}
use Rattle.script.proofs.is_header.Goals as goal

pub returns : goal.returns
returns c = rw (c.eq.ensures, c.as_slice.ensures) (same_pointwise c.args.line.now header)
