-- `module_core::Core::lines_out` meets its contract: a sum of parts that do not overlap, and that fits. Assumes
-- nothing.
use Rattle.module_core.specs.Core.{lines_out_of}
use Rattle.module_core.proofs.Core.lines_out.Goals as goal

pub returns : goal.returns
unfolding lines_out_of
returns c =
    rw (
      c.one_if-2.ensures.value,
      c.enables_level1.ensures,
      c.one_if.ensures.value,
      c.is_clearing.ensures,
    )
