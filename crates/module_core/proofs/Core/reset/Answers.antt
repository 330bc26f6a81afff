-- `module_core::Core::reset` meets its contract: the literal is the definition, each field as its call ensures.
-- Assumes nothing.
use Rattle.module_core.specs.Core.{reset_of}
use Rattle.module_core.proofs.Core.reset.Goals as goal

pub returns : goal.returns
unfolding reset_of
returns c =
    rw (
      c.fresh-3.ensures,
      c.fresh-2.ensures,
      c.zeroed.ensures,
      c.idle.ensures,
      c.reset.ensures,
      c.fresh.ensures,
      c.reloaded.ensures,
    )
