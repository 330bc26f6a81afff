-- `module_core::Core::fresh` meets its contract: the literal is the definition, each field as its call ensures.
-- Assumes nothing.
use Rattle.module_core.specs.Core.{fresh_of}
use Rattle.module_core.proofs.Core.fresh.Goals as goal

pub returns : goal.returns
unfolding fresh_of
returns c =
    rw (
      c.fresh-10.ensures,
      c.fresh-9.ensures,
      c.fresh-8.ensures,
      c.fresh-7.ensures,
      c.fresh-6.ensures,
      c.idle.ensures,
      c.fresh-5.ensures,
      c.fresh-4.ensures,
      c.fresh-3.ensures,
      c.fresh-2.ensures,
      c.fresh.ensures,
    )
