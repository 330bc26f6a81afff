-- `module_core::Core::stayed_idle` meets its contract: each field as its call ensures. Assumes nothing.
use Rattle.module_core.specs.StaysIdle.{stayed_idle_of}
use Rattle.module_core.proofs.Core.stayed_idle.Goals as goal

pub returns : goal.returns
unfolding stayed_idle_of
returns c =
    rw (
      c.masks_of.ensures,
      c.kept-next.ensures,
      c.after-next.ensures,
      c.fresh-next.ensures,
      c.marked-next.ensures,
      c.status.ensures,
      c.has_inhibit.ensures,
      c.none-latch.ensures,
    )
