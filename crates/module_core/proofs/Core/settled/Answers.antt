-- `module_core::Core::settled` meets its contract: each field as its call ensures; of the sync counter the count
-- alone is set (`sync_after_by_count`). Assumes nothing.
use Rattle.module_core.specs.Core.{settled_of}
use Rattle.trigger.proofs.EffectsLaws.{sync_after_by_count}
use Rattle.module_core.proofs.Core.settled.Goals as goal

pub returns : goal.returns
unfolding settled_of
returns c =
    rw (
      c.outcome_of.ensures,
      c.masks_of.ensures,
      c.kept-next.ensures,
      c.after-next.ensures,
      c.counted-next.ensures,
      c.signals_of.ensures,
      c.fresh-next.ensures,
      c.csr_after-next.ensures,
      c.count_after-count.ensures,
      c.enables_sync.ensures,
      sync_after_by_count _ _ _ _,
    )
