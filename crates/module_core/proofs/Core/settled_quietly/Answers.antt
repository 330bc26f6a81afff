-- `module_core::Core::settled_quietly` meets its contract: each field as its call ensures; where neither main nor the
-- user sync reports anything, the rest of the definition computes. Assumes nothing.
use Rattle.module_core.specs.Core.{settled_of}
use Rattle.registers.specs.Csr.{sync_hold_ended_if_of, user_sync_ended_if_of}
use Rattle.trigger.specs.Effects.{csr_after_of, sync_after_of}
use Rattle.module_core.proofs.Core.settled_quietly.Goals as goal

pub returns : goal.returns
unfolding settled_of csr_after_of sync_after_of sync_hold_ended_if_of user_sync_ended_if_of
returns c =
    rw (
      c.masks_of.ensures,
      c.kept-next.ensures,
      c.after-next.ensures,
      c.counted-next.ensures,
      c.fresh-next.ensures,
      c.marked-next.ensures,
      c.status.ensures,
      c.has_inhibit.ensures,
    )
