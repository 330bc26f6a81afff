-- `trigger::effects::csr_after` meets its contract: where nothing ends the marks alone (`nothing_ended`), else three
-- changes in a row, each as its call ensures. Assumes nothing.
use Rattle.trigger.specs.Effects.{csr_after_of}
use Rattle.trigger.proofs.EffectsLaws.{nothing_ended}
use Rattle.trigger.proofs.effects.csr_after.Goals as goal

pub returns-then-not-m-u : goal.returns-then-not-m-u
unfolding csr_after_of
returns-then-not-m-u c =
    rw (
      c.marked.ensures,
      c.status-marks.ensures,
      c.has_inhibit.ensures,
      nothing_ended _ _ _ (c.if-not-m-u.true),
    )

pub returns : goal.returns
unfolding csr_after_of
returns c =
    rw (
      c.marked-2.ensures,
      c.user_sync_ended_if-waited.ensures,
      c.sync_hold_ended_if-held.ensures,
      c.status-marks.ensures,
      c.has_inhibit.ensures,
    )
