-- `trigger::effects::count_after` meets its contract: one return for each choice, each the count of its counter.
-- Assumes nothing.
use Rattle.trigger.specs.Effects.{sync_after_of}
use Rattle.trigger.proofs.effects.count_after.Goals as goal

pub returns-then-m-u : goal.returns-then-m-u
unfolding sync_after_of
returns-then-m-u c = rw c.if-m-u.true

pub returns-then-is_event : goal.returns-then-is_event
unfolding sync_after_of
returns-then-is_event c =
    rw (
      c.after_load-next.ensures,
      ← c.is_event.ensures,
      c.if-is_event.true,
      c.if-m-u.false,
    )

pub returns : goal.returns
unfolding sync_after_of
returns c = rw (← c.is_event.ensures, c.if-is_event.false, c.if-m-u.false)
