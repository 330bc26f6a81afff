-- `module_core::Core::step` meets its contract: where no sequencer moves, what is left of a tick
-- (`stays_idle_by_choices`); else each part, given the record at the tick's start, settled (`step_by_latched`), where
-- main's step is quiet and there is no user sync by the shorter way (`quiet_is_quiet`, `user_stays`). Assumes
-- nothing.
use mathlib.Core.Path.{sym, ◌∙◌}
use Rattle.bits.proofs.TestLaws.{and_left, and_right}
use Rattle.module_core.proofs.CoreParts.{step_by_latched}
use Rattle.module_core.proofs.CoreCycle.{quiet_is_quiet}
use Rattle.module_core.proofs.CoreIdle.{stays_idle_by_choices, user_stays}
use borrow.Author.Tests.{not-true}
use Rattle.module_core.proofs.Core.step.Goals as goal

pub returns-then-stays_idle : goal.returns-then-stays_idle
returns-then-stays_idle c =
    let a = c.args in
    let stays = sym c.stays_idle.ensures ∙ c.if-stays_idle.true in
    let widths = c.well_formed.0.1.1.1.1.1.1.0.1.1 in
    rw c.stayed_idle.ensures
    (stays_idle_by_choices a.self widths.0.1 widths.1.0.1 a.room a.empty a.x _ _
    c.pulsed-p.ensures stays)

pub returns-then-c-has_user_sync : goal.returns-then-c-has_user_sync
returns-then-c-has_user_sync c =
    let a = c.args in
    let taken = c.if-c-has_user_sync.true in
    let is-marked = and_left c.main_step-c.result.quiet _ taken in
    let l = c.latched-l.result in
    let is-quiet =
    quiet_is_quiet a.room a.empty a.x.lines a.self l.latch l.word c.main_step-c.ensures is-marked in
    let no_sync = sym c.has_user_sync.ensures ∙ not-true _ (and_right c.main_step-c.result.quiet _ taken) in
    rw (
      c.settled_quietly.ensures,
      c.main_step-c.ensures,
      ← is-quiet,
      ← user_stays a.empty a.self no_sync,
      c.latched-l.ensures,
      c.pulsed-p.ensures,
    )
    (step_by_latched a.room a.empty a.x _ a.self)

pub returns : goal.returns
returns c =
    let a = c.args in
    rw (
      c.settled.ensures,
      c.step-u.ensures,
      c.is_idle.ensures,
      c.wants_user_sync.ensures,
      c.main_step-c.ensures,
      c.latched-l.ensures,
      c.pulsed-p.ensures,
    )
    (step_by_latched a.room a.empty a.x _ a.self)
