-- `module_core::Core::main_step` meets its contract: a return for an accepted pattern (`main_accepts`) and one for a
-- cycle (`main_goes_on`). Assumes nothing.
use mathlib.Core.Path.{◌∙◌}
use Rattle.module_core.proofs.CoreCycle.{main_accepts, main_goes_on}
use borrow.Author.Tests.{eq-eqb, ne_eqb}
use Rattle.module_core.proofs.Core.main_step.Goals as goal

pub returns-then-is_accepted : goal.returns-then-is_accepted
returns-then-is_accepted c =
    let a = c.args in
    let some = ne_eqb _ _ c.if-is_accepted.true in
    rw (c.marked.ensures, c.quiet_step.ensures, c.accepted.ensures)
    (main_accepts a.room a.empty a.lines a.self a.latch a.word some)

pub returns : goal.returns
returns c =
    let a = c.args in
    let none = eq-eqb _ _ c.if-is_accepted.false in
    c.cycle_step.ensures ∙ main_goes_on a.room a.empty a.lines a.self a.latch a.word none
