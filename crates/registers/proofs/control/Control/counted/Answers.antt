-- `registers::control::Control::counted` meets its contract: its test is the strobe's part of the rule, and each
-- return has the rule's bits (`counted_when_open`, `counted_when_shut`). Assumes nothing.
use mathlib.Core.Path.{sym, ap, ◌∙◌}
use mathlib.Core.Bool.{Bool, not, ◌||◌}
use Rattle.registers.proofs.ControlLaws.{counted_when_open, counted_when_shut}
use Rattle.std.proofs.Common.{Bool}
use Rattle.registers.proofs.control.Control.counted.Goals as goal

pub returns-then-is_strobe_mode-strobe : goal.returns-then-is_strobe_mode-strobe
returns-then-is_strobe_mode-strobe c =
    let a = c.args in
    let mode = ap (λ (t : Bool). not t || a.strobe) (sym c.is_strobe_mode.ensures) in
    rw c.enabled.ensures (counted_when_open a.strobe a.triggers a.self (mode ∙ c.if-is_strobe_mode-strobe.true))

pub returns : goal.returns
returns c =
    let a = c.args in
    let mode = ap (λ (t : Bool). not t || a.strobe) (sym c.is_strobe_mode.ensures) in
    counted_when_shut a.strobe a.triggers a.self (mode ∙ c.if-is_strobe_mode-strobe.false)
