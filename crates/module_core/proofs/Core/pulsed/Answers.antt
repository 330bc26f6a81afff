-- `module_core::Core::pulsed` meets its contract: without a trigger the bank stays (`pulsed_without_trigger`), else
-- the pulses that control counts, through the bank, as their calls ensure. Assumes nothing.
use Rattle.module_core.specs.Core.{pulsed_of}
use Rattle.module_core.proofs.CoreIdle.{pulsed_without_trigger}
use Rattle.std.proofs.Common.{rules}
use Rattle.module_core.proofs.Core.pulsed.Goals as goal

pub returns-then-x-eq0 : goal.returns-then-x-eq0
returns-then-x-eq0 c =
    let a = c.args in
    pulsed_without_trigger a.x a.self (search rules) c.if-x-eq0.true

pub returns : goal.returns
unfolding pulsed_of
returns c =
    rw (
      c.step.ensures,
      c.counted.ensures,
      c.has_strobe.ensures,
      c.opens_prescales.ensures,
      c.is_go.ensures,
    )
