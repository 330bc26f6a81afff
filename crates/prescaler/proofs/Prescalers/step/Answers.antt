-- `prescaler::Prescalers::step` meets its contract: a bank that does not run, or that no pulse of inputs 1–8 meets,
-- stays (`stopped_by_choices`, `passed_by_choices`); any other is counted down. Assumes nothing.
use Rattle.prescaler.proofs.PrescalerChoices.{stopped_by_choices, passed_by_choices}
use Rattle.std.proofs.Common.{rules}
use Rattle.prescaler.proofs.Prescalers.step.Goals as goal

pub returns-then-not-runs : goal.returns-then-not-runs
returns-then-not-runs c =
    let a = c.args in
    rw (c.if-not-runs.true) (stopped_by_choices a.pulses a.self (search rules))

pub returns-then-pulses-eq0 : goal.returns-then-pulses-eq0
returns-then-pulses-eq0 c =
    let a = c.args in
    rw (c.if-not-runs.false)
    (passed_by_choices a.pulses a.self c.if-pulses-eq0.true (search rules))
