-- `prescaler::Prescalers::factor` meets its contract: within the bank it is the factor at the input's place, else 0.
-- Assumes nothing.
use Rattle.prescaler.specs.Prescaler.{factor_of}
use borrow.Author.Tests.{le-leb, lt-leb}
use Rattle.prescaler.proofs.Prescalers.factor.Goals as goal

pub returns-then-input-le-PRESCALED_INPUTS : goal.returns-then-input-le-PRESCALED_INPUTS
unfolding factor_of
returns-then-input-le-PRESCALED_INPUTS c = rw (le-leb _ _ c.if-input-le-PRESCALED_INPUTS.true, le-leb _ _ c.if-input-ge1.true)

pub returns-else-input-le-PRESCALED_INPUTS : goal.returns-else-input-le-PRESCALED_INPUTS
unfolding factor_of
returns-else-input-le-PRESCALED_INPUTS c = rw (lt-leb _ _ c.if-input-le-PRESCALED_INPUTS.false, le-leb _ _ c.if-input-ge1.true)

pub returns-else-input-ge1 : goal.returns-else-input-ge1
unfolding factor_of
returns-else-input-ge1 c = rw (lt-leb _ _ c.if-input-ge1.false)
