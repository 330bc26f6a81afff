-- `prescaler::Prescalers::with_factor` meets its contract: one return for each outcome of the tests of the input, and
-- of the load. Assumes nothing.
use Rattle.prescaler.specs.Prescaler.{with_factor_of}
use borrow.Author.Tests.{le-leb, lt-leb}
use Rattle.prescaler.proofs.Prescalers.with_factor.Goals as goal

pub returns-then-loads : goal.returns-then-loads
unfolding with_factor_of
returns-then-loads c = rw (c.if-loads.true, le-leb _ _ c.if-input-le-PRESCALED_INPUTS.true, le-leb _ _ c.if-input-ge1.true)

pub returns-else-loads : goal.returns-else-loads
unfolding with_factor_of
returns-else-loads c =
    rw (
      c.if-loads.false,
      le-leb _ _ c.if-input-le-PRESCALED_INPUTS.true,
      le-leb _ _ c.if-input-ge1.true,
    )

pub returns-else-input-le-PRESCALED_INPUTS : goal.returns-else-input-le-PRESCALED_INPUTS
unfolding with_factor_of
returns-else-input-le-PRESCALED_INPUTS c = rw (lt-leb _ _ c.if-input-le-PRESCALED_INPUTS.false, le-leb _ _ c.if-input-ge1.true)

pub returns-else-input-ge1 : goal.returns-else-input-ge1
unfolding with_factor_of
returns-else-input-ge1 c = rw (lt-leb _ _ c.if-input-ge1.false)
