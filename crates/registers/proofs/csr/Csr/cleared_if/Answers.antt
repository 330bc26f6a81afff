-- `registers::csr::Csr::cleared_if` meets its contract: each answer is one side of the test. Assumes nothing.
use Rattle.registers.specs.Csr.{cleared_if_of}
use Rattle.registers.proofs.csr.Csr.cleared_if.Goals as goal

pub returns-then-test : goal.returns-then-test
unfolding cleared_if_of
returns-then-test c = rw (c.cleared.ensures, c.if-test.true)

pub returns : goal.returns
unfolding cleared_if_of
returns c = rw c.if-test.false
