-- `registers::csr::Csr::marked` meets its contract: the marks are cut to the status bits, then set by `bits::set`.
-- Assumes nothing.
use Rattle.registers.specs.Csr.{marked_of}
use Rattle.registers.proofs.csr.Csr.marked.Goals as goal

pub returns : goal.returns
unfolding marked_of
returns c = rw c.set.ensures
