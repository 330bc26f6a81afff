-- `registers::csr::Csr::set_then_cleared` meets its contract: set, then clear, in the order of the definition.
-- Assumes nothing.
use Rattle.registers.specs.Csr.{set_then_cleared_of}
use Rattle.registers.proofs.csr.Csr.set_then_cleared.Goals as goal

pub returns : goal.returns
unfolding set_then_cleared_of
returns c = rw (c.clear.ensures, c.set-set.ensures)
