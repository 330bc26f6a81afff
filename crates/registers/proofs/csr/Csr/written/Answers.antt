-- `registers::csr::Csr::written` meets its contract: the request is decided first, and the next CSR follows it.
-- Assumes nothing.
use Rattle.registers.specs.Csr.{written_of}
use Rattle.registers.proofs.csr.Csr.written.Goals as goal

pub returns : goal.returns
unfolding written_of
returns c = rw (c.after_request-next.ensures, c.requested-request.ensures)
