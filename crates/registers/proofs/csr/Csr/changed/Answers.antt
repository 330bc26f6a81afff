-- `registers::csr::Csr::changed` meets its contract: GO is read before the write and after set and clear; the last
-- call clears the status bits or nothing. Assumes nothing.
use Rattle.registers.specs.Csr.{changed_of}
use Rattle.registers.proofs.csr.Csr.changed.Goals as goal

pub returns : goal.returns
unfolding changed_of
returns c =
    rw (
      c.cleared_if.ensures,
      c.bit_at.ensures,
      c.is_go-2.ensures,
      c.is_go.ensures,
      c.set_then_cleared-next.ensures,
    )
