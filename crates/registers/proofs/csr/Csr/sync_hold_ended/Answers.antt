-- `registers::csr::Csr::sync_hold_ended` meets its contract: the one call clears bits 0 and 1 exactly if bit 1 is
-- set. Assumes nothing.
use Rattle.registers.specs.Csr.{sync_hold_ended_of}
use Rattle.registers.proofs.csr.Csr.sync_hold_ended.Goals as goal

pub returns : goal.returns
unfolding sync_hold_ended_of
returns c = rw (c.cleared_if.ensures, c.pauses_on_next_sync.ensures)
