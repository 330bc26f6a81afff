-- `registers::csr::Csr::user_sync_ended` meets its contract: bits 2 and 3 are cleared, then bit 0 by the bit 2 of the
-- start. Assumes nothing.
use Rattle.registers.specs.Csr.{user_sync_ended_of}
use Rattle.registers.proofs.csr.Csr.user_sync_ended.Goals as goal

pub returns : goal.returns
unfolding user_sync_ended_of
returns c =
    rw (
      c.cleared_if.ensures,
      c.pauses_and_syncs.ensures,
      c.cleared-next.ensures,
    )
