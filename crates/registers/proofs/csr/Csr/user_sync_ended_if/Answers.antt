-- `registers::csr::Csr::user_sync_ended_if` meets its contract: one return for each choice. Assumes nothing.
use Rattle.registers.specs.Csr.{user_sync_ended_if_of}
use Rattle.registers.proofs.csr.Csr.user_sync_ended_if.Goals as goal

pub returns-then-ended : goal.returns-then-ended
unfolding user_sync_ended_if_of
returns-then-ended c = rw (c.user_sync_ended.ensures, c.if-ended.true)

pub returns : goal.returns
unfolding user_sync_ended_if_of
returns c = rw c.if-ended.false
