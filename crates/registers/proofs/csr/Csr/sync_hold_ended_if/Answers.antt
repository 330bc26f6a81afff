-- `registers::csr::Csr::sync_hold_ended_if` meets its contract: one return for each choice. Assumes nothing.
use Rattle.registers.specs.Csr.{sync_hold_ended_if_of}
use Rattle.registers.proofs.csr.Csr.sync_hold_ended_if.Goals as goal

pub returns-then-ended : goal.returns-then-ended
unfolding sync_hold_ended_if_of
returns-then-ended c = rw (c.sync_hold_ended.ensures, c.if-ended.true)

pub returns : goal.returns
unfolding sync_hold_ended_if_of
returns c = rw c.if-ended.false
