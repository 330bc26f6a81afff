-- `sync::counter::SyncCounter::after_load` meets its contract: a count that reaches the interval stays; below it, one
-- more fits 16 bits. Assumes nothing.
use Rattle.sync.specs.SyncCounter.{after_load_of}
use borrow.Author.Tests.{le-leb, lt-leb}
use Rattle.sync.proofs.counter.SyncCounter.after_load.Goals as goal

pub returns-then-interval-next : goal.returns-then-interval-next
unfolding after_load_of
returns-then-interval-next c = rw (le-leb _ _ c.if-interval-next.true)

pub returns-then-enabled-interval : goal.returns-then-enabled-interval
unfolding after_load_of
returns-then-enabled-interval c = rw (c.if-enabled-interval.true, lt-leb _ _ c.if-interval-next.false)

pub returns : goal.returns
unfolding after_load_of
returns c = rw (c.if-enabled-interval.false, lt-leb _ _ c.if-interval-next.false)
