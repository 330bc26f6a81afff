-- `testing::TestWord::written` meets its contract: the bits taken are set. Assumes nothing.
use Rattle.testing.specs.TestWord.{written_of}
use Rattle.testing.proofs.TestWord.written.Goals as goal

pub returns : goal.returns
unfolding written_of
returns c = rw (c.set.ensures, c.taken.ensures)
