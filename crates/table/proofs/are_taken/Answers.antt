-- `table::are_taken` meets its contract: a test of every word is the test at each index. Assumes nothing.
use native.Mathlib.Omega.{arith}
use Rattle.bits.proofs.ListLaws.{all_at}
use Rattle.table.specs.Table.{are_taken, is_taken_word}
use Rattle.table.proofs.are_taken.Goals as goal

pub returns : goal.returns
unfolding are_taken
returns c = rw c.all_taken.ensures (all_at is_taken_word 12 c.args.words (omega arith))
