-- `table::fill` meets its contract. The loop's invariant: the slice keeps its length, and each place passed has its
-- word; the measure is what is left of the length. Assumes nothing.
use native.Mathlib.Omega.{arith}
use Rattle.table.proofs.TableLaws.{table_by_places}
use Rattle.table.proofs.fill.Goals as goal

pub returns : goal.returns
returns c =
    let l = c.loop-place in
    table_by_places _ _ l.memory l.invariant.0 (λ k h. l.invariant.1 k (omega arith))
