-- `table::fill` meets its contract. The loop's invariant: the slice keeps its length, and each place passed has its
-- word; the measure is what is left of the length. Assumes nothing.
use Prim.Native.Nat.{ℕ, ◌-◌, ◌<◌}
use mathlib.Core.Path.{◌≡◌}
use lib.ListN.{length, get_or}
use Rattle.table.specs.Table.{table_word_of}
use Rattle.std.proofs.Common.{length, ◌-◌, ◌≡◌, ◌<◌, ℕ}
use Rattle.table.proofs.fill.Given as goal

abbrev pub invariant-loop-place : goal.invariant-loop-place
invariant-loop-place l =
    (length l.memory ≡ length l.initial.memory) × ((k : ℕ) → k < l.place → get_or l.memory k 0 ≡ table_word_of l.words k)

abbrev pub decreases-loop-place : goal.decreases-loop-place
decreases-loop-place l = length l.initial.memory - l.place
