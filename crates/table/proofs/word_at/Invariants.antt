-- `table::word_at` meets its contract. The loop's invariant: the word is what is gathered from input i on; the
-- measure is i. Assumes nothing.
use Prim.Native.Nat.{◌-◌, ◌<◌, ◌≤◌}
use mathlib.Core.Path.{◌≡◌}
use Rattle.table.proofs.TableChoices.{gathered_from}
use Rattle.std.proofs.Common.{◌≡◌, ◌<◌, ◌-◌, ◌≤◌}
use Rattle.table.proofs.word_at.Given as goal

abbrev pub invariant-loop-i : goal.invariant-loop-i
invariant-loop-i l = (l.i ≤ 12) × (l.word < 65536) × (l.word ≡ gathered_from l.i (12 - l.i) l.words l.place)

abbrev pub decreases-loop-i : goal.decreases-loop-i
decreases-loop-i l = l.i
