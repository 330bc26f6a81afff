-- The examples of declined fills, as one statement over their table, computed from the definitions.
--     fill_examples_lem    each row sees what it says
-- Assumes nothing.
use Rattle.std.proofs.Common.{◌≡◌, true, refl}
use Rattle.bench.specs.Bench.{all_right}
use Rattle.bench.specs.Fill.{fill_examples}
use Rattle.bench.proofs.Opened.{machine}

-- [Table.8a] [Table.8b]
pub fill_examples_lem : all_right fill_examples ≡ true
unfolding machine
fill_examples_lem = refl
