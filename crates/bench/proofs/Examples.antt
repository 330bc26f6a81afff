-- The bench examples P1–P9, as one statement over their table, computed from the definitions.
--     bench_examples    each row sees what it says
-- Assumes nothing.
use Rattle.std.proofs.Common.{◌≡◌, true, refl}
use Rattle.bench.specs.Bench.{examples, all_right}
use Rattle.bench.proofs.Opened.{machine}

-- [Lab.8]
pub bench_examples : all_right examples ≡ true
unfolding machine
bench_examples = refl
