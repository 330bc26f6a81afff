-- The examples of the blind time, as one statement over their table, computed from the definitions.
--     blind_examples_lem    each row sees what it says
-- Assumes nothing.
use Rattle.std.proofs.Common.{◌≡◌, true, refl}
use Rattle.bench.specs.Bench.{all_right}
use Rattle.bench.specs.Blind.{blind_examples}
use Rattle.bench.proofs.Opened.{machine}

-- [Blind.2] [Blind.3] [Blind.4]
pub blind_examples_lem : all_right blind_examples ≡ true
unfolding machine
blind_examples_lem = refl
