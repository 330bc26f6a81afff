-- The examples of register calls by a run of bytes, as one statement over their table, computed from the definitions.
--     bytes_examples_lem    each row sees what it says
-- Assumes nothing.
use Rattle.std.proofs.Common.{◌≡◌, true, refl}
use Rattle.bench.specs.Bench.{all_right}
use Rattle.bench.specs.Bytes.{bytes_examples}
use Rattle.bench.proofs.Opened.{machine}

-- [Bytes.2]–[Bytes.5a] [Bytes.6] [Bytes.7] [Bytes.9] [Bytes.11]
pub bytes_examples_lem : all_right bytes_examples ≡ true
unfolding machine
bytes_examples_lem = refl
