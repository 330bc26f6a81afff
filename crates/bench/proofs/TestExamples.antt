-- The examples of test mode and of the held clock, as one statement over each table, computed from the definitions.
--     test_examples_lem, hold_examples_lem    each row sees what it says
-- Assumes nothing.
use Rattle.std.proofs.Common.{◌≡◌, true, refl}
use Rattle.bench.specs.Bench.{all_right}
use Rattle.bench.specs.TestMode.{test_examples}
use Rattle.bench.specs.Hold.{hold_examples}
use Rattle.bench.proofs.Opened.{machine}

-- [Test.1]–[Test.6] [Test.10]
pub test_examples_lem : all_right test_examples ≡ true
unfolding machine
test_examples_lem = refl

-- [Test.7a] [Test.7b] [Test.8a] [Test.8b]
pub hold_examples_lem : all_right hold_examples ≡ true
unfolding machine
hold_examples_lem = refl
