-- The examples of reads of STATE, as one statement over their table, computed from the definitions.
--     state_examples_lem    each row sees what it says
-- Assumes nothing.
use Rattle.std.proofs.Common.{◌≡◌, true, refl}
use Rattle.bench.specs.Bench.{all_right}
use Rattle.bench.specs.State.{state_examples}
use Rattle.bench.proofs.Opened.{machine}

-- [State.2]–[State.8b]
pub state_examples_lem : all_right state_examples ≡ true
unfolding machine
state_examples_lem = refl
