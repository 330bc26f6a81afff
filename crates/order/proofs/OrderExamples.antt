-- The examples of two writes in both orders, as one statement over their table, computed from the definitions.
--     order_examples_lem    each row sees what it says
-- Assumes nothing.
use Rattle.std.proofs.Common.{◌≡◌, true, refl}
use Rattle.bench.specs.Bench.{all_right}
use Rattle.bench.proofs.Opened.{machine}
use Rattle.order.specs.OrderExamples.{order_examples}

-- [Order.2]
pub order_examples_lem : all_right order_examples ≡ true
unfolding machine
order_examples_lem = refl
