-- What is claimed of document 02's request N6, settings in either order, for every record, spoiled, active and unreachable ones
-- among them, and every memory of any length. proofs/OrderProved.antt proves each by citing its law.
-- Assumes nothing.
use Rattle.std.specs.Prelude.{◌≡◌, ℕ, true, List, [], ◌∷◌, ◌≢◌}
use Rattle.run.specs.declared.Run.{Run}
use Rattle.declines.specs.Runs.{Ask, write_register, write_memory, Session}
use Rattle.bench.specs.Bench.{all_right}
use Rattle.order.specs.EitherOrder.{EitherOrder, is_setting_number, scripts_are_apart}
use Rattle.order.specs.OrderExamples.{order_examples}

-- [Order.2] [Order.3] Two writes to different protected registers, 1–16 today (FactsByNumber in Parts), each by any run of bytes,
-- bad ones among them, plain ones by the whole run (WholeRunIsPlainWrite in Bytes): in both orders the record and the memory
-- afterwards are the same, and the answer to each is what it is alone, declined or not.
abbrev pub SettingsInEitherOrder : Type 0
SettingsInEitherOrder =
    (m n : ℕ) (q r : Run) (v w : ℕ) (z : Session) → is_setting_number m ≡ true → is_setting_number n ≡ true → (m ≢ n)
    → EitherOrder (write_register m q v ∷ []) (write_register n r w ∷ []) z

-- [Order.2] So for two memory writes to different places, out-of-range ones among them.
abbrev pub PlacesInEitherOrder : Type 0
PlacesInEitherOrder =
    (p q v w : ℕ) (z : Session) → (p ≢ q) → EitherOrder (write_memory p v ∷ []) (write_memory q w ∷ []) z

-- [Order.1] And so for two scripts of such writes, settings and places mixed, if no setting and no place is written by both.
abbrev pub ScriptsInEitherOrder : Type 0
ScriptsInEitherOrder = (a b : List Ask) (z : Session) → scripts_are_apart a b ≡ true → EitherOrder a b z

-- [Order.2] What depends on the order, and is not claimed: two runs of one register, even if they share no byte; a setting and
-- the CSR; two writes to one place. With two cases in which one write is declined and the other is not, as one statement
-- over the table.
abbrev pub OrderExamples : Type 0
OrderExamples = all_right order_examples ≡ true
