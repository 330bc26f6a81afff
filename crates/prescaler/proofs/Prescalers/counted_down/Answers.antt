-- `prescaler::Prescalers::counted_down` meets its contract: its eight counters and its mask are those of the bank,
-- which put together are the step (`counted_by_choices`). Assumes nothing.
use native.Mathlib.Omega.{arith}
use Rattle.prescaler.proofs.PrescalerChoices.{counted_by_choices}
use Rattle.prescaler.proofs.Prescalers.counted_down.Goals as goal

pub returns : goal.returns
returns c =
    let a = c.args in
    rw c.clear.ensures
    (counted_by_choices a.pulses a.self (omega arith) c.counters_after-counters.ensures c.scaled_of-scaled.ensures)
