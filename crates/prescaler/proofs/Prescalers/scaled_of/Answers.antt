-- `prescaler::Prescalers::scaled_of` meets its contract: its eight numbers make the mask (`scaled_by_digits`).
-- Assumes nothing.
use Rattle.prescaler.proofs.PrescalerChoices.{scaled_by_digits}
use Rattle.prescaler.proofs.Prescalers.scaled_of.Goals as goal

pub returns : goal.returns
returns c =
    let a = c.args in
    rw (
      c.scaled-8.ensures.value,
      c.scaled-7.ensures.value,
      c.scaled-6.ensures.value,
      c.scaled-5.ensures.value,
      c.scaled-4.ensures.value,
      c.scaled-3.ensures.value,
      c.scaled-2.ensures.value,
      c.scaled.ensures.value,
    )
    (scaled_by_digits a.pulses a.self)
