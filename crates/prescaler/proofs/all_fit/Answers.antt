-- `prescaler::all_fit` meets its contract (`fit_by_halves`). Assumes nothing.
use native.Mathlib.Omega.{arith}
use Rattle.prescaler.proofs.PrescalerChoices.{fit_by_halves}
use Rattle.prescaler.proofs.all_fit.Goals as goal

pub returns : goal.returns
returns c = rw (c.are_below.ensures, c.are_below-2.ensures) (fit_by_halves c.args.values (omega arith))
