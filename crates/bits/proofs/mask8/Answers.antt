-- `bits::mask8` meets its contract: the sum of the eight digits is the mask, digit by digit. Assumes nothing.
use mathlib.Core.Path.{◌≡◌, refl, ◌∙◌}
use mathlib.Core.Bool.{Bool, true, false}
use Rattle.std.specs.Int.{from_bool}
use Rattle.bits.specs.Bits.{one_if_of, mask_of}
use native.Mathlib.Omega.{arith}
use Rattle.bits.proofs.mask8.Goals as goal

-- the library's digit of a bool is the definition's
digit : (t : Bool) → from_bool t ≡ one_if_of t
digit true = refl
digit false = refl

pub returns : goal.returns
unfolding mask_of
returns c =
    omega (
      arith,
      c.from.ensures ∙ digit _,
      c.from-2.ensures ∙ digit _,
      c.from-3.ensures ∙ digit _,
      c.from-4.ensures ∙ digit _,
      c.from-5.ensures ∙ digit _,
      c.from-6.ensures ∙ digit _,
      c.from-7.ensures ∙ digit _,
      c.from-8.ensures ∙ digit _,
    )
