-- `reader::number` meets its contract: a digit more is sixteen times the number and the digit. Assumes nothing.
use mathlib.Core.Path.{refl}
use native.Mathlib.Omega.{arith}
use native.Mathlib.Nat.{pow-succ', pow-le-pow_right}
use native.Mathlib.Numerals.{add-one}
use lib.ListN.{get_or}
use Rattle.text.specs.Text.{is_digit_of}
use Rattle.reader.proofs.FieldLaws.{digits_next, number_next, was_digit}
use Rattle.reader.proofs.number.Goals as goal

pub overflow_mul-value : goal.overflow_mul-value
overflow_mul-value c =
    let p = pow-le-pow_right {n = 16} (omega arith) {i = c.loop-b.b-index} {j = 7} (omega arith) in
    omega (arith, p)

pub loop-b-preserved : goal.loop-b-preserved
loop-b-preserved c =
    let l = c.args.digits.now in
    let i = c.loop-b.b-index in
    let inv = c.loop-b.invariant in
    let digit = was_digit (is_digit_of (get_or l i 0)) c.in_ok-value.ensures.value in (
      digits_next l i inv.0 digit.0,
      rw (number_next l i, ← inv.1, digit.1) refl,
      rw (add-one i, pow-succ' 16 i) (omega (arith, c.in_ok-value.ensures.upper_bound)),
    )
