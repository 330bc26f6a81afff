-- The law over the width, and its like over a mask: what a register's value may have.
--     fits_iff_no_bit_outside    for any n: a value is below 2 ^ n exactly if it has no bit outside n bits; the factors
--                                of 20 and 14 bits, the timers of 16 and 8 bits and the interval all cite it
--     only_iff_no_bit_outside    the same for a register whose bits are a mask
--     set-, clear-, and_keeps_only   what keeps a word within a mask
-- Assumes nothing.
use Prim.Native.Nat.{ℕ, ◌+◌, ◌/◌, ◌%◌, ◌^◌}
use mathlib.Core.Path.{◌≡◌, refl, sym, ap, ap₂, ◌∙◌}
use mathlib.Core.Logic.{◌↔◌}
use mathlib.Core.Bool.{Bool, true, false, not, ◌&&◌, ◌||◌}
use native.Mathlib.Omega.{arith}
use native.Mathlib.Nat.{mod-lt, div-eq_of_lt, lt_of_lt_of_le}
use lib.Bits.{bit_and, bit_or}
use lib.Pow.{pow_pos, pow_mono, split}
use lib.Dec.{eqb}
use borrow.Author.Tests.{eq-eqb, lt-ltb, ltb-true, eqb-true}
use Rattle.bits.specs.Bits.{bit_at, set_of, clear_of, fits_in, has_only, NoBitOutside, NoBitOutsideOf}
use Rattle.bits.proofs.TestLaws.{and_fails}
use Rattle.bits.proofs.BitsLaws.{or_at_lem, and_at_lem, set_at, clear_at, shift_at, no_bit_is_zero, words_equal_by_bits}

-- ---- no bit outside n bits, no bit outside a mask

-- [Lab.9] one law for every width
pub fits_iff_no_bit_outside : (n w : ℕ) → (fits_in n w ≡ true) ↔ NoBitOutside n w
fits_iff_no_bit_outside n w = (below, fits)
  where
    below : fits_in n w ≡ true → NoBitOutside n w
    below h i k = ap (λ (x : ℕ). eqb (x % 2) 1) (div-eq_of_lt (lt_of_lt_of_le (ltb-true w (2 ^ n) h) (pow_mono k)))

    fits : NoBitOutside n w → fits_in n w ≡ true
    fits h =
        let z : w / 2 ^ n ≡ 0 = no_bit_is_zero (w / 2 ^ n) (λ i. shift_at w n i ∙ h (n + i) (omega arith)) in
        lt-ltb w (2 ^ n) (omega (arith, mod-lt w (pow_pos n), rw z at (split w n)))

absorbed : (a b : Bool) → (b ≡ false → a ≡ false) → (a || b) ≡ b
absorbed a true h = or_true a
  where
    or_true : (a : Bool) → (a || true) ≡ true
    or_true true = refl
    or_true false = refl
absorbed a false h = ap (λ (t : Bool). t || false) (h refl)

left_false : (a b : Bool) → (a || b) ≡ b → b ≡ false → a ≡ false
left_false true b e h = e ∙ h
left_false false b e h = refl

pub only_iff_no_bit_outside : (m w : ℕ) → (has_only m w ≡ true) ↔ NoBitOutsideOf m w
only_iff_no_bit_outside m w = (below, only)
  where
    below : has_only m w ≡ true → NoBitOutsideOf m w
    below h i =
        left_false (bit_at w i) (bit_at m i) (sym (or_at_lem w m i) ∙ ap (λ (x : ℕ). bit_at x i) (eqb-true (bit_or w m) m h))

    only : NoBitOutsideOf m w → has_only m w ≡ true
    only h =
        eq-eqb (bit_or w m) m
        (words_equal_by_bits (bit_or w m) m (λ i. or_at_lem w m i ∙ absorbed (bit_at w i) (bit_at m i) (h i)))

-- ---- what keeps a word within a mask

or_false : (a b : Bool) → a ≡ false → b ≡ false → (a || b) ≡ false
or_false a b p q = ap₂ ◌||◌ p q

and_false_l : (a b : Bool) → a ≡ false → (a && b) ≡ false
and_false_l a b p = ap (λ (t : Bool). t && b) p

module _ (m w k : ℕ) where
  pub set_keeps_only : has_only m w ≡ true → has_only m k ≡ true → has_only m (set_of k w) ≡ true
  set_keeps_only p q =
      (only_iff_no_bit_outside m (set_of k w)).1
      (λ i h.
      set_at k w i
      ∙ or_false (bit_at w i) (bit_at k i) ((only_iff_no_bit_outside m w).0 p i h) ((only_iff_no_bit_outside m k).0 q i h))

  pub clear_keeps_only : has_only m w ≡ true → has_only m (clear_of k w) ≡ true
  clear_keeps_only p =
      (only_iff_no_bit_outside m (clear_of k w)).1
      (λ i h. clear_at k w i ∙ and_false_l (bit_at w i) (not (bit_at k i)) ((only_iff_no_bit_outside m w).0 p i h))

  pub and_keeps_only : has_only m k ≡ true → has_only m (bit_and w k) ≡ true
  and_keeps_only q =
      (only_iff_no_bit_outside m (bit_and w k)).1
      (λ i h. and_at_lem w k i ∙ and_fails (bit_at w i) ((only_iff_no_bit_outside m k).0 q i h))
