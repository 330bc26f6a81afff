-- Laws of words seen as bits.
--     or_at_lem, and_at_lem, xor_at      bit i of each operation of lib.Bits, from bit i of its two words
--     set_at, clear_at           bit i of a word with bits set or cleared
--     shift_at, half_at          bit i of w / 2 ^ k is bit k + i of w; of w / 2 it is bit i + 1
--     low_at                     bit i of w % 2 ^ n is that of w below n
--     mask_at, mask_at_below, mask_lt   bit i of the word that bits make is bit i of the rule; it has no further bit
--     zero_at, no_bit_is_zero    the word with no bit is 0
--     mask_of_bits               a word's own bits make the word again, cut to the width
--     tabulate_at, -past, -length, -getD   the elements of a table
--     mask_same, mask_none, tabulate_same  rules that agree below n make the same word, the same table
--     mask_joins                 the lower n bits and, above them, the others make the word of all
--     mask_wider                 a rule that holds nowhere from n on makes the same word at a greater width
--     clear_mask                 a word with a mask cleared, by its rule
--     words_equal_by_bits        two words are equal if all their bits are
--     run_at                     bit i of a run of bits
-- Assumes nothing.
use Prim.Native.Nat.{ℕ, zero, suc, ◌+◌, ◌-◌, ◌*◌, ◌/◌, ◌%◌, ◌^◌, ◌<◌, ◌≤◌}
use mathlib.Core.Path.{◌≡◌, refl, sym, ap, ap₂, ◌∙◌}
use mathlib.Core.Bool.{Bool, true, false, not, ◌&&◌, ◌||◌}
use mathlib.Core.List.{List, [], ◌∷◌}
use native.Mathlib.Omega.{arith}
use native.Mathlib.Nat.{mod-lt, div-one, zero-div, div-div-eq-div-mul, pow-succ', mul-one, mul_assoc, zero-add, suc-add}
use lib.Arith.{bin_ind}
use lib.Bits.{bit_and, bit_or, bit_xor, or_shr, or_mod, and_shr, and_mod, xor_shr, xor_mod}
use lib.Bits.{shifted_half, shifted_even, and_mask}
use lib.Pow.{pow_pos, shr-shr}
use lib.ListN.{length, get_or}
use lib.Dec.{eqb, ltb, leb, lit<, leb-zero, leb-suc-zero, leb-suc-suc}
use borrow.Author.Tests.{eq-eqb, ne_eqb, lt-ltb, eqb-false, ltb-true, ltb-false}
use Rattle.bits.specs.Bits.{bit_at, bits_from, one_if_of, mask_of, tabulate, set_of, clear_of}
use Rattle.bits.proofs.TestLaws.{and_fails}

-- ---- one operation of lib.Bits, bit by bit

abbrev differ : Bool → Bool → Bool
differ true b = not b
differ false b = b

or_digit : (x y : ℕ) → x < 2 → y < 2 → eqb (bit_or x y) 1 ≡ (eqb x 1 || eqb y 1)
or_digit zero y h k = refl
or_digit (suc zero) zero h k = refl
or_digit (suc zero) (suc zero) h k = refl
or_digit (suc zero) (suc (suc y)) h k = absurd (omega arith)
or_digit (suc (suc x)) y h k = absurd (omega arith)

and_digit : (x y : ℕ) → x < 2 → y < 2 → eqb (bit_and x y) 1 ≡ (eqb x 1 && eqb y 1)
and_digit zero y h k = refl
and_digit (suc zero) zero h k = refl
and_digit (suc zero) (suc zero) h k = refl
and_digit (suc zero) (suc (suc y)) h k = absurd (omega arith)
and_digit (suc (suc x)) y h k = absurd (omega arith)

xor_digit : (x y : ℕ) → x < 2 → y < 2 → eqb (bit_xor x y) 1 ≡ differ (eqb x 1) (eqb y 1)
xor_digit zero y h k = refl
xor_digit (suc zero) zero h k = refl
xor_digit (suc zero) (suc zero) h k = refl
xor_digit (suc zero) (suc (suc y)) h k = absurd (omega arith)
xor_digit (suc (suc x)) y h k = absurd (omega arith)

-- an operation that works on each run of bits apart works on each bit apart
module _ (op : ℕ → ℕ → ℕ) (on : Bool → Bool → Bool)
    (shr : (a b k : ℕ) → op a b / 2 ^ k ≡ op (a / 2 ^ k) (b / 2 ^ k))
    (low : (a b k : ℕ) → op a b % 2 ^ k ≡ op (a % 2 ^ k) (b % 2 ^ k))
    (digit : (x y : ℕ) → x < 2 → y < 2 → eqb (op x y) 1 ≡ on (eqb x 1) (eqb y 1)) where
  op_at : (a b i : ℕ) → bit_at (op a b) i ≡ on (bit_at a i) (bit_at b i)
  op_at a b i =
      ap (λ (x : ℕ). eqb (x % 2) 1) (shr a b i)
      ∙ ap (λ (x : ℕ). eqb x 1) (low (a / 2 ^ i) (b / 2 ^ i) 1)
      ∙ digit (a / 2 ^ i % 2) (b / 2 ^ i % 2) (mod-lt (a / 2 ^ i) (lit< tt)) (mod-lt (b / 2 ^ i) (lit< tt))

pub or_at_lem : (a b i : ℕ) → bit_at (bit_or a b) i ≡ (bit_at a i || bit_at b i)
or_at_lem = op_at bit_or ◌||◌ or_shr or_mod or_digit

pub and_at_lem : (a b i : ℕ) → bit_at (bit_and a b) i ≡ (bit_at a i && bit_at b i)
and_at_lem = op_at bit_and ◌&&◌ and_shr and_mod and_digit

pub xor_at : (a b i : ℕ) → bit_at (bit_xor a b) i ≡ differ (bit_at a i) (bit_at b i)
xor_at = op_at bit_xor differ xor_shr xor_mod xor_digit

-- ---- bits set and cleared, a word shifted, a word made from bits

pub set_at : (m w i : ℕ) → bit_at (set_of m w) i ≡ (bit_at w i || bit_at m i)
set_at m w i = or_at_lem w m i

set_then_flipped : (a b : Bool) → differ (a || b) b ≡ (a && not b)
set_then_flipped true true = refl
set_then_flipped true false = refl
set_then_flipped false true = refl
set_then_flipped false false = refl

pub clear_at : (m w i : ℕ) → bit_at (clear_of m w) i ≡ (bit_at w i && not (bit_at m i))
clear_at m w i =
    xor_at (bit_or w m) m i
    ∙ ap (λ (t : Bool). differ t (bit_at m i)) (or_at_lem w m i)
    ∙ set_then_flipped (bit_at w i) (bit_at m i)

pub shift_at : (w k i : ℕ) → bit_at (w / 2 ^ k) i ≡ bit_at w (k + i)
shift_at w k i = ap (λ (x : ℕ). eqb (x % 2) 1) (shr-shr w k i)

pub zero_at : (i : ℕ) → bit_at 0 i ≡ false
zero_at i = rw (zero-div (2 ^ i))

lowest : (t : Bool) (m : ℕ) → eqb ((one_if_of t + 2 * m) % 2) 1 ≡ t
lowest true m = eq-eqb ((1 + 2 * m) % 2) 1 (omega arith)
lowest false m = ne_eqb ((0 + 2 * m) % 2) 1 (λ e. omega arith)

halved : (t : Bool) (m : ℕ) → (one_if_of t + 2 * m) / 2 ≡ m
halved true m = omega arith
halved false m = omega arith

pub half_at : (w i : ℕ) → bit_at w (suc i) ≡ bit_at (w / 2) i
half_at w i = rw (pow-succ' 2 i, ← div-div-eq-div-mul w 2 (2 ^ i))

-- ---- words and tables made by index

pub mask_at : (n : ℕ) (f : ℕ → Bool) (i : ℕ) → bit_at (mask_of n f) i ≡ (ltb i n && f i)
unfolding mask_of
mask_at zero f i = zero_at i ∙ sym (ap (λ (t : Bool). t && f i) (leb-suc-zero i))
mask_at (suc n) f zero =
    rw div-one (lowest (f 0) (mask_of n (λ j. f (suc j))))
    ∙ sym (ap (λ (t : Bool). t && f 0) (lt-ltb 0 (suc n) (omega arith)))
mask_at (suc n) f (suc i) =
    half_at (mask_of (suc n) f) i
    ∙ ap (λ (m : ℕ). bit_at m i) (halved (f 0) (mask_of n (λ j. f (suc j))))
    ∙ mask_at n (λ j. f (suc j)) i
    ∙ sym (ap (λ (t : Bool). t && f (suc i)) (leb-suc-suc (suc i) n))

pub mask_at_below : (n : ℕ) (f : ℕ → Bool) (i : ℕ) → i < n → bit_at (mask_of n f) i ≡ f i
mask_at_below n f i h = mask_at n f i ∙ ap (λ (t : Bool). t && f i) (lt-ltb i n h)

mask_lt_suc : (t : Bool) (m p : ℕ) → m < p → one_if_of t + 2 * m < 2 * p
mask_lt_suc true m p h = omega arith
mask_lt_suc false m p h = omega arith

pub mask_lt : (n : ℕ) (f : ℕ → Bool) → mask_of n f < 2 ^ n
unfolding mask_of
mask_lt zero f = lit< tt
mask_lt (suc n) f =
    let rest = mask_of n (λ j. f (suc j)) in
    rw (pow-succ' 2 n) (mask_lt_suc (f 0) rest (2 ^ n) (mask_lt n (λ j. f (suc j))))

module _ {A : Type 0} where
  pub tabulate_at : (n : ℕ) (f : ℕ → A) (i : ℕ) (d : A) → i < n → get_or (tabulate n f) i d ≡ f i
  unfolding tabulate
  tabulate_at zero f i d h = absurd (omega arith)
  tabulate_at (suc n) f zero d h = refl
  tabulate_at (suc n) f (suc i) d h = tabulate_at n (λ j. f (suc j)) i d (omega arith)

  pub tabulate_past : (n : ℕ) (f : ℕ → A) (i : ℕ) (d : A) → n ≤ i → get_or (tabulate n f) i d ≡ d
  unfolding tabulate
  tabulate_past zero f i d h = refl
  tabulate_past (suc n) f zero d h = absurd (omega arith)
  tabulate_past (suc n) f (suc i) d h = tabulate_past n (λ j. f (suc j)) i d (omega arith)

  pub tabulate_length : (n : ℕ) (f : ℕ → A) → length (tabulate n f) ≡ n
  unfolding tabulate
  tabulate_length zero f = refl
  tabulate_length (suc n) f = ap suc (tabulate_length n (λ j. f (suc j)))

  -- a list is the table of its elements
  pub tabulate_get_d : (l : List A) (d : A) → tabulate (length l) (λ i. get_or l i d) ≡ l
  unfolding tabulate
  tabulate_get_d [] d = refl
  tabulate_get_d (x ∷ l) d = ap (λ (r : List A). x ∷ r) (tabulate_get_d l d)

-- ---- two rules that agree at each index make the same

pub mask_same : (n : ℕ) (f g : ℕ → Bool) → ((i : ℕ) → i < n → f i ≡ g i) → mask_of n f ≡ mask_of n g
unfolding mask_of
mask_same zero f g h = refl
mask_same (suc n) f g h =
    ap₂ (λ (t : Bool) (m : ℕ). one_if_of t + 2 * m) (h 0 (omega arith))
    (mask_same n (λ i. f (suc i)) (λ i. g (suc i)) (λ i k. h (suc i) (omega arith)))

pub mask_joins : (n m : ℕ) (f : ℕ → Bool) → mask_of (n + m) f ≡ mask_of n f + 2 ^ n * mask_of m (λ i. f (n + i))
unfolding mask_of
mask_joins zero m f =
    rw (zero-add m, mask_same m (λ i. f (0 + i)) f (λ i h. ap f (zero-add i))) (omega arith)
mask_joins (suc n) m f =
    let above = mask_same m (λ i. f (suc n + i)) (λ i. f (suc (n + i))) (λ i h. ap f (suc-add n i)) in
    rw (suc-add n m, above, pow-succ' 2 n, mul_assoc 2 (2 ^ n) (mask_of m (λ i. f (suc (n + i)))))
    (omega (arith, mask_joins n m (λ i. f (suc i))))

pub mask_none : (n : ℕ) → mask_of n (λ i. false) ≡ 0
unfolding mask_of
mask_none zero = refl
mask_none (suc n) = ap (λ (m : ℕ). 0 + 2 * m) (mask_none n)

pub tabulate_same : {A : Type 0} (n : ℕ) (f g : ℕ → A) → ((i : ℕ) → i < n → f i ≡ g i) → tabulate n f ≡ tabulate n g
unfolding tabulate
tabulate_same zero f g h = refl
tabulate_same (suc n) f g h =
    ap₂ ◌∷◌ (h 0 (omega arith))
    (tabulate_same n (λ i. f (suc i)) (λ i. g (suc i)) (λ i k. h (suc i) (omega arith)))

-- ---- two words are equal if all their bits are

lowest_is_bit : (w : ℕ) → bit_at w 0 ≡ eqb (w % 2) 1
lowest_is_bit w = rw div-one

pub no_bit_is_zero : (w : ℕ) → ((i : ℕ) → bit_at w i ≡ false) → w ≡ 0
no_bit_is_zero =
    bin_ind (λ (w : ℕ). ((i : ℕ) → bit_at w i ≡ false) → w ≡ 0) (λ h. refl)
    (λ w ih h.
    let z : w / 2 ≡ 0 = ih (λ i. sym (half_at w i) ∙ h (suc i)) in
    let q : (w % 2 ≡ 1 → ⊥) = eqb-false (w % 2) 1 (sym (lowest_is_bit w) ∙ h 0) in
    omega arith)

same_lowest : (a b : ℕ) → bit_at a 0 ≡ bit_at b 0 → a % 2 ≡ b % 2
same_lowest a b e =
    by_digit (a % 2) (b % 2) (mod-lt a (lit< tt)) (mod-lt b (lit< tt)) (sym (lowest_is_bit a) ∙ e ∙ lowest_is_bit b)
  where
    by_digit : (x y : ℕ) → x < 2 → y < 2 → eqb x 1 ≡ eqb y 1 → x ≡ y
    by_digit zero zero h k e = refl
    by_digit zero (suc zero) h k e = cc
    by_digit zero (suc (suc y)) h k e = absurd (omega arith)
    by_digit (suc zero) zero h k e = cc
    by_digit (suc zero) (suc zero) h k e = refl
    by_digit (suc zero) (suc (suc y)) h k e = absurd (omega arith)
    by_digit (suc (suc x)) y h k e = absurd (omega arith)

pub words_equal_by_bits : (a b : ℕ) → ((i : ℕ) → bit_at a i ≡ bit_at b i) → a ≡ b
words_equal_by_bits =
    bin_ind (λ (a : ℕ). (b : ℕ) → ((i : ℕ) → bit_at a i ≡ bit_at b i) → a ≡ b)
    (λ b h. sym (no_bit_is_zero b (λ i. sym (h i) ∙ zero_at i)))
    (λ a ih b h.
    let halves : a / 2 ≡ b / 2 = ih (b / 2) (λ i. sym (half_at a i) ∙ h (suc i) ∙ half_at b i) in
    let digits : a % 2 ≡ b % 2 = same_lowest a b (h 0) in
    omega arith)

-- ---- bit i of a run of bits

ones_half : (n : ℕ) → (2 ^ suc n - 1) / 2 ≡ 2 ^ n - 1
ones_half n = rw (pow-succ' 2 n) (omega (arith, pow_pos n))

ones_odd : (n : ℕ) → (2 ^ suc n - 1) % 2 ≡ 1
ones_odd n = rw (pow-succ' 2 n) (omega (arith, pow_pos n))

ones_at : (n i : ℕ) → bit_at (2 ^ n - 1) i ≡ ltb i n
ones_at zero i = zero_at i ∙ sym (leb-suc-zero i)
ones_at (suc n) zero =
    lowest_is_bit (2 ^ suc n - 1) ∙ ap (λ (x : ℕ). eqb x 1) (ones_odd n) ∙ sym (lt-ltb 0 (suc n) (omega arith))
ones_at (suc n) (suc i) =
    half_at (2 ^ suc n - 1) i
    ∙ ap (λ (x : ℕ). bit_at x i) (ones_half n)
    ∙ ones_at n i
    ∙ sym (leb-suc-suc (suc i) n)

pub run_at : (k n i : ℕ) → bit_at (bits_from k n) i ≡ (leb k i && ltb i (k + n))
run_at zero n i = rw (mul-one (2 ^ n - 1), leb-zero i, zero-add n) (ones_at n i)
run_at (suc k) n zero =
    lowest_is_bit (bits_from (suc k) n)
    ∙ ap (λ (x : ℕ). eqb x 1) (shifted_even (2 ^ n - 1) k)
    ∙ sym (ap (λ (t : Bool). t && ltb 0 (suc k + n)) (leb-suc-zero k))
run_at (suc k) n (suc i) =
    half_at (bits_from (suc k) n) i ∙ ap (λ (x : ℕ). bit_at x i) (shifted_half (2 ^ n - 1) k) ∙ run_at k n i
    ∙ sym (ap₂ ◌&&◌ (leb-suc-suc k i) (ap (ltb (suc i)) (suc-add k n) ∙ leb-suc-suc (suc i) (k + n)))

-- ---- the low bits of a word

and_comm : (a b : Bool) → (a && b) ≡ (b && a)
and_comm true true = refl
and_comm true false = refl
and_comm false true = refl
and_comm false false = refl

pub low_at : (n w i : ℕ) → bit_at (w % 2 ^ n) i ≡ (ltb i n && bit_at w i)
low_at n w i =
    ap (λ (x : ℕ). bit_at x i) (sym (and_mask w n))
    ∙ and_at_lem w (2 ^ n - 1) i
    ∙ ap (λ (t : Bool). bit_at w i && t) (ones_at n i)
    ∙ and_comm (bit_at w i) (ltb i n)

pub mask_of_bits : (n w : ℕ) → mask_of n (bit_at w) ≡ w % 2 ^ n
mask_of_bits n w =
    words_equal_by_bits (mask_of n (bit_at w)) (w % 2 ^ n) (λ i. mask_at n (bit_at w) i ∙ sym (low_at n w i))

-- ---- masks at another width, and cleared

pub mask_wider : (n m : ℕ) (f : ℕ → Bool) → n ≤ m → ((i : ℕ) → n ≤ i → f i ≡ false) → mask_of n f ≡ mask_of m f
mask_wider n m f wide none =
    words_equal_by_bits (mask_of n f) (mask_of m f) (λ i. mask_at n f i ∙ go i (ltb i n) refl ∙ sym (mask_at m f i))
  where
    go : (i : ℕ) (t : Bool) → ltb i n ≡ t → (t && f i) ≡ (ltb i m && f i)
    go i true e = ap (λ (t : Bool). t && f i) (sym (lt-ltb i m (omega (arith, ltb-true i n e))))
    go i false e = sym (and_fails (ltb i m) (none i (ltb-false i n e)))

pub clear_mask : (n w : ℕ) (f : ℕ → Bool) → clear_of (mask_of n f) (w % 2 ^ n) ≡ mask_of n (λ i. bit_at w i && not (f i))
clear_mask n w f =
    words_equal_by_bits (clear_of (mask_of n f) (w % 2 ^ n)) (mask_of n (λ i. bit_at w i && not (f i)))
    (λ i.
    clear_at (mask_of n f) (w % 2 ^ n) i
    ∙ ap₂ (λ (t u : Bool). t && not u) (low_at n w i) (mask_at n f i)
    ∙ within (ltb i n) (bit_at w i) (f i)
    ∙ sym (mask_at n (λ i. bit_at w i && not (f i)) i))
  where
    within : (t a b : Bool) → ((t && a) && not (t && b)) ≡ (t && (a && not b))
    within true a b = refl
    within false a b = refl
