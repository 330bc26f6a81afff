-- Words seen as bits: one bit, a run of bits, words and tables made by index, bits set and cleared, widths.
--     document 01        "Registers": the bits and widths that its sentences speak of
--     bit_at w i          bit i of the word w
--     bits_from i n       the word whose bits i, i + 1, .., n of them, are set
--     mask_of n f         the word whose bit i, for each i below n, is f i
--     tabulate n f       the list f 0, f 1, .., n of them
--     every n f          f holds at each i below n
--     all_true ts         every test of a list holds
--     set_of, clear_of     a word with the bits of another one set, or cleared
--     fits_in n w         w has no bit outside n bits
--     has_only m w        w has no bit outside those of m
--     NoBitOutside, NoBitOutsideOf   what these two tests find, said of each bit
-- Own rules of 01 used here: none. Decisions: none. Left out: nothing.
-- Assumes nothing.
use Rattle.std.specs.Prelude.{ℕ, zero, suc, ◌+◌, ◌-◌, ◌*◌, ◌/◌, ◌%◌, ◌^◌, ◌≤◌, ◌≡◌, Bool, true, false, ◌&&◌, List, [], ◌∷◌, eqb, ltb, if◌then◌else◌}
use Rattle.std.specs.Int.Bits.{bit_or, bit_xor}

-- ---- one bit, and a run of bits

abbrev pub bit_at : (w i : ℕ) → Bool
bit_at w i = eqb (w / 2 ^ i % 2) 1

abbrev pub bits_from : (i n : ℕ) → ℕ
bits_from i n = (2 ^ n - 1) * 2 ^ i

-- ---- words and tables made by index

abbrev pub one_if_of : Bool → ℕ
one_if_of t = if t then 1 else 0

unfoldable pub mask_of : (n : ℕ) → (ℕ → Bool) → ℕ
mask_of zero f = 0
mask_of (suc n) f = one_if_of (f 0) + 2 * mask_of n (λ i. f (suc i))

unfoldable pub tabulate : {A : Type 0} → (n : ℕ) → (ℕ → A) → List A
tabulate zero f = []
tabulate (suc n) f = f 0 ∷ tabulate n (λ i. f (suc i))

unfoldable pub every : (n : ℕ) → (ℕ → Bool) → Bool
every zero f = true
every (suc n) f = f 0 && every n (λ i. f (suc i))

abbrev pub all_true : List Bool → Bool
all_true [] = true
all_true (t ∷ ts) = t && all_true ts

-- ---- bits set and cleared

abbrev pub set_of : (m w : ℕ) → ℕ
set_of m w = bit_or w m

-- set first and then flipped: so no width of the word has to be known
abbrev pub clear_of : (m w : ℕ) → ℕ
clear_of m w = bit_xor (bit_or w m) m

-- ---- no bit outside

abbrev pub fits_in : (n w : ℕ) → Bool
fits_in n w = ltb w (2 ^ n)

abbrev pub has_only : (m w : ℕ) → Bool
has_only m w = eqb (bit_or w m) m

abbrev pub NoBitOutside : (n w : ℕ) → Type 0
NoBitOutside n w = (i : ℕ) → n ≤ i → bit_at w i ≡ false

abbrev pub NoBitOutsideOf : (m w : ℕ) → Type 0
NoBitOutsideOf m w = (i : ℕ) → bit_at m i ≡ false → bit_at w i ≡ false
