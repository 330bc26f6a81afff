-- The code goes from the highest input down and puts each word over what it has: bits 0–7 of the new word, and the accept bits
-- of both. What it has in the end is the word of the definition.
--     gathered       what is made of n inputs
--     gathered_from_lem, gathered_down   .. one input more, at the low end
--     gathered_all   .. of all inputs
--     gathered_is_table   of all inputs it is the table's word
-- Assumes nothing.
use Rattle.std.specs.Prelude.{if◌then◌else◌}
use Prim.Native.Nat.{ℕ, zero, suc, ◌+◌, ◌-◌, ◌<◌, ◌≤◌, ◌^◌}
use mathlib.Core.Path.{◌≡◌, refl, sym, ap, ap₂, ◌∙◌}
use mathlib.Core.Bool.{Bool, true, false, ◌&&◌, ◌||◌, cond}
use mathlib.Core.List.{List}
use native.Mathlib.Omega.{arith}
use native.Mathlib.Nat.{mod-eq_of_lt, add-zero, zero-add, add-suc, suc-add}
use lib.Bits.{bit_and}
use lib.Dec.{eqb, ltb, leb}
use lib.ListN.{get_or}
use borrow.Author.Tests.{lt-ltb, le-leb, lt-leb, eqb-true, ltb-true, ltb-false}
use Rattle.bits.specs.Bits.{bit_at, mask_of}
use Rattle.bits.proofs.TestLaws.{and_true, and_fails}
use Rattle.bits.proofs.BitsLaws.{or_at_lem, and_at_lem, zero_at, run_at, mask_same, mask_of_bits}
use Rattle.registers.specs.Control.{inputs}
use Rattle.table.specs.Table.{over_of, lowest_of, some_of, lowest_word, table_bit, table_word_of}
use Rattle.table.proofs.TableLaws.{lowest_none}

-- ---- an input's word over the others

over_at : (w rest b : ℕ) → bit_at (over_of w rest) b ≡ (bit_at w b || (bit_at rest b && (leb 8 b && ltb b 16)))
over_at w rest b =
    or_at_lem w (bit_and rest 0xFF00) b
    ∙ ap (λ (t : Bool). bit_at w b || t) (and_at_lem rest 0xFF00 b ∙ ap (λ (t : Bool). bit_at rest b && t) (run_at 8 8 b))

or_no : (p : Bool) {q : Bool} → q ≡ false → (p || q) ≡ p
or_no true e = refl
or_no false e = e

over_low : (w rest b : ℕ) → b < 8 → bit_at (over_of w rest) b ≡ bit_at w b
over_low w rest b h =
    over_at w rest b
    ∙ or_no (bit_at w b) (and_fails (bit_at rest b) (ap (λ (t : Bool). t && ltb b 16) (lt-leb 8 b h)))

over_high : (w rest b : ℕ) → 8 ≤ b → b < 16 → bit_at (over_of w rest) b ≡ (bit_at w b || bit_at rest b)
over_high w rest b h k =
    over_at w rest b
    ∙ ap (λ (t : Bool). bit_at w b || t)
    (ap (λ (t : Bool). bit_at rest b && t) (ap₂ ◌&&◌ (le-leb 8 b h) (lt-ltb b 16 k)) ∙ sym (and_true (bit_at rest b)))

-- ---- what is made of n inputs; t: an input is in the pattern, f: its word

unfoldable pub gathered : (n : ℕ) → (t : ℕ → Bool) → (f : ℕ → ℕ) → ℕ
gathered zero t f = 0
gathered (suc n) t f =
    let rest = gathered n (λ i. t (suc i)) (λ i. f (suc i)) in
    if t 0 then over_of (f 0) rest else rest

-- what the loop has where it has come down to input i
abbrev pub gathered_from : (i n : ℕ) → (words : List ℕ) (place : ℕ) → ℕ
gathered_from i n words place = gathered n (λ k. bit_at place (i + k)) (λ k. get_or words (i + k) 0)

pub gathered_from_lem : (i n : ℕ) (words : List ℕ) (place : ℕ)
    → gathered_from i (suc n) words place
    ≡ (if bit_at place i then over_of (get_or words i 0) (gathered_from (suc i) n words place)
    else gathered_from (suc i) n words place)
unfolding gathered
gathered_from_lem i n words place =
    ap₂ (λ (k rest : ℕ). if bit_at place k then over_of (get_or words k 0) rest else rest) (add-zero i)
    (λ j. gathered n (λ k. bit_at place (next k j)) (λ k. get_or words (next k j) 0))
  where
    next : (k : ℕ) → i + suc k ≡ suc i + k
    next k = add-suc i k ∙ sym (suc-add i k)

-- where it has come down to the lowest
pub gathered_all : (n : ℕ) (words : List ℕ) (place : ℕ)
    → gathered_from 0 n words place ≡ gathered n (bit_at place) (λ k. get_or words k 0)
gathered_all n words place = λ j. gathered n (λ k. bit_at place (zero-add k j)) (λ k. get_or words (zero-add k j) 0)

-- the loop's step, from i to the input below it
pub gathered_down : (i : ℕ) (words : List ℕ) (place : ℕ) → 0 < i → i ≤ inputs → (t : Bool) → bit_at place (i - 1) ≡ t
    → gathered_from (i - 1) (inputs - (i - 1)) words place
    ≡ (if t then over_of (get_or words (i - 1) 0) (gathered_from i (inputs - i) words place)
    else gathered_from i (inputs - i) words place)
gathered_down i words place low high t e =
    let more : inputs - (i - 1) ≡ suc (inputs - i) = omega arith in
    let up : suc (i - 1) ≡ i = omega arith in
    ap (λ (n : ℕ). gathered_from (i - 1) n words place) more
    ∙ gathered_from_lem (i - 1) (inputs - i) words place
    ∙ ap₂ (λ (k : ℕ) (p : Bool). if p then over_of (get_or words (i - 1) 0) (gathered_from k (inputs - i) words place)
    else gathered_from k (inputs - i) words place) up e

gathered_low : (n : ℕ) (t : ℕ → Bool) (f : ℕ → ℕ) (b : ℕ) → b < 8
    → bit_at (gathered n t f) b ≡ (some_of n t && bit_at (f (lowest_of n t)) b)
unfolding gathered some_of lowest_of
gathered_low zero t f b h = zero_at b
gathered_low (suc n) t f b h = go (t 0) _ _ _ (gathered_low n (λ i. t (suc i)) (λ i. f (suc i)) b h)
  where
    go : (now : Bool) (rest : ℕ) (some : Bool) (lowest : ℕ) → bit_at rest b ≡ (some && bit_at (f (suc lowest)) b)
        → bit_at (cond now (over_of (f 0) rest) rest) b ≡ ((now || some) && bit_at (f (cond now 0 (suc lowest))) b)
    go true rest some lowest e = over_low (f 0) rest b h
    go false rest some lowest e = e

gathered_high : (n : ℕ) (t : ℕ → Bool) (f : ℕ → ℕ) (b : ℕ) → 8 ≤ b → b < 16
    → bit_at (gathered n t f) b ≡ some_of n (λ i. t i && bit_at (f i) b)
unfolding gathered some_of
gathered_high zero t f b h k = zero_at b
gathered_high (suc n) t f b h k = go (t 0) _ (gathered_high n (λ i. t (suc i)) (λ i. f (suc i)) b h k)
  where
    go : (now : Bool) (rest : ℕ) {some : Bool} → bit_at rest b ≡ some
        → bit_at (cond now (over_of (f 0) rest) rest) b ≡ ((now && bit_at (f 0) b) || some)
    go true rest e = over_high (f 0) rest b h k ∙ ap (λ (r : Bool). bit_at (f 0) b || r) e
    go false rest e = e

gathered_none : (n : ℕ) (t : ℕ → Bool) (f : ℕ → ℕ) → ((i : ℕ) → t i ≡ false) → gathered n t f ≡ 0
unfolding gathered
gathered_none zero t f h = refl
gathered_none (suc n) t f h = rw (h 0) (gathered_none n (λ i. t (suc i)) (λ i. f (suc i)) (λ i. h (suc i)))

-- [Table.5] [Table.6a] twelve words of sixteen bits: there is none behind the twelfth, and no bit above the sixteenth
pub gathered_is_table : (words : List ℕ) (place : ℕ) → get_or words inputs 0 ≡ 0
    → gathered inputs (bit_at place) (λ i. get_or words i 0) < 2 ^ 16
    → gathered inputs (bit_at place) (λ i. get_or words i 0) ≡ table_word_of words place
unfolding table_word_of
gathered_is_table words place twelve fits = go (eqb place 0) refl
  where
    word : ℕ
    word = gathered inputs (bit_at place) (λ i. get_or words i 0)

    -- where no input is in the pattern the lowest is the thirteenth, whose word is 0
    lowest : (b : ℕ) (t : Bool) → some_of inputs (bit_at place) ≡ t
        → (t && bit_at (lowest_word words place) b) ≡ bit_at (lowest_word words place) b
    lowest b true e = refl
    lowest b false e =
        sym (ap (λ (k : ℕ). bit_at (get_or words k 0) b) (lowest_none inputs (bit_at place) e)
        ∙ ap (λ (w : ℕ). bit_at w b) twelve ∙ zero_at b)

    bit : (b : ℕ) → b < 16 → (t : Bool) → ltb b 8 ≡ t
        → bit_at word b
        ≡ cond t (bit_at (lowest_word words place) b) (some_of inputs (λ i. bit_at place i && bit_at (get_or words i 0) b))
    bit b k true e =
        gathered_low inputs (bit_at place) (λ i. get_or words i 0) b (ltb-true b 8 e)
        ∙ lowest b (some_of inputs (bit_at place)) refl
    bit b k false e = gathered_high inputs (bit_at place) (λ i. get_or words i 0) b (ltb-false b 8 e) k

    go : (t : Bool) → eqb place 0 ≡ t → word ≡ cond t 0 (mask_of 16 (table_bit words place))
    go true e =
        gathered_none inputs (bit_at place) (λ i. get_or words i 0)
        (λ i. ap (λ (p : ℕ). bit_at p i) (eqb-true place 0 e) ∙ zero_at i)
    go false e =
        sym (mod-eq_of_lt fits) ∙ sym (mask_of_bits 16 word)
        ∙ mask_same 16 (bit_at word) (table_bit words place) (λ b k. bit b k (ltb b 8) refl)
