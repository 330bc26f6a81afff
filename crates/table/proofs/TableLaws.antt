-- Laws of the table: what stands at a place of one input, and that no pattern but the empty one is rejected.
--     some_at, none_at       a test that holds at an index holds at some; one that holds at none fails at each
--     lowest_holds           the lowest index at which a test holds is below n, and the test holds there
--     lowest_none            where it holds at none, the lowest is n
--     table_bit_lem              bit b of the word at a place that is not 0
--     table_by_places, table_at   a memory with its word at each place is the table; the word at a place of it
--     word_comes_back        the word of an input stands at the place of that input alone
--     table_gives_back       so it does in the whole table
--     taken_words_accept     a table of taken words has level 1 OK and a class at every place but 0
--     shipped_meets_rule, shipped_is_taken   the shipped words are the rule's, and the generator takes them
-- Assumes nothing.
use Prim.Native.Nat.{ℕ, zero, suc, ◌+◌, ◌<◌, ◌^◌}
use mathlib.Core.Path.{◌≡◌, refl, sym, ap, ap₂, ◌∙◌}
use mathlib.Core.Bool.{Bool, true, false, ◌&&◌, ◌||◌, cond, true≢false, false≢true}
use mathlib.Core.List.{List}
use native.Mathlib.Omega.{arith}
use native.Mathlib.Nat.{mod-eq_of_lt}
use lib.Dec.{eqb, ltb, leb}
use lib.ListN.{length, get_or}
use lib.Seq.{ext_get_or}
use lib.Pow.{pow_pos, pow-lt}
use borrow.Author.Tests.{ne_eqb, lt-ltb, le-leb, leb-true, ltb-true, ltb-false}
use Rattle.bits.specs.Bits.{bit_at, bits_from, one_if_of, tabulate, every}
use Rattle.bits.proofs.TestLaws.{and_left, and_right, and_both, or_true, every_at}
use Rattle.bits.proofs.BitsLaws.{mask_at_below, mask_same, mask_of_bits, no_bit_is_zero, run_at, tabulate_at, tabulate_length}
use Rattle.bits.proofs.WidthLaws.{fits_iff_no_bit_outside}
use Rattle.registers.specs.Control.{inputs}
use Rattle.sequencer.specs.MemoryWord.{is_ok_word, class_in_of}
use Rattle.table.specs.Shipped.{ShippedMeetsRule, shipped_words, shipped_word_of, is_shipped}
use Rattle.table.specs.Table.{has_one_class, is_taken_word, are_taken, lowest_of, some_of}
use Rattle.table.specs.Table.{lowest_word, table_bit, table_word_of, table_of}

-- ---- one index of many

pub some_at : (n : ℕ) (f : ℕ → Bool) (i : ℕ) → i < n → f i ≡ true → some_of n f ≡ true
unfolding some_of
some_at zero f i h e = absurd (omega arith)
some_at (suc n) f zero h e = rw e
some_at (suc n) f (suc i) h e =
    or_true (f 0) (some_of n (λ j. f (suc j))) (some_at n (λ j. f (suc j)) i (omega arith) e)

pub none_at : (n : ℕ) (f : ℕ → Bool) → some_of n f ≡ false → (i : ℕ) → i < n → f i ≡ false
none_at n f h i k = go (f i) refl
  where
    go : (t : Bool) → f i ≡ t → f i ≡ false
    go true e = absurd (true≢false (sym (some_at n f i k e) ∙ h))
    go false e = e

pub none_some : (n : ℕ) (f : ℕ → Bool) → ((i : ℕ) → f i ≡ false) → some_of n f ≡ false
unfolding some_of
none_some zero f h = refl
none_some (suc n) f h = rw (h 0) (none_some n (λ i. f (suc i)) (λ i. h (suc i)))

-- ---- the lowest one

pub lowest_none : (n : ℕ) (f : ℕ → Bool) → some_of n f ≡ false → lowest_of n f ≡ n
unfolding some_of lowest_of
lowest_none zero f h = refl
lowest_none (suc n) f h = go (f 0) (lowest_none n (λ i. f (suc i))) h
  where
    go : (t : Bool) {some : Bool} {lowest : ℕ} → (some ≡ false → lowest ≡ n) → (t || some) ≡ false
        → cond t 0 (suc lowest) ≡ suc n
    go true rest k = absurd (true≢false k)
    go false rest k = ap suc (rest k)

-- the lowest index at which a test holds
pub record Holds (n : ℕ) (f : ℕ → Bool) (i : ℕ) : Type 0 where
  pub below : i < n
  pub holds : f i ≡ true

pub lowest_holds : (n : ℕ) (f : ℕ → Bool) → some_of n f ≡ true → Holds n f (lowest_of n f)
unfolding some_of lowest_of
lowest_holds zero f h = absurd (false≢true h)
lowest_holds (suc n) f h = go (f 0) refl (lowest_holds n (λ i. f (suc i))) h
  where
    go : (t : Bool) → f 0 ≡ t → {some : Bool} {lowest : ℕ} → (some ≡ true → Holds n (λ i. f (suc i)) lowest)
        → (t || some) ≡ true → Holds (suc n) f (cond t 0 (suc lowest))
    go true e rest k = record { below = omega arith; holds = e }
    go false e rest k = record { below = omega (arith, (rest k).below); holds = (rest k).holds }

-- ---- the word at a place

-- [Table.6a] bit b of sixteen
pub table_bit_lem : (words : List ℕ) (place b : ℕ) → (place ≡ 0 → ⊥) → b < 16
    → bit_at (table_word_of words place) b ≡ table_bit words place b
unfolding table_word_of
table_bit_lem words place b h k = rw (ne_eqb place 0 h) (mask_at_below 16 (table_bit words place) b k)

-- [Table.4] a memory in which each place has its word is the table
pub table_by_places : (places : ℕ) (words memory : List ℕ) → length memory ≡ places
    → ((k : ℕ) → k < places → get_or memory k 0 ≡ table_word_of words k) → memory ≡ table_of places words
unfolding table_of
table_by_places places words memory long each =
    ext_get_or 0 memory (tabulate places (table_word_of words)) (long ∙ sym (tabulate_length places (table_word_of words)))
    (λ k h.
    let below : k < places = omega (arith, long) in
    each k below ∙ sym (tabulate_at places (table_word_of words) k 0 below))

pub table_at : (places : ℕ) (words : List ℕ) (place : ℕ) → place < places
    → get_or (table_of places words) place 0 ≡ table_word_of words place
unfolding table_of
table_at places words place h = tabulate_at places (table_word_of words) place 0 h

-- ---- a place of one input

one_input_at : (i k : ℕ) → bit_at (2 ^ i) k ≡ (leb i k && ltb k (i + 1))
one_input_at i k =
    let e : 2 ^ i ≡ bits_from i 1 = omega arith in
    ap (λ (w : ℕ). bit_at w k) e ∙ run_at i 1 k

own_input : (i : ℕ) → bit_at (2 ^ i) i ≡ true
own_input i = rw (one_input_at i i, le-leb i i (omega arith), lt-ltb i (i + 1) (omega arith))

only_input : (i k : ℕ) → bit_at (2 ^ i) k ≡ true → k ≡ i
only_input i k h =
    let both : (leb i k && ltb k (i + 1)) ≡ true = sym (one_input_at i k) ∙ h in
    omega (arith, leb-true i k (and_left (leb i k) _ both), ltb-true k (i + 1) (and_right (leb i k) _ both))

own_is_lowest : (i : ℕ) → i < inputs → lowest_of inputs (bit_at (2 ^ i)) ≡ i
own_is_lowest i h =
    only_input i (lowest_of inputs (bit_at (2 ^ i)))
    (lowest_holds inputs (bit_at (2 ^ i)) (some_at inputs (bit_at (2 ^ i)) i h (own_input i))).holds

-- the union over one input is its own bit
own_union : (f : ℕ → Bool) (i : ℕ) → i < inputs → some_of inputs (λ k. bit_at (2 ^ i) k && f k) ≡ f i
own_union f i h = go (f i) refl
  where
    at : (k : ℕ) → f i ≡ false → (bit_at (2 ^ i) k && f k) ≡ false
    at k e = by (bit_at (2 ^ i) k) refl
      where
        by : (t : Bool) → bit_at (2 ^ i) k ≡ t → (t && f k) ≡ false
        by true g = ap f (only_input i k g) ∙ e
        by false g = refl

    go : (t : Bool) → f i ≡ t → some_of inputs (λ k. bit_at (2 ^ i) k && f k) ≡ t
    go true e = some_at inputs (λ k. bit_at (2 ^ i) k && f k) i h (and_both (bit_at (2 ^ i) i) (f i) (own_input i) e)
    go false e = none_some inputs (λ k. bit_at (2 ^ i) k && f k) (λ k. at k e)

-- [Table.7]
pub word_comes_back : (words : List ℕ) (i : ℕ) → i < inputs → get_or words i 0 < 2 ^ 16
    → table_word_of words (2 ^ i) ≡ get_or words i 0
unfolding table_word_of
word_comes_back words i h fits =
    rw (ne_eqb (2 ^ i) 0 (λ e. omega (arith, pow_pos i)))
    (mask_same 16 (table_bit words (2 ^ i)) (bit_at (get_or words i 0)) (λ b k. go b (ltb b 8))
    ∙ mask_of_bits 16 (get_or words i 0)
    ∙ mod-eq_of_lt fits)
  where
    go : (b : ℕ) (t : Bool)
        → cond t (bit_at (lowest_word words (2 ^ i)) b) (some_of inputs (λ k. bit_at (2 ^ i) k && bit_at (get_or words k 0) b))
        ≡ bit_at (get_or words i 0) b
    go b true = ap (λ (k : ℕ). bit_at (get_or words k 0) b) (own_is_lowest i h)
    go b false = own_union (λ k. bit_at (get_or words k 0) b) i h

pub table_gives_back : (words : List ℕ) (i : ℕ) → i < inputs → get_or words i 0 < 2 ^ 16
    → get_or (table_of (2 ^ inputs) words) (2 ^ i) 0 ≡ get_or words i 0
table_gives_back words i h fits =
    table_at (2 ^ inputs) words (2 ^ i) (pow-lt h) ∙ word_comes_back words i h fits

-- ---- no pattern but the empty one is rejected

-- a pattern that is not empty has an input
pattern_has_input : (place : ℕ) → (place ≡ 0 → ⊥) → place < 2 ^ inputs → some_of inputs (bit_at place) ≡ true
pattern_has_input place h below = go (some_of inputs (bit_at place)) refl
  where
    none : some_of inputs (bit_at place) ≡ false → (i : ℕ) → bit_at place i ≡ false
    none e i = by (ltb i inputs) refl
      where
        by : (t : Bool) → ltb i inputs ≡ t → bit_at place i ≡ false
        by true g = none_at inputs (bit_at place) e i (ltb-true i inputs g)
        by false g =
            (fits_iff_no_bit_outside inputs place).0 (lt-ltb place (2 ^ inputs) below) i (ltb-false i inputs g)

    go : (t : Bool) → some_of inputs (bit_at place) ≡ t → t ≡ true
    go true e = refl
    go false e = absurd (h (no_bit_is_zero place (none e)))

-- one class at least: bit 0 and one of bits 1–3
taken_is_ok : (w : ℕ) → is_taken_word w ≡ true → is_ok_word w ≡ true
taken_is_ok w h =
    and_both (bit_at w 0) (bit_at w 1 || (bit_at w 2 || bit_at w 3)) (and_left (bit_at w 0) (has_one_class w) h)
    (by (bit_at w 1) (bit_at w 2) (bit_at w 3) (and_right (bit_at w 0) (has_one_class w) h))
  where
    by : (p q r : Bool) → eqb (one_if_of p + one_if_of q + one_if_of r) 1 ≡ true → (p || (q || r)) ≡ true
    by true q r e = refl
    by false true r e = refl
    by false false true e = refl
    by false false false e = e

-- [Memory.2] [Table.6a] what a word says of level 1 OK and class stands in its bits 0–7
ok_by_low_bits : (v w : ℕ) → ((b : ℕ) → b < 8 → bit_at v b ≡ bit_at w b) → is_ok_word v ≡ is_ok_word w
ok_by_low_bits v w h =
    ap₂ ◌&&◌ (h 0 (omega arith))
    (ap₂ ◌||◌ (h 1 (omega arith)) (ap₂ ◌||◌ (h 2 (omega arith)) (h 3 (omega arith))))

pub taken_words_accept : (words : List ℕ) → are_taken words ≡ true → (place : ℕ) → (place ≡ 0 → ⊥) → place < 2 ^ inputs
    → is_ok_word (table_word_of words place) ≡ true
unfolding are_taken
taken_words_accept words taken place h below =
    let lowest = lowest_holds inputs (bit_at place) (pattern_has_input place h below) in
    ok_by_low_bits (table_word_of words place) (lowest_word words place) (λ b k. low b k)
    ∙ taken_is_ok (lowest_word words place)
    (every_at inputs (λ i. is_taken_word (get_or words i 0)) taken (lowest_of inputs (bit_at place)) lowest.below)
  where
    low : (b : ℕ) → b < 8 → bit_at (table_word_of words place) b ≡ bit_at (lowest_word words place) b
    low b k = table_bit_lem words place b h (omega arith) ∙ rw (lt-ltb b 8 k)

-- ---- the shipped words

-- [Table.7]
pub shipped_meets_rule : ShippedMeetsRule
unfolding every shipped_word_of is_shipped class_in_of
shipped_meets_rule = refl

pub shipped_is_taken : are_taken shipped_words ≡ true
unfolding are_taken every
shipped_is_taken = refl
