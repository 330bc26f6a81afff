-- Laws of a run of bytes: each bit of the word that it makes, and which runs there are.
--     overlaid_at        bit i is the value's where the run holds its byte, and the old one's elsewhere
--     whole_is_run       the whole run is one
--     nth_is_held, rest_is_within, past_is_no_run   the tests of `holds` and `is_run`
--     bytes_are_mask     the run's bytes as four masks, for `mask`
--     set_is_overlaid    the value's bits set in the old word without them, for `overlaid`
--     run_is_of_ten      the ten are runs, and there is no other
-- Assumes nothing.
use Rattle.std.specs.Prelude.{if◌then◌else◌}
use Prim.Native.Nat.{ℕ, ◌+◌, ◌-◌, ◌^◌, ◌<◌, ◌≤◌}
use mathlib.Core.Path.{◌≡◌, refl, sym, ap, ap₂, ◌∙◌}
use mathlib.Core.Bool.{Bool, true, false, not, ◌&&◌, ◌||◌, cond}
use native.Mathlib.Omega.{arith}
use lib.Bits.{bit_and, bit_or}
use lib.Dec.{eqb, ltb, leb}
use borrow.Author.Tests.{eqb-true, ne_eqb, leb-true, leb-false, le-leb, lt-leb, lt-ltb, le-ltb, ltb-true, ltb-false}
use Rattle.bits.specs.Bits.{bit_at, mask_of, every, set_of, clear_of}
use Rattle.bits.proofs.TestLaws.{and_left, and_right, and_fails, every_at}
use Rattle.bits.proofs.BitsLaws.{mask_at, mask_at_below, set_at, clear_at, and_at_lem, words_equal_by_bits}
use Rattle.bits.proofs.WidthLaws.{fits_iff_no_bit_outside}
use Rattle.run.specs.Run.{word_bytes, word_bits, byte_of, run, whole, is_whole_of, is_run_of, ten_runs, holds_byte, holds_bit}
use Rattle.run.specs.Run.{byte_mask_of, overlaid_of, is_in}
use Rattle.run.specs.declared.Run.{Run}

-- ---- the whole run

pub whole_is_run : is_run_of whole ≡ true
unfolding is_run_of
whole_is_run = refl

-- ---- bit by bit

-- a run that is the whole one holds every byte
whole_holds : (r : Run) → is_whole_of r ≡ true → (i : ℕ) → holds_bit r i ≡ true
unfolding holds_byte
whole_holds r h i =
    let first : r.first ≡ 0 = eqb-true r.first 0 (and_left (eqb r.first 0) (eqb r.count 4) h) in
    let count : r.count ≡ 4 = eqb-true r.count 4 (and_right (eqb r.first 0) (eqb r.count 4) h) in
    rw (le-leb r.first (byte_of i) (omega arith), lt-ltb (byte_of i) (r.first + r.count) (omega arith))

-- [Bytes.3a]
pub overlaid_at : (r : Run) (old v i : ℕ) → i < word_bits
    → bit_at (overlaid_of r old v) i ≡ (if holds_bit r i then bit_at v i else bit_at old i)
unfolding overlaid_of
overlaid_at r old v i h = go (is_whole_of r) refl
  where
    pick : ℕ → Bool
    pick j = if holds_bit r j then bit_at v j else bit_at old j

    go : (t : Bool) → is_whole_of r ≡ t → bit_at (cond t v (mask_of word_bits pick)) i ≡ pick i
    go true e = ap (λ (t : Bool). cond t (bit_at v i) (bit_at old i)) (sym (whole_holds r e i))
    go false e = mask_at_below word_bits pick i h

-- ---- the code's tests, which add nothing: the sum of any two numbers need not fit

pub nth_is_held : (first count b : ℕ) → first ≤ b → ltb (b - first) count ≡ ltb b (first + count)
nth_is_held first count b h = go (ltb b (first + count)) refl
  where
    go : (t : Bool) → ltb b (first + count) ≡ t → ltb (b - first) count ≡ t
    go true e = let k = ltb-true b (first + count) e in lt-ltb (b - first) count (omega arith)
    go false e = let k = ltb-false b (first + count) e in le-ltb (b - first) count (omega arith)

-- [Bytes.11]
pub rest_is_within : (first count : ℕ) → first < word_bytes → leb count (word_bytes - first) ≡ leb (first + count) word_bytes
rest_is_within first count h = go (leb (first + count) word_bytes) refl
  where
    go : (t : Bool) → leb (first + count) word_bytes ≡ t → leb count (word_bytes - first) ≡ t
    go true e = let k = leb-true (first + count) word_bytes e in le-leb count (word_bytes - first) (omega arith)
    go false e = let k = leb-false (first + count) word_bytes e in lt-leb count (word_bytes - first) (omega arith)

-- [Bytes.11] from the fifth byte on nothing is left, even for an empty one
pub past_is_no_run : (first count : ℕ) → word_bytes ≤ first → is_run_of (run first count) ≡ false
unfolding is_run_of
past_is_no_run first count h = go (leb 1 count) refl
  where
    go : (t : Bool) → leb 1 count ≡ t → (t && leb (first + count) word_bytes) ≡ false
    go true e = let k = leb-true 1 count e in lt-leb (first + count) word_bytes (omega arith)
    go false e = refl

-- ---- the code's masks

-- by the bytes that are held
abbrev held_bytes : (h0 h1 h2 h3 : Bool) → (b : ℕ) → Bool
held_bytes h0 h1 h2 h3 b = if eqb b 0 then h0 else if eqb b 1 then h1 else if eqb b 2 then h2 else h3

abbrev part : Bool → ℕ → ℕ
part t mask = if t then mask else 0

-- [Bytes.2]
four_masks : (h0 h1 h2 h3 : Bool)
    → mask_of word_bits (λ i. held_bytes h0 h1 h2 h3 (byte_of i))
    ≡ bit_or (bit_or (bit_or (part h0 0xFF000000) (part h1 0x00FF0000)) (part h2 0x0000FF00)) (part h3 0x000000FF)
unfolding mask_of
four_masks true true true true = refl
four_masks true true true false = refl
four_masks true true false true = refl
four_masks true true false false = refl
four_masks true false true true = refl
four_masks true false true false = refl
four_masks true false false true = refl
four_masks true false false false = refl
four_masks false true true true = refl
four_masks false true true false = refl
four_masks false true false true = refl
four_masks false true false false = refl
four_masks false false true true = refl
four_masks false false true false = refl
four_masks false false false true = refl
four_masks false false false false = refl

pub bytes_are_mask : (r : Run)
    → bit_or (bit_or (bit_or (part (holds_byte r 0) 0xFF000000) (part (holds_byte r 1) 0x00FF0000))
    (part (holds_byte r 2) 0x0000FF00)) (part (holds_byte r 3) 0x000000FF)
    ≡ byte_mask_of r
unfolding mask_of
bytes_are_mask r = sym (four_masks (holds_byte r 0) (holds_byte r 1) (holds_byte r 2) (holds_byte r 3))

-- ---- the code's word

set_or_kept : (held a b : Bool) → ((b && not held) || (a && held)) ≡ cond held a b
set_or_kept true true true = refl
set_or_kept true true false = refl
set_or_kept true false true = refl
set_or_kept true false false = refl
set_or_kept false true true = refl
set_or_kept false true false = refl
set_or_kept false false true = refl
set_or_kept false false false = refl

pub set_is_overlaid : (r : Run) (old v : ℕ) → old < 2 ^ word_bits → v < 2 ^ word_bits
    → set_of (bit_and v (byte_mask_of r)) (clear_of (byte_mask_of r) old)
    ≡ mask_of word_bits (λ i. if holds_bit r i then bit_at v i else bit_at old i)
set_is_overlaid r old v hold hv = words_equal_by_bits _ _ (λ i. at i (ltb i word_bits) refl)
  where
    m : ℕ
    m = byte_mask_of r

    pick : ℕ → Bool
    pick j = if holds_bit r j then bit_at v j else bit_at old j

    bits : (i : ℕ) → bit_at (set_of (bit_and v m) (clear_of m old)) i ≡ cond (bit_at m i) (bit_at v i) (bit_at old i)
    bits i =
        set_at (bit_and v m) (clear_of m old) i
        ∙ ap₂ (λ (s t : Bool). s || t) (clear_at m old i) (and_at_lem v m i)
        ∙ set_or_kept (bit_at m i) (bit_at v i) (bit_at old i)

    at : (i : ℕ) (t : Bool) → ltb i word_bits ≡ t
        → bit_at (set_of (bit_and v m) (clear_of m old)) i ≡ bit_at (mask_of word_bits pick) i
    at i true e =
        let h : i < word_bits = ltb-true i word_bits e in
        bits i
        ∙ ap (λ (t : Bool). cond t (bit_at v i) (bit_at old i)) (mask_at_below word_bits (holds_bit r) i h)
        ∙ sym (mask_at_below word_bits pick i h)
    at i false e =
        let h : word_bits ≤ i = ltb-false i word_bits e in
        let none : (w : ℕ) → w < 2 ^ word_bits → bit_at w i ≡ false =
        λ w k. (fits_iff_no_bit_outside word_bits w).0 (lt-ltb w (2 ^ word_bits) k) i h in
        bits i ∙ rw (none v hv, none old hold, mask_at word_bits (holds_bit r) i, mask_at word_bits pick i, e)

-- ---- which runs there are

same : Bool → Bool → Bool
same true u = u
same false u = not u

same_is_equal : (t u : Bool) → same t u ≡ true → t ≡ u
unfolding same
same_is_equal true true h = refl
same_is_equal true false h = sym h
same_is_equal false true h = h
same_is_equal false false h = refl

abbrev is_of_ten : (first count : ℕ) → Bool
is_of_ten first count = same (is_run_of (run first count)) (is_in (run first count) ten_runs)

of_ten_below_five : every 5 (λ first. every 5 (is_of_ten first)) ≡ true
unfolding is_run_of every same
of_ten_below_five = refl

-- past the four bytes there is neither a run nor one of the ten
far_is_no_run : (first count : ℕ) → word_bytes < first + count → is_run_of (run first count) ≡ false
unfolding is_run_of
far_is_no_run first count h = and_fails (leb 1 count) (lt-leb (first + count) word_bytes h)

far_first_is_none : (first count : ℕ) → word_bytes < first → is_in (run first count) ten_runs ≡ false
far_first_is_none first count h =
    rw (
      ne_eqb first 0 (λ e. omega arith),
      ne_eqb first 1 (λ e. omega arith),
      ne_eqb first 2 (λ e. omega arith),
      ne_eqb first 3 (λ e. omega arith),
    )

far_count_is_none : (first count : ℕ) → word_bytes < count → is_in (run first count) ten_runs ≡ false
far_count_is_none first count h =
    rw (
      ne_eqb count 1 (λ e. omega arith),
      ne_eqb count 2 (λ e. omega arith),
      ne_eqb count 3 (λ e. omega arith),
      ne_eqb count 4 (λ e. omega arith),
      and_fails (eqb first 0) refl,
      and_fails (eqb first 1) refl,
      and_fails (eqb first 2) refl,
      and_fails (eqb first 3) refl,
    )

-- [Bytes.2] [Bytes.11] the ten are runs, and there is no other
pub run_is_of_ten : (first count : ℕ) → is_run_of (run first count) ≡ is_in (run first count) ten_runs
run_is_of_ten first count = go (ltb first 5) refl (ltb count 5) refl
  where
    go : (t : Bool) → ltb first 5 ≡ t → (u : Bool) → ltb count 5 ≡ u
        → is_run_of (run first count) ≡ is_in (run first count) ten_runs
    go true e true f =
        same_is_equal (is_run_of (run first count)) (is_in (run first count) ten_runs)
        (every_at 5 (is_of_ten first) (every_at 5 (λ k. every 5 (is_of_ten k)) of_ten_below_five first (ltb-true first 5 e))
        count (ltb-true count 5 f))
    go false e u f =
        let far = ltb-false first 5 e in
        far_is_no_run first count (omega arith) ∙ sym (far_first_is_none first count (omega arith))
    go true e false f =
        let far = ltb-false count 5 f in
        far_is_no_run first count (omega arith) ∙ sym (far_count_is_none first count (omega arith))
