-- Laws of the fields of a line: a field is read from what is left of the line, and the definitions speak of places in the whole.
--     digits_next, number_next   digits read one by one
--     field_found, field_short, field_bad   when what is left begins with a field
--     fields_after, number_after   what is left after a field, at its place in the whole
--     one_field, two_fields, three_fields   a line of so many fields, and nothing after them
--     by_letter, other_letter, no_letter   what a line asks, by its letter
-- Assumes nothing.
use Prim.Native.Nat.{ℕ, zero, suc, ◌+◌, ◌*◌, ◌<◌, ◌≤◌, ◌^◌}
use mathlib.Core.Path.{◌≡◌, refl, sym, ap, ◌∙◌}
use mathlib.Core.Bool.{Bool, true, false, cond, ◌&&◌}
use mathlib.Core.List.{List, [], ◌∷◌}
use native.Mathlib.Omega.{arith}
use native.Mathlib.Numerals.{add-one}
use lib.Dec.{eqb}
use lib.ListN.{length, take, drop, get_or, length-drop}
use borrow.Author.Count.{below_more}
use borrow.Author.Tests.{eq-eqb, ne_eqb}
use Rattle.std.proofs.lemmas.Bool.Decides.{nat_tests}
use Rattle.std.proofs.lemmas.List.{get_or-drop, get_or-take, get_or_past}
use Rattle.bits.specs.Bits.{every}
use Rattle.bits.proofs.TestLaws.{and_both, and_fails, at_every, every_at, every_fails}
use Rattle.text.specs.Text.{tab, is_digit_of, digit_of}
use Rattle.reader.specs.Reader.{byte_of, has_digits_of, has_field_of, has_fields, number_at}
use Rattle.reader.specs.Reader.{has_form, command_of}
use Rattle.reader.specs.Fields.{Field}
use Rattle.reader.specs.declared.Command.TheVariants.{WriteRegister, ReadRegister, WriteMemory}
use Rattle.reader.specs.declared.Command.TheVariants.{ReadMemory, Tick, Other}
use Rattle.reader.specs.declared.Command.{Command}
use Rattle.std.specs.Bool.{then_some}
use Rattle.std.proofs.Common.{◌≢◌, Some, if◌then◌else◌}
use Rattle.std.specs.Option.{unwrap_or}

-- ---- two places with the same bytes

every_same : (n : ℕ) (f g : ℕ → Bool) → ((i : ℕ) → i < n → f i ≡ g i) → every n f ≡ every n g
unfolding every
every_same zero f g h = refl
every_same (suc n) f g h =
    λ j. h 0 (omega arith) j && every_same n (λ i. f (suc i)) (λ i. g (suc i)) (λ i k. h (suc i) (omega arith)) j

module _ (l m : List ℕ) (a b : ℕ) where
  abbrev Same : ℕ → Type 0
  Same n = (i : ℕ) → i < n → byte_of l (a + i) ≡ byte_of m (b + i)

  pub same_digits : (n : ℕ) → Same n → has_digits_of l a n ≡ has_digits_of m b n
  same_digits n h = every_same n _ _ (λ i k. ap is_digit_of (h i k))

  pub same_number : (n : ℕ) → Same n → number_at l a n ≡ number_at m b n
  unfolding number_at
  same_number zero h = refl
  same_number (suc n) h =
      λ j. 16 * same_number n (λ i k. h i (omega arith)) j + digit_of (h n (omega arith) j)

-- ---- digits

pub digits_none : (l : List ℕ) → has_digits_of l 0 0 ≡ true
unfolding every
digits_none l = refl

from_start : {t : Bool} (l : List ℕ) (i : ℕ) → is_digit_of (get_or l i 0) ≡ t → is_digit_of (byte_of l (0 + i)) ≡ t
from_start l i d =
    let e : 0 + i ≡ i = omega arith in
    rw e d

pub digits_next : (l : List ℕ) (n : ℕ) → has_digits_of l 0 n ≡ true → is_digit_of (get_or l n 0) ≡ true → has_digits_of l 0 (n + 1) ≡ true
digits_next l n h d =
    at_every (n + 1) _ (λ k less. below_more (λ (i : ℕ). is_digit_of (byte_of l (0 + i)) ≡ true) n (every_at n _ h) (from_start l n d) k less)

pub digits_stop : (l : List ℕ) (n i : ℕ) → i < n → is_digit_of (get_or l i 0) ≡ false → has_digits_of l 0 n ≡ false
digits_stop l n i less d = every_fails n _ i less (from_start l i d)

pub was_digit : (t : Bool) {d v : ℕ} → Some d ≡ then_some t v → (t ≡ true) × (d ≡ v)
was_digit true e = (refl, cc)
was_digit false e = absurd cc

pub number_none : (l : List ℕ) → number_at l 0 0 ≡ 0
unfolding number_at
number_none l = refl

pub number_next : (l : List ℕ) (n : ℕ) → number_at l 0 (n + 1) ≡ 16 * number_at l 0 n + digit_of (get_or l n 0)
unfolding number_at
number_next l n =
    let e : 0 + n ≡ n = omega arith in
    rw (add-one n, e) refl

-- ---- fields

-- the n bytes behind the tab
taken : (b : ℕ) (r : List ℕ) (n : ℕ) → (i : ℕ) → i < n → byte_of (b ∷ r) (1 + i) ≡ byte_of (take n r) (0 + i)
taken b r n i h =
    let e : 1 + i ≡ suc i = omega arith in
    let z : 0 + i ≡ i = omega arith in
    rw (e, z) (sym (get_or-take n r i 0 h))

pub field_found : (b : ℕ) (r : List ℕ) (n v : ℕ) → b ≡ tab → n ≤ length r → has_digits_of (take n r) 0 n ≡ true →
    v ≡ number_at (take n r) 0 n → v < 16 ^ n → Field (b ∷ r) n v (drop n r)
field_found b r n v e h d k f =
    record {
      form = and_both (eqb b tab) (has_digits_of (b ∷ r) 1 n) (eq-eqb b tab e) (same_digits (b ∷ r) (take n r) 1 0 n (taken b r n) ∙ d);
      value = k ∙ sym (same_number (b ∷ r) (take n r) 1 0 n (taken b r n));
      bound = f;
      follows = rw (add-one n) refl;
      within = omega (arith, length-drop n r);
    }

pub field_bad : (b : ℕ) (r : List ℕ) (n : ℕ) → has_digits_of (take n r) 0 n ≡ false → has_field_of (b ∷ r) 0 n ≡ false
field_bad b r n d = and_fails (eqb b tab) (same_digits (b ∷ r) (take n r) 1 0 n (taken b r n) ∙ d)

past : (b : ℕ) (r : List ℕ) → is_digit_of (byte_of (b ∷ r) (1 + length r)) ≡ false
unfolding is_digit_of
past b r =
    let e : 1 + length r ≡ suc (length r) = omega arith in
    rw (e, get_or_past r (length r) 0 (omega arith)) refl

pub field_short : (b : ℕ) (r : List ℕ) (n : ℕ) → length r < n → has_field_of (b ∷ r) 0 n ≡ false
field_short b r n h = and_fails (eqb b tab) (every_fails n _ (length r) h (past b r))

-- ---- what is left after a field

shift : (k at : ℕ) (l : List ℕ) (counts : List ℕ) → k ≤ length l → has_fields (drop k l) at counts ≡ has_fields l (k + at) counts
shift k at l [] h = rw (length-drop k l) (grind (arith, nat_tests))
shift k at l (n ∷ ns) h =
    let e : k + (at + 1 + n) ≡ k + at + 1 + n = omega arith in
    λ j. (eqb (get_or-drop k l at 0 j) tab && same_digits (drop k l) l (at + 1) (k + at + 1) n (λ i less. moved i) j)
    && (shift k (at + 1 + n) l ns h ∙ ap (λ (m : ℕ). has_fields l m ns) e) j
  where
    moved : (i : ℕ) → byte_of (drop k l) (at + 1 + i) ≡ byte_of l (k + at + 1 + i)
    moved i =
        let e : k + (at + 1 + i) ≡ k + at + 1 + i = omega arith in
        get_or-drop k l (at + 1 + i) 0 ∙ ap (byte_of l) e

pub fields_after : (l : List ℕ) (n v : ℕ) (r : List ℕ) (ns : List ℕ) → Field l n v r → has_fields l 0 (n ∷ ns) ≡ has_fields r 0 ns
fields_after l n v r ns f =
    let e : n + 1 + 0 ≡ 1 + n = omega arith in
    rw f.form (sym (ap (λ (m : List ℕ). has_fields m 0 ns) f.follows ∙ shift (n + 1) 0 l ns (omega arith) ∙ ap (λ (m : ℕ). has_fields l m ns) e))

pub number_after : (l : List ℕ) (n v : ℕ) (r : List ℕ) (at m : ℕ) → Field l n v r → number_at r at m ≡ number_at l (n + 1 + at) m
number_after l n v r at m f =
    let follows = f.follows in
    same_number r l at (n + 1 + at) m (λ i less.
    let e : n + 1 + (at + i) ≡ n + 1 + at + i = omega arith in
    ap (λ (t : List ℕ). byte_of t (at + i)) follows ∙ get_or-drop (n + 1) l (at + i) 0 ∙ ap (byte_of l) e)

-- ---- a line of one, two or three fields, and nothing after them

pub one_field : {l r : List ℕ} {n v : ℕ} (F : ℕ → Command) → Field l n v r →
    then_some (eqb (length r) 0) (F v) ≡ then_some (has_fields l 0 (n ∷ [])) (F (number_at l 1 n))
one_field {l} {r} {n} {v} F f = rw (fields_after l n v r [] f, ← f.value) refl

pub two_fields : {l r t : List ℕ} {m n v w : ℕ} (F : ℕ → ℕ → Command) → Field l m v r → Field r n w t →
    then_some (eqb (length t) 0) (F v w) ≡ then_some (has_fields l 0 (m ∷ n ∷ [])) (F (number_at l 1 m) (number_at l (m + 1 + 1) n))
two_fields {l} {r} {t} {m} {n} {v} {w} F f g =
    rw (fields_after l m v r (n ∷ []) f, ← number_after l m v r 1 n f, ← f.value) (one_field (F v) g)

pub three_fields : {l r t u : List ℕ} {m n k v w x : ℕ} (F : ℕ → ℕ → ℕ → Command) → Field l m v r → Field r n w t → Field t k x u →
    then_some (eqb (length u) 0) (F v w x)
    ≡ then_some (has_fields l 0 (m ∷ n ∷ k ∷ [])) (F (number_at l 1 m) (number_at l (m + 1 + 1) n) (number_at l (m + 1 + (n + 1 + 1)) k))
three_fields {l} {r} {t} {u} {m} {n} {k} {v} {w} {x} F f g h =
    rw (fields_after l m v r (n ∷ k ∷ []) f, ← number_after l m v r 1 n f, ← number_after l m v r (n + 1 + 1) k f, ← f.value)
    (two_fields (F v) g h)

-- ---- a whole line, by its letter

letter_form : (b letter : ℕ) (r : List ℕ) (counts : List ℕ) → has_form letter counts (b ∷ r) ≡ (eqb b letter && has_fields r 0 counts)
letter_form b letter r counts = ap (λ (t : Bool). eqb b letter && t) (sym (shift 1 0 (b ∷ r) counts (omega arith)))

number_behind : (b : ℕ) (r : List ℕ) (at n : ℕ) → number_at (b ∷ r) (at + 1) n ≡ number_at r at n
number_behind b r at n =
    same_number (b ∷ r) r (at + 1) at n (λ i less.
    let e : at + 1 + i ≡ suc (at + i) = omega arith in
    ap (byte_of (b ∷ r)) e)

pub by_letter : (b : ℕ) (r : List ℕ) → command_of (b ∷ r)
    ≡ (if eqb b 87 && has_fields r 0 (2 ∷ 8 ∷ []) then WriteRegister (number_at r 1 2) (number_at r 4 8)
    else if eqb b 82 && has_fields r 0 (2 ∷ []) then ReadRegister (number_at r 1 2)
    else if eqb b 77 && has_fields r 0 (3 ∷ 4 ∷ []) then WriteMemory (number_at r 1 3) (number_at r 5 4)
    else if eqb b 86 && has_fields r 0 (3 ∷ []) then ReadMemory (number_at r 1 3)
    else if eqb b 84 && has_fields r 0 (3 ∷ 2 ∷ 8 ∷ []) then Tick (number_at r 1 3) (number_at r 5 2) (number_at r 8 8)
    else Other)
unfolding command_of
by_letter b r =
    rw (
      letter_form b 87 r (2 ∷ 8 ∷ []),
      letter_form b 82 r (2 ∷ []),
      letter_form b 77 r (3 ∷ 4 ∷ []),
      letter_form b 86 r (3 ∷ []),
      letter_form b 84 r (3 ∷ 2 ∷ 8 ∷ []),
      number_behind b r 1 2,
      number_behind b r 4 8,
      number_behind b r 1 3,
      number_behind b r 5 4,
      number_behind b r 5 2,
      number_behind b r 8 8,
    ) refl

pub or_other : (t : Bool) (c : Command) → unwrap_or (then_some t c) Other ≡ cond t c Other
or_other true c = refl
or_other false c = refl

pub other_letter : (b : ℕ) (r : List ℕ) → b ≢ 87 → b ≢ 82 → b ≢ 77 → b ≢ 86 → b ≢ 84 → Other ≡ command_of (b ∷ r)
other_letter b r w r' m v t =
    rw (by_letter b r, ne_eqb b 87 w, ne_eqb b 82 r', ne_eqb b 77 m, ne_eqb b 86 v, ne_eqb b 84 t) refl

pub no_letter : (l : List ℕ) → length l ≡ 0 → Other ≡ command_of l
unfolding command_of
no_letter [] h = refl
no_letter (b ∷ bs) h = absurd (omega arith)
