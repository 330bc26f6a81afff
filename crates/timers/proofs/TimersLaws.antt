-- Laws of the timers by number: T1–T5 are five places of a list, so a write to one leaves the others.
--     stored_is_place, written_is_place   a timer read and written by its number is a place of the list read and set
--     Other, other_timer    of two timers that differ: what is stored of one stands when the other is written, and the two
--                           writes give the same in both orders
-- Assumes nothing.
use Rattle.std.specs.Prelude.{if◌then◌else◌}
use Prim.Native.Nat.{ℕ, zero, suc, ◌-◌, ◌%◌, ◌^◌, ◌≤◌}
use mathlib.Core.Path.{◌≡◌, refl, sym, ap, ◌∙◌}
use mathlib.Core.List.{List, [], ◌∷◌}
use mathlib.Core.Logic.{◌≢◌}
use native.Mathlib.Omega.{arith}
use lib.Dec.{leb}
use lib.ListN.{get_or, set}
use lib.Seq.{get_or-set_other, set_comm}
use Rattle.timers.specs.Timers.{written_of, stored_of}
use Rattle.timers.specs.declared.Timers.{Timers}

-- ---- the timers as a list

abbrev counts_of : Timers → List ℕ
counts_of t = t.t1.0 ∷ t.t2.0 ∷ t.t3.0 ∷ t.t4.0 ∷ t.t5.0 ∷ []

abbrev of_counts : List ℕ → Timers
of_counts l =
    record {
      t1 = record { 0 = get_or l 0 0 };
      t2 = record { 0 = get_or l 1 0 };
      t3 = record { 0 = get_or l 2 0 };
      t4 = record { 0 = get_or l 3 0 };
      t5 = record { 0 = get_or l 4 0 };
    }

-- [Widths.2] what a write stores
abbrev cut_to : (n v : ℕ) → ℕ
cut_to n v = if leb n 4 then v % 2 ^ 16 else v % 2 ^ 8

-- the numbers of the timers that there are
data Timer : ℕ → Type 0 where
  t1 : Timer 1
  t2 : Timer 2
  t3 : Timer 3
  t4 : Timer 4
  t5 : Timer 5

one_of_five : (n : ℕ) → 1 ≤ n → n ≤ 5 → Timer n
one_of_five zero low high = absurd (omega arith)
one_of_five (suc zero) low high = t1
one_of_five (suc (suc zero)) low high = t2
one_of_five (suc (suc (suc zero))) low high = t3
one_of_five (suc (suc (suc (suc zero)))) low high = t4
one_of_five (suc (suc (suc (suc (suc zero))))) low high = t5
one_of_five (suc (suc (suc (suc (suc (suc n)))))) low high = absurd (omega arith)

stored_is_place : {n : ℕ} → Timer n → (t : Timers) → stored_of n t ≡ get_or (counts_of t) (n - 1) 0
unfolding stored_of
stored_is_place t1 t = refl
stored_is_place t2 t = refl
stored_is_place t3 t = refl
stored_is_place t4 t = refl
stored_is_place t5 t = refl

written_is_place : {n : ℕ} → Timer n → (v : ℕ) (t : Timers) → counts_of (written_of n v t) ≡ set (counts_of t) (n - 1) (cut_to n v)
unfolding written_of
written_is_place t1 v t = refl
written_is_place t2 v t = refl
written_is_place t3 v t = refl
written_is_place t4 v t = refl
written_is_place t5 v t = refl

-- ---- another timer

pub record Other (n m v w : ℕ) (t : Timers) : Type 0 where
  pub stored : stored_of n (written_of m w t) ≡ stored_of n t
  pub commute : written_of n v (written_of m w t) ≡ written_of m w (written_of n v t)

-- two writes, as two places set
both_set : {n m : ℕ} → Timer n → Timer m → (v w : ℕ) (t : Timers)
    → written_of n v (written_of m w t) ≡ of_counts (set (set (counts_of t) (m - 1) (cut_to m w)) (n - 1) (cut_to n v))
both_set {n = n} {m = m} a b v w t =
    ap of_counts (written_is_place a v (written_of m w t))
    ∙ ap (λ (l : List ℕ). of_counts (set l (n - 1) (cut_to n v))) (written_is_place b w t)

module _ (v w : ℕ) (t : Timers) where
  by_place : {n m : ℕ} → Timer n → Timer m → n - 1 ≢ m - 1 → Other n m v w t
  by_place {n = n} {m = m} a b apart =
      record {
        stored =
            stored_is_place a (written_of m w t)
            ∙ ap (λ (l : List ℕ). get_or l (n - 1) 0) (written_is_place b w t)
            ∙ get_or-set_other (counts_of t) (m - 1) (n - 1) (cut_to m w) 0 apart
            ∙ sym (stored_is_place a t);
        commute =
            both_set a b v w t
            ∙ ap of_counts (sym (set_comm (counts_of t) (n - 1) (m - 1) (cut_to n v) (cut_to m w) apart))
            ∙ sym (both_set b a w v t);
      }

  pub other_timer : (n m : ℕ) → 1 ≤ n → n ≤ 5 → 1 ≤ m → m ≤ 5 → n ≢ m → Other n m v w t
  other_timer n m low high low' high' apart =
      by_place (one_of_five n low high) (one_of_five m low' high') (λ same. apart (omega arith))
