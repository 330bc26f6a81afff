-- Laws of lists, as the library's array and slice methods leave them.
--     all_at            a test of every element is the test at each index
--     all_is_list_all   .. and `all_of`
--     tabulated         a list that has the value of a rule at each index is the rule's table
-- Assumes nothing.
use Prim.Native.Nat.{ℕ, zero, suc, ◌<◌}
use mathlib.Core.Path.{◌≡◌, refl, sym, ap, ◌∙◌}
use mathlib.Core.Bool.{Bool, ◌&&◌}
use mathlib.Core.List.{List, [], ◌∷◌}
use native.Mathlib.Omega.{arith}
use lib.ListN.{length, get_or}
use Rattle.std.specs.List.{list_all}
use Rattle.std.proofs.lemmas.List.{ext_get_or}
use Rattle.bits.specs.Bits.{tabulate, every}
use Rattle.bits.specs.Bytes.{all_of}
use Rattle.bits.proofs.BitsLaws.{tabulate_at, tabulate_length}

pub all_at : (test : ℕ → Bool) (n : ℕ) (l : List ℕ) → length l ≡ n
    → list_all test l ≡ every n (λ i. test (get_or l i 0))
unfolding every
all_at test zero [] h = refl
all_at test zero (w ∷ l) h = absurd (omega arith)
all_at test (suc n) [] h = absurd (omega arith)
all_at test (suc n) (w ∷ l) h = ap (λ (t : Bool). test w && t) (all_at test n l (omega arith))

pub all_is_list_all : (test : ℕ → Bool) (l : List ℕ) → list_all test l ≡ all_of test l
all_is_list_all test [] = refl
all_is_list_all test (w ∷ l) = ap (λ (t : Bool). test w && t) (all_is_list_all test l)

pub tabulated : {A : Type 0} (n : ℕ) (f : ℕ → A) (d : A) (l : List A) → length l ≡ n
    → ((i : ℕ) → i < n → get_or l i d ≡ f i) → l ≡ tabulate n f
tabulated n f d l long each =
    ext_get_or d l (tabulate n f) (long ∙ sym (tabulate_length n f))
    (λ i h.
    let below : i < n = omega (arith, long) in
    each i below ∙ sym (tabulate_at n f i d below))
