-- Laws of tests: how a chain of tests is taken apart and put together.
--     and_left, and_right   a chain that holds has its parts
--     and_both              the parts make the chain
--     and_true              a test alone is the chain of it with one that holds
--     implied, implies      "not p, or q" is: if p then q
--     every_at, at_every    a test at each index below n is the tests at all of them
--     and_fails, every_fails   a chain fails if its second part does; a test at every index if it fails at one
--     all_true_at           a list of tests that all hold has each of them, by its place
--     all_true_left, all_true_right, all_true_both   and one list after another that all hold is both
--     by_cond               what holds of both results of a choice holds of the choice; each side knows its test
--     or_true, or_rest      a second test that holds makes the choice hold; a first that fails leaves the second
-- Assumes nothing.
use Prim.Native.Nat.{ℕ, zero, suc, ◌<◌}
use mathlib.Core.Path.{◌≡◌, refl}
use mathlib.Core.Bool.{Bool, true, false, not, ◌&&◌, ◌||◌, cond, true≢false, false≢true}
use mathlib.Core.List.{List, [], ◌∷◌, ◌++◌}
use native.Mathlib.Omega.{arith}
use lib.ListN.{length, get_or}
use Rattle.bits.specs.Bits.{every, all_true}

pub and_left : (p q : Bool) → (p && q) ≡ true → p ≡ true
and_left true q h = refl
and_left false q h = absurd (false≢true h)

pub and_right : (p q : Bool) → (p && q) ≡ true → q ≡ true
and_right true q h = h
and_right false q h = absurd (false≢true h)

pub and_both : (p q : Bool) → p ≡ true → q ≡ true → (p && q) ≡ true
and_both true q hp hq = hq
and_both false q hp hq = hp

pub and_true : (t : Bool) → t ≡ (t && true)
and_true true = refl
and_true false = refl

pub implied : (p q : Bool) → (not p || q) ≡ true → p ≡ true → q ≡ true
implied true q h hp = h
implied false q h hp = absurd (false≢true hp)

pub implies : (p q : Bool) → (p ≡ true → q ≡ true) → (not p || q) ≡ true
implies true q h = h refl
implies false q h = refl

pub every_at : (n : ℕ) (f : ℕ → Bool) → every n f ≡ true → (i : ℕ) → i < n → f i ≡ true
unfolding every
every_at zero f h i k = absurd (omega arith)
every_at (suc n) f h zero k = and_left (f 0) (every n (λ j. f (suc j))) h
every_at (suc n) f h (suc i) k =
    every_at n (λ j. f (suc j)) (and_right (f 0) (every n (λ j. f (suc j))) h) i (omega arith)

pub at_every : (n : ℕ) (f : ℕ → Bool) → ((i : ℕ) → i < n → f i ≡ true) → every n f ≡ true
unfolding every
at_every zero f h = refl
at_every (suc n) f h =
    and_both (f 0) (every n (λ j. f (suc j))) (h 0 (omega arith))
    (at_every n (λ j. f (suc j)) (λ i k. h (suc i) (omega arith)))

pub and_fails : (p : Bool) {q : Bool} → q ≡ false → (p && q) ≡ false
and_fails true e = e
and_fails false e = refl

pub every_fails : (n : ℕ) (f : ℕ → Bool) (i : ℕ) → i < n → f i ≡ false → every n f ≡ false
unfolding every
every_fails zero f i k h = absurd (omega arith)
every_fails (suc n) f zero k h = rw h
every_fails (suc n) f (suc i) k h = and_fails (f 0) (every_fails n (λ j. f (suc j)) i (omega arith) h)

pub all_true_at : (ts : List Bool) → all_true ts ≡ true → (i : ℕ) → i < length ts → get_or ts i false ≡ true
all_true_at [] h i k = absurd (omega arith)
all_true_at (t ∷ ts) h zero k = and_left t (all_true ts) h
all_true_at (t ∷ ts) h (suc i) k = all_true_at ts (and_right t (all_true ts) h) i (omega arith)

pub all_true_left : (ts us : List Bool) → all_true (ts ++ us) ≡ true → all_true ts ≡ true
all_true_left [] us h = refl
all_true_left (t ∷ ts) us h =
    and_both t (all_true ts) (and_left t (all_true (ts ++ us)) h) (all_true_left ts us (and_right t (all_true (ts ++ us)) h))

pub all_true_right : (ts us : List Bool) → all_true (ts ++ us) ≡ true → all_true us ≡ true
all_true_right [] us h = h
all_true_right (t ∷ ts) us h = all_true_right ts us (and_right t (all_true (ts ++ us)) h)

pub all_true_both : (ts us : List Bool) → all_true ts ≡ true → all_true us ≡ true → all_true (ts ++ us) ≡ true
all_true_both [] us h k = k
all_true_both (t ∷ ts) us h k =
    and_both t (all_true (ts ++ us)) (and_left t (all_true ts) h) (all_true_both ts us (and_right t (all_true ts) h) k)

pub or_true : (p q : Bool) → q ≡ true → (p || q) ≡ true
or_true true q h = refl
or_true false q h = h

pub or_rest : (p q : Bool) → (p || q) ≡ true → p ≡ false → q ≡ true
or_rest true q h k = absurd (true≢false k)
or_rest false q h k = h

-- a chain of declines is walked by it
pub by_cond : {A : Type 0} (P : A → Type 0) (t : Bool) {a b : A} → (t ≡ true → P a) → (t ≡ false → P b) → P (cond t a b)
by_cond P true f g = f refl
by_cond P false f g = g refl
