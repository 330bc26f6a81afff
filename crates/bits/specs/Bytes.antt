-- The bytes of a number, the lowest first.
--     document 01    "Registers": register 10's layout, which the acknowledges share
--     byte_at w b     byte b of w, counted from the low end
--     bytes_of w      the four bytes of a word: one for each branch
--     bytes n v      the first n bytes of v, by division: the places of a queue
--     all_of test l   every number of l passes the test
--     is_same_of a b   two lists have the same numbers, place by place
-- Own rules of 01 used here: none. Decisions: B7. Left out: nothing.
-- Assumes nothing.
use Rattle.std.specs.Prelude.{ℕ, zero, suc, ◌/◌, ◌%◌, ◌^◌, Bool, true, false, ◌&&◌, List, [], ◌∷◌, eqb}
use Rattle.bits.specs.Bits.{tabulate}

-- [Registers.1] the byte of branch b + 1
abbrev pub byte_at : (w b : ℕ) → ℕ
byte_at w b = w / 256 ^ b % 256

-- [Split.2b] by division, for the reader; the code shifts and masks
abbrev pub bytes_of : ℕ → List ℕ
bytes_of w = tabulate 4 (byte_at w)

unfoldable pub bytes : (n v : ℕ) → List ℕ
bytes zero v = []
bytes (suc n) v = v % 256 ∷ bytes n (v / 256)

abbrev pub all_of : (ℕ → Bool) → List ℕ → Bool
all_of test [] = true
all_of test (w ∷ l) = test w && all_of test l

unfoldable pub is_same_of : List ℕ → List ℕ → Bool
is_same_of [] [] = true
is_same_of [] (w ∷ b) = false
is_same_of (v ∷ a) [] = false
is_same_of (v ∷ a) (w ∷ b) = eqb v w && is_same_of a b
