-- The test of a script's first line is the library's test of two slices.
--     same_pointwise   place by place, as the definition has it
-- Assumes nothing.
use Prim.Native.Nat.{ℕ}
use mathlib.Core.Path.{◌≡◌, refl, ap}
use mathlib.Core.Bool.{◌&&◌}
use mathlib.Core.List.{List, [], ◌∷◌}
use lib.Dec.{eqb}
use lib.Pointwise.{pointwise}
use Rattle.bits.specs.Bytes.{is_same_of}

pub same_pointwise : (a b : List ℕ) → pointwise eqb a b ≡ is_same_of a b
unfolding is_same_of
same_pointwise [] [] = refl
same_pointwise [] (d ∷ b) = refl
same_pointwise (c ∷ a) [] = refl
same_pointwise (c ∷ a) (d ∷ b) = ap (λ (t : _). eqb c d && t) (same_pointwise a b)
