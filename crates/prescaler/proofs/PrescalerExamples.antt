-- Worked examples of the bench, computed from the definitions.
--     bench_runs_lem     which pulses of a run pass, as one statement over a table
-- Assumes nothing.
use Prim.Native.Nat.{ℕ, ◌-◌, ◌^◌}
use mathlib.Core.Path.{◌≡◌, refl}
use mathlib.Core.Bool.{Bool, true, false, not, ◌&&◌}
use mathlib.Core.List.{List, [], ◌∷◌}
use Rattle.bits.specs.Bits.{bit_at, mask_of, tabulate}
use Rattle.prescaler.specs.Prescaler.{fresh_of, with_factor_of, step_of}
use Rattle.prescaler.specs.declared.Prescalers.{Prescalers}

-- an input and the factor written for it; then, for a pulse of it in each tick: the bank runs, the pulse passes
pub record Run : Type 0 where
  pub input : ℕ
  pub factor : ℕ
  pub runs : List Bool
  pub passed : List Bool

abbrev run : (input factor : ℕ) (runs passed : List Bool) → Run
run i f r p = record { input = i; factor = f; runs = r; passed = p }

abbrev passes_in : (input : ℕ) → List Bool → Prescalers → List Bool
passes_in input [] b = []
passes_in input (t ∷ ts) b =
    bit_at (step_of t (2 ^ (input - 1)) b).passed (input - 1) ∷ passes_in input ts (step_of t (2 ^ (input - 1)) b).next

abbrev are_same : List Bool → List Bool → Bool
are_same [] [] = true
are_same [] (u ∷ us) = false
are_same (t ∷ ts) [] = false
are_same (true ∷ ts) (u ∷ us) = u && are_same ts us
are_same (false ∷ ts) (u ∷ us) = not u && are_same ts us

abbrev pub is_right : Run → Bool
is_right x = are_same (passes_in x.input x.runs (with_factor_of true x.input x.factor fresh_of)) x.passed

abbrev pub all_right : List Run → Bool
all_right [] = true
all_right (x ∷ xs) = is_right x && all_right xs

-- in each of six ticks
abbrev each : List Bool
each = true ∷ true ∷ true ∷ true ∷ true ∷ true ∷ []

-- [Bench.1] is row 1
-- [Bench.2] is row 2
-- [Pulses.2] is row 3: the second pulse is stopped
-- [Pulses.5] is row 4: input 9 takes no factor
abbrev pub bench_runs : List Run
bench_runs =
    run 1 0 each each
    ∷ run 8 2 each (false ∷ false ∷ true ∷ false ∷ false ∷ true ∷ [])
    ∷ run 1 2 (true ∷ false ∷ true ∷ true ∷ []) (false ∷ false ∷ false ∷ true ∷ [])
    ∷ run 9 2 each each
    ∷ []

pub bench_runs_lem : all_right bench_runs ≡ true
unfolding with_factor_of step_of mask_of tabulate
bench_runs_lem = refl
