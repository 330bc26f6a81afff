-- Laws of the loads of a prescale counter: a factor written, RESET, the fresh bank, and the first pulse after.
--     with_factor_loads, ..-keeps-counter, ..-keeps-others          the counter and the factor of each input after a write
--     with_factor_leaves_counters        every counter, after a write without BYTE(3)
--     with_factor_leaves_factor, with_factor_commutes   another input's factor, and two writes in both orders
--     with-factor-has-, reloaded-has-, fresh_has_pass_count         what was just loaded has the count 0
--     ..-lengths, ..-valid, ..-within    of each of them: eight places; factors and counters that fit
--     first_pulse_scaled, first_pulse_scaled_after_reset            after a load with a factor above 0
-- Assumes nothing.
use Prim.Native.Nat.{ℕ, suc, ◌+◌, ◌-◌, ◌<◌, ◌≤◌}
use mathlib.Core.Path.{◌≡◌, refl, sym, ap, ◌∙◌}
use mathlib.Core.Bool.{Bool, true, false, cond}
use mathlib.Core.List.{List}
use mathlib.Core.Logic.{◌≢◌}
use native.Mathlib.Omega.{arith}
use lib.Dec.{leb}
use lib.ListN.{length, get_or, set, length-set}
use lib.Seq.{get_or-set_same, get_or-set_other, set_comm}
use borrow.Author.Tests.{leb-true, le-leb}
use Rattle.bits.specs.Notation.{◌▷◌}
use Rattle.bits.specs.Bits.{bit_at, every}
use Rattle.bits.proofs.TestLaws.{and_left, by_cond}
use Rattle.registers.specs.Registers.{is_valid_factor}
use Rattle.prescaler.specs.PrescalerFields.{with_counters, with_factors, counter_at, factor_at}
use Rattle.prescaler.specs.Prescaler.{prescaled_inputs, fresh_of, is_prescaled_of, with_factor_of, factor_of, reloaded_of}
use Rattle.prescaler.specs.Prescaler.{Fate, facts_of, step_of, all_fit_of, has_counters_within_of, has_valid_factors_of}
use Rattle.prescaler.specs.Prescaler.{EightPlaces, ScaledAt, PassCount}
use Rattle.prescaler.specs.declared.Prescalers.{Prescalers}
use Rattle.prescaler.proofs.PrescalerLaws.{StandsAt, scaled_at_lem, passed_at_lem, above_zero_is_scaled}
use Rattle.prescaler.proofs.PrescalerLaws.{loaded_has_pass_count}
use Rattle.prescaler.proofs.PrescalerWidths.{set_keeps_fit}

-- ---- a factor written: input is counted from 1, and i + 1 is the input of place i

module _ (input factor i : ℕ) (l : List ℕ) where
  set_reads_written : i + 1 ≡ input → i < prescaled_inputs → length l ≡ prescaled_inputs
      → get_or (set l (input - 1) factor) i 0 ≡ factor
  set_reads_written written h eight =
      let place : input - 1 ≡ i = omega arith in
      rw place (get_or-set_same l i factor 0 (rw eight h))

  set_reads_other : 1 ≤ input → i + 1 ≢ input → get_or (set l (input - 1) factor) i 0 ≡ get_or l i 0
  set_reads_other first other = get_or-set_other l (input - 1) i factor 0 (λ same. other (omega arith))

module _ (input factor : ℕ) (b : Prescalers) where
  -- the counters after a write that has BYTE(3) or not
  abbrev counters_after : (loads : Bool) → List ℕ
  counters_after loads = cond loads (set b.counters (input - 1) factor) b.counters

  abbrev written : (loads : Bool) → Prescalers
  written loads = b ▷ with_counters (counters_after loads) ▷ with_factors (set b.factors (input - 1) factor)

  module _ (i : ℕ) (place : i + 1 ≡ input) (h : i < prescaled_inputs) (eight : EightPlaces b) where
    is_prescaled : is_prescaled_of input ≡ true
    is_prescaled = rw (le-leb 1 input (omega arith), le-leb input prescaled_inputs (omega arith))

    -- [Registers.2] writing a factor with BYTE(3) loads the counter
    pub with_factor_loads : StandsAt (with_factor_of true input factor b) i factor factor
    unfolding with_factor_of
    with_factor_loads =
        rw is_prescaled
        (record {
          counter = set_reads_written input factor i b.counters place h eight.counters;
          factor = set_reads_written input factor i b.factors place h eight.factors;
        })

    -- [Bytes.4a] without it the counter stands
    pub with_factor_keeps_counter : StandsAt (with_factor_of false input factor b) i (counter_at b i) factor
    unfolding with_factor_of
    with_factor_keeps_counter =
        rw is_prescaled
        (record { counter = refl; factor = set_reads_written input factor i b.factors place h eight.factors })

    pub with_factor_has_pass_count
        : PassCount 0 0 (counter_at (with_factor_of true input factor b) i) (factor_at (with_factor_of true input factor b) i)
    with_factor_has_pass_count =
        rw (with_factor_loads.counter, with_factor_loads.factor) (loaded_has_pass_count factor)

  -- the other inputs are untouched, and all of them where the input has no prescaler
  pub with_factor_keeps_others : (loads : Bool) (i : ℕ) → i + 1 ≢ input
      → StandsAt (with_factor_of loads input factor b) i (counter_at b i) (factor_at b i)
  unfolding with_factor_of
  with_factor_keeps_others loads i other = go (is_prescaled_of input) refl loads
    where
      go : (t : Bool) → is_prescaled_of input ≡ t → (loads : Bool)
          → StandsAt (cond t (written loads) b) i (counter_at b i) (factor_at b i)
      go false e loads = record { counter = refl; factor = refl }
      go true e loads = record { counter = counter loads; factor = set_reads_other input factor i b.factors first other }
        where
          first : 1 ≤ input
          first = leb-true 1 input (and_left (leb 1 input) (leb input prescaled_inputs) e)

          counter : (loads : Bool) → get_or (counters_after loads) i 0 ≡ counter_at b i
          counter true = set_reads_other input factor i b.counters first other
          counter false = refl

  pub with_factor_keeps_lengths : (loads : Bool) → EightPlaces b → EightPlaces (with_factor_of loads input factor b)
  unfolding with_factor_of
  with_factor_keeps_lengths loads eight = go (is_prescaled_of input) loads
    where
      counters : (loads : Bool) → length (counters_after loads) ≡ prescaled_inputs
      counters true = length-set b.counters (input - 1) factor ∙ eight.counters
      counters false = eight.counters

      go : (t loads : Bool) → EightPlaces (cond t (written loads) b)
      go true loads =
          record { counters = counters loads; factors = length-set b.factors (input - 1) factor ∙ eight.factors }
      go false loads = eight

  -- [Bytes.4a] without BYTE(3) every counter stands, in range or not
  pub with_factor_leaves_counters : (with_factor_of false input factor b).counters ≡ b.counters
  unfolding with_factor_of
  with_factor_leaves_counters =
      by_cond (λ (x : Prescalers). x.counters ≡ b.counters) (is_prescaled_of input) (λ e. refl) (λ e. refl)

  -- [Widths.1] a factor that its write takes fits as a factor and, loaded, as a counter
  module _ (valid : is_valid_factor input factor ≡ true) where
    place_fits : is_prescaled_of input ≡ true → is_valid_factor (suc (input - 1)) factor ≡ true
    place_fits e =
        let first : 1 ≤ input = leb-true 1 input (and_left (leb 1 input) (leb input prescaled_inputs) e) in
        let place : suc (input - 1) ≡ input = omega arith in
        rw place valid

    pub with_factor_keeps_valid : (loads : Bool) → has_valid_factors_of b ≡ true
        → has_valid_factors_of (with_factor_of loads input factor b) ≡ true
    unfolding with_factor_of
    with_factor_keeps_valid loads h =
        by_cond (λ (x : Prescalers). has_valid_factors_of x ≡ true) (is_prescaled_of input)
        (λ e. set_keeps_fit b.factors (input - 1) factor (place_fits e) h) (λ e. h)

    pub with_factor_keeps_within : (loads : Bool) → has_counters_within_of b ≡ true
        → has_counters_within_of (with_factor_of loads input factor b) ≡ true
    unfolding with_factor_of
    with_factor_keeps_within loads h =
        by_cond (λ (x : Prescalers). has_counters_within_of x ≡ true) (is_prescaled_of input)
        (λ e. by_cond (λ (l : List ℕ). all_fit_of l ≡ true) loads
        (λ l. set_keeps_fit b.counters (input - 1) factor (place_fits e) h) (λ l. h))
        (λ e. h)

-- ---- the factors of two inputs: whatever the lists' lengths, and whether the inputs have prescalers or not

module _ (i j : ℕ) (apart : i ≢ j) where
  pub with_factor_leaves_factor : (loads : Bool) (v : ℕ) (b : Prescalers)
      → factor_of i (with_factor_of loads j v b) ≡ factor_of i b
  unfolding factor_of
  with_factor_leaves_factor loads v b = go (is_prescaled_of i) refl
    where
      go : (t : Bool) → is_prescaled_of i ≡ t
          → cond t (factor_at (with_factor_of loads j v b) (i - 1)) 0 ≡ cond t (factor_at b (i - 1)) 0
      go false e = refl
      go true e =
          let first : 1 ≤ i = leb-true 1 i (and_left (leb 1 i) (leb i prescaled_inputs) e) in
          (with_factor_keeps_others j v b loads (i - 1) (λ same. apart (omega arith))).factor

  -- [Bytes.4a] the loads that are made touch different counters
  pub with_factor_commutes : (l k : Bool) (v w : ℕ) (b : Prescalers)
      → with_factor_of l i v (with_factor_of k j w b) ≡ with_factor_of k j w (with_factor_of l i v b)
  unfolding with_factor_of
  with_factor_commutes l k v w b = go (is_prescaled_of i) refl (is_prescaled_of j) refl l k
    where
      go : (t : Bool) → is_prescaled_of i ≡ t → (u : Bool) → is_prescaled_of j ≡ u → (l k : Bool)
          → cond t (written i v (cond u (written j w b k) b) l) (cond u (written j w b k) b)
          ≡ cond u (written j w (cond t (written i v b l) b) k) (cond t (written i v b l) b)
      go false e u f l k = refl
      go true e false f l k = refl
      go true e true f l k =
          λ at. record { counters = counters l k at; factors = swap b.factors at }
        where
          places : i - 1 ≢ j - 1
          places same =
              let first : 1 ≤ i = leb-true 1 i (and_left (leb 1 i) (leb i prescaled_inputs) e) in
              let second : 1 ≤ j = leb-true 1 j (and_left (leb 1 j) (leb j prescaled_inputs) f) in
              apart (omega arith)

          swap : (m : List ℕ) → set (set m (j - 1) w) (i - 1) v ≡ set (set m (i - 1) v) (j - 1) w
          swap m = sym (set_comm m (i - 1) (j - 1) v w places)

          counters : (l k : Bool)
              → (written i v (written j w b k) l).counters ≡ (written j w (written i v b l) k).counters
          counters true true = swap b.counters
          counters true false = refl
          counters false true = refl
          counters false false = refl

-- ---- every counter loaded, and the fresh bank

-- [CSRWrite.2d] RESET loads every counter and keeps the factors
pub reloaded_has_pass_count : (b : Prescalers) (i : ℕ)
    → PassCount 0 0 (counter_at (reloaded_of b) i) (factor_at (reloaded_of b) i)
reloaded_has_pass_count b i = loaded_has_pass_count (factor_at b i)

pub reloaded_keeps_lengths : (b : Prescalers) → EightPlaces b → EightPlaces (reloaded_of b)
reloaded_keeps_lengths b eight = record { counters = eight.factors; factors = eight.factors }

-- the counters are then the factors
pub reloaded_keeps_within : (b : Prescalers) → has_valid_factors_of b ≡ true → has_counters_within_of (reloaded_of b) ≡ true
reloaded_keeps_within b h = h

-- [Registers.4] the fresh bank stands as if just loaded with 0
pub fresh_has_pass_count : (i : ℕ) → PassCount 0 0 (counter_at fresh_of i) (factor_at fresh_of i)
fresh_has_pass_count i = loaded_has_pass_count (factor_at fresh_of i)

pub fresh_has_lengths : EightPlaces fresh_of
fresh_has_lengths = record { counters = refl; factors = refl }

pub fresh_has_within : has_counters_within_of fresh_of ≡ true
unfolding all_fit_of every
fresh_has_within = refl

-- ---- the first pulse after a load

module _ (pulses i : ℕ) (h : i < prescaled_inputs) (counted : bit_at pulses i ≡ true) where
  above_zero_in_masks : (b : Prescalers) → 0 < counter_at b i → ScaledAt (step_of true pulses b) i
  above_zero_in_masks b above =
      let fate = above_zero_is_scaled pulses b i counted h above in
      record {
        scaled = scaled_at_lem true pulses b i (omega arith) ∙ ap (λ (f : Fate). (facts_of f).is_scaled) fate;
        passed = passed_at_lem true pulses b i (omega arith) ∙ ap (λ (f : Fate). (facts_of f).is_passed) fate;
      }

  -- [Bench.10] a factor above 0 is written: the first counted pulse does not pass
  pub first_pulse_scaled : (input factor : ℕ) (b : Prescalers) → i + 1 ≡ input → EightPlaces b → 0 < factor
      → ScaledAt (step_of true pulses (with_factor_of true input factor b)) i
  first_pulse_scaled input factor b written eight above =
      above_zero_in_masks (with_factor_of true input factor b)
      (rw (with_factor_loads input factor b i written h eight).counter above)

  -- [Bench.10] [CSRWrite.2d] the same after RESET
  pub first_pulse_scaled_after_reset : (b : Prescalers) → 0 < factor_at b i
      → ScaledAt (step_of true pulses (reloaded_of b)) i
  first_pulse_scaled_after_reset b above = above_zero_in_masks (reloaded_of b) above
