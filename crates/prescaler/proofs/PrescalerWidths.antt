-- Laws of the widths of eight numbers, the factors or the counters: each fits the width of its input's factor.
--     fit_at, at_fit       the test, as facts of each input
--     set_keeps_fit        one of them stored
--     step_keeps_within    the counters of a bank after a step
-- Assumes nothing.
use Prim.Native.Nat.{ℕ, suc, ◌-◌, ◌^◌, ◌<◌}
use mathlib.Core.Path.{◌≡◌, refl, sym, ◌∙◌}
use mathlib.Core.Bool.{Bool, true, false}
use mathlib.Core.List.{List}
use native.Mathlib.Omega.{arith}
use lib.Dec.{eqb, ltb}
use lib.ListN.{length, get_or, set, length-set, get_or-eq_default}
use lib.Seq.{get_or-set_same, get_or-set_other}
use borrow.Author.Tests.{eqb-true, eqb-false, ltb-true, ltb-false, lt-ltb}
use Rattle.bits.specs.Bits.{fits_in}
use Rattle.bits.proofs.TestLaws.{every_at, at_every}
use Rattle.bits.proofs.BitsLaws.{tabulate_at}
use Rattle.registers.specs.Registers.{factor_width, is_valid_factor}
use Rattle.prescaler.specs.PrescalerFields.{counter_at, factor_at}
use Rattle.prescaler.specs.Prescaler.{prescaled_inputs, Fate, absent, stopped, scaled, passed, counter_after, fate_at}
use Rattle.prescaler.specs.Prescaler.{counter_after_at, step_of, all_fit_of, has_counters_within_of, has_valid_factors_of}
use Rattle.prescaler.specs.declared.Prescalers.{Prescalers}

-- ---- the test

-- [Widths.1] the test, as a fact of each input
pub fit_at : (values : List ℕ) → all_fit_of values ≡ true
    → (i : ℕ) → i < prescaled_inputs → is_valid_factor (suc i) (get_or values i 0) ≡ true
unfolding all_fit_of
fit_at values h i k = every_at prescaled_inputs (λ j. is_valid_factor (suc j) (get_or values j 0)) h i k

pub at_fit : (values : List ℕ) → ((i : ℕ) → i < prescaled_inputs → is_valid_factor (suc i) (get_or values i 0) ≡ true)
    → all_fit_of values ≡ true
unfolding all_fit_of
at_fit values h = at_every prescaled_inputs (λ j. is_valid_factor (suc j) (get_or values j 0)) h

-- [Widths.1] what fits at a place fits where it is stored there
pub set_keeps_fit : (values : List ℕ) (place v : ℕ) → is_valid_factor (suc place) v ≡ true
    → all_fit_of values ≡ true → all_fit_of (set values place v) ≡ true
set_keeps_fit values place v valid h =
    at_fit (set values place v) (λ i k. go i (eqb i place) refl (ltb i (length values)) refl (fit_at values h i k))
  where
    Fits : (i w : ℕ) → Type 0
    Fits i w = is_valid_factor (suc i) w ≡ true

    go : (i : ℕ) (t : Bool) → eqb i place ≡ t → (u : Bool) → ltb i (length values) ≡ u → Fits i (get_or values i 0)
        → Fits i (get_or (set values place v) i 0)
    go i false e u f fits = rw (get_or-set_other values place i v 0 (eqb-false i place e)) fits
    go i true e true f fits =
        let same : i ≡ place = eqb-true i place e in
        rw (same, get_or-set_same values place v 0 (rw (← same) (ltb-true i (length values) f))) valid
    go i true e false f fits =
        rw (get_or-eq_default (set values place v) 0 {n = i} (rw (length-set values place v) (ltb-false i (length values) f))
        ∙ sym (get_or-eq_default values 0 {n = i} (ltb-false i (length values) f))) fits

-- ---- a step

-- one less fits too
less_fits : (width counter : ℕ) → fits_in width counter ≡ true → fits_in width (counter - 1) ≡ true
less_fits width counter h =
    let below : counter < 2 ^ width = ltb-true counter (2 ^ width) h in
    lt-ltb (counter - 1) (2 ^ width) (omega arith)

counter_stays_fit : (f : Fate) (input counter factor : ℕ) → is_valid_factor input counter ≡ true
    → is_valid_factor input factor ≡ true → is_valid_factor input (counter_after f counter factor) ≡ true
counter_stays_fit absent input counter factor h k = h
counter_stays_fit stopped input counter factor h k = h
counter_stays_fit scaled input counter factor h k = less_fits (factor_width input) counter h
counter_stays_fit passed input counter factor h k = k

-- [Bytes.9]
pub step_keeps_within : (runs : Bool) (pulses : ℕ) (b : Prescalers) → has_valid_factors_of b ≡ true
    → has_counters_within_of b ≡ true → has_counters_within_of (step_of runs pulses b).next ≡ true
unfolding step_of
step_keeps_within runs pulses b factors counters =
    at_fit (step_of runs pulses b).next.counters
    (λ i k.
    rw (tabulate_at prescaled_inputs (counter_after_at runs pulses b) i 0 k)
    (counter_stays_fit (fate_at runs pulses b i) (suc i) (counter_at b i) (factor_at b i)
    (fit_at b.counters counters i k) (fit_at b.factors factors i k)))
