-- Laws of the prescalers: what becomes of each counted pulse, how many pass, and what a step keeps.
--     StandsAt, fact_at                   the counter and the factor of an input; a fact of each input's fate
--     stopped_at, scaled_at_lem, passed_at_lem   bit i of each mask says what became of the pulse of input i + 1
--     fate_is_one                        each counted pulse is in exactly one of the three masks
--     unstopped_is_running, passed_is_rest   the masks, as the account reads them
--     above_zero_is_scaled, zero_is_passed, unprescaled_is_passed   the pulse of an input of a bank that runs
--     pulse_keeps_pass_count, step_keeps_pass_count   the count of one prescaler, and of each input of a bank
--     pass_count_divides                 of n pulses since the load n div (F + 1) have passed
--     loaded_has_pass_count              a counter just loaded has the count 0
--     step_stands_at                     the counter and the factor of each input after a step
--     bank_stays, stopped_keeps_bank     a bank of which no counter moves, as where it does not run
--     step_keeps_factors, step_keeps_lengths
-- Assumes nothing.
use Prim.Native.Nat.{ℕ, ◌+◌, ◌-◌, ◌*◌, ◌/◌, ◌<◌, ◌≤◌}
use mathlib.Core.Path.{◌≡◌, refl, sym, ap, ap₂, ◌∙◌}
use mathlib.Core.Bool.{Bool, true, false, not, ◌&&◌, ◌||◌}
use mathlib.Core.List.{List}
use native.Mathlib.Omega.{arith}
use native.Mathlib.Nat.{le_refl}
use lib.Arith.{digits_div}
use lib.Dec.{eqb, ltb, leb}
use lib.ListN.{length, get_or, get_or-eq_default}
use borrow.Author.Tests.{eqb-true, eqb-false, ltb-true, ltb-false, leb-true, eq-eqb, ne_eqb, le-leb, lt-leb}
use Rattle.bits.specs.Notation.{◌▷◌}
use Rattle.bits.specs.Bits.{bit_at, one_if_of, mask_of, tabulate}
use Rattle.bits.proofs.BitsLaws.{mask_at_below}
use Rattle.bits.proofs.BitsLaws.{tabulate_at, tabulate_past, tabulate_length, tabulate_same, tabulate_get_d}
use Rattle.prescaler.specs.PrescalerFields.{with_counters, counter_at, factor_at}
use Rattle.registers.specs.Control.{inputs}
use Rattle.prescaler.specs.Prescaler.{prescaled_inputs}
use Rattle.prescaler.specs.Prescaler.{Fate, absent, stopped, scaled, passed, fate_of, counter_after}
use Rattle.prescaler.specs.Prescaler.{FateFacts, facts_of, is_at_zero, fate_at, counter_after_at, step_of}
use Rattle.prescaler.specs.Prescaler.{EightPlaces, PassCount}
use Rattle.prescaler.specs.declared.Prescalers.{Prescalers}

-- ---- what the laws say of a bank and of a step

-- the counter and the factor of input i + 1 are c and f
pub record StandsAt (b : Prescalers) (i c f : ℕ) : Type 0 where
  pub counter : counter_at b i ≡ c
  pub factor : factor_at b i ≡ f

-- one fact of the pulse of input i + 1: the rule of a mask
abbrev pub fact_at : (FateFacts → Bool) → (runs : Bool) (pulses : ℕ) → Prescalers → (i : ℕ) → Bool
fact_at fact runs pulses b i = fact (facts_of (fate_at runs pulses b i))

-- ---- one pulse, by clauses on its tests

one_fate : (counted runs atZero : Bool)
    → one_if_of counted
    ≡ one_if_of (facts_of (fate_of counted runs atZero)).is_stopped
    + one_if_of (facts_of (fate_of counted runs atZero)).is_scaled
    + one_if_of (facts_of (fate_of counted runs atZero)).is_passed
one_fate false runs atZero = refl
one_fate true false atZero = refl
one_fate true true false = refl
one_fate true true true = refl

not_stopped : (counted runs atZero : Bool)
    → (counted && not (facts_of (fate_of counted runs atZero)).is_stopped) ≡ (counted && runs)
not_stopped false runs atZero = refl
not_stopped true false atZero = refl
not_stopped true true false = refl
not_stopped true true true = refl

rest_passed : (counted runs atZero : Bool)
    → (facts_of (fate_of counted runs atZero)).is_passed
    ≡ (counted && (not (facts_of (fate_of counted runs atZero)).is_stopped
    && not (facts_of (fate_of counted runs atZero)).is_scaled))
rest_passed false runs atZero = refl
rest_passed true false atZero = refl
rest_passed true true false = refl
rest_passed true true true = refl

stopped_stays : (counted atZero : Bool) (counter factor : ℕ)
    → counter_after (fate_of counted false atZero) counter factor ≡ counter
stopped_stays true atZero counter factor = refl
stopped_stays false atZero counter factor = refl

no_counter_stays : (f : Fate) → counter_after f 0 0 ≡ 0
no_counter_stays absent = refl
no_counter_stays stopped = refl
no_counter_stays scaled = refl
no_counter_stays passed = refl

-- ---- how many pass: the count of one prescaler

count_by_tests : (counted runs atZero : Bool) (n p counter factor : ℕ) → eqb counter 0 ≡ atZero
    → PassCount n p counter factor
    → PassCount (n + one_if_of (counted && runs)) (p + one_if_of (facts_of (fate_of counted runs atZero)).is_passed)
    (counter_after (fate_of counted runs atZero) counter factor) factor
count_by_tests false runs atZero n p counter factor e h = record { within = h.within; balance = omega arith }
count_by_tests true false atZero n p counter factor e h = record { within = h.within; balance = omega arith }
count_by_tests true true false n p counter factor e h =
    let above : counter ≡ 0 → ⊥ = eqb-false counter 0 e in
    record { within = omega arith; balance = omega arith }
count_by_tests true true true n p counter factor e h =
    let zero : counter ≡ 0 = eqb-true counter 0 e in
    record { within = le_refl factor; balance = omega arith }

-- [Account.12] a counted pulse that is not stopped is one more, and one more passed if it passes
pub pulse_keeps_pass_count : (counted runs : Bool) (n p counter factor : ℕ) → PassCount n p counter factor
    → PassCount (n + one_if_of (counted && runs)) (p + one_if_of (facts_of (fate_of counted runs (eqb counter 0))).is_passed)
    (counter_after (fate_of counted runs (eqb counter 0)) counter factor) factor
pulse_keeps_pass_count counted runs n p counter factor h =
    count_by_tests counted runs (eqb counter 0) n p counter factor refl h

-- [Account.17]
pub pass_count_divides : (n p counter factor : ℕ) → PassCount n p counter factor → p ≡ n / (factor + 1)
pass_count_divides n p counter factor h =
    let e : n ≡ p * (factor + 1) + (factor - counter) = omega arith in
    let below : factor - counter < factor + 1 = omega arith in
    sym (ap (λ (k : ℕ). k / (factor + 1)) e ∙ digits_div p below)

pub loaded_has_pass_count : (factor : ℕ) → PassCount 0 0 factor factor
loaded_has_pass_count factor = record { within = le_refl factor; balance = omega arith }

-- ---- the masks of a step

module _ (runs : Bool) (pulses : ℕ) (b : Prescalers) where
  fact_at_lem : (fact : FateFacts → Bool) (i : ℕ) → i < inputs
      → bit_at (mask_of inputs (fact_at fact runs pulses b)) i ≡ fact_at fact runs pulses b i
  fact_at_lem fact i h = mask_at_below inputs (fact_at fact runs pulses b) i h

  pub stopped_at : (i : ℕ) → i < inputs
      → bit_at (step_of runs pulses b).stopped i ≡ (facts_of (fate_at runs pulses b i)).is_stopped
  unfolding step_of
  stopped_at i h = fact_at_lem (λ f. f.is_stopped) i h

  pub scaled_at_lem : (i : ℕ) → i < inputs
      → bit_at (step_of runs pulses b).scaled i ≡ (facts_of (fate_at runs pulses b i)).is_scaled
  unfolding step_of
  scaled_at_lem i h = fact_at_lem (λ f. f.is_scaled) i h

  pub passed_at_lem : (i : ℕ) → i < inputs
      → bit_at (step_of runs pulses b).passed i ≡ (facts_of (fate_at runs pulses b i)).is_passed
  unfolding step_of
  passed_at_lem i h = fact_at_lem (λ f. f.is_passed) i h

  -- [Account.11] each counted pulse is in exactly one of the three masks
  pub fate_is_one : (i : ℕ) → i < inputs
      → one_if_of (bit_at pulses i)
      ≡ one_if_of (bit_at (step_of runs pulses b).stopped i)
      + one_if_of (bit_at (step_of runs pulses b).scaled i)
      + one_if_of (bit_at (step_of runs pulses b).passed i)
  fate_is_one i h = rw (stopped_at i h, scaled_at_lem i h, passed_at_lem i h) (one_fate (bit_at pulses i) runs (is_at_zero b i))

  -- [Account.12] a counted pulse is not stopped exactly where the bank runs, and passes if it is not scaled either
  pub unstopped_is_running : (i : ℕ) → i < inputs
      → (bit_at pulses i && not (bit_at (step_of runs pulses b).stopped i)) ≡ (bit_at pulses i && runs)
  unstopped_is_running i h = rw (stopped_at i h) (not_stopped (bit_at pulses i) runs (is_at_zero b i))

  pub passed_is_rest : (i : ℕ) → i < inputs
      → bit_at (step_of runs pulses b).passed i
      ≡ (bit_at pulses i
      && (not (bit_at (step_of runs pulses b).stopped i) && not (bit_at (step_of runs pulses b).scaled i)))
  passed_is_rest i h =
      rw (stopped_at i h, scaled_at_lem i h, passed_at_lem i h) (rest_passed (bit_at pulses i) runs (is_at_zero b i))

-- ---- the pulse of an input of a bank that runs

module _ (pulses : ℕ) (b : Prescalers) (i : ℕ) (counted : bit_at pulses i ≡ true) where
  -- [Pulses.3]
  pub above_zero_is_scaled : i < prescaled_inputs → 0 < counter_at b i → fate_at true pulses b i ≡ scaled
  above_zero_is_scaled h above =
      rw (counted, lt-leb prescaled_inputs i h, ne_eqb (counter_at b i) 0 (λ e. omega arith))

  -- [Pulses.4]
  pub zero_is_passed : i < prescaled_inputs → counter_at b i ≡ 0 → fate_at true pulses b i ≡ passed
  zero_is_passed h zero = rw (counted, lt-leb prescaled_inputs i h, eq-eqb (counter_at b i) 0 zero)

  -- [Pulses.5]
  pub unprescaled_is_passed : prescaled_inputs ≤ i → fate_at true pulses b i ≡ passed
  unprescaled_is_passed h = rw (counted, le-leb prescaled_inputs i h)

-- ---- the bank after a step

module _ (b : Prescalers) (eight : EightPlaces b) (i : ℕ) (h : prescaled_inputs ≤ i) where
  no_counter : counter_at b i ≡ 0
  no_counter = get_or-eq_default b.counters 0 {n = i} (rw eight.counters h)

  no_factor : factor_at b i ≡ 0
  no_factor = get_or-eq_default b.factors 0 {n = i} (rw eight.factors h)

-- an input without a prescaler reads as one whose counter is 0
zero_is_read : (b : Prescalers) (i : ℕ) → EightPlaces b → eqb (counter_at b i) 0 ≡ is_at_zero b i
zero_is_read b i eight = go (leb prescaled_inputs i) refl
  where
    go : (t : Bool) → leb prescaled_inputs i ≡ t → eqb (counter_at b i) 0 ≡ (t || eqb (counter_at b i) 0)
    go true e = eq-eqb (counter_at b i) 0 (no_counter b eight i (leb-true prescaled_inputs i e))
    go false e = refl

module _ (runs : Bool) (pulses : ℕ) (b : Prescalers) where
  pub step_keeps_factors : (step_of runs pulses b).next.factors ≡ b.factors
  unfolding step_of
  step_keeps_factors = refl

  pub step_keeps_lengths : EightPlaces b → EightPlaces (step_of runs pulses b).next
  unfolding step_of
  step_keeps_lengths eight =
      record { counters = tabulate_length prescaled_inputs (counter_after_at runs pulses b); factors = eight.factors }

  pub step_stands_at : (i : ℕ) → EightPlaces b
      → StandsAt (step_of runs pulses b).next i (counter_after_at runs pulses b i) (factor_at b i)
  unfolding step_of
  step_stands_at i eight = record { counter = go (ltb i prescaled_inputs) refl; factor = refl }
    where
      go : (t : Bool) → ltb i prescaled_inputs ≡ t
          → get_or (tabulate prescaled_inputs (counter_after_at runs pulses b)) i 0 ≡ counter_after_at runs pulses b i
      go true e = tabulate_at prescaled_inputs (counter_after_at runs pulses b) i 0 (ltb-true i prescaled_inputs e)
      go false e =
          let h = ltb-false i prescaled_inputs e in
          tabulate_past prescaled_inputs (counter_after_at runs pulses b) i 0 h
          ∙ sym (ap₂ (counter_after (fate_at runs pulses b i)) (no_counter b eight i h) (no_factor b eight i h)
          ∙ no_counter_stays (fate_at runs pulses b i))

  -- [Account.17] the count of input i + 1; inputs 9–12 read counter and factor 0
  pub step_keeps_pass_count : (i n p : ℕ) → i < inputs → EightPlaces b → PassCount n p (counter_at b i) (factor_at b i)
      → PassCount (n + one_if_of (bit_at pulses i && runs)) (p + one_if_of (bit_at (step_of runs pulses b).passed i))
      (counter_at (step_of runs pulses b).next i) (factor_at (step_of runs pulses b).next i)
  step_keeps_pass_count i n p h eight count =
      let at = step_stands_at i eight in
      let zero = zero_is_read b i eight in
      rw (passed_at_lem runs pulses b i h, at.counter, at.factor)
      (count_by_tests (bit_at pulses i) runs (is_at_zero b i) n p (counter_at b i) (factor_at b i) zero count)

  pub bank_stays : length b.counters ≡ prescaled_inputs
      → ((i : ℕ) → i < prescaled_inputs → counter_after_at runs pulses b i ≡ counter_at b i)
      → (step_of runs pulses b).next ≡ b
  unfolding step_of
  bank_stays l h =
      ap (λ (c : List ℕ). b ▷ with_counters c)
      (tabulate_same prescaled_inputs (counter_after_at runs pulses b) (counter_at b) h
      ∙ ap (λ (n : ℕ). tabulate n (counter_at b)) (sym l)
      ∙ tabulate_get_d b.counters 0)

-- [Pulses.2] a stopped pulse moves no counter
pub stopped_keeps_bank : (pulses : ℕ) (b : Prescalers) → EightPlaces b → (step_of false pulses b).next ≡ b
stopped_keeps_bank pulses b eight =
    bank_stays false pulses b eight.counters
    (λ i h. stopped_stays (bit_at pulses i) (is_at_zero b i) (counter_at b i) (factor_at b i))
