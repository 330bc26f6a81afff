-- The code's choices are the step of document 01: a bank that it does not look at, and eight prescalers put together.
--     all_stopped, all_passed, counted   what the code builds in each case
--     stopped_by_choices    a bank that does not run stays, and every pulse is stopped, for `step`
--     passed_by_choices     with no pulse on inputs 1–8 a bank that runs stays, and every pulse passes, for `step`
--     nothing_by_choices    with no pulse at all a bank stays, for the core
--     counted_by_choices    eight counters and one mask are the step of a bank that runs, for `counted_down`
--     fit_by_halves         the widths of the first four numbers and of the last four are those of all, for `all_fit`
--     scaled_by_digits      eight numbers make the mask of its scaled pulses, for `scaled_of`
-- Assumes nothing.
use Rattle.std.specs.Prelude.{if◌then◌else◌}
use Prim.Native.Nat.{ℕ, zero, suc, ◌+◌, ◌*◌, ◌/◌, ◌%◌, ◌^◌, ◌<◌, ◌≤◌}
use mathlib.Core.Path.{◌≡◌, refl, sym, ap, ◌∙◌}
use mathlib.Core.Bool.{Bool, true, false, not, ◌&&◌, ◌||◌}
use mathlib.Core.List.{List}
use native.Mathlib.Omega.{arith}
use lib.Dec.{eqb, ltb, lit≤, lit<}
use lib.ListN.{length, get_or}
use Rattle.std.specs.Prelude.{take, drop}
use Rattle.std.specs.List.{list_all}
use Rattle.std.proofs.lemmas.List.{get_or-take, get_or-drop, length-take-le, length-drop}
use Rattle.bits.proofs.ListLaws.{all_at, tabulated}
use borrow.Author.Tests.{ltb-true, ltb-false, lt-ltb, le-leb, lt-leb}
use Rattle.bits.specs.Notation.{◌▷◌}
use Rattle.bits.specs.Bits.{bit_at, every, one_if_of, mask_of, tabulate, clear_of}
use Rattle.bits.proofs.BitsLaws.{zero_at, low_at, mask_same, mask_none, mask_of_bits, mask_wider, clear_mask}
use Rattle.prescaler.specs.PrescalerFields.{with_counters, counter_at}
use Rattle.registers.specs.Control.{inputs}
use Rattle.prescaler.specs.Prescaler.{prescaled_inputs, fate_of, running_counter, FateFacts, facts_of}
use Rattle.prescaler.specs.Prescaler.{is_at_zero, fate_at, counter_after_at, step_of, scaled_of, all_fit_of, EightPlaces}
use Rattle.prescaler.specs.declared.Prescalers.{Prescalers}
use Rattle.prescaler.specs.declared.Prescaled.{Prescaled}
use Rattle.prescaler.proofs.PrescalerLaws.{fact_at, bank_stays, stopped_keeps_bank}

-- ---- what the code builds

abbrev pub prescaled : Prescalers → (stopped scaled passed : ℕ) → Prescaled
prescaled b s c p = record { next = b; stopped = s; scaled = c; passed = p }

-- a bank that stays, and all pulses in one mask
abbrev pub all_stopped : (pulses : ℕ) → Prescalers → Prescaled
all_stopped pulses b = prescaled b (pulses % 2 ^ inputs) 0 0

abbrev pub all_passed : (pulses : ℕ) → Prescalers → Prescaled
all_passed pulses b = prescaled b 0 0 (pulses % 2 ^ inputs)

abbrev pub counted : (counters : List ℕ) (scaled pulses : ℕ) → Prescalers → Prescaled
counted counters scaled pulses b =
    prescaled (b ▷ with_counters counters) 0 scaled (clear_of scaled (pulses % 2 ^ inputs))

-- ---- the masks, from the facts of each input

module _ (runs : Bool) (pulses : ℕ) (b : Prescalers) (row : ℕ → FateFacts)
    (same : (i : ℕ) → i < inputs → facts_of (fate_at runs pulses b i) ≡ row i) where
  mask_by_rows : (fact : FateFacts → Bool)
      → mask_of inputs (fact_at fact runs pulses b) ≡ mask_of inputs (λ i. fact (row i))
  mask_by_rows fact =
      mask_same inputs (fact_at fact runs pulses b) (λ i. fact (row i)) (λ i h. ap fact (same i h))

-- ---- a bank that does not run

abbrev stopped_row : (counted : Bool) → FateFacts
stopped_row counted = record { is_stopped = counted; is_scaled = false; is_passed = false }

stopped_row_lem : (counted atZero : Bool) → facts_of (fate_of counted false atZero) ≡ stopped_row counted
stopped_row_lem true atZero = refl
stopped_row_lem false atZero = refl

pub stopped_by_choices : (pulses : ℕ) (b : Prescalers) → EightPlaces b → all_stopped pulses b ≡ step_of false pulses b
unfolding step_of
stopped_by_choices pulses b eight =
    let stopped = masks (λ f. f.is_stopped) ∙ mask_of_bits inputs pulses in
    let scaled = masks (λ f. f.is_scaled) ∙ mask_none inputs in
    let passed = masks (λ f. f.is_passed) ∙ mask_none inputs in
    sym (λ j. prescaled (stopped_keeps_bank pulses b eight j) (stopped j) (scaled j) (passed j))
  where
    masks : (fact : FateFacts → Bool)
        → mask_of inputs (fact_at fact false pulses b) ≡ mask_of inputs (λ i. fact (stopped_row (bit_at pulses i)))
    masks =
        mask_by_rows false pulses b (λ i. stopped_row (bit_at pulses i))
        (λ i h. stopped_row_lem (bit_at pulses i) (is_at_zero b i))

-- ---- a bank that runs, with no pulse on inputs 1–8

abbrev passed_row : (counted : Bool) → FateFacts
passed_row counted = record { is_stopped = false; is_scaled = false; is_passed = counted }

passed_row_lem : (counted : Bool) → facts_of (fate_of counted true true) ≡ passed_row counted
passed_row_lem true = refl
passed_row_lem false = refl

module _ (pulses : ℕ) (b : Prescalers) (none : pulses % 2 ^ prescaled_inputs ≡ 0) where
  no_pulse_at : (i : ℕ) → i < prescaled_inputs → bit_at pulses i ≡ false
  no_pulse_at i h =
      ap (λ (t : Bool). t && bit_at pulses i) (sym (lt-ltb i prescaled_inputs h))
      ∙ sym (low_at prescaled_inputs pulses i)
      ∙ ap (λ (w : ℕ). bit_at w i) none
      ∙ zero_at i

  every_passes : (i : ℕ) → facts_of (fate_at true pulses b i) ≡ passed_row (bit_at pulses i)
  every_passes i = go (ltb i prescaled_inputs) refl
    where
      go : (t : Bool) → ltb i prescaled_inputs ≡ t → facts_of (fate_at true pulses b i) ≡ passed_row (bit_at pulses i)
      go true e = rw (no_pulse_at i (ltb-true i prescaled_inputs e))
      go false e = rw (le-leb prescaled_inputs i (ltb-false i prescaled_inputs e)) (passed_row_lem (bit_at pulses i))

  pub passed_by_choices : EightPlaces b → all_passed pulses b ≡ step_of true pulses b
  unfolding step_of
  passed_by_choices eight =
      let next = bank_stays true pulses b eight.counters (λ i h. rw (no_pulse_at i h)) in
      let stopped = masks (λ f. f.is_stopped) ∙ mask_none inputs in
      let scaled = masks (λ f. f.is_scaled) ∙ mask_none inputs in
      let passed = masks (λ f. f.is_passed) ∙ mask_of_bits inputs pulses in
      sym (λ j. prescaled (next j) (stopped j) (scaled j) (passed j))
    where
      masks : (fact : FateFacts → Bool)
          → mask_of inputs (fact_at fact true pulses b) ≡ mask_of inputs (λ i. fact (passed_row (bit_at pulses i)))
      masks = mask_by_rows true pulses b (λ i. passed_row (bit_at pulses i)) (λ i h. every_passes i)

-- ---- a bank, running or not, with no pulse at all

pub nothing_by_choices : (runs : Bool) (b : Prescalers) → EightPlaces b → prescaled b 0 0 0 ≡ step_of runs 0 b
nothing_by_choices true b eight = passed_by_choices 0 b refl eight
nothing_by_choices false b eight = stopped_by_choices 0 b eight

-- ---- a bank that runs, put together from its eight prescalers

running_none_stopped : (counted atZero : Bool) → (facts_of (fate_of counted true atZero)).is_stopped ≡ false
running_none_stopped true true = refl
running_none_stopped true false = refl
running_none_stopped false atZero = refl

running_rest_passed : (counted atZero : Bool)
    → (counted && not (facts_of (fate_of counted true atZero)).is_scaled) ≡ (facts_of (fate_of counted true atZero)).is_passed
running_rest_passed true true = refl
running_rest_passed true false = refl
running_rest_passed false atZero = refl

module _ (pulses : ℕ) (b : Prescalers) where
  abbrev scaled_at : ℕ → Bool
  scaled_at = fact_at (λ f. f.is_scaled) true pulses b

  abbrev passed_at : ℕ → Bool
  passed_at = fact_at (λ f. f.is_passed) true pulses b

  none_stopped : 0 ≡ mask_of inputs (fact_at (λ f. f.is_stopped) true pulses b)
  none_stopped =
      sym (mask_same inputs (fact_at (λ f. f.is_stopped) true pulses b) (λ i. false)
      (λ i h. running_none_stopped (bit_at pulses i) (is_at_zero b i)) ∙ mask_none inputs)

  unprescaled_not_scaled : (i : ℕ) → prescaled_inputs ≤ i → (facts_of (fate_at true pulses b i)).is_scaled ≡ false
  unprescaled_not_scaled i h =
      rw (le-leb prescaled_inputs i h) (ap (λ (f : FateFacts). f.is_scaled) (passed_row_lem (bit_at pulses i)))

  eight_are_all_scaled : scaled_of pulses b ≡ mask_of inputs scaled_at
  eight_are_all_scaled = mask_wider prescaled_inputs inputs scaled_at (lit≤ tt) unprescaled_not_scaled

  rest_passes : clear_of (mask_of inputs scaled_at) (pulses % 2 ^ inputs) ≡ mask_of inputs passed_at
  rest_passes =
      clear_mask inputs pulses scaled_at
      ∙ mask_same inputs (λ i. bit_at pulses i && not (scaled_at i)) passed_at
      (λ i h. running_rest_passed (bit_at pulses i) (is_at_zero b i))

  eight_are_all_counters : (counters : List ℕ) → length counters ≡ prescaled_inputs
      → ((i : ℕ) → i < prescaled_inputs → get_or counters i 0 ≡ running_counter pulses b i)
      → counters ≡ tabulate prescaled_inputs (counter_after_at true pulses b)
  eight_are_all_counters counters long each =
      tabulated prescaled_inputs (counter_after_at true pulses b) 0 counters long
      (λ i h. each i h ∙ rw (lt-leb prescaled_inputs i h) refl)

  abbrev all_counters : List ℕ
  all_counters = tabulate prescaled_inputs (counter_after_at true pulses b)

  counted_is_step : counted all_counters (scaled_of pulses b) pulses b ≡ step_of true pulses b
  unfolding step_of
  counted_is_step =
      let passed = ap (λ (m : ℕ). clear_of m (pulses % 2 ^ inputs)) eight_are_all_scaled ∙ rest_passes in
      λ j. prescaled (b ▷ with_counters all_counters) (none_stopped j) (eight_are_all_scaled j) (passed j)

  pub counted_by_choices : {counters : List ℕ} {scaled : ℕ} → length counters ≡ prescaled_inputs
      → ((i : ℕ) → i < prescaled_inputs → get_or counters i 0 ≡ running_counter pulses b i)
      → scaled ≡ scaled_of pulses b → counted counters scaled pulses b ≡ step_of true pulses b
  counted_by_choices {counters} long each k =
      (λ j. counted (eight_are_all_counters counters long each j) (k j) pulses b) ∙ counted_is_step

-- ---- its mask of scaled pulses, as a sum of eight numbers

scaled_digit : (pulse : ℕ) (atZero : Bool) → pulse < 2
    → (if atZero then 0 else pulse) ≡ one_if_of (facts_of (fate_of (eqb pulse 1) true atZero)).is_scaled
scaled_digit zero true h = refl
scaled_digit zero false h = refl
scaled_digit (suc zero) true h = refl
scaled_digit (suc zero) false h = refl
scaled_digit (suc (suc n)) atZero h = absurd (omega arith)

-- the number of input i + 1, as the code makes it
abbrev pub digit_at : (pulses : ℕ) → Prescalers → (i : ℕ) → ℕ
digit_at pulses b i = if eqb (counter_at b i) 0 then 0 else pulses / 2 ^ i % 2

digit_is_scaled : (pulses : ℕ) (b : Prescalers) (i : ℕ) → i < prescaled_inputs
    → digit_at pulses b i ≡ one_if_of (scaled_at pulses b i)
digit_is_scaled pulses b i h =
    scaled_digit (pulses / 2 ^ i % 2) (eqb (counter_at b i) 0) (omega arith)
    ∙ ap (λ (t : Bool). one_if_of (facts_of (fate_of (bit_at pulses i) true (t || eqb (counter_at b i) 0))).is_scaled)
    (sym (lt-leb prescaled_inputs i h))

pub scaled_by_digits : (pulses : ℕ) (b : Prescalers)
    → digit_at pulses b 0 + 2 * digit_at pulses b 1 + 4 * digit_at pulses b 2 + 8 * digit_at pulses b 3
    + 16 * digit_at pulses b 4 + 32 * digit_at pulses b 5 + 64 * digit_at pulses b 6 + 128 * digit_at pulses b 7
    ≡ scaled_of pulses b
unfolding mask_of
scaled_by_digits pulses b =
    rw (
      digit_is_scaled pulses b 0 (lit≤ tt),
      digit_is_scaled pulses b 1 (lit≤ tt),
      digit_is_scaled pulses b 2 (lit≤ tt),
      digit_is_scaled pulses b 3 (lit≤ tt),
      digit_is_scaled pulses b 4 (lit≤ tt),
      digit_is_scaled pulses b 5 (lit≤ tt),
      digit_is_scaled pulses b 6 (lit≤ tt),
      digit_is_scaled pulses b 7 (lit≤ tt),
    )
    (omega arith)

-- ---- the widths of eight numbers, by halves

and_joined : (a b c d : Bool) (rest : Bool) → ((a && (b && (c && (d && true)))) && rest) ≡ (a && (b && (c && (d && rest))))
and_joined false b c d rest = refl
and_joined true false c d rest = refl
and_joined true true false d rest = refl
and_joined true true true false rest = refl
and_joined true true true true rest = refl

-- the first four numbers of a list, one by one
module _ (test : ℕ → Bool) (l : List ℕ) (long : 4 ≤ length l) where
  four_taken : list_all test (take 4 l)
      ≡ (test (get_or l 0 0) && (test (get_or l 1 0) && (test (get_or l 2 0) && (test (get_or l 3 0) && true))))
  unfolding every
  four_taken =
      all_at test 4 (take 4 l) (length-take-le 4 l long)
      ∙ rw (
        get_or-take 4 l 0 0 (lit< tt),
        get_or-take 4 l 1 0 (lit< tt),
        get_or-take 4 l 2 0 (lit< tt),
        get_or-take 4 l 3 0 (lit< tt),
      ) refl

pub fit_by_halves : (values : List ℕ) → length values ≡ 8
    → (list_all (λ v. ltb v (2 ^ 20)) (take 4 values) && list_all (λ v. ltb v (2 ^ 14)) (take 4 (drop 4 values)))
    ≡ all_fit_of values
unfolding all_fit_of every
fit_by_halves values h =
    let low : ℕ → Bool = λ i. ltb (get_or values i 0) (2 ^ 20) in
    rw (
      four_taken (λ v. ltb v (2 ^ 20)) values (omega arith),
      four_taken (λ v. ltb v (2 ^ 14)) (drop 4 values) (rw (length-drop 4 values, h) (lit≤ tt)),
      get_or-drop 4 values 0 0,
      get_or-drop 4 values 1 0,
      get_or-drop 4 values 2 0,
      get_or-drop 4 values 3 0,
    ) (and_joined (low 0) (low 1) (low 2) (low 3) _)
