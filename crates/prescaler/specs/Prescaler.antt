-- The prescalers of inputs 1–8: what becomes of each counted pulse, and the counters after it.
--     document 01      "The tick", Pulses; "Registers", the loading of a counter; document 02, N4
--     fate_of           what becomes of an input's pulse, from the tests of the tick
--     counter_after     the counter after it
--     step_of           the bank after a tick's counted pulses, with the masks stopped, scaled and passed
--     with_factor_of     a factor written; reloaded_of: every counter loaded
--     PassCount        how many pulses have passed, what the laws keep
-- Bit i and place i are input i + 1.
-- Own rules of 01 used here: none. Decisions: T7, R7, R8. Left out: which pulses are counted, in registers.
-- Assumes nothing.
use Rattle.std.specs.Prelude.{ℕ, suc, ◌+◌, ◌-◌, ◌*◌, ◌≤◌, ◌≡◌, Bool, true, false, not, ◌&&◌, ◌||◌, List, eqb, leb, length, get_or, set, replicate, if◌then◌else◌}
use Rattle.bits.specs.Notation.{◌▷◌}
use Rattle.bits.specs.Bits.{bit_at, mask_of, tabulate, every}
use Rattle.registers.specs.Control.{inputs}
use Rattle.registers.specs.Registers.{is_valid_factor}
use Rattle.prescaler.specs.PrescalerFields.{with_counters, with_factors, counter_at, factor_at}
use Rattle.prescaler.specs.declared.Prescalers.{Prescalers}
use Rattle.prescaler.specs.declared.Prescaled.{Prescaled}

-- ---- constants of document 01

-- [Registers.1] the inputs with a prescaler: 1–8 of the twelve
abbrev pub prescaled_inputs : ℕ
prescaled_inputs = 8

-- ---- the bank

-- [Registers.4] every counter and factor 0
abbrev pub fresh_of : Prescalers
fresh_of = record { counters = replicate prescaled_inputs 0; factors = replicate prescaled_inputs 0 }

abbrev pub is_prescaled_of : (input : ℕ) → Bool
is_prescaled_of input = leb 1 input && leb input prescaled_inputs

-- [Registers.2] [Bytes.4a] writing the factor of an input, counted from 1; with BYTE(3) it loads its counter
unfoldable pub with_factor_of : (loads : Bool) (input factor : ℕ) → Prescalers → Prescalers
with_factor_of loads input factor b =
    if is_prescaled_of input
    then b
    ▷ with_counters (if loads then set b.counters (input - 1) factor else b.counters)
    ▷ with_factors (set b.factors (input - 1) factor)
    else b

-- [Registers.1] the factor of an input, counted from 1
unfoldable pub factor_of : (input : ℕ) → Prescalers → ℕ
factor_of input b = if is_prescaled_of input then factor_at b (input - 1) else 0

-- [CSRWrite.2d] RESET loads every counter
abbrev pub reloaded_of : Prescalers → Prescalers
reloaded_of b = b ▷ with_counters b.factors

-- ---- one pulse

pub data Fate : Type 0 where
  absent stopped scaled passed : Fate

-- [Pulses.2] neither GO nor OPEN PRESCALES: stopped
-- [Pulses.3] [Pulses.4] counter above 0: scaled; else passed
abbrev pub fate_of : (counted runs atZero : Bool) → Fate
fate_of counted runs atZero =
    if not counted then absent
    else if not runs then stopped
    else if not atZero then scaled
    else passed

-- [Pulses.3] [Pulses.4] a scaled pulse takes one from the counter, a passed one loads it with the factor
abbrev pub counter_after : Fate → (counter factor : ℕ) → ℕ
counter_after absent counter factor = counter
counter_after stopped counter factor = counter
counter_after scaled counter factor = counter - 1
counter_after passed counter factor = factor

pub record FateFacts : Type 0 where
  pub is_stopped : Bool
  pub is_scaled : Bool
  pub is_passed : Bool

abbrev facts : (is_stopped is_scaled is_passed : Bool) → FateFacts
facts s c p = record { is_stopped = s; is_scaled = c; is_passed = p }

-- a fate            stopped scaled passed
abbrev pub facts_of : Fate → FateFacts
facts_of absent = facts false false false
facts_of stopped = facts true false false
facts_of scaled = facts false true false
facts_of passed = facts false false true

-- ---- a tick of the bank

-- [Pulses.5] a pulse of inputs 9–12, which have no counter, passes like one that meets a counter at 0
abbrev pub is_at_zero : Prescalers → (i : ℕ) → Bool
is_at_zero b i = leb prescaled_inputs i || eqb (counter_at b i) 0

abbrev pub fate_at : (runs : Bool) (pulses : ℕ) → Prescalers → (i : ℕ) → Fate
fate_at runs pulses b i = fate_of (bit_at pulses i) runs (is_at_zero b i)

abbrev pub counter_after_at : (runs : Bool) (pulses : ℕ) → Prescalers → (i : ℕ) → ℕ
counter_after_at runs pulses b i = counter_after (fate_at runs pulses b i) (counter_at b i) (factor_at b i)

-- the counter of input i + 1, one of those that have one, in a bank that runs
abbrev pub running_counter : (pulses : ℕ) → Prescalers → (i : ℕ) → ℕ
running_counter pulses b i =
    counter_after (fate_of (bit_at pulses i) true (eqb (counter_at b i) 0)) (counter_at b i) (factor_at b i)

-- runs: GO or OPEN PRESCALES is set; pulses: the counted ones
unfoldable pub step_of : (runs : Bool) (pulses : ℕ) → Prescalers → Prescaled
step_of runs pulses b =
    record {
      next = b ▷ with_counters (tabulate prescaled_inputs (counter_after_at runs pulses b));
      stopped = mask_of inputs (λ i. (facts_of (fate_at runs pulses b i)).is_stopped);
      scaled = mask_of inputs (λ i. (facts_of (fate_at runs pulses b i)).is_scaled);
      passed = mask_of inputs (λ i. (facts_of (fate_at runs pulses b i)).is_passed);
    }

-- [Pulses.3] [Pulses.5] the scaled pulses of a bank that runs: none of inputs 9–12 is
abbrev pub scaled_of : (pulses : ℕ) → Prescalers → ℕ
scaled_of pulses b = mask_of prescaled_inputs (λ i. (facts_of (fate_at true pulses b i)).is_scaled)

-- ---- what of the bank spoils a record

-- [Widths.1] each of eight numbers fits the width of its input's factor
unfoldable pub all_fit_of : List ℕ → Bool
all_fit_of values = every prescaled_inputs (λ i. is_valid_factor (suc i) (get_or values i 0))

-- [Bytes.9] in place of [Spoiled.1e]: a counter above its factor is reached, by a factor written without BYTE(3)
abbrev pub has_counters_within_of : Prescalers → Bool
has_counters_within_of b = all_fit_of b.counters

-- [Spoiled.1a] every factor is one that its write takes
abbrev pub has_valid_factors_of : Prescalers → Bool
has_valid_factors_of b = all_fit_of b.factors

-- ---- facts and statements

-- an array of the code has eight places, a list of any length stands for it here
pub record EightPlaces (b : Prescalers) : Type 0 where
  pub counters : length b.counters ≡ prescaled_inputs
  pub factors : length b.factors ≡ prescaled_inputs

-- the pulse of input i + 1 is scaled and does not pass
pub record ScaledAt (r : Prescaled) (i : ℕ) : Type 0 where
  pub scaled : bit_at r.scaled i ≡ true
  pub passed : bit_at r.passed i ≡ false

-- [Account.17] of n counted pulses not stopped since a write, RESET or INITIALIZE loaded the counter, p have passed;
-- the prescaler stands at the counter
pub record PassCount (n p counter factor : ℕ) : Type 0 where
  -- needed where the counter is loaded
  pub within : counter ≤ factor
  pub balance : n + counter ≡ p * (factor + 1) + factor
