-- Changes of one field of the bank, and its fields by input. Nothing of document 01 is decided here.
--     with_counters, with_factors   the bank with one field changed
--     counter_at b i, factor_at b i the counter and the factor of input i + 1, 0 where it has none
-- Assumes nothing.
use Rattle.std.specs.Prelude.{ℕ, List, get_or}
use Rattle.prescaler.specs.declared.Prescalers.{Prescalers}

abbrev pub with_counters : List ℕ → Prescalers → Prescalers
with_counters v b = record { counters = v; factors = b.factors }

abbrev pub with_factors : List ℕ → Prescalers → Prescalers
with_factors v b = record { counters = b.counters; factors = v }

abbrev pub counter_at : Prescalers → ℕ → ℕ
counter_at b i = get_or b.counters i 0

abbrev pub factor_at : Prescalers → ℕ → ℕ
factor_at b i = get_or b.factors i 0
