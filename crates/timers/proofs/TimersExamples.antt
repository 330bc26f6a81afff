-- Worked examples of the timers, computed from the definitions.
--     late_at_six         bench example P6: where T1 is used, 3 of its counts make a fail late from age 6 on
--     front_at_four, clear_at_least_one
-- Assumes nothing.
use mathlib.Core.Path.{◌≡◌, refl}
use mathlib.Core.Bool.{true, false}
use mathlib.Core.List.{[], ◌∷◌}
use Rattle.timers.specs.Timers.{is_late_due, front_test_of, clear_count_of}
use Rattle.timers.specs.declared.Timers.{Timers}

abbrev timers : Timers
timers = record { t1 = record { 0 = 3 }; t2 = record { 0 = 0 }; t3 = record { 0 = 0 }; t4 = record { 0 = 2 }; t5 = record { 0 = 0 } }

-- [Bench.6] T1 = 3: a fail at age 5 is not late, at 6 it is; not where T1 is not in use
pub late_at_six : is_late_due true 5 timers ∷ is_late_due true 6 timers ∷ is_late_due false 6 timers ∷ [] ≡ false ∷ true ∷ false ∷ []
late_at_six = refl

-- [Main.8] T4 = 2: held at age 3, free at 4; front busy holds in any case
pub front_at_four : front_test_of false true 3 timers ∷ front_test_of false true 4 timers ∷ front_test_of true false 4 timers ∷ []
    ≡ false ∷ true ∷ false ∷ []
front_at_four = refl

-- [Main.15] c is at least 1
pub clear_at_least_one : clear_count_of true timers ≡ 1
clear_at_least_one = refl
