-- The timers: two units of time, each with its own ticks, and the tests that Main makes with them.
--     document 01      "Registers", the widths; "The tick", Main
--     count40_ticks_of   the ticks of a count of 40 ns; count20_ticks_of: of a count of 20 ns
--     written_of, stored_of   a timer written and read by its number
--     is_reached        an age has reached a count of 40 ns
--     is_late_due        T1 is in use and reached: a fail is late
--     front_test_of      the Front test, which Clear makes too
--     clear_count_of     the count that Clear enters with
-- Own rules of 01 used here: none. Decisions: none. Left out: nothing.
-- Assumes nothing.
use Rattle.std.specs.Prelude.{ℕ, ◌*◌, ◌%◌, ◌^◌, Bool, not, ◌&&◌, eqb, ltb, leb, if◌then◌else◌}
use Rattle.timers.specs.declared.Count40.{Count40}
use Rattle.timers.specs.declared.Count20.{Count20}
use Rattle.timers.specs.declared.Timers.{Timers}

-- [Widths.3] a tick is 20 ns
abbrev pub count40_ticks_of : Count40 → ℕ
count40_ticks_of n = 2 * n.0

abbrev pub count20_ticks_of : Count20 → ℕ
count20_ticks_of n = n.0

-- [Registers.4] every timer 0
abbrev pub fresh_of : Timers
fresh_of = record { t1 = record { 0 = 0 }; t2 = record { 0 = 0 }; t3 = record { 0 = 0 }; t4 = record { 0 = 0 }; t5 = record { 0 = 0 } }

-- ---- changes of one timer, by its number: T1–T5

-- [Widths.2] 16 bits, and 8 for T5
unfoldable pub written_of : (n v : ℕ) → Timers → Timers
written_of n v t =
    if eqb n 1 then record { t1 = record { 0 = v % 2 ^ 16 }; t2 = t.t2; t3 = t.t3; t4 = t.t4; t5 = t.t5 }
    else if eqb n 2 then record { t1 = t.t1; t2 = record { 0 = v % 2 ^ 16 }; t3 = t.t3; t4 = t.t4; t5 = t.t5 }
    else if eqb n 3 then record { t1 = t.t1; t2 = t.t2; t3 = record { 0 = v % 2 ^ 16 }; t4 = t.t4; t5 = t.t5 }
    else if eqb n 4 then record { t1 = t.t1; t2 = t.t2; t3 = t.t3; t4 = record { 0 = v % 2 ^ 16 }; t5 = t.t5 }
    else record { t1 = t.t1; t2 = t.t2; t3 = t.t3; t4 = t.t4; t5 = record { 0 = v % 2 ^ 8 } }

unfoldable pub stored_of : (n : ℕ) → Timers → ℕ
stored_of n t =
    if eqb n 1 then t.t1.0
    else if eqb n 2 then t.t2.0
    else if eqb n 3 then t.t3.0
    else if eqb n 4 then t.t4.0
    else t.t5.0

-- ---- the tests that are made with them

-- [Main.6] [Main.7] [Main.8] an age in ticks against a count of 40 ns
abbrev pub is_reached : (age : ℕ) → Count40 → Bool
is_reached age n = leb (count40_ticks_of n) age

-- [Main.6] used: CSR bit 6
abbrev pub is_late_due : (used : Bool) (age : ℕ) → Timers → Bool
is_late_due used age t = used && is_reached age t.t1

-- [Main.8] [Main.15] used: CSR bit 7; busy: the front busy line
abbrev pub front_test_of : (busy used : Bool) (age : ℕ) → Timers → Bool
front_test_of busy used age t = not busy && not (used && not (is_reached age t.t4))

-- [Main.15] used: CSR bit 8; at least 1
abbrev pub clear_count_of : (used : Bool) → Timers → ℕ
clear_count_of used t = if used && ltb 0 (count20_ticks_of t.t5) then count20_ticks_of t.t5 else 1
