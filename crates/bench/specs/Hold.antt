-- Examples of the held clock and of the single step, as a table.
--     document 02     N5; source document 001, sections 3.1 and 3.10
--     hold_examples    the table, of rows as in Bench
-- Input 1 is enabled and GO is set but where a row says otherwise.
-- Own rules of 02 used here: none. Decisions: T9. Left out: test mode, in TestMode.
-- Assumes nothing.
use Rattle.std.specs.Prelude.{◌+◌, List, [], ◌∷◌, ◌++◌}
use Rattle.declines.specs.Runs.{Ask}
use Rattle.bench.specs.Asks.{csr, factor, state, go, clear_go, reset, initialize, first_controller, front_busy, inhibit, write}
use Rattle.bench.specs.Asks.{read, store, bring, pulse, lines, acknowledge, ticks, times, class2, event}
use Rattle.bench.specs.Sessions.{stopped, rejected, passed, finished1, shown1, raised, read_out, high_bits}
use Rattle.bench.specs.Bench.{Example, given◌ask◌look◌see◌, running, running_with, one_controller}
use Rattle.bench.specs.TestAsks.{test, hold, test_mode, clear_hold, pulse_inputs, step}

-- ---- rows: a held tick

abbrev pub held : List Ask
held = running_with hold

-- [Test.7a] every counted pulse is stopped, whatever GO is; in test mode none counts
abbrev pub held_stops : Example
held_stops = given held ask pulse 1 ∷ pulse 2 ∷ write csr clear_go ∷ pulse 1 ∷ [] look stopped see 1 ∷ 0 ∷ 1 ∷ []

abbrev pub held_stops_none_in_test : Example
held_stops_none_in_test = given held ++ write csr test_mode ∷ [] ask pulse 1 ∷ [] look stopped see 0 ∷ []

-- the prescaler does not count them
abbrev pub held_scales_none : Example
held_scales_none =
    given write (factor 1) 1 ∷ held ++ times 3 (pulse 1 ∷ []) ++ write csr clear_hold ∷ []
    ask times 2 (pulse 1 ∷ []) look passed see 0 ∷ 1 ∷ []

-- [Test.7a] the shown word and the lines out as they stand; nothing finishes, until the clock runs
abbrev pub word_stands : Example
word_stands =
    given one_controller ++ event 1 ++ write csr hold ∷ []
    ask times 2 (acknowledge first_controller ∷ []) look shown1 see 5 ∷ 5 ∷ []

abbrev pub nothing_finishes : Example
nothing_finishes =
    given one_controller ++ event 1 ++ write csr hold ∷ []
    ask acknowledge first_controller ∷ write csr clear_hold ∷ acknowledge first_controller ∷ []
    look finished1 see 0 ∷ 5 ∷ []

-- level 1 OK and level 2 start, bits 0 and 1
abbrev pub lines_stand : Example
lines_stand = given store class2 ∷ running ++ pulse 1 ∷ write csr hold ∷ [] ask ticks 2 look raised see 3 ∷ 3 ∷ []

-- no status bit is set
abbrev pub held_sets_no_status : Example
held_sets_no_status = given held ask lines inhibit ∷ read csr ∷ [] look read_out see 0x1001 ∷ []

-- [Test.7b] STATE shows the latest tick that ran; READY does not look at hold
abbrev pub state_shows_the_latest : Example
state_shows_the_latest =
    given running ++ lines front_busy ∷ write csr hold ∷ lines inhibit ∷ []
    ask read state ∷ [] look high_bits see 10 ∷ 13 ∷ 16 ∷ 18 ∷ 21 ∷ 24 ∷ 27 ∷ 30 ∷ []

abbrev pub ready_under_hold : Example
ready_under_hold = given held ask read state ∷ [] look high_bits see 15 ∷ 16 ∷ 18 ∷ 21 ∷ 24 ∷ 27 ∷ 30 ∷ []

-- ---- rows: a single step

-- [Test.8a] one tick, however many were written before it
abbrev pub one_tick_is_let : Example
one_tick_is_let = given held ++ step ∷ [] ask times 2 (pulse 1 ∷ []) look stopped see 0 ∷ 1 ∷ []

abbrev pub several_as_one : Example
several_as_one = given held ++ step ∷ step ∷ [] ask times 3 (pulse 1 ∷ []) look stopped see 0 ∷ 1 ∷ 1 ∷ []

-- written without hold it does nothing
abbrev pub step_needs_hold : Example
step_needs_hold = given running ++ step ∷ write csr hold ∷ [] ask pulse 1 ∷ [] look stopped see 1 ∷ []

-- it survives hold going off and on, and is used by the next tick that runs
abbrev pub step_survives : Example
step_survives =
    given held ++ step ∷ write csr clear_hold ∷ write csr hold ∷ []
    ask times 2 (pulse 1 ∷ []) look stopped see 0 ∷ 1 ∷ []

abbrev pub any_tick_uses_it : Example
any_tick_uses_it =
    given held ++ step ∷ write csr clear_hold ∷ ticks 1 ++ write csr hold ∷ [] ask pulse 1 ∷ [] look stopped see 1 ∷ []

-- a declined tick does not use it: trigger bit 12 names no input
abbrev pub declined_uses_none : Example
declined_uses_none =
    given held ++ step ∷ [] ask bring 0x1000 0 0 ∷ pulse 1 ∷ [] look stopped see 0 ∷ []

-- [Test.7a] written pulses wait for it; without test mode it lets the outside in
abbrev pub pulses_wait : Example
pulses_wait =
    given running_with (hold + test_mode) ++ write test pulse_inputs ∷ ticks 2 ++ step ∷ []
    ask ticks 1 look rejected see 1 ∷ []

abbrev pub step_lets_outside_in : Example
step_lets_outside_in = given held ++ step ∷ [] ask pulse 1 ∷ [] look rejected see 1 ∷ []

-- ---- rows: RESET and INITIALIZE

-- [Test.8b] RESET keeps both modes as its own write leaves them: on, switched on, switched off
abbrev pub reset_keeps_modes : Example
reset_keeps_modes =
    given held
    ask write csr reset ∷ read csr ∷ write csr (reset + test_mode) ∷ read csr ∷ write csr (reset + clear_hold) ∷ read csr ∷ []
    look read_out see 0x1000 ∷ 0x3000 ∷ 0x2000 ∷ []

-- and drops a step, and a pulse
abbrev pub reset_drops_step : Example
reset_drops_step = given held ++ step ∷ write csr reset ∷ write csr go ∷ [] ask pulse 1 ∷ [] look stopped see 1 ∷ []

abbrev pub reset_drops_pulse : Example
reset_drops_pulse =
    given running_with test_mode ++ write test pulse_inputs ∷ write csr reset ∷ write csr go ∷ []
    ask ticks 1 look rejected see 0 ∷ []

-- INITIALIZE clears both, and drops what waits
abbrev pub initialize_clears_modes : Example
initialize_clears_modes =
    given running_with (hold + test_mode) ++ write csr (initialize + hold) ∷ [] ask read csr ∷ [] look read_out see 0 ∷ []

abbrev pub initialize_drops_step : Example
initialize_drops_step =
    given held ++ step ∷ write csr initialize ∷ held ask pulse 1 ∷ [] look stopped see 1 ∷ []

-- ---- the table

abbrev pub hold_examples : List Example
hold_examples =
    held_stops ∷ held_stops_none_in_test ∷ held_scales_none ∷ word_stands ∷ nothing_finishes ∷ lines_stand ∷ held_sets_no_status
    ∷ state_shows_the_latest ∷ ready_under_hold
    ∷ one_tick_is_let ∷ several_as_one ∷ step_needs_hold ∷ step_survives ∷ any_tick_uses_it ∷ declined_uses_none ∷ pulses_wait
    ∷ step_lets_outside_in
    ∷ reset_keeps_modes ∷ reset_drops_step ∷ reset_drops_pulse ∷ initialize_clears_modes ∷ initialize_drops_step
    ∷ []
