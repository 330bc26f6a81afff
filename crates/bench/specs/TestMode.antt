-- Examples of test mode, as a table: what is written to TEST in place of the outside lines.
--     document 02     N5; source document 001, section 3.10
--     test_examples    the table, of rows as in Bench
-- Input 1 is enabled and GO is set but where a row says otherwise.
-- Own rules of 02 used here: none. Decisions: R9. Left out: the held clock, in Hold.
-- Assumes nothing.
use Rattle.std.specs.Prelude.{ℕ, ◌+◌, ◌^◌, List, [], ◌∷◌, ◌++◌}
use Rattle.declines.specs.Runs.{Ask}
use Rattle.bench.specs.Asks.{csr, control, factor, roc_enable, state, enable, go, first_controller, pass2, front_busy}
use Rattle.bench.specs.Asks.{inhibit, write, read, write_bytes, store, bring, pulse, lines, acknowledge, ticks, times}
use Rattle.bench.specs.Asks.{event, class1, class2}
use Rattle.bench.specs.Sessions.{stopped, accepted, rejected, passed, lost, cleared, loaded, finished1}
use Rattle.bench.specs.Sessions.{read_out, high_bits, decline}
use Rattle.bench.specs.Bench.{Example, given◌ask◌look◌see◌, running, running_with}
use Rattle.bench.specs.TestAsks.{test, hold, test_mode, clear_hold, clear_test_mode, pulse_inputs, written_pass2, written_fail2}
use Rattle.bench.specs.TestAsks.{written_busy, written_inhibit, acknowledge1, replace_acks, strobe_mode}

-- ---- rows: what is taken

-- [Test.10] the modes are stored, and cleared each by itself; bit 30 is still declined
abbrev pub modes_are_stored : Example
modes_are_stored =
    given write csr (hold + test_mode) ∷ []
    ask read csr ∷ write csr clear_hold ∷ read csr ∷ write csr (hold + clear_test_mode) ∷ read csr ∷ []
    look read_out see 0x3000 ∷ 0x2000 ∷ 0x1000 ∷ []

abbrev pub bit30_is_declined : Example
bit30_is_declined = given [] ask write csr (2 ^ 30) ∷ [] look decline see 5 ∷ []

-- [Test.5a] [Test.5b] all its bits at once, while active; then 1, 6, 15 and 16; a read; register 22
abbrev pub test_is_written : Example
test_is_written =
    given running
    ask write test 0x7FBD ∷ write test (2 ^ 1) ∷ write test (2 ^ 6) ∷ write test (2 ^ 15) ∷ write test (2 ^ 16)
    ∷ read test ∷ write (test + 1) 0 ∷ []
    look decline see 0 ∷ 5 ∷ 5 ∷ 5 ∷ 5 ∷ 3 ∷ 3 ∷ []

-- [Bytes.3b] of a run its own bytes count: BYTE(3) has bits 0–7, BYTE(2) bits 8–15
abbrev pub test_by_bytes : Example
test_by_bytes =
    given running_with test_mode
    ask write_bytes 3 1 test (0x8000 + pulse_inputs) ∷ write_bytes 2 1 test 0x8000 ∷ write_bytes 2 1 test (0xFF + written_busy) ∷ []
    look decline see 0 ∷ 5 ∷ 0 ∷ []

abbrev pub bytes_wait_together : Example
bytes_wait_together =
    given running_with test_mode ++ write_bytes 3 1 test pulse_inputs ∷ write_bytes 2 1 test written_busy ∷ []
    ask ticks 1 look lost see 1 ∷ []

abbrev pub bytes_outside_do_not_wait : Example
bytes_outside_do_not_wait =
    given running_with test_mode ++ write_bytes 3 1 test (pulse_inputs + written_busy) ∷ [] ask ticks 1 look lost see 0 ∷ []

-- [Test.2] control is written while active, and 5 is still tested; a factor, and control outside test mode or under hold, get 4
abbrev pub control_is_open : Example
control_is_open =
    given running_with test_mode
    ask write control 0 ∷ write control (2 ^ 13) ∷ write_bytes 3 1 control 2 ∷ write (factor 1) 0 ∷ []
    look decline see 0 ∷ 5 ∷ 0 ∷ 4 ∷ []

abbrev pub control_is_shut : Example
control_is_shut =
    given running ask write control 0 ∷ write csr hold ∷ write control 0 ∷ [] look decline see 4 ∷ 0 ∷ 4 ∷ []

-- ---- rows: lines

-- [Test.3] a pulse of every enabled input, by the control of the tick; the strobe counts as high
abbrev pub pulses_the_enabled : Example
pulses_the_enabled =
    given running_with test_mode ++ write test pulse_inputs ∷ write control (enable 2 + enable 12) ∷ []
    ask ticks 2 look rejected see 0x802 ∷ 0 ∷ []

abbrev pub strobe_is_high : Example
strobe_is_high =
    given store class1 ∷ write control (strobe_mode + enable 1) ∷ write csr (go + test_mode) ∷ write test pulse_inputs ∷ []
    ask ticks 1 look accepted see 1 ∷ []

-- [Test.2] outside triggers do not count; neither pass nor busy nor inhibit from outside is in force
abbrev pub outside_is_blocked : Example
outside_is_blocked = given running_with test_mode ask pulse 1 ∷ [] look passed see 0 ∷ []

abbrev pub outside_is_not_stopped : Example
outside_is_not_stopped = given running_with test_mode ask pulse 1 ∷ [] look stopped see 0 ∷ []

abbrev pub outside_busy_is_blocked : Example
outside_busy_is_blocked =
    given running_with test_mode ++ write test pulse_inputs ∷ [] ask lines (front_busy + inhibit) ∷ [] look rejected see 1 ∷ []

-- an event of class 2 waits for level 2
abbrev pub in_wait2 : List Ask
in_wait2 = store class2 ∷ running_with test_mode ++ write test pulse_inputs ∷ ticks 1

abbrev pub outside_pass_is_blocked : Example
outside_pass_is_blocked = given in_wait2 ask times 4 (lines pass2 ∷ []) look loaded see 0 ∷ 0 ∷ 0 ∷ 0 ∷ []

abbrev pub written_pass_passes : Example
written_pass_passes = given in_wait2 ++ write test written_pass2 ∷ [] ask ticks 4 look loaded see 0 ∷ 0 ∷ 5 ∷ 0 ∷ []

abbrev pub written_fail_clears : Example
written_fail_clears = given in_wait2 ++ write test written_fail2 ∷ [] ask ticks 2 look cleared see 1 ∷ 0 ∷ []

-- [Ready.6] a written inhibit sets status 16, one from outside does not
abbrev pub inhibit_is_seen : Example
inhibit_is_seen =
    given running_with test_mode
    ask lines inhibit ∷ read csr ∷ write test written_inhibit ∷ bring 0 0 0 ∷ read csr ∷ []
    look read_out see 0x2001 ∷ 0x12001 ∷ []

-- [State.3] [Test.7b] STATE shows the lines in force
abbrev pub state_shows_written : Example
state_shows_written =
    given write csr test_mode ∷ write test (written_pass2 + written_busy) ∷ lines inhibit ∷ []
    ask read state ∷ [] look high_bits see 2 ∷ 10 ∷ 13 ∷ 18 ∷ 21 ∷ 24 ∷ 27 ∷ 30 ∷ []

-- ---- rows: how long a pulse waits

-- [Test.6] those of several writes together, for one tick
abbrev pub writes_act_together : Example
writes_act_together =
    given running_with test_mode ++ write test pulse_inputs ∷ write test written_busy ∷ []
    ask ticks 2 look lost see 1 ∷ 0 ∷ []

-- [Test.6] test mode is asked in the tick: written before, it acts; with test mode off in the tick it is dropped
abbrev pub waits_for_test_mode : Example
waits_for_test_mode =
    given running ++ write test pulse_inputs ∷ write csr test_mode ∷ [] ask ticks 1 look rejected see 1 ∷ []

abbrev pub is_dropped : Example
is_dropped =
    given running ++ write test pulse_inputs ∷ ticks 1 ++ write csr test_mode ∷ [] ask ticks 1 look rejected see 0 ∷ []

-- ---- rows: acknowledges

-- branch 1 shows the word 5 to these controllers
abbrev pub showing_to : (enabled : ℕ) → List Ask
showing_to enabled = store class1 ∷ write roc_enable enabled ∷ running ++ event 1 ++ write csr test_mode ∷ []

abbrev pub showing : List Ask
showing = showing_to first_controller

-- [Test.4] those from outside stay in force, unless bit 14 is written for the tick
abbrev pub outside_acks_stay : Example
outside_acks_stay = given showing ask acknowledge first_controller ∷ [] look finished1 see 5 ∷ []

abbrev pub acks_are_replaced : Example
acks_are_replaced =
    given showing ++ write test replace_acks ∷ []
    ask times 2 (acknowledge first_controller ∷ []) look finished1 see 0 ∷ 5 ∷ []

abbrev pub written_ack_finishes : Example
written_ack_finishes =
    given showing ++ write test (replace_acks + acknowledge1) ∷ [] ask ticks 1 look finished1 see 5 ∷ []

-- for all eight lines of the branch
abbrev pub written_ack_is_all_lines : Example
written_ack_is_all_lines =
    given showing_to 0xFF ++ write test (replace_acks + acknowledge1) ∷ [] ask ticks 1 look finished1 see 5 ∷ []

-- the bit of a branch alone does nothing; with no controller enabled an acknowledge of 0 finishes a word
abbrev pub ack_needs_bit14 : Example
ack_needs_bit14 = given showing ++ write test acknowledge1 ∷ [] ask ticks 1 look finished1 see 0 ∷ []

abbrev pub none_enabled_finishes : Example
none_enabled_finishes =
    given store class1 ∷ running_with test_mode ++ write test pulse_inputs ∷ ticks 4 ++ write test replace_acks ∷ []
    ask ticks 1 look finished1 see 5 ∷ []

-- ---- the table

abbrev pub test_examples : List Example
test_examples =
    modes_are_stored ∷ bit30_is_declined ∷ test_is_written ∷ test_by_bytes ∷ bytes_wait_together ∷ bytes_outside_do_not_wait
    ∷ control_is_open ∷ control_is_shut
    ∷ pulses_the_enabled ∷ strobe_is_high ∷ outside_is_blocked ∷ outside_is_not_stopped ∷ outside_busy_is_blocked
    ∷ outside_pass_is_blocked
    ∷ written_pass_passes ∷ written_fail_clears ∷ inhibit_is_seen ∷ state_shows_written
    ∷ writes_act_together ∷ waits_for_test_mode ∷ is_dropped
    ∷ outside_acks_stay ∷ acks_are_replaced ∷ written_ack_finishes ∷ written_ack_is_all_lines ∷ ack_needs_bit14 ∷ none_enabled_finishes
    ∷ []
