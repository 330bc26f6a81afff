-- Examples of reads of STATE, as a table: which bits are high, by their numbers in section 3.11 of source document 001.
--     document 02     N2
--     state_examples   the table, of rows as in Bench
-- Pulses are of input 1. Where no controller is enabled, the AND of every branch is high ([State.7]).
-- Own rules of 02 used here: none. Decisions: R6. Left out: nothing.
-- Assumes nothing.
use Rattle.std.specs.Prelude.{ℕ, ◌+◌, List, [], ◌∷◌, ◌++◌}
use Rattle.declines.specs.Runs.{Ask}
use Rattle.bench.specs.Asks.{csr, roc_enable, interval, state, go, force_sync, enable_sync, lock_branch4}
use Rattle.bench.specs.Asks.{override_inhibit, reset, initialize, pass2, fail2, pass3, fail3, front_busy, inhibit}
use Rattle.bench.specs.Asks.{write, read, store, pulse, lines, acknowledge, bring, ticks, times, event, class1, class3}
use Rattle.bench.specs.Sessions.{read_out, high_bits, decline}
use Rattle.bench.specs.Bench.{Example, given◌ask◌look◌see◌, running, running_with}
use Rattle.bench.specs.Blind.{rejected_once}

-- a read after these asks shows these bits
infixr 3 after◌shows◌
abbrev pub after◌shows◌ : List Ask → (bits : List ℕ) → Example
after asks shows bits = given asks ask read state ∷ [] look high_bits see bits

-- with no controller enabled
abbrev pub none_enabled : List ℕ
none_enabled = 21 ∷ 24 ∷ 27 ∷ 30 ∷ []

-- ---- the register

abbrev pub fresh_reads : Example
fresh_reads = given [] ask read state ∷ [] look read_out see 0x49242000 ∷ []

-- [State.8b] a write gets 3, active or not, and sets no status bit
abbrev pub is_not_written : Example
is_not_written = given [] ask write state 0 ∷ [] look decline see 3 ∷ []

abbrev pub is_not_written_while_active : Example
is_not_written_while_active = given running ask write state 0 ∷ [] look decline see 3 ∷ []

abbrev pub write_sets_no_status : Example
write_sets_no_status = given running ask write state 0 ∷ read csr ∷ [] look read_out see go ∷ []

-- ---- READY and TS BUSY

-- [State.4a] [State.4b] before any tick the lines are low
abbrev pub ready_with_go : Example
ready_with_go = after running shows 15 ∷ 16 ∷ 18 ∷ none_enabled

abbrev pub busy_by_front_busy : Example
busy_by_front_busy = after running ++ lines front_busy ∷ [] shows 10 ∷ 13 ∷ 16 ∷ 18 ∷ none_enabled

abbrev pub busy_by_inhibit : Example
busy_by_inhibit = after running ++ lines inhibit ∷ [] shows 11 ∷ 13 ∷ 16 ∷ 18 ∷ none_enabled

abbrev pub ready_by_override : Example
ready_by_override = after running_with override_inhibit ++ lines inhibit ∷ [] shows 11 ∷ 15 ∷ 16 ∷ 18 ∷ none_enabled

-- [Blind.2] the blind time counts, and a rejected pattern is latched; [State.3] the tick after it latched none
abbrev pub busy_while_blind : Example
busy_while_blind = after rejected_once shows 12 ∷ 13 ∷ 16 ∷ 18 ∷ none_enabled

abbrev pub latched_falls : Example
latched_falls = after rejected_once ++ ticks 1 shows 13 ∷ 16 ∷ 18 ∷ none_enabled

abbrev pub ready_after_blind : Example
ready_after_blind = after rejected_once ++ ticks 2 shows 15 ∷ 16 ∷ 18 ∷ none_enabled

-- ---- a cycle of class 3

-- accepted: Wait 2
abbrev pub accepted_once : List Ask
accepted_once = store class3 ∷ running ++ pulse 1 ∷ []

-- passed: Wait 3
abbrev pub passed2 : List Ask
passed2 = accepted_once ++ lines pass2 ∷ []

abbrev pub shows_wait2 : Example
shows_wait2 = after accepted_once shows 0 ∷ 1 ∷ 12 ∷ 13 ∷ 14 ∷ 16 ∷ 18 ∷ none_enabled

abbrev pub shows_wait3 : Example
shows_wait3 = after passed2 shows 0 ∷ 1 ∷ 2 ∷ 4 ∷ 5 ∷ 13 ∷ 14 ∷ 16 ∷ 18 ∷ none_enabled

-- [State.6] a line is shown in a state that does not ask for it
abbrev pub shows_a_line_not_asked : Example
shows_a_line_not_asked = after passed2 ++ lines fail2 ∷ [] shows 0 ∷ 1 ∷ 3 ∷ 4 ∷ 5 ∷ 13 ∷ 14 ∷ 16 ∷ 18 ∷ none_enabled

abbrev pub shows_front : Example
shows_front =
    after passed2 ++ lines (pass3 + front_busy) ∷ []
    shows 0 ∷ 1 ∷ 4 ∷ 5 ∷ 6 ∷ 8 ∷ 10 ∷ 13 ∷ 14 ∷ 16 ∷ 18 ∷ none_enabled

abbrev pub shows_clear : Example
shows_clear = after passed2 ++ lines fail3 ∷ [] shows 0 ∷ 1 ∷ 4 ∷ 5 ∷ 7 ∷ 9 ∷ 13 ∷ 14 ∷ 16 ∷ 18 ∷ none_enabled

-- ---- syncs and buffers

-- a user sync that is wanted; [Usersync.1] its tag is loaded by the next tick
abbrev pub wanted : (bits : ℕ) → List Ask
wanted bits = write csr (enable_sync + force_sync + bits) ∷ []

-- [State.5] it does not show before its word is loaded
abbrev pub wanted_is_not_shown : Example
wanted_is_not_shown = after wanted 0 shows 13 ∷ 16 ∷ 18 ∷ none_enabled

abbrev pub tag_shows : Example
tag_shows = after wanted 0 ++ ticks 1 shows 13 ∷ 16 ∷ 17 ∷ none_enabled

-- [State.7] a word fills a branch whose depth is 1
abbrev pub locked_branch_is_full : Example
locked_branch_is_full = after wanted lock_branch4 ++ ticks 1 shows 13 ∷ 16 ∷ 17 ∷ 19 ∷ none_enabled

abbrev pub strobes_show : Example
strobes_show = after wanted 0 ++ ticks 2 shows 13 ∷ 16 ∷ 17 ∷ 20 ∷ 21 ∷ 23 ∷ 24 ∷ 26 ∷ 27 ∷ 29 ∷ 30 ∷ []

-- every branch at Drop: active, and empty
abbrev pub empty_at_drop : Example
empty_at_drop = after wanted 0 ++ ticks 3 shows 13 ∷ 16 ∷ 17 ∷ 18 ∷ none_enabled

abbrev pub sync_ends : Example
sync_ends = after wanted 0 ++ ticks 4 shows 13 ∷ 18 ∷ none_enabled

-- [State.5] a sync event's, while main is at Sync hold
abbrev pub sync_hold_shows : Example
sync_hold_shows =
    after store class1 ∷ write interval 1 ∷ running_with enable_sync ++ event 1 ++ ticks 1
    shows 0 ∷ 4 ∷ 8 ∷ 13 ∷ 14 ∷ 16 ∷ 17 ∷ 18 ∷ none_enabled

-- [State.7] branch 1 has eight words, since its controller answers nothing; the other branches are at Strobe with one
abbrev pub one_is_full : Example
one_is_full =
    after store class1 ∷ write roc_enable 1 ∷ running ++ times 8 (event 1)
    shows 0 ∷ 4 ∷ 8 ∷ 13 ∷ 14 ∷ 16 ∷ 19 ∷ 20 ∷ 23 ∷ 24 ∷ 26 ∷ 27 ∷ 29 ∷ 30 ∷ []

-- ---- acknowledges

-- [State.7] each branch has its own: both controllers high, the second, the first, none
abbrev pub each_branch_its_own : Example
each_branch_its_own =
    after write roc_enable 0x03030303 ∷ acknowledge 0x00010203 ∷ []
    shows 13 ∷ 18 ∷ 21 ∷ 22 ∷ 25 ∷ 28 ∷ []

-- controllers enabled after the tick count; those that are not do not
abbrev pub enabled_at_the_read : Example
enabled_at_the_read = after acknowledge 1 ∷ write roc_enable 1 ∷ [] shows 13 ∷ 18 ∷ 21 ∷ 22 ∷ 24 ∷ 27 ∷ 30 ∷ []

abbrev pub not_enabled_is_not_asked : Example
not_enabled_is_not_asked = after acknowledge 1 ∷ [] shows 13 ∷ 18 ∷ none_enabled

-- ---- what is kept

-- a tick with a pulse that is accepted, a line and an acknowledge
abbrev pub full_tick : List Ask
full_tick = write roc_enable 1 ∷ store class1 ∷ running ++ bring 1 pass2 1 ∷ []

abbrev pub reset_keeps : Example
reset_keeps = after full_tick ++ write csr reset ∷ [] shows 2 ∷ 12 ∷ 13 ∷ 18 ∷ 21 ∷ 22 ∷ 24 ∷ 27 ∷ 30 ∷ []

abbrev pub initialize_does_not : Example
initialize_does_not = after full_tick ++ write csr initialize ∷ [] shows 13 ∷ 18 ∷ none_enabled

-- the next tick that runs replaces it all
abbrev pub next_tick_replaces : Example
next_tick_replaces = after write roc_enable 1 ∷ bring 0 pass2 1 ∷ ticks 1 shows 13 ∷ 18 ∷ 24 ∷ 27 ∷ 30 ∷ []

-- a declined tick is not the latest: trigger bit 12 names no input
abbrev pub declined_is_not_kept : Example
declined_is_not_kept =
    given write roc_enable 1 ∷ lines pass2 ∷ []
    ask bring 0x1000 pass3 1 ∷ read state ∷ []
    look high_bits see 2 ∷ 13 ∷ 18 ∷ 24 ∷ 27 ∷ 30 ∷ []

-- ---- the table

abbrev pub state_examples : List Example
state_examples =
    fresh_reads
    ∷ is_not_written ∷ is_not_written_while_active ∷ write_sets_no_status
    ∷ ready_with_go ∷ busy_by_front_busy ∷ busy_by_inhibit ∷ ready_by_override
    ∷ busy_while_blind ∷ latched_falls ∷ ready_after_blind
    ∷ shows_wait2 ∷ shows_wait3 ∷ shows_a_line_not_asked ∷ shows_front ∷ shows_clear
    ∷ wanted_is_not_shown ∷ tag_shows ∷ locked_branch_is_full ∷ strobes_show ∷ empty_at_drop ∷ sync_ends
    ∷ sync_hold_shows ∷ one_is_full
    ∷ each_branch_its_own ∷ enabled_at_the_read ∷ not_enabled_is_not_asked
    ∷ reset_keeps ∷ initialize_does_not ∷ next_tick_replaces ∷ declined_is_not_kept
    ∷ []
