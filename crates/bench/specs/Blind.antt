-- Examples of the blind time after a rejected pattern, as a table: what document 02 and its open points say beside P4.
--     document 02     N1
--     blind_examples   the table, of rows as in Bench
-- A row's first asks leave a blind count of 2 but where it says otherwise.
-- Own rules of 02 used here: none. Decisions: T8. Left out: P4, in Bench.
-- Assumes nothing.
use Rattle.std.specs.Prelude.{ℕ, ◌+◌, List, [], ◌∷◌, ◌++◌}
use Rattle.declines.specs.Runs.{Ask}
use Rattle.bench.specs.Asks.{csr, control, scaler1, assign, go, clear_go, reset, force_sync, enable_sync}
use Rattle.bench.specs.Asks.{write, read, store, pulse, bring, ticks, times}
use Rattle.bench.specs.Sessions.{lost, rejected, loaded, read_out, decline}
use Rattle.bench.specs.Bench.{Example, given◌ask◌look◌see◌, running}

-- a pattern of input 1 is rejected
abbrev pub rejected_once : List Ask
rejected_once = store 0x0001 ∷ running ++ pulse 1 ∷ []

-- ---- how long it lasts

-- [Blind.2] ticks without a pulse end it too
abbrev pub ends_unseen : Example
ends_unseen = given rejected_once ++ ticks 2 ask pulse 1 ∷ [] look rejected see 1 ∷ []

-- [Blind.2] [Blind.4] a pulse that is lost does not start it again, nor does a third tick belong to it
abbrev pub lost_pulse_starts_nothing : Example
lost_pulse_starts_nothing =
    given rejected_once ++ ticks 1 ask times 4 (pulse 1 ∷ []) look lost see 1 ∷ 0 ∷ 1 ∷ 1 ∷ []

-- [Blind.2] the count falls while GO is clear
abbrev pub falls_without_go : Example
falls_without_go =
    given rejected_once ++ write csr clear_go ∷ ticks 2 ++ write csr go ∷ [] ask pulse 1 ∷ [] look rejected see 1 ∷ []

-- [Blind.2] a declined tick leaves it: trigger bit 12 names no input
abbrev pub declined_tick_leaves_it : Example
declined_tick_leaves_it =
    given rejected_once
    ask times 2 (bring 0x1000 0 0 ∷ []) ++ times 3 (pulse 1 ∷ [])
    look lost see 1 ∷ 1 ∷ 0 ∷ []

-- [Blind.3] RESET ends it
abbrev pub reset_ends_it : Example
reset_ends_it = given rejected_once ++ write csr reset ∷ write csr go ∷ [] ask pulse 1 ∷ [] look rejected see 1 ∷ []

-- ---- what it leaves alone

-- [Active.1] a blind module is not active: control is written
abbrev pub is_not_active : Example
is_not_active = given rejected_once ++ write csr clear_go ∷ [] ask write control 0 ∷ [] look decline see 0 ∷ []

-- [Usersync.1] a user sync's tag is loaded
abbrev pub tag_is_loaded : Example
tag_is_loaded = given rejected_once ++ write csr (enable_sync + force_sync) ∷ [] ask ticks 1 look loaded see 0x10 ∷ []

-- [Assign.1] scaler 1 after four pulses in a row, rejected, lost, lost and rejected, under an assign code
abbrev pub scaler1_under : (code count : ℕ) → Example
scaler1_under code count =
    given store 0x0001 ∷ write assign code ∷ running ++ times 4 (pulse 1 ∷ [])
    ask read scaler1 ∷ []
    look read_out see count ∷ []

-- ---- the table

abbrev pub blind_examples : List Example
blind_examples =
    ends_unseen
    ∷ lost_pulse_starts_nothing
    ∷ falls_without_go
    ∷ declined_tick_leaves_it
    ∷ reset_ends_it
    ∷ is_not_active
    ∷ tag_is_loaded
    ∷ scaler1_under 0x00 4
    ∷ scaler1_under 0x01 4
    ∷ scaler1_under 0x0D 2
    ∷ scaler1_under 0x0E 0
    ∷ scaler1_under 0x0F 2
    ∷ []
