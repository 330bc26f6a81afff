-- The scheduled sync: the interval, and the events loaded since the last sync.
--     document 01    "The tick", Main
--     is_due          the event that is loaded now is a sync event
--     after_load_of    the counter after a load
--     zeroed_of       the counter after Sync hold or a user sync has ended
-- Own rules of 01 used here: none. Decisions: S1.
-- Left out: nothing.
-- Assumes nothing.
use Rattle.std.specs.Prelude.{ℕ, ◌+◌, Bool, not, ◌&&◌, ltb, leb, if◌then◌else◌}
use Rattle.bits.specs.Notation.{◌▷◌}
use Rattle.sync.specs.declared.counter.SyncCounter.{SyncCounter}

-- [Spoiled.1h] the largest count of a record that is not spoiled
abbrev pub count_limit : ℕ
count_limit = 65534

-- ---- changes of one field

abbrev pub with_interval : ℕ → SyncCounter → SyncCounter
with_interval v c = record { interval = v; count = c.count }

abbrev pub with_count : ℕ → SyncCounter → SyncCounter
with_count v c = record { interval = c.interval; count = v }

-- ---- the counter

-- [Registers.4] interval and count 0
abbrev pub fresh_of : SyncCounter
fresh_of = record { interval = 0; count = 0 }

-- [Main.10] enabled: CSR bit 4; an interval of 0 counts nothing
abbrev pub is_counting : (enabled : Bool) → SyncCounter → Bool
is_counting enabled c = enabled && ltb 0 c.interval

abbrev pub reaches_interval : SyncCounter → Bool
reaches_interval c = leb c.interval (c.count + 1)

-- [Main.10] this event ends the interval
abbrev pub is_due : (enabled : Bool) → SyncCounter → Bool
is_due enabled c = is_counting enabled c && reaches_interval c

-- [Main.10] an event that does not end it is counted
unfoldable pub after_load_of : (enabled : Bool) → SyncCounter → SyncCounter
after_load_of enabled c =
    if not (reaches_interval c) && is_counting enabled c then c ▷ with_count (c.count + 1) else c

-- [Main.14] [Usersync.2] [CSRWrite.2d] the count starts anew
abbrev pub zeroed_of : SyncCounter → SyncCounter
zeroed_of c = c ▷ with_count 0

-- ---- what of it spoils a record

-- [Spoiled.1h]
abbrev pub is_within : SyncCounter → Bool
is_within c = leb c.count count_limit
