-- The user sync: a tag loaded on demand, and the wait until every branch is empty.
--     document 01    "The tick", User sync
--     move_of         the sentence that acts
--     step_of         the next user sync, with what it did
-- Own rules of 01 used here: none. Decisions: U1.
-- Left out: the CSR bits that it sets and clears, in trigger.
-- Assumes nothing.
use Rattle.std.specs.Prelude.{ℕ, Bool, true, false, ◌&&◌, if◌then◌else◌}
use Rattle.sync.specs.declared.user.UserSync.{UserSync}
use Rattle.sync.specs.declared.user.UserStep.{UserStep}

-- [Usersync.1] 10h: a word with the sync bit alone
abbrev pub tag_word : ℕ
tag_word = 16

-- [Registers.4] not waiting
abbrev pub fresh_of : UserSync
fresh_of = record { waiting = false }

pub data Move : Type 0 where
  stays loads_tag ends_wait : Move

-- [Usersync.1] [Usersync.2] a wait ends where all branches are empty; else a wanted tag is loaded where main is Idle
abbrev pub move_of : (wanted idle empty waiting : Bool) → Move
move_of wanted idle empty waiting =
    if waiting && empty then ends_wait
    else if waiting then stays
    else if wanted && idle then loads_tag
    else stays

abbrev pub step_by : Move → UserSync → UserStep
step_by stays u = record { next = u; tag = false; ended = false }
step_by loads_tag u = record { next = record { waiting = true }; tag = true; ended = false }
step_by ends_wait u = record { next = record { waiting = false }; tag = false; ended = true }

unfoldable pub step_of : (wanted idle empty : Bool) → UserSync → UserStep
step_of wanted idle empty u = step_by (move_of wanted idle empty u.waiting) u
