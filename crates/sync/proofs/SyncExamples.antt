-- Worked examples of the two syncs, computed from the definitions.
--     due_at_three     with interval 3 the third event is a sync event, not the second
--     count_after      an event that is no sync event is counted; a sync event is not
--     user_moves       a tag is loaded, waits, and its wait ends
--     tag_then_waits   the tick that loads a tag starts the wait
-- Assumes nothing.
use Prim.Native.Nat.{ℕ}
use mathlib.Core.Path.{◌≡◌, refl}
use mathlib.Core.Bool.{true, false}
use mathlib.Core.List.{[], ◌∷◌}
use Rattle.sync.specs.SyncCounter.{is_due, after_load_of}
use Rattle.sync.specs.UserSync.{move_of, loads_tag, ends_wait, stays, step_of}
use Rattle.sync.specs.declared.counter.SyncCounter.{SyncCounter}

abbrev after : (interval count : ℕ) → SyncCounter
after interval count = record { interval = interval; count = count }

-- [Main.10]
pub due_at_three : is_due true (after 3 1) ∷ is_due true (after 3 2) ∷ is_due false (after 3 2) ∷ is_due true (after 0 2) ∷ []
    ≡ false ∷ true ∷ false ∷ false ∷ []
due_at_three = refl

pub count_after : (after_load_of true (after 3 1)).count ∷ (after_load_of true (after 3 2)).count
    ∷ (after_load_of false (after 3 1)).count ∷ [] ≡ 2 ∷ 2 ∷ 1 ∷ []
unfolding after_load_of
count_after = refl

-- [Usersync.1] [Usersync.2] wanted at Idle; wanted in a cycle; waiting with words; waiting with none
pub user_moves : move_of true true false false ∷ move_of true false true false ∷ move_of true true false true
    ∷ move_of false true true true ∷ [] ≡ loads_tag ∷ stays ∷ stays ∷ ends_wait ∷ []
user_moves = refl

pub tag_then_waits : (step_of true true false (record { waiting = false })).next.waiting ≡ true
unfolding step_of
tag_then_waits = refl
