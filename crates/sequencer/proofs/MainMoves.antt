-- Which move of the main sequencer can act in which state: the table that its laws go by.
--     MovesIn           a row for each state and move, with the test on the branches that the move waits for
--     move_is_one_of    the move of every tick is in the table
-- Assumes nothing.
use Rattle.std.specs.Prelude.{if◌then◌else◌}
use mathlib.Core.Path.{◌≡◌, refl}
use mathlib.Core.Bool.{Bool, true, false}
use lib.Dec.{eqb, ltb}
use Rattle.sequencer.specs.MainSequencer.{level2, level3, Move, stays, waits_in_delay, ends_delay}
use Rattle.sequencer.specs.MainSequencer.{passes2_to_delay, passes2_to_wait3, passes3, loads, leaves_space}
use Rattle.sequencer.specs.MainSequencer.{ends_sync_hold, counts_clear, ends_clear, fails_late, fails_and_clears}
use Rattle.sequencer.specs.MainSequencer.{move_in_wait2, move_in_wait3, move_in_clear, both_accepts, move_in}
use Rattle.sequencer.specs.declared.states.State.{State}
use Rattle.sequencer.specs.declared.states.State.TheVariants.{Idle, Delay, Wait2, Wait3}
use Rattle.sequencer.specs.declared.states.State.TheVariants.{Front, Space, SyncHold, Clear}
use Rattle.sequencer.specs.declared.main_sequencer.MainSequencer.{MainSequencer}
use Rattle.sequencer.specs.declared.main_sequencer.Tests.{Tests}

-- ---- the table

pub data MovesIn (t : Tests) : State → Move → Type 0 where
  stays_in : (g : State) → MovesIn t g stays
  delay_waits : MovesIn t Delay waits_in_delay
  delay_ends : MovesIn t Delay ends_delay
  wait2_fails_late : MovesIn t Wait2 (fails_late level2)
  wait2_fails : MovesIn t Wait2 (fails_and_clears level2)
  wait2_to_delay : MovesIn t Wait2 passes2_to_delay
  wait2_to_wait3 : MovesIn t Wait2 passes2_to_wait3
  wait3_fails_late : MovesIn t Wait3 (fails_late level3)
  wait3_fails : MovesIn t Wait3 (fails_and_clears level3)
  wait3_passes : MovesIn t Wait3 passes3
  front_loads : MovesIn t Front loads
  space_leaves : t.room ≡ true → MovesIn t Space leaves_space
  sync_hold_ends : t.empty ≡ true → MovesIn t SyncHold ends_sync_hold
  clear_counts : MovesIn t Clear counts_clear
  clear_ends : MovesIn t Clear ends_clear

-- ---- state by state

in_delay : (t : Tests) (both : Bool) → MovesIn t Delay (if both then ends_delay else waits_in_delay)
in_delay t true = delay_ends
in_delay t false = delay_waits

in_wait2_lem : (t : Tests) (fail late pass class2 : Bool) → MovesIn t Wait2 (move_in_wait2 fail late pass class2)
in_wait2_lem t true true pass class2 = wait2_fails_late
in_wait2_lem t true false pass class2 = wait2_fails
in_wait2_lem t false late true true = wait2_to_delay
in_wait2_lem t false late true false = wait2_to_wait3
in_wait2_lem t false late false class2 = stays_in Wait2

in_wait3 : (t : Tests) (fail late pass : Bool) → MovesIn t Wait3 (move_in_wait3 fail late pass)
in_wait3 t true true pass = wait3_fails_late
in_wait3 t true false pass = wait3_fails
in_wait3 t false late true = wait3_passes
in_wait3 t false late false = stays_in Wait3

in_front : (t : Tests) (front : Bool) → MovesIn t Front (if front then loads else stays)
in_front t true = front_loads
in_front t false = stays_in Front

in_space : (t : Tests) (room : Bool) → t.room ≡ room → MovesIn t Space (if room then leaves_space else stays)
in_space t true h = space_leaves h
in_space t false h = stays_in Space

in_sync_hold : (t : Tests) (empty : Bool) → t.empty ≡ empty
    → MovesIn t SyncHold (if empty then ends_sync_hold else stays)
in_sync_hold t true h = sync_hold_ends h
in_sync_hold t false h = stays_in SyncHold

in_clear : (t : Tests) (counting front : Bool) → MovesIn t Clear (move_in_clear counting front)
in_clear t true front = clear_counts
in_clear t false true = clear_ends
in_clear t false false = stays_in Clear

pub move_is_one_of : (g : State) (t : Tests) (m : MainSequencer) → MovesIn t g (move_in g t m)
move_is_one_of Idle t m = stays_in Idle
move_is_one_of Delay t m = in_delay t (both_accepts t m)
move_is_one_of Wait2 t m = in_wait2_lem t t.fail2 t.late t.pass2 (eqb m.class 2)
move_is_one_of Wait3 t m = in_wait3 t t.fail3 t.late t.pass3
move_is_one_of Front t m = in_front t t.front
move_is_one_of Space t m = in_space t t.room refl
move_is_one_of SyncHold t m = in_sync_hold t t.empty refl
move_is_one_of Clear t m = in_clear t (ltb 0 m.clear) t.front
