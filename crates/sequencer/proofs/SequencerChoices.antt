-- The code's choices are the moves of document 01.
--     step_by_state        for `Core::cycle_step`, which goes by the state
--     fails2_by_choice, fails3_by_choice   for the fails of Wait 2 and Wait 3, which share their code
-- Assumes nothing.
use Rattle.std.specs.Prelude.{if◌then◌else◌}
use mathlib.Core.Path.{◌≡◌, refl, sym, ap}
use mathlib.Core.Bool.{Bool, true, false, false≢true}
use Rattle.bits.specs.Notation.{◌▷◌}
use Rattle.sequencer.specs.MainFields.{with_failed2, with_failed3}
use Rattle.sequencer.specs.MainSequencer.{move_in, move_in_wait2, move_in_wait3, step_by, step_of}
use Rattle.sequencer.specs.MainSequencer.{late_step, cleared_step}
use Rattle.sequencer.specs.declared.states.State.{State}
use Rattle.sequencer.specs.declared.main_sequencer.MainSequencer.{MainSequencer}
use Rattle.sequencer.specs.declared.main_sequencer.Tests.{Tests}

pub step_by_state : (g : State) (t : Tests) (m : MainSequencer) → m.state ≡ g
    → step_by (move_in g t m) t m ≡ step_of t m
unfolding step_of
step_by_state g t m e = ap (λ (s : State). step_by (move_in s t m) t m) (sym e)

-- ---- a fail: late or not, and of which level

pub fails2_by_choice : (fail late pass class2 : Bool) (t : Tests) (m : MainSequencer) → fail ≡ true
    → (if late then late_step m else cleared_step t.clear m) ▷ with_failed2 true
    ≡ step_by (move_in_wait2 fail late pass class2) t m
fails2_by_choice true true pass class2 t m h = refl
fails2_by_choice true false pass class2 t m h = refl
fails2_by_choice false late pass class2 t m h = absurd (false≢true h)

pub fails3_by_choice : (fail late pass : Bool) (t : Tests) (m : MainSequencer) → fail ≡ true
    → (if late then late_step m else cleared_step t.clear m) ▷ with_failed3 true
    ≡ step_by (move_in_wait3 fail late pass) t m
fails3_by_choice true true pass t m h = refl
fails3_by_choice true false pass t m h = refl
fails3_by_choice false late pass t m h = absurd (false≢true h)
