-- Worked examples of the main sequencer, computed from the definitions.
--     none_moves, all_move, passes_move, fails_move   where each state leads under given tests, a row for each state
--     words          the word of an event, with and without sync and late
--     ok_words, classes, accept_raises   which words are OK, their class, and what an accept raises
--     class3_raises, clear_falls, age_stops, age_rises   one move each
-- Assumes nothing.
use mathlib.Core.Path.{◌≡◌, refl}
use mathlib.Core.Bool.{true, false}
use mathlib.Core.List.{List, [], ◌∷◌}
use Rattle.bits.specs.Notation.{◌▷◌}
use Rattle.sequencer.specs.MemoryWord.{is_ok_word, class_in_of}
use Rattle.sequencer.specs.MainFields.{with_state, with_class, with_clear, with_code, with_late, with_raised, with_age}
use Rattle.sequencer.specs.MainSequencer.{idle_of, aged_of, accepted_of, step_of, word_of}
use Rattle.sequencer.specs.declared.states.State.{State}
use Rattle.sequencer.specs.declared.states.State.TheVariants.{Idle, Delay, Wait2, Wait3}
use Rattle.sequencer.specs.declared.states.State.TheVariants.{Front, Space, SyncHold, Clear}
use Rattle.sequencer.specs.declared.main_sequencer.MainSequencer.{MainSequencer}
use Rattle.sequencer.specs.declared.main_sequencer.Tests.{Tests}

-- ---- sequencers and tests to start from

abbrev at : State → MainSequencer
at g = idle_of ▷ with_state g ▷ with_class 2 ▷ with_code 5

abbrev none : Tests
none = record { fail2 = false; pass2 = false; fail3 = false; pass3 = false; late = false; due2 = false; due3 = false; front = false; sync = false; room = false; empty = false; clear = 1 }

-- every line and every test that could move main
abbrev all : Tests
all = record { fail2 = true; pass2 = true; fail3 = true; pass3 = true; late = true; due2 = true; due3 = true; front = true; sync = true; room = true; empty = true; clear = 9 }

abbrev passing : Tests
passing = record { fail2 = false; pass2 = true; fail3 = false; pass3 = true; late = false; due2 = true; due3 = false; front = true; sync = false; room = false; empty = false; clear = 9 }

abbrev failing : Tests
failing = record { fail2 = true; pass2 = true; fail3 = true; pass3 = true; late = false; due2 = false; due3 = false; front = false; sync = false; room = false; empty = false; clear = 9 }

-- ---- where a step leads

abbrev states : Tests → List MainSequencer → List State
states t [] = []
states t (m ∷ ms) = (step_of t m).next.state ∷ states t ms

abbrev everywhere : List MainSequencer
everywhere = at Idle ∷ at Delay ∷ at Wait2 ∷ at Wait3 ∷ at Front ∷ at Space ∷ at SyncHold ∷ at Clear ∷ []

-- nothing happens where nothing is tested true
pub none_moves : states none everywhere ≡ Idle ∷ Delay ∷ Wait2 ∷ Wait3 ∷ Front ∷ Space ∷ SyncHold ∷ Clear ∷ []
unfolding step_of
none_moves = refl

-- [Main.6] [Main.7] [Main.12]–[Main.15] a late fail leads to Front, a sync load to Sync hold
pub all_move : states all everywhere ≡ Idle ∷ Front ∷ Front ∷ Front ∷ SyncHold ∷ Idle ∷ Idle ∷ Idle ∷ []
unfolding step_of
all_move = refl

-- [Main.4] [Main.5] class 2 goes to Delay; one accept line alone does not end Delay
pub passes_move : states passing everywhere ≡ Idle ∷ Delay ∷ Delay ∷ Front ∷ Space ∷ Space ∷ SyncHold ∷ Idle ∷ []
unfolding step_of
passes_move = refl

-- [Main.3] [Bench.5] a fail with a pass clears
pub fails_move : states failing everywhere ≡ Idle ∷ Delay ∷ Clear ∷ Clear ∷ Front ∷ Space ∷ SyncHold ∷ Clear ∷ []
unfolding step_of
fails_move = refl

-- ---- lines, c, age

-- [Main.4] class 3 raises level 2 accept and level 3 start
pub class3_raises : (step_of passing (at Wait2 ▷ with_class 3)).next ≡ at Wait3 ▷ with_class 3 ▷ with_raised 12
unfolding step_of
class3_raises = refl

-- [Main.15] a tick that starts with c = 1 takes it to 0 and stays
pub clear_falls : (step_of all (at Clear ▷ with_clear 1)).next ≡ at Clear
unfolding step_of
clear_falls = refl

-- [Main.1] the age stops at 131,070; at Idle it does not rise
pub age_stops : (aged_of (at Delay ▷ with_age 131070)).age ≡ 131070
unfolding aged_of
age_stops = refl

pub age_rises : (aged_of (at Delay ▷ with_age 131069)).age ≡ 131070
unfolding aged_of
age_rises = refl

-- ---- memory words and loaded words

-- [Memory.3] [Bench.4] 0001h and 0002h are not OK; 0153h is, in class 1; of two class bits the lower decides
pub ok_words : is_ok_word 1 ∷ is_ok_word 2 ∷ is_ok_word 339 ∷ [] ≡ false ∷ false ∷ true ∷ []
ok_words = refl

pub classes : class_in_of 339 ∷ class_in_of 12 ∷ class_in_of 8 ∷ class_in_of 1 ∷ [] ≡ 1 ∷ 2 ∷ 3 ∷ 0 ∷ []
unfolding class_in_of
classes = refl

-- [Main.2] class 1 raises level 1 OK alone; class 2 level 2 start too
pub accept_raises : (accepted_of 339 idle_of).raised ∷ (accepted_of 5 idle_of).raised ∷ [] ≡ 1 ∷ 3 ∷ []
unfolding accepted_of class_in_of
accept_raises = refl

-- [Main.9] code 5: plain, with sync, late, both
pub words : word_of false (at Front) ∷ word_of true (at Front) ∷ word_of false (at Front ▷ with_late true)
    ∷ word_of true (at Front ▷ with_late true) ∷ [] ≡ 5 ∷ 21 ∷ 37 ∷ 53 ∷ []
words = refl
