-- Laws of the main sequencer: what of it spoils a record does not come about.
--     step-, aged-, accepted_keeps_well_formed, idle_is_well_formed
--     well_formed_from_test, well_formed_to_test   the test of the code and the facts say the same
-- Assumes nothing.
use Rattle.std.specs.Prelude.{if◌then◌else◌}
use Prim.Native.Nat.{ℕ, ◌+◌, ◌≤◌}
use mathlib.Core.Path.{◌≡◌, refl, sym, ◌∙◌}
use mathlib.Core.Bool.{Bool, true, false, not, ◌&&◌, ◌||◌, false≢true, true≢false}
use mathlib.Core.List.{List, [], ◌∷◌}
use native.Mathlib.Omega.{arith}
use lib.Dec.{eqb, ltb, leb, lit<, lit≤}
use borrow.Author.Tests.{ltb-true, leb-true, le-leb}
use Rattle.bits.specs.Notation.{◌▷◌}
use Rattle.bits.specs.Bits.{bit_at}
use Rattle.bits.proofs.TestLaws.{and_right, implied, implies, all_true_at}
use Rattle.sequencer.specs.MemoryWord.{class_in_of, code_in, accept_in, is_ok_word}
use Rattle.sequencer.specs.MainFields.{with_age, with_state, with_class, with_code, with_accept}
use Rattle.sequencer.specs.States.{is_idle, is_wait2}
use Rattle.sequencer.specs.MainSequencer.{age_limit, code_limit, ok_line, start2_line, raise, idle_of, aged_of, accepted_of}
use Rattle.sequencer.specs.MainSequencer.{Move, after_load, step_by, step_of, is_class_of_wait2, is_well_formed_of}
use Rattle.sequencer.specs.MainSequencer.{WellFormedMain}
use Rattle.sequencer.specs.declared.states.State.{State}
use Rattle.sequencer.specs.declared.states.State.TheVariants.{Delay, Wait2}
use Rattle.sequencer.specs.declared.main_sequencer.MainSequencer.{MainSequencer}
use Rattle.sequencer.specs.declared.main_sequencer.Tests.{Tests}
use Rattle.sequencer.proofs.MainMoves.{MovesIn, stays_in, delay_waits, delay_ends, wait2_fails_late, wait2_fails}
use Rattle.sequencer.proofs.MainMoves.{wait2_to_delay, wait2_to_wait3, wait3_fails_late, wait3_fails, wait3_passes}
use Rattle.sequencer.proofs.MainMoves.{front_loads, space_leaves, sync_hold_ends, clear_counts, clear_ends}
use Rattle.sequencer.proofs.MainMoves.{move_is_one_of}

-- ---- the test and the facts

abbrev tests : MainSequencer → List Bool
tests m =
    leb m.code code_limit
    ∷ (not (is_wait2 m.state) || is_class_of_wait2 m.class)
    ∷ leb m.age age_limit
    ∷ []

pub well_formed_from_test : (m : MainSequencer) → is_well_formed_of m ≡ true → WellFormedMain m
unfolding is_well_formed_of
well_formed_from_test m h =
    record {
      code = leb-true m.code code_limit (all_true_at (tests m) h 0 (lit< tt));
      class = implied (is_wait2 m.state) (is_class_of_wait2 m.class) (all_true_at (tests m) h 1 (lit< tt));
      age = leb-true m.age age_limit (all_true_at (tests m) h 2 (lit< tt));
    }

pub well_formed_to_test : (m : MainSequencer) → WellFormedMain m → is_well_formed_of m ≡ true
unfolding is_well_formed_of
well_formed_to_test m h =
    rw (
      le-leb m.code code_limit h.code,
      implies (is_wait2 m.state) (is_class_of_wait2 m.class) h.class,
      le-leb m.age age_limit h.age,
    )

-- ---- each step keeps them

pub idle_is_well_formed : WellFormedMain idle_of
idle_is_well_formed = record { code = lit≤ tt; class = λ w. absurd (false≢true w); age = lit≤ tt }

not_wait2_after_load : (sync : Bool) → is_wait2 (after_load sync) ≡ false
not_wait2_after_load true = refl
not_wait2_after_load false = refl

module _ (t : Tests) (m : MainSequencer) (code : m.code ≤ code_limit) (age : m.age ≤ age_limit) where
  -- what a move leaves at g, with the code and the age that were
  at : (n : MainSequencer) → n.code ≡ m.code → n.age ≡ m.age → is_wait2 n.state ≡ false → WellFormedMain n
  at n c a w =
      record { code = rw c code; class = λ h. absurd (true≢false (sym h ∙ w)); age = rw a age }

  keeps_well_formed : {g : State} {v : Move} → MovesIn t g v → WellFormedMain (m ▷ with_state g)
      → WellFormedMain (step_by v t (m ▷ with_state g)).next
  keeps_well_formed (stays_in g) h = h
  keeps_well_formed delay_waits h = at _ refl refl refl
  keeps_well_formed delay_ends h = at _ refl refl refl
  keeps_well_formed wait2_fails_late h = at _ refl refl refl
  keeps_well_formed wait2_fails h = at _ refl refl refl
  keeps_well_formed wait2_to_delay h = at _ refl refl refl
  keeps_well_formed wait2_to_wait3 h = at _ refl refl refl
  keeps_well_formed wait3_fails_late h = at _ refl refl refl
  keeps_well_formed wait3_fails h = at _ refl refl refl
  keeps_well_formed wait3_passes h = at _ refl refl refl
  keeps_well_formed front_loads h = at _ refl refl (not_wait2_after_load t.sync)
  keeps_well_formed (space_leaves r) h = idle_is_well_formed
  keeps_well_formed (sync_hold_ends r) h = idle_is_well_formed
  keeps_well_formed clear_counts h = at _ refl refl refl
  keeps_well_formed clear_ends h = idle_is_well_formed

pub step_keeps_well_formed : (t : Tests) (m : MainSequencer) → WellFormedMain m → WellFormedMain (step_of t m).next
unfolding step_of
step_keeps_well_formed t m h = keeps_well_formed t m h.code h.age (move_is_one_of m.state t m) h

pub aged_keeps_well_formed : (m : MainSequencer) → WellFormedMain m → WellFormedMain (aged_of m)
unfolding aged_of
aged_keeps_well_formed m h = go (not (is_idle m.state)) (ltb m.age age_limit) refl
  where
    go : (cycle below : Bool) → ltb m.age age_limit ≡ below
        → WellFormedMain (if cycle && below then m ▷ with_age (m.age + 1) else m)
    go true true e =
        record { code = h.code; class = h.class; age = omega (arith, ltb-true m.age age_limit e) }
    go true false e = h
    go false below e = h

-- an accepted word has a class, so Wait 2 is entered in class 2 or 3
class_of_ok : (b1 b2 b3 : Bool) → (b1 || (b2 || b3)) ≡ true
    → eqb (if b1 then 1 else if b2 then 2 else if b3 then 3 else 0) 1 ≡ false
    → (eqb (if b1 then 1 else if b2 then 2 else if b3 then 3 else 0) 2
    || eqb (if b1 then 1 else if b2 then 2 else if b3 then 3 else 0) 3) ≡ true
class_of_ok true b2 b3 h k = absurd (true≢false k)
class_of_ok false true b3 h k = refl
class_of_ok false false true h k = refl
class_of_ok false false false h k = absurd (false≢true h)

pub accepted_keeps_well_formed : (w : ℕ) (m : MainSequencer) → is_ok_word w ≡ true → WellFormedMain (accepted_of w m)
unfolding accepted_of class_in_of
accepted_keeps_well_formed w m ok = go (eqb (class_in_of w) 1) refl
  where
    low : code_in w ≤ code_limit
    low = omega arith

    some : (bit_at w 1 || (bit_at w 2 || bit_at w 3)) ≡ true
    some = and_right (bit_at w 0) (bit_at w 1 || (bit_at w 2 || bit_at w 3)) ok

    entered : MainSequencer → Bool → MainSequencer
    entered n one = if one then n ▷ raise ok_line ▷ with_state Delay else n ▷ raise ok_line ▷ raise start2_line ▷ with_state Wait2

    go : (one : Bool) → eqb (class_in_of w) 1 ≡ one
        → WellFormedMain (entered (m ▷ with_age 0 ▷ with_class (class_in_of w) ▷ with_code (code_in w) ▷ with_accept (accept_in w)) one)
    go true e = record { code = low; class = λ h. absurd (false≢true h); age = lit≤ tt }
    go false e =
        record { code = low; class = λ h. class_of_ok (bit_at w 1) (bit_at w 2) (bit_at w 3) some e; age = lit≤ tt }
