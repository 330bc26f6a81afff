-- Laws of the main sequencer: what every step keeps.
--     step_decides_event         an undecided event is cleared, loaded or still undecided after the step
--     step_loads_in_order        a load comes where a queue may take it; a state that waits for the branches is left by
--                                the test on them
--     to_idle_zeroes             a move to Idle leaves nothing of the event
--     idle_stays, idle_does_not_age, aged_keeps_state   at Idle nothing moves; ageing leaves the state
--     fail_beats_pass2, fail_beats_pass3, word_is_six_bit   single rules
--     step_loads_six_bits        the word that a step loads has six bits
-- Assumes nothing.
use Rattle.std.specs.Prelude.{if◌then◌else◌}
use Prim.Native.Nat.{ℕ, ◌+◌, ◌*◌, ◌%◌, ◌<◌, ◌≤◌}
use mathlib.Core.Path.{◌≡◌, refl, sym, ap, ◌∙◌}
use mathlib.Core.Bool.{Bool, true, false, not, ◌&&◌, ◌||◌, false≢true, true≢false}
use mathlib.Core.List.{List, [], ◌∷◌}
use native.Mathlib.Omega.{arith}
use native.Mathlib.Nat.{mod-lt}
use lib.Dec.{ltb, leb, lit<}
use lib.ListN.{get_or}
use borrow.Author.Tests.{not-true, le-leb}
use Rattle.bits.specs.Notation.{◌▷◌}
use Rattle.bits.specs.Bits.{one_if_of, all_true}
use Rattle.bits.specs.Bytes.{all_of}
use Rattle.bits.proofs.TestLaws.{and_both, implied, all_true_at, or_true, or_rest}
use Rattle.sequencer.specs.MainFields.{quiet, with_age, with_state}
use Rattle.sequencer.specs.States.{is_idle, is_undecided, is_loaded, is_cleared, is_event, is_tag}
use Rattle.sequencer.specs.States.{outcome_words}
use Rattle.sequencer.specs.MainSequencer.{age_limit}
use Rattle.sequencer.specs.MainSequencer.{idle_of, aged_of}
use Rattle.sequencer.specs.MainSequencer.{level2, level3, Move, stays, waits_in_delay, ends_delay}
use Rattle.sequencer.specs.MainSequencer.{passes2_to_delay, passes2_to_wait3, passes3, fails_late, fails_and_clears}
use Rattle.sequencer.specs.MainSequencer.{loads, leaves_space, ends_sync_hold, counts_clear, ends_clear}
use Rattle.sequencer.specs.MainSequencer.{move_in_wait2, move_in_wait3, move_in, word_of, after_load, step_by, step_of}
use Rattle.sequencer.specs.declared.states.State.{State}
use Rattle.sequencer.specs.declared.states.State.TheVariants.{Idle}
use Rattle.sequencer.specs.declared.main_sequencer.MainSequencer.{MainSequencer}
use Rattle.sequencer.specs.declared.main_sequencer.Tests.{Tests}
use Rattle.sequencer.specs.declared.main_sequencer.MainStep.{MainStep}
use Rattle.sequencer.proofs.MainMoves.{MovesIn, stays_in, delay_waits, delay_ends, wait2_fails_late, wait2_fails}
use Rattle.sequencer.proofs.MainMoves.{wait2_to_delay, wait2_to_wait3, wait3_fails_late, wait3_fails, wait3_passes}
use Rattle.sequencer.proofs.MainMoves.{front_loads, space_leaves, sync_hold_ends, clear_counts, clear_ends}
use Rattle.sequencer.proofs.MainMoves.{move_is_one_of}

-- ---- what follows, move by move; `m ▷ with_state g` is any sequencer at g

not_undecided_after_load : (sync : Bool) → is_undecided (after_load sync) ≡ false
not_undecided_after_load true = refl
not_undecided_after_load false = refl

loaded_after_load : (sync : Bool) → is_loaded (after_load sync) ≡ true
loaded_after_load true = refl
loaded_after_load false = refl

-- how cleared, loaded and undecided events go on
abbrev Decides : State → MainStep → Type 0
Decides g s =
    one_if_of (is_undecided g)
    ≡ one_if_of (is_cleared s.outcome) + one_if_of (is_event s.outcome) + one_if_of (is_undecided s.next.state)

-- a load, a tag, a state that waits for the branches, the end of Sync hold: what each goes with
abbrev rules : Tests → State → MainStep → List Bool
rules t g s =
    (not (is_event s.outcome) || not (is_loaded g))
    ∷ (not (is_event s.outcome) || is_loaded s.next.state)
    ∷ not (is_tag s.outcome)
    ∷ (not (is_loaded g) || (is_loaded s.next.state || (t.room || t.empty)))
    ∷ (not s.ended || t.empty)
    ∷ []

stays_in_order : (loaded room : Bool) → ((not loaded || (loaded || room)) && true) ≡ true
stays_in_order true room = refl
stays_in_order false room = refl

not_idle_after_load : (sync : Bool) → is_idle (after_load sync) ≡ false
not_idle_after_load true = refl
not_idle_after_load false = refl

module _ (t : Tests) (m : MainSequencer) where
  decides : {g : State} {v : Move} → MovesIn t g v → Decides g (step_by v t (m ▷ with_state g))
  decides (stays_in g) = omega arith
  decides delay_waits = refl
  decides delay_ends = refl
  decides wait2_fails_late = refl
  decides wait2_fails = refl
  decides wait2_to_delay = refl
  decides wait2_to_wait3 = refl
  decides wait3_fails_late = refl
  decides wait3_fails = refl
  decides wait3_passes = refl
  decides front_loads = rw (not_undecided_after_load t.sync)
  decides (space_leaves h) = refl
  decides (sync_hold_ends h) = refl
  decides clear_counts = refl
  decides clear_ends = refl

  in_order : {g : State} {v : Move} → MovesIn t g v → all_true (rules t g (step_by v t (m ▷ with_state g))) ≡ true
  in_order (stays_in g) = stays_in_order (is_loaded g) (t.room || t.empty)
  in_order delay_waits = refl
  in_order delay_ends = refl
  in_order wait2_fails_late = refl
  in_order wait2_fails = refl
  in_order wait2_to_delay = refl
  in_order wait2_to_wait3 = refl
  in_order wait3_fails_late = refl
  in_order wait3_fails = refl
  in_order wait3_passes = refl
  in_order front_loads = rw (loaded_after_load t.sync)
  in_order (space_leaves h) = rw h
  in_order (sync_hold_ends h) = rw (or_true t.room t.empty h, h)
  in_order clear_counts = refl
  in_order clear_ends = refl

  zeroes : {g : State} {v : Move} → MovesIn t g v → is_idle g ≡ false
      → is_idle (step_by v t (m ▷ with_state g)).next.state ≡ true → (step_by v t (m ▷ with_state g)).next ≡ idle_of
  zeroes (stays_in g) h k = absurd (true≢false (sym k ∙ h))
  zeroes delay_waits h k = absurd (false≢true k)
  zeroes delay_ends h k = absurd (false≢true k)
  zeroes wait2_fails_late h k = absurd (false≢true k)
  zeroes wait2_fails h k = absurd (false≢true k)
  zeroes wait2_to_delay h k = absurd (false≢true k)
  zeroes wait2_to_wait3 h k = absurd (false≢true k)
  zeroes wait3_fails_late h k = absurd (false≢true k)
  zeroes wait3_fails h k = absurd (false≢true k)
  zeroes wait3_passes h k = absurd (false≢true k)
  zeroes front_loads h k = absurd (true≢false (sym k ∙ not_idle_after_load t.sync))
  zeroes (space_leaves r) h k = refl
  zeroes (sync_hold_ends r) h k = refl
  zeroes clear_counts h k = absurd (false≢true k)
  zeroes clear_ends h k = refl

  -- ---- the step itself

  taken : MovesIn t m.state (move_in m.state t m)
  taken = move_is_one_of m.state t m

  -- [Account.14] accepted events are cleared, loaded or undecided
  pub step_decides_event : Decides m.state (step_of t m)
  unfolding step_of
  step_decides_event = decides taken

  step_in_order : all_true (rules t m.state (step_of t m)) ≡ true
  unfolding step_of
  step_in_order = in_order taken

  -- [Main.17]
  pub to_idle_zeroes : is_idle m.state ≡ false → is_idle (step_of t m).next.state ≡ true → (step_of t m).next ≡ idle_of
  unfolding step_of
  to_idle_zeroes = zeroes taken

  pub idle_stays : m.state ≡ Idle → step_of t m ≡ quiet m
  unfolding step_of
  idle_stays h = ap (λ (g : State). step_by (move_in g t m) t m) h

  -- [Spoiled.1f] where a load happens a queue holds seven words at most; after it eight are allowed
  pub record LoadsInOrder : Type 0 where
    pub load_before : is_event (step_of t m).outcome ≡ true → is_loaded m.state ≡ false
    pub load_after : is_event (step_of t m).outcome ≡ true → is_loaded (step_of t m).next.state ≡ true
    pub no_tag : is_tag (step_of t m).outcome ≡ false
    pub leaves : is_loaded m.state ≡ true → is_loaded (step_of t m).next.state ≡ false → (t.room || t.empty) ≡ true
    pub ends : (step_of t m).ended ≡ true → t.empty ≡ true

  rule : (i : ℕ) → i < 5 → get_or (rules t m.state (step_of t m)) i false ≡ true
  rule = all_true_at (rules t m.state (step_of t m)) step_in_order

  pub step_loads_in_order : LoadsInOrder
  step_loads_in_order =
      let s : MainStep = step_of t m in
      let event : Bool = is_event s.outcome in
      let after : Bool = is_loaded s.next.state in
      let leave = implied (is_loaded m.state) (after || (t.room || t.empty)) (rule 3 (lit< tt)) in
      record {
        load_before = λ h. not-true (is_loaded m.state) (implied event (not (is_loaded m.state)) (rule 0 (lit< tt)) h);
        load_after = implied event after (rule 1 (lit< tt));
        no_tag = not-true (is_tag s.outcome) (rule 2 (lit< tt));
        leaves = λ h k. or_rest after (t.room || t.empty) (leave h) k;
        ends = implied s.ended t.empty (rule 4 (lit< tt));
      }

-- [Main.1] at Idle the age does not rise
pub idle_does_not_age : (m : MainSequencer) → is_idle m.state ≡ true → aged_of m ≡ m
unfolding aged_of
idle_does_not_age m h =
    ap (λ (idle : Bool). if not idle && ltb m.age age_limit then m ▷ with_age (m.age + 1) else m) h

pub aged_keeps_state : (m : MainSequencer) → (aged_of m).state ≡ m.state
unfolding aged_of
aged_keeps_state m = go (not (is_idle m.state) && ltb m.age age_limit)
  where
    go : (t : Bool) → (if t then m ▷ with_age (m.age + 1) else m).state ≡ m.state
    go true = refl
    go false = refl

-- ---- single rules

-- [Main.3] whatever the pass line says
pub fail_beats_pass2 : (late pass class2 : Bool) → move_in_wait2 true late pass class2 ≡ move_in_wait2 true late false false
fail_beats_pass2 true pass class2 = refl
fail_beats_pass2 false pass class2 = refl

pub fail_beats_pass3 : (late pass : Bool) → move_in_wait3 true late pass ≡ move_in_wait3 true late false
fail_beats_pass3 true pass = refl
fail_beats_pass3 false pass = refl

-- [Main.9]
pub word_is_six_bit : (sync : Bool) (m : MainSequencer) → word_of sync m ≤ 63
word_is_six_bit sync m = go sync m.late
  where
    low : m.code % 16 < 16
    low = mod-lt m.code (lit< tt)

    go : (sync late : Bool) → m.code % 16 + 16 * one_if_of sync + 32 * one_if_of late ≤ 63
    go true true = omega arith
    go true false = omega arith
    go false true = omega arith
    go false false = omega arith

-- by clauses on the move: one of them loads
loads_six_bits : (v : Move) (t : Tests) (m : MainSequencer)
    → all_of (λ w. leb w 63) (outcome_words (step_by v t m).outcome) ≡ true
loads_six_bits stays t m = refl
loads_six_bits waits_in_delay t m = refl
loads_six_bits ends_delay t m = refl
loads_six_bits passes2_to_delay t m = refl
loads_six_bits passes2_to_wait3 t m = refl
loads_six_bits passes3 t m = refl
loads_six_bits (fails_late level2) t m = refl
loads_six_bits (fails_late level3) t m = refl
loads_six_bits (fails_and_clears level2) t m = refl
loads_six_bits (fails_and_clears level3) t m = refl
loads_six_bits loads t m = and_both _ true (le-leb (word_of t.sync m) 63 (word_is_six_bit t.sync m)) refl
loads_six_bits leaves_space t m = refl
loads_six_bits ends_sync_hold t m = refl
loads_six_bits counts_clear t m = refl
loads_six_bits ends_clear t m = refl

-- [Main.9]
pub step_loads_six_bits : (t : Tests) (m : MainSequencer)
    → all_of (λ w. leb w 63) (outcome_words (step_of t m).outcome) ≡ true
unfolding step_of
step_loads_six_bits t m = loads_six_bits (move_in m.state t m) t m
