-- Laws of the whole record: what a word loaded is, what a record that is not spoiled has, and which ticks run.
--     load_words, word_is_load, no_load   the load is the outcome's word, that of an event or a tag; others load none
--     unspoiled_is_well_formed     its branches are well formed
--     unspoiled_is_sound           its core is sound
--     held_stands, unheld_runs     the two ticks, by the test between them; held_leaves_record, held-stands-still: a held one
--     one_step_one_tick            under hold the tick that a single step lets through is the only one
--     unheld_drops_waiting         a tick that runs leaves nothing that waited
--     outside_is_in_force, outside_acks_stay_lem, line_in_force, ack_in_force, written_pulse_counts   what it meets
--     test_mode_blocks, test_acks_block   what a tick in test mode does not look at
-- Assumes nothing.
use Rattle.std.proofs.Common.{◌≡◌, ℕ, ◌/◌, ◌<◌, ◌≤◌, Bool, true, false, cond, not, ◌&&◌, List, get_or, sym, refl, ap, ◌∙◌, subst, true≢false, lit<, lit≤}
use borrow.Author.Tests.{not-false}
use Rattle.bits.specs.Bits.{bit_at}
use Rattle.bits.proofs.TestLaws.{and_left, and_right, by_cond}
use Rattle.registers.specs.Csr as csr
use Rattle.registers.specs.Control.{inputs, is_enabled, counts}
use Rattle.branch.specs.Slots.{words_in, is_word_of}
use Rattle.std.specs.Prelude.{None}
use Rattle.branches.specs.Readout as readout
use Rattle.branches.proofs.ReadoutLaws.{standing_finishes_nothing, standing_shows}
use Rattle.sequencer.specs.States.{outcome_words}
use Rattle.sequencer.specs.declared.states.Outcome.{Outcome}
use Rattle.sequencer.specs.declared.states.Outcome.TheVariants.{Nothing, Cleared, Event, Tag}
use Rattle.trigger.specs.Lines.{has_strobe}
use Rattle.trigger.specs.declared.lines.Inputs.{Inputs}
use Rattle.trigger.proofs.EffectsLaws.{csr_after_keeps_mode}
use Rattle.testing.specs.TestWord as test
use Rattle.testing.specs.TestWord.{pulses_inputs, acknowledges, replaces_acks}
use Rattle.testing.specs.InForce as testing
use Rattle.testing.specs.declared.TestWord.{TestWord}
use Rattle.testing.proofs.TestingLaws.{line_numbers, line_is_bit, acks_at, in_force_counts, held_stops_counted}
use Rattle.testing.proofs.TestingLaws.{outside_is_blocked_lem, acks_are_blocked}
use Rattle.module_core.specs.Core as core
use Rattle.module_core.specs.Spoiled.{allows_eight_of, is_sound_of}
use Rattle.module_core.proofs.CoreParts.{is_load}
use Rattle.supervisor.specs.Supervisor.{load_of, is_spoiled_of, core_step_of, joined_of, ran_of, in_force_of, is_held_of, held_of}
use Rattle.supervisor.specs.Supervisor.{ticked_of, StandsStill}
use Rattle.supervisor.specs.declared.Ticked.{Ticked}
use Rattle.supervisor.specs.declared.Supervisor.{Supervisor}

-- ---- an outcome and what it loads

-- [Account.15]
pub load_words : (o : Outcome) → words_in (load_of o) ≡ outcome_words o
load_words Nothing = refl
load_words Cleared = refl
load_words (Event w) = refl
load_words (Tag w) = refl

pub word_is_load : (o : Outcome) → is_word_of (load_of o) ≡ true → is_load o ≡ true
word_is_load Nothing h = h
word_is_load Cleared h = h
word_is_load (Event w) h = refl
word_is_load (Tag w) h = refl

pub no_load : (o : Outcome) → is_load o ≡ false → load_of o ≡ None
no_load Nothing h = refl
no_load Cleared h = refl
no_load (Event w) h = absurd (true≢false h)
no_load (Tag w) h = absurd (true≢false h)

-- ---- a record that is not spoiled

module _ (s : Supervisor) (clean : is_spoiled_of s ≡ false) where
  abbrev well_formed : Bool
  well_formed = readout.is_well_formed_of (allows_eight_of s.core) s.readout.branches

  abbrev sound : Bool
  sound = is_sound_of s.core

  unspoiled : (well_formed && sound) ≡ true
  unfolding is_spoiled_of
  unspoiled = not-false (well_formed && sound) clean

  -- [Spoiled.1d] [Spoiled.1f] [Spoiled.1g]
  pub unspoiled_is_well_formed : well_formed ≡ true
  unspoiled_is_well_formed = and_left well_formed sound unspoiled

  -- [Spoiled.1a]–[Spoiled.1c] [Spoiled.1h]–[Spoiled.1k] [Bytes.9]
  pub unspoiled_is_sound : sound ≡ true
  unspoiled_is_sound = and_right well_formed sound unspoiled

-- ---- test mode and a held clock

not_then : (t b : Bool) → cond t false b ≡ (not t && b)
not_then true b = refl
not_then false b = refl

module _ (memory : List ℕ) (x : Inputs) (s : Supervisor) where
  pub held_stands : is_held_of s ≡ true → ticked_of memory x s ≡ held_of x s
  unfolding ticked_of
  held_stands held = rw held

  pub unheld_runs : is_held_of s ≡ false → ticked_of memory x s ≡ ran_of memory (in_force_of x s) s
  unfolding ticked_of
  unheld_runs runs = rw runs

  -- [Test.7a]
  answers_still : StandsStill x s (held_of x s).answer
  unfolding held_of testing.held_masks_of
  answers_still =
      record {
        stopped = λ i h. held_stops_counted s.core.csr s.core.control x i h ∙ not_then (csr.is_test_mode s.core.csr) _;
        others = refl;
        outcome = refl;
        lines = refl;
        finished = standing_finishes_nothing s.readout.branches;
        shown = standing_shows s.readout.branches;
      }

  -- [Test.7a]
  pub held_stands_still : is_held_of s ≡ true → StandsStill x s (ticked_of memory x s).answer
  held_stands_still held = subst (λ (t : Ticked). StandsStill x s t.answer) (sym (held_stands held)) answers_still

  pub held_leaves_record : is_held_of s ≡ true → (ticked_of memory x s).next ≡ s
  unfolding held_of
  held_leaves_record held = ap (λ (t : Ticked). t.next) (held_stands held)

-- a tick that runs leaves the mode, and nothing that waits
module _ (memory : List ℕ) (x : Inputs) (s : Supervisor) where
  pub ran_keeps_mode : (i : ℕ) → 4 ≤ i → i < csr.settable_count
      → csr.has_bit (ran_of memory x s).next.core.csr i ≡ csr.has_bit s.core.csr i
  unfolding ran_of joined_of core_step_of core.step_of core.settled_of
  ran_keeps_mode i low high = csr_after_keeps_mode _ _ _ s.core.csr i low high

  -- [Test.6] [Test.8a]
  pub ran_drops_waiting : (ran_of memory x s).next.core.test ≡ test.fresh_of
  unfolding ran_of joined_of core_step_of core.step_of core.settled_of
  ran_drops_waiting = refl

  -- [Test.8a] under hold the next one is held
  ran_is_held_after : csr.holds_clock s.core.csr ≡ true → is_held_of (ran_of memory x s).next ≡ true
  unfolding is_held_of
  ran_is_held_after hold = rw (ran_keeps_mode 12 (lit≤ tt) (lit< tt), hold, ran_drops_waiting)

-- [Test.8a]
pub one_step_one_tick : (memory : List ℕ) (x : Inputs) (s : Supervisor) → csr.holds_clock s.core.csr ≡ true
    → is_held_of s ≡ false → is_held_of (ticked_of memory x s).next ≡ true
one_step_one_tick memory x s hold runs =
    ap (λ (t : Ticked). is_held_of t.next) (unheld_runs memory x s runs)
    ∙ ran_is_held_after memory (in_force_of x s) s hold

-- [Test.6] a tick that runs leaves nothing that waits; outside test mode it meets the outside
pub unheld_drops_waiting : (memory : List ℕ) (x : Inputs) (s : Supervisor) → is_held_of s ≡ false
    → (ticked_of memory x s).next.core.test.word ≡ 0
unheld_drops_waiting memory x s runs =
    ap (λ (t : Ticked). t.next.core.test.word) (unheld_runs memory x s runs)
    ∙ ap (λ (w : TestWord). w.word) (ran_drops_waiting memory (in_force_of x s) s)

pub outside_is_in_force : (x : Inputs) (s : Supervisor) → csr.is_test_mode s.core.csr ≡ false → in_force_of x s ≡ x
unfolding in_force_of testing.in_force_of
outside_is_in_force x s test = rw test

-- [Test.4] in test mode or not
pub outside_acks_stay_lem : (x : Inputs) (s : Supervisor) → replaces_acks s.core.test ≡ false → (in_force_of x s).acks ≡ x.acks
unfolding in_force_of testing.in_force_of
outside_acks_stay_lem x s none =
    by_cond (λ (y : Inputs). y.acks ≡ x.acks) (csr.is_test_mode s.core.csr) (λ e. rw none) (λ e. refl)

module _ (x : Inputs) (s : Supervisor) (test : csr.is_test_mode s.core.csr ≡ true) where
  -- [Test.2] [Test.3]
  pub line_in_force : (i : ℕ) → i < 7
      → bit_at (in_force_of x s).lines.word i ≡ bit_at s.core.test.word (get_or line_numbers i 0)
  unfolding in_force_of testing.in_force_of
  line_in_force i h = rw test (line_is_bit s.core.test i h)

  -- [Test.4]
  pub ack_in_force : replaces_acks s.core.test ≡ true → (i : ℕ) → i < 32
      → bit_at (in_force_of x s).acks i ≡ acknowledges s.core.test (i / 8)
  unfolding in_force_of testing.in_force_of
  ack_in_force replaces i h = rw (test, replaces) (acks_at s.core.test i h)

  -- [Test.3] a written pulse counts at every enabled input, and nothing else does
  pub written_pulse_counts : (i : ℕ) → i < inputs
      → counts s.core.control (has_strobe (in_force_of x s).lines) (in_force_of x s).triggers i
      ≡ (pulses_inputs s.core.test && is_enabled s.core.control i)
  unfolding in_force_of
  written_pulse_counts i h = in_force_counts s.core.control s.core.test i h s.core.csr x ∙ rw test

-- [Test.2] in test mode a tick is the same for the same acknowledges, held or not
pub test_mode_blocks : (memory : List ℕ) (x y : Inputs) (s : Supervisor) → csr.is_test_mode s.core.csr ≡ true
    → x.acks ≡ y.acks → ticked_of memory x s ≡ ticked_of memory y s
unfolding ticked_of in_force_of held_of testing.held_masks_of
test_mode_blocks memory x y s test same =
    rw (test, outside_is_blocked_lem s.core.csr s.core.control s.core.test test x y same)

-- [Test.4] and where bit 14 waits, for any
pub test_acks_block : (memory : List ℕ) (x y : Inputs) (s : Supervisor) → csr.is_test_mode s.core.csr ≡ true
    → replaces_acks s.core.test ≡ true → ticked_of memory x s ≡ ticked_of memory y s
unfolding ticked_of in_force_of held_of testing.held_masks_of
test_acks_block memory x y s test replaces =
    rw (test, acks_are_blocked s.core.csr s.core.control s.core.test test replaces x y)
