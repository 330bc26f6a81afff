-- The sequencers of a record that is not spoiled: main, the sync count, the user sync and the blind time.
--     SoundSequencers         the clauses on them, as facts over just the fields that they read
--     sequencers_from_test, sequencers_to_test   the clauses and the facts say the same
--     tick_keeps_sequencers   a tick of the core
--     idle_is_sound           RESET and the fresh core
-- Assumes nothing.
use Rattle.std.specs.Prelude.{if◌then◌else◌}
use Rattle.std.proofs.Common.{◌≡◌, ℕ, ◌^◌, ◌<◌, Bool, true, false, not, ◌&&◌, ◌||◌, leb, List, sym, refl, ap, ◌∙◌, lit<, le-leb, leb-true}
use mathlib.Core.Bool.{false≢true}
use Rattle.bits.specs.Bits.{all_true}
use Rattle.bits.proofs.TestLaws.{and_left, and_right, by_cond, all_true_at, implied, implies}
use Rattle.registers.specs.Csr as csr
use Rattle.sync.specs.SyncCounter as counter
use Rattle.sync.proofs.SyncLaws.{after_load_keeps_limit, user_waits_exactly}
use Rattle.sync.specs.declared.counter.SyncCounter.{SyncCounter}
use Rattle.sync.specs.declared.user.UserStep.{UserStep}
use Rattle.sequencer.specs.MemoryWord.{is_ok_word}
use Rattle.sequencer.specs.MainFields.{quiet}
use Rattle.sequencer.specs.States.{is_idle, is_event}
use Rattle.sequencer.specs.MainSequencer.{WellFormedMain}
use Rattle.sequencer.specs.MainSequencer as main
use Rattle.sequencer.proofs.MainWellFormed as sequencer
use Rattle.sequencer.specs.declared.main_sequencer.MainSequencer.{MainSequencer}
use Rattle.sequencer.specs.declared.main_sequencer.MainStep.{MainStep}
use Rattle.scalers.specs.Scalers as scalers
use Rattle.trigger.specs.Latch.{word_at_of}
use Rattle.trigger.specs.BlindTime as blind
use Rattle.trigger.specs.Effects.{sync_after_of}
use Rattle.trigger.specs.declared.blind.BlindTime.{BlindTime}
use Rattle.trigger.specs.declared.lines.Inputs.{Inputs}
use Rattle.trigger.specs.declared.latch.Latch.{Latch}
use Rattle.trigger.proofs.LatchLaws.{accepted_is_ready}
use Rattle.trigger.proofs.BlindTimeLaws.{after_keeps_within}
use Rattle.module_core.specs.Core.{pulsed_of, is_ready_of, latch_in}
use Rattle.module_core.specs.Spoiled.{sequencer_clauses}
use Rattle.module_core.specs.Core.{cycle_step_of, main_step_of, user_step_of, settled_of, step_of}
use Rattle.module_core.proofs.CoreParts.{idle_cycle_is_quiet}
use Rattle.module_core.specs.declared.Core.{Core}

-- ---- the facts

pub record SequencersAre (m : MainSequencer) (count : ℕ) (waiting : Bool) (b : BlindTime) : Type 0 where
  -- [Spoiled.1b] [Spoiled.1c] [Spoiled.1i]
  pub main : WellFormedMain m
  -- [Spoiled.1h]
  pub within : leb count counter.count_limit ≡ true
  -- [Spoiled.1k]
  pub waits : waiting ≡ true → is_idle m.state ≡ true
  -- [Blind.3]
  pub blind : blind.is_within b ≡ true

abbrev pub SoundSequencers : Core → Type 0
SoundSequencers c = SequencersAre c.main c.sync.count c.user.waiting c.blind

pub sequencers_from_test : (c : Core) → all_true (sequencer_clauses c) ≡ true → SoundSequencers c
sequencers_from_test c h =
    let clause : (i : ℕ) → i < 4 → _ = all_true_at (sequencer_clauses c) h in
    record {
      main = sequencer.well_formed_from_test c.main (clause 0 (lit< tt));
      within = clause 1 (lit< tt);
      waits = implied c.user.waiting (is_idle c.main.state) (clause 2 (lit< tt));
      blind = clause 3 (lit< tt);
    }

pub sequencers_to_test : (c : Core) → SoundSequencers c → all_true (sequencer_clauses c) ≡ true
sequencers_to_test c h =
    rw (
      sequencer.well_formed_to_test c.main h.main,
      h.within,
      implies c.user.waiting (is_idle c.main.state) h.waits,
      h.blind,
    )

-- ---- the parts of a tick

sync_keeps_within : (enabled : Bool) (m : MainStep) (u : UserStep) (s : SyncCounter) → s.interval < 2 ^ 16
    → counter.is_within s ≡ true → counter.is_within (sync_after_of enabled m u s) ≡ true
unfolding sync_after_of
sync_keeps_within enabled m u s h within =
    by_cond (λ (r : SyncCounter). counter.is_within r ≡ true) (m.ended || u.ended) (λ e. refl)
    (λ e.
    by_cond (λ (r : SyncCounter). counter.is_within r ≡ true) (is_event m.outcome)
    (λ e. le-leb _ counter.count_limit (after_load_keeps_limit enabled s h (leb-true s.count counter.count_limit within)))
    (λ e. within))

main_keeps_well_formed : (room empty : Bool) (x : Inputs) (memory : List ℕ) (c : Core) → WellFormedMain c.main
    → WellFormedMain (main_step_of room empty x.lines (latch_in x memory c) (word_at_of memory (pulsed_of x c).passed) c).next
unfolding main_step_of
main_keeps_well_formed room empty x memory c h =
    let passed = (pulsed_of x c).passed in
    let ok : Bool = is_ok_word (word_at_of memory passed) in
    let ready : Bool = is_ready_of x.lines c in
    by_cond (λ (s : MainStep). WellFormedMain s.next) (scalers.is_some (latch_in x memory c).accepted)
    (λ e. sequencer.accepted_keeps_well_formed _ c.main (and_right ready ok (accepted_is_ready ready ok passed e)))
    (λ e. sequencer.step_keeps_well_formed _ (main.aged_of c.main) (sequencer.aged_keeps_well_formed c.main h))

-- ---- a user sync that waits leaves main at Idle

-- it was wanted at Idle, or waits already
wait_has_cause : (waiting wanted idle empty : Bool) → ((not waiting && (wanted && idle)) || (waiting && not empty)) ≡ true
    → (waiting ≡ true → idle ≡ true) → ((not wanted && not waiting) ≡ false) × (idle ≡ true)
wait_has_cause true true idle empty h waits = (refl, waits refl)
wait_has_cause true false idle empty h waits = (refl, waits refl)
wait_has_cause false true true empty h waits = (refl, refl)
wait_has_cause false true false empty h waits = absurd (false≢true h)
wait_has_cause false false idle empty h waits = absurd (false≢true h)

-- the ready rule asks for neither
ready_has_neither : (idle go wanted waiting rest : Bool) → (idle && (go && (not wanted && (not waiting && rest)))) ≡ true
    → (not wanted && not waiting) ≡ true
ready_has_neither true true false false rest h = refl
ready_has_neither true true false true rest h = absurd (false≢true h)
ready_has_neither true true true waiting rest h = absurd (false≢true h)
ready_has_neither true false wanted waiting rest h = absurd (false≢true h)
ready_has_neither false go wanted waiting rest h = absurd (false≢true h)

module _ (room empty : Bool) (x : Inputs) (memory : List ℕ) (c : Core) (h : SoundSequencers c) where
  abbrev passed : ℕ
  passed = (pulsed_of x c).passed

  abbrev word : ℕ
  word = word_at_of memory passed

  abbrev latch : Latch
  latch = latch_in x memory c

  abbrev wanted : Bool
  wanted = csr.wants_user_sync c.csr

  module _ (waits : (user_step_of empty c).next.waiting ≡ true) where
    cause : ((not wanted && not c.user.waiting) ≡ false) × (is_idle c.main.state ≡ true)
    cause =
        wait_has_cause c.user.waiting wanted (is_idle c.main.state) empty
        (sym (user_waits_exactly wanted (is_idle c.main.state) empty c.user) ∙ waits) h.waits

    none_accepted : scalers.is_some latch.accepted ≡ false
    none_accepted = go (scalers.is_some latch.accepted) refl
      where
        go : (t : Bool) → scalers.is_some latch.accepted ≡ t → t ≡ false
        go true e =
            let ready : Bool = is_ready_of x.lines c in
            let rule = and_left ready (is_ok_word word) (accepted_is_ready ready (is_ok_word word) passed e) in
            sym (ready_has_neither (is_idle c.main.state) (csr.is_go c.csr) wanted c.user.waiting _ rule) ∙ cause.0
        go false e = refl

    waits_at_idle : is_idle (main_step_of room empty x.lines latch word c).next.state ≡ true
    unfolding main_step_of
    waits_at_idle =
        ap (λ (t : Bool).
        is_idle (if t then quiet (main.accepted_of word c.main) else cycle_step_of room empty x.lines c).next.state)
        none_accepted
        ∙ ap (λ (s : MainStep). is_idle s.next.state) (idle_cycle_is_quiet room empty x.lines c cause.1)
        ∙ cause.1

  -- ---- a tick of the core

  pub tick_keeps_sequencers : c.sync.interval < 2 ^ 16 → SoundSequencers (step_of room empty x memory c).next
  unfolding step_of settled_of
  tick_keeps_sequencers interval =
      record {
        main = main_keeps_well_formed room empty x memory c h.main;
        within = sync_keeps_within (csr.enables_sync c.csr) _ _ c.sync interval h.within;
        waits = waits_at_idle;
        blind = after_keeps_within c.blind latch.rejected h.blind;
      }

-- [CSRWrite.2d] [Registers.4] [Blind.3] main at Idle, no count, no user sync, not blind
pub idle_is_sound : SequencersAre main.idle_of 0 false blind.fresh_of
idle_is_sound =
    record {
      main = sequencer.idle_is_well_formed;
      within = refl;
      waits = λ e. absurd (false≢true e);
      blind = refl;
    }
