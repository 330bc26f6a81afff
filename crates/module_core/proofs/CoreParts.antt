-- Laws of the parts of a tick of the core: the ready rule, main, the user sync. Each is over its part alone; CoreLaws puts
-- them together.
--     idle_is_named                            the test of Idle is the state
--     ready_is_idle, ready_wants_no_sync, blind_is_not_ready   the ready rule
--     accepted_is_undecided, idle_cycle_is_quiet, cycle_decides_event   main: the accept, Idle, a cycle
--     main_has_no_tag, main_loads_below_eight, main_at_idle_loads_nothing, main_loads_six_bits
--     tag_waits_not, tag_is_wanted, tag_is_at_idle   where the user sync loads a tag
--     sound_waits_at_idle                      main is not in a cycle while a user sync waits
--     latched_at_none, unseen_word, step_by_latched   where nothing passed, nothing is latched and no word is asked for
--     is_load                                   an event or a tag
--     tag-, event_loads_below_eight            a word is loaded only where no queue may hold eight
-- Assumes nothing.
use Rattle.std.specs.Prelude.{◌≡◌, ℕ, ◌+◌, Bool, true, false, cond, not, ◌&&◌, ◌||◌, eqb, leb, List, ◌++◌}
use mathlib.Core.Path.{refl, sym, ap, ap₂, ◌∙◌}
use mathlib.Core.Bool.{true≢false, false≢true}
use lib.Dec.{lit<}
use borrow.Author.Tests.{not-true}
use Rattle.bits.specs.Bits.{one_if_of}
use Rattle.bits.specs.Bytes.{all_of}
use Rattle.bits.proofs.TestLaws.{and_left, and_right, and_fails, implied, all_true_at, all_true_right, by_cond}
use Rattle.registers.specs.Csr as csr
use Rattle.sync.proofs.SyncLaws.{user_tag_exactly}
use Rattle.sequencer.specs.MemoryWord.{is_ok_word, class_in_of}
use Rattle.sequencer.specs.MainFields.{quiet}
use Rattle.sequencer.specs.States.{is_idle, is_undecided, is_loaded, outcome_words, is_cleared, is_event, is_tag}
use Rattle.sequencer.specs.MainSequencer as main
use Rattle.sequencer.specs.declared.states.State.{State}
use Rattle.sequencer.specs.declared.states.State.TheVariants.{Idle, Delay, Wait2, Wait3}
use Rattle.sequencer.specs.declared.states.State.TheVariants.{Front, Space, SyncHold, Clear}
use Rattle.sequencer.specs.declared.states.Outcome.{Outcome}
use Rattle.sequencer.specs.declared.states.Outcome.TheVariants.{Nothing, Cleared, Event, Tag}
use Rattle.sequencer.specs.declared.main_sequencer.MainSequencer.{MainSequencer}
use Rattle.sequencer.specs.declared.main_sequencer.MainStep.{MainStep}
use Rattle.sequencer.proofs.MainLaws.{idle_stays, idle_does_not_age, aged_keeps_state, step_decides_event}
use Rattle.sequencer.proofs.MainLaws.{step_loads_in_order}
use Rattle.sequencer.proofs.MainLaws as sequencer
use Rattle.scalers.specs.Scalers.{is_some}
use Rattle.trigger.specs.Lines.{has_front_busy}
use Rattle.trigger.specs.Latch.{word_at_of, no_latch, latch_of}
use Rattle.trigger.specs.declared.lines.Inputs.{Inputs}
use Rattle.trigger.specs.BlindTime.{is_over}
use Rattle.trigger.specs.declared.lines.Lines.{Lines}
use Rattle.trigger.specs.declared.latch.Latch.{Latch}
use Rattle.module_core.specs.Core.{is_uninhibited, is_ready_of, is_open_of}
use Rattle.module_core.specs.Core.{tests_of, cycle_step_of, main_step_of, user_step_of, pulsed_of, latch_in, latched_of, settled_of, step_of}
use Rattle.module_core.specs.Spoiled.{allows_eight_of, bank_clauses, register_clauses, sequencer_clauses, is_sound_of}
use Rattle.module_core.specs.declared.Core.{Core}

-- ---- the state Idle

pub idle_is_named : (g : State) → is_idle g ≡ true → g ≡ Idle
idle_is_named Idle h = refl
idle_is_named Delay h = absurd (false≢true h)
idle_is_named Wait2 h = absurd (false≢true h)
idle_is_named Wait3 h = absurd (false≢true h)
idle_is_named Front h = absurd (false≢true h)
idle_is_named Space h = absurd (false≢true h)
idle_is_named SyncHold h = absurd (false≢true h)
idle_is_named Clear h = absurd (false≢true h)

-- ---- the ready rule

module _ (l : Lines) (c : Core) (ready : is_ready_of l c ≡ true) where
  -- [Ready.1]
  pub ready_is_idle : is_idle c.main.state ≡ true
  ready_is_idle = and_left (is_idle c.main.state) (is_open_of l c) ready

  -- [Ready.1]
  pub ready_wants_no_sync : csr.wants_user_sync c.csr ≡ false
  ready_wants_no_sync =
      not-true (csr.wants_user_sync c.csr)
      (and_left (not (csr.wants_user_sync c.csr)) _
      (and_right (csr.is_go c.csr) _ (and_right (is_idle c.main.state) (is_open_of l c) ready)))

-- [Blind.2] whatever else holds
pub blind_is_not_ready : (l : Lines) (c : Core) → is_over c.blind ≡ false → is_ready_of l c ≡ false
blind_is_not_ready l c h =
    and_fails (is_idle c.main.state)
    (and_fails (csr.is_go c.csr)
    (and_fails (not (csr.wants_user_sync c.csr))
    (and_fails (not c.user.waiting)
    (and_fails (not (has_front_busy l)) (and_fails (is_uninhibited l c.csr) h)))))

-- ---- main: in a cycle, at Idle, and where a pattern is accepted

pub accepted_is_undecided : (word : ℕ) (m : MainSequencer) → is_undecided (main.accepted_of word m).state ≡ true
unfolding main.accepted_of
accepted_is_undecided word m =
    by_cond (λ (n : MainSequencer). is_undecided n.state ≡ true) (eqb (class_in_of word) 1) (λ e. refl) (λ e. refl)

module _ (room empty : Bool) (l : Lines) (c : Core) where
  -- [Main.1] at Idle nothing moves
  pub idle_cycle_is_quiet : is_idle c.main.state ≡ true → cycle_step_of room empty l c ≡ quiet c.main
  idle_cycle_is_quiet h =
      rw (idle_does_not_age c.main h)
      (idle_stays (tests_of room empty c.main.age l c) c.main (idle_is_named c.main.state h))

  pub cycle_decides_event : one_if_of (is_undecided c.main.state)
      ≡ one_if_of (is_cleared (cycle_step_of room empty l c).outcome)
      + one_if_of (is_event (cycle_step_of room empty l c).outcome)
      + one_if_of (is_undecided (cycle_step_of room empty l c).next.state)
  cycle_decides_event =
      let aged : MainSequencer = main.aged_of c.main in
      ap (λ (g : State). one_if_of (is_undecided g)) (sym (aged_keeps_state c.main))
      ∙ step_decides_event (tests_of room empty aged.age l c) aged

  module _ (latch : Latch) (word : ℕ) where
    abbrev main_step : MainStep
    main_step = main_step_of room empty l latch word c

    -- a pattern is accepted, with no outcome, or main goes on by itself
    by_accept : (P : MainStep → Type 0) → P (quiet (main.accepted_of word c.main)) → P (cycle_step_of room empty l c)
        → P main_step
    unfolding main_step_of
    by_accept P accepted cycle = by_cond P (is_some latch.accepted) (λ e. accepted) (λ e. cycle)

    pub main_has_no_tag : is_tag main_step.outcome ≡ false
    main_has_no_tag =
        by_accept (λ (s : MainStep). is_tag s.outcome ≡ false) refl (step_loads_in_order _ _).no_tag

    -- [Spoiled.1f]
    pub main_loads_below_eight : is_event main_step.outcome ≡ true → is_loaded c.main.state ≡ false
    main_loads_below_eight =
        by_accept (λ (s : MainStep). is_event s.outcome ≡ true → is_loaded c.main.state ≡ false)
        (λ h. absurd (false≢true h))
        (λ h. ap is_loaded (sym (aged_keeps_state c.main)) ∙ (step_loads_in_order _ _).load_before h)

    -- [Main.1]
    pub main_at_idle_loads_nothing : is_idle c.main.state ≡ true → is_event main_step.outcome ≡ false
    main_at_idle_loads_nothing idle =
        by_accept (λ (s : MainStep). is_event s.outcome ≡ false) refl
        (ap (λ (s : MainStep). is_event s.outcome) (idle_cycle_is_quiet idle))

    -- [Main.9]
    pub main_loads_six_bits : all_of (λ w. leb w 63) (outcome_words main_step.outcome) ≡ true
    main_loads_six_bits =
        by_accept (λ (s : MainStep). all_of (λ w. leb w 63) (outcome_words s.outcome) ≡ true) refl
        (sequencer.step_loads_six_bits _ _)

-- ---- the user sync: where a tag is loaded

module _ (empty : Bool) (c : Core) (tag : (user_step_of empty c).tag ≡ true) where
  tag_tests : (not c.user.waiting && (csr.wants_user_sync c.csr && is_idle c.main.state)) ≡ true
  tag_tests = sym (user_tag_exactly (csr.wants_user_sync c.csr) (is_idle c.main.state) empty c.user) ∙ tag

  -- [Usersync.1]
  pub tag_waits_not : c.user.waiting ≡ false
  tag_waits_not = not-true c.user.waiting (and_left (not c.user.waiting) _ tag_tests)

  pub tag_is_wanted : csr.wants_user_sync c.csr ≡ true
  tag_is_wanted = and_left (csr.wants_user_sync c.csr) _ (and_right (not c.user.waiting) _ tag_tests)

  pub tag_is_at_idle : is_idle c.main.state ≡ true
  tag_is_at_idle = and_right (csr.wants_user_sync c.csr) _ (and_right (not c.user.waiting) _ tag_tests)

-- [Spoiled.1k] main is not in a cycle while a user sync waits
pub sound_waits_at_idle : (c : Core) → is_sound_of c ≡ true → c.user.waiting ≡ true → is_idle c.main.state ≡ true
unfolding is_sound_of
sound_waits_at_idle c sound =
    let sequencers = all_true_right (bank_clauses c ++ register_clauses c) (sequencer_clauses c) sound in
    implied c.user.waiting (is_idle c.main.state) (all_true_at (sequencer_clauses c) sequencers 2 (lit< tt))

-- ---- the memory's word

pub none_latched : (ready ok : Bool) → no_latch ≡ latch_of ready ok 0
none_latched true true = refl
none_latched true false = refl
none_latched false ok = refl

-- [Ready.3] where nothing passed nothing is latched
pub latched_at_none : (l : Lines) (memory : List ℕ) (passed : ℕ) (c : Core) → passed ≡ 0
    → record { latch = no_latch; word = 0 } ≡ latched_of l memory passed c
unfolding latched_of
latched_at_none l memory passed c none =
    rw none (ap (λ (k : Latch). record { latch = k; word = 0 }) (none_latched (is_ready_of l c) (is_ok_word (word_at_of memory 0))))

-- and main does not look at the word
pub unseen_word : (room empty : Bool) (l : Lines) (ready ok : Bool) (passed word : ℕ) (c : Core)
    → main_step_of room empty l (latch_of ready ok passed) (cond (is_some passed) word 0) c
    ≡ main_step_of room empty l (latch_of ready ok passed) word c
unfolding main_step_of
unseen_word room empty l ready ok passed word c = go (is_some passed) refl
  where
    go : (t : Bool) → is_some passed ≡ t
        → cond (is_some (latch_of ready ok passed).accepted) (quiet (main.accepted_of (cond t word 0) c.main)) (cycle_step_of room empty l c)
        ≡ cond (is_some (latch_of ready ok passed).accepted) (quiet (main.accepted_of word c.main)) (cycle_step_of room empty l c)
    go true e = refl
    go false e = by (ready && ok)
      where
        by : (t : Bool)
            → cond (is_some (cond t passed 0)) (quiet (main.accepted_of 0 c.main)) (cycle_step_of room empty l c)
            ≡ cond (is_some (cond t passed 0)) (quiet (main.accepted_of word c.main)) (cycle_step_of room empty l c)
        by true = rw e
        by false = refl

-- so the step is that of the code
pub step_by_latched : (room empty : Bool) (x : Inputs) (memory : List ℕ) (c : Core)
    → settled_of x.lines (pulsed_of x c) (latched_of x.lines memory (pulsed_of x c).passed c).latch
    (main_step_of room empty x.lines (latched_of x.lines memory (pulsed_of x c).passed c).latch
    (latched_of x.lines memory (pulsed_of x c).passed c).word c)
    (user_step_of empty c) c
    ≡ step_of room empty x memory c
unfolding step_of latched_of
step_by_latched room empty x memory c =
    let passed = (pulsed_of x c).passed in
    ap (λ (m : MainStep). settled_of x.lines (pulsed_of x c) (latch_in x memory c) m (user_step_of empty c) c)
    (unseen_word room empty x.lines (is_ready_of x.lines c) (is_ok_word (word_at_of memory passed)) passed (word_at_of memory passed) c)

-- ---- where a word is loaded

-- an event or a tag
abbrev pub is_load : Outcome → Bool
is_load o = is_event o || is_tag o

event_of_load : (o : Outcome) → is_load o ≡ true → is_tag o ≡ false → is_event o ≡ true
event_of_load Nothing h t = h
event_of_load Cleared h t = h
event_of_load (Event w) h t = refl
event_of_load (Tag w) h t = absurd (true≢false t)

pub tag_loads_below_eight : (empty : Bool) (c : Core) → (user_step_of empty c).tag ≡ true → allows_eight_of c ≡ false
tag_loads_below_eight empty c tag =
    rw (idle_is_named c.main.state (tag_is_at_idle empty c tag), tag_waits_not empty c tag)

pub event_loads_below_eight : (room empty : Bool) (l : Lines) (c : Core) (latch : Latch) (word : ℕ) → is_sound_of c ≡ true
    → is_load (main_step_of room empty l latch word c).outcome ≡ true → allows_eight_of c ≡ false
event_loads_below_eight room empty l c latch word sound h =
    ap₂ ◌||◌ (main_loads_below_eight room empty l c latch word event) (go c.user.waiting refl)
  where
    event : is_event (main_step_of room empty l latch word c).outcome ≡ true
    event = event_of_load (main_step_of room empty l latch word c).outcome h (main_has_no_tag room empty l c latch word)

    go : (waiting : Bool) → c.user.waiting ≡ waiting → waiting ≡ false
    go true e =
        let idle = sound_waits_at_idle c sound e in
        sym event ∙ main_at_idle_loads_nothing room empty l c latch word idle
    go false e = refl
