-- Main's step state by state, as the code makes it, is the step of the definition; and a step that is marked quiet is.
--     quiet_in          in each state, where its tests say so
--     cycled_by_state   the step by state, with its mark, for `cycle_step`
--     main_accepts, main_goes_on   with an accepted pattern and without, for `main_step`
--     quiet_is_quiet    the mark is right, for `step`
-- Assumes nothing.
use Rattle.std.specs.Prelude.{◌≡◌, ℕ, Bool, true, false, cond, not, ◌||◌, eqb, ltb}
use mathlib.Core.Path.{refl, sym, ap, subst, ◌∙◌}
use mathlib.Core.Bool.{false≢true}
use Rattle.bits.proofs.TestLaws.{by_cond}
use Rattle.sequencer.specs.MainFields.{quiet}
use Rattle.sequencer.specs.MainSequencer as main
use Rattle.sequencer.specs.MainSequencer.{Move, both_accepts, move_in_wait2, move_in_wait3, move_in, step_by}
use Rattle.sequencer.specs.declared.states.State.{State}
use Rattle.sequencer.specs.declared.states.State.TheVariants.{Idle, Delay, Wait2, Wait3}
use Rattle.sequencer.specs.declared.states.State.TheVariants.{Front, Space, SyncHold, Clear}
use Rattle.sequencer.specs.declared.main_sequencer.MainSequencer.{MainSequencer}
use Rattle.sequencer.specs.declared.main_sequencer.Tests.{Tests}
use Rattle.sequencer.specs.declared.main_sequencer.MainStep.{MainStep}
use Rattle.sequencer.proofs.MainLaws.{aged_keeps_state}
use Rattle.sequencer.proofs.SequencerChoices.{step_by_state}
use Rattle.trigger.specs.Lines.{has_fail2, has_fail3}
use Rattle.trigger.specs.declared.lines.Lines.{Lines}
use Rattle.trigger.specs.declared.latch.Latch.{Latch}
use Rattle.scalers.specs.Scalers.{is_some}
use Rattle.module_core.specs.Core.{tests_of, cycle_step_of, main_step_of}
use Rattle.module_core.specs.QuietStep.{is_quiet_in, cycled_of, main_cycled_of}
use Rattle.module_core.specs.declared.Core.{Core}
use Rattle.module_core.specs.declared.cycle.Cycled.{Cycled}

-- ---- the moves that report nothing

module _ (t : Tests) (m : MainSequencer) where
  abbrev Quiet : Move → Type 0
  Quiet v = step_by v t m ≡ quiet (step_by v t m).next

  quiet_in_wait2 : (fail late pass class2 : Bool) → not fail ≡ true → Quiet (move_in_wait2 fail late pass class2)
  quiet_in_wait2 true late pass class2 h = absurd (false≢true h)
  quiet_in_wait2 false late true true h = refl
  quiet_in_wait2 false late true false h = refl
  quiet_in_wait2 false late false class2 h = refl

  quiet_in_wait3 : (fail late pass : Bool) → not fail ≡ true → Quiet (move_in_wait3 fail late pass)
  quiet_in_wait3 true late pass h = absurd (false≢true h)
  quiet_in_wait3 false late true h = refl
  quiet_in_wait3 false late false h = refl

  -- a choice that is not made leaves the move that stays
  quiet_unless : (test : Bool) (v : Move) → not test ≡ true → Quiet (cond test v main.stays)
  quiet_unless true v h = absurd (false≢true h)
  quiet_unless false v h = refl

module _ (room empty : Bool) (l : Lines) (c : Core) where
  abbrev aged : MainSequencer
  aged = main.aged_of c.main

  abbrev tests : Tests
  tests = tests_of room empty aged.age l c

  quiet_in : (g : State) → is_quiet_in l tests.front empty g ≡ true → Quiet tests aged (move_in g tests aged)
  unfolding tests_of
  quiet_in Idle h = refl
  quiet_in Delay h = by_cond (Quiet tests aged) (both_accepts tests aged) (λ e. refl) (λ e. refl)
  quiet_in Wait2 h = quiet_in_wait2 tests aged (has_fail2 l) tests.late tests.pass2 (eqb aged.class 2) h
  quiet_in Wait3 h = quiet_in_wait3 tests aged (has_fail3 l) tests.late tests.pass3 h
  quiet_in Front h = quiet_unless tests aged tests.front main.loads h
  quiet_in Space h = by_cond (Quiet tests aged) room (λ e. refl) (λ e. refl)
  quiet_in SyncHold h = quiet_unless tests aged empty main.ends_sync_hold h
  quiet_in Clear h =
      by_cond (Quiet tests aged) (ltb 0 aged.clear) (λ e. refl)
      (λ e. by_cond (Quiet tests aged) tests.front (λ e. refl) (λ e. refl))

  pub cycled_by_state : (g : State) → c.main.state ≡ g
      → record { step = step_by (move_in g tests aged) tests aged; quiet = is_quiet_in l tests.front empty g }
      ≡ cycled_of room empty l c
  cycled_by_state g e =
      let step = step_by_state g tests aged (aged_keeps_state c.main ∙ e) in
      λ j. record { step = step j; quiet = is_quiet_in l tests.front empty (sym e j) }

  cycle_is_quiet : (cycled_of room empty l c).quiet ≡ true → cycle_step_of room empty l c ≡ quiet (cycle_step_of room empty l c).next
  cycle_is_quiet h =
      let is-step = step_by_state c.main.state tests aged (aged_keeps_state c.main) in
      subst (λ (s : MainStep). s ≡ quiet s.next) is-step (quiet_in c.main.state h)

  -- ---- an accepted pattern, and none

  module _ (latch : Latch) (word : ℕ) where
    pub main_accepts : eqb latch.accepted 0 ≡ false
        → record { step = quiet (main.accepted_of word c.main); quiet = true } ≡ main_cycled_of room empty l latch word c
    unfolding main_step_of
    main_accepts some = rw some

    pub main_goes_on : eqb latch.accepted 0 ≡ true → cycled_of room empty l c ≡ main_cycled_of room empty l latch word c
    unfolding main_step_of
    main_goes_on none = rw none

    pub quiet_is_quiet : {r : Cycled} → r ≡ main_cycled_of room empty l latch word c → r.quiet ≡ true
        → main_step_of room empty l latch word c ≡ quiet (main_step_of room empty l latch word c).next
    unfolding main_step_of
    quiet_is_quiet e marked = go (is_some latch.accepted) (ap (λ (r : Cycled). r.quiet) (sym e) ∙ marked)
      where
        go : (some : Bool) → (some || (cycled_of room empty l c).quiet) ≡ true
            → cond some (quiet (main.accepted_of word c.main)) (cycle_step_of room empty l c)
            ≡ quiet (cond some (quiet (main.accepted_of word c.main)) (cycle_step_of room empty l c)).next
        go true h = refl
        go false h = cycle_is_quiet h
