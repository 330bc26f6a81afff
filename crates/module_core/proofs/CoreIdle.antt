-- A tick without a trigger, for `pulsed`; a tick in which no sequencer moves is the step of the core, for `step`.
--     pulsed_without_trigger  without a trigger the bank stays and no mask has a bit
--     user_stays              where there is no user sync, its step is none
--     settled_still           settled by moves that are none, the core is what such a tick leaves
--     stays_idle_by_choices   where main is at Idle, nothing passed and there is no user sync, that is the step
-- Assumes nothing.
use Rattle.std.specs.Prelude.{◌≡◌, ℕ, ◌^◌, ◌<◌, Bool, true, false, not, ◌&&◌, ◌||◌, eqb, List}
use mathlib.Core.Path.{refl, sym, ap, ◌∙◌}
use mathlib.Core.Bool.{true≢false}
use borrow.Author.Tests.{not-true, eqb-true}
use Rattle.bits.proofs.TestLaws.{and_left, and_right}
use Rattle.registers.specs.Csr as csr
use Rattle.registers.specs.Csr.{sync_hold_ended_if_of, user_sync_ended_if_of}
use Rattle.registers.proofs.ControlLaws.{none_counted}
use Rattle.prescaler.specs.Prescaler.{EightPlaces}
use Rattle.prescaler.specs.declared.Prescaled.{Prescaled}
use Rattle.prescaler.proofs.PrescalerChoices.{prescaled, nothing_by_choices}
use Rattle.sync.specs.UserSync as user
use Rattle.sequencer.specs.MainFields.{quiet}
use Rattle.sequencer.specs.MemoryWord.{is_ok_word}
use Rattle.sequencer.specs.States.{is_idle}
use Rattle.scalers.proofs.ScalersLaws.{counted_nothing}
use Rattle.trigger.specs.Lines.{has_strobe}
use Rattle.trigger.specs.Effects.{csr_after_of, sync_after_of}
use Rattle.trigger.specs.Latch.{word_at_of, no_latch}
use Rattle.trigger.specs.declared.lines.Lines.{Lines}
use Rattle.trigger.specs.declared.lines.Inputs.{Inputs}
use Rattle.module_core.specs.Core.{is_running, is_ready_of, main_step_of, user_step_of, pulsed_of, latch_in, settled_of, step_of}
use Rattle.module_core.specs.StaysIdle.{has_user_sync_of, stays_idle_of, stayed_idle_of}
use Rattle.module_core.specs.declared.Core.{Core}
use Rattle.module_core.proofs.CoreParts.{none_latched, idle_cycle_is_quiet}

pub pulsed_without_trigger : (x : Inputs) (c : Core) → EightPlaces c.prescalers → x.triggers ≡ 0
    → prescaled c.prescalers 0 0 0 ≡ pulsed_of x c
unfolding pulsed_of
pulsed_without_trigger x c eight none =
    rw (none, none_counted (has_strobe x.lines) c.control) (nothing_by_choices (is_running c) c.prescalers eight)

-- ---- no user sync

stays_by_choices : (wanted idle empty waiting : Bool) → (waiting || wanted) ≡ false
    → user.move_of wanted idle empty waiting ≡ user.stays
stays_by_choices wanted idle empty true h = absurd (true≢false h)
stays_by_choices true idle empty false h = absurd (true≢false h)
stays_by_choices false idle empty false h = refl

pub user_stays : (empty : Bool) (c : Core) → has_user_sync_of c ≡ false → user_step_of empty c ≡ user.step_by user.stays c.user
unfolding user.step_of
user_stays empty c none =
    ap (λ (m : user.Move). user.step_by m c.user)
    (stays_by_choices (csr.wants_user_sync c.csr) (is_idle c.main.state) empty c.user.waiting none)

-- ---- no sequencer moves

module _ (c : Core) (low0 : c.scalers.scaler0 < 2 ^ 32) (low1 : c.scalers.scaler1 < 2 ^ 32) where
  settled_still : (l : Lines) (p : Prescaled) → p.passed ≡ 0
      → settled_of l p no_latch (quiet c.main) (user.step_by user.stays c.user) c ≡ stayed_idle_of l p c
  unfolding settled_of stayed_idle_of csr_after_of sync_after_of sync_hold_ended_if_of user_sync_ended_if_of
  settled_still l p none = rw (none, counted_nothing c.scalers low0 low1)

  module _ (room empty : Bool) (x : Inputs) (memory : List ℕ) (stays : stays_idle_of (pulsed_of x c).passed c ≡ true) where
    rest : (eqb (pulsed_of x c).passed 0 && not (has_user_sync_of c)) ≡ true
    rest = and_right (is_idle c.main.state) _ stays

    none : (pulsed_of x c).passed ≡ 0
    none = eqb-true _ 0 (and_left (eqb (pulsed_of x c).passed 0) _ rest)

    none_in_latch : latch_in x memory c ≡ no_latch
    none_in_latch =
        rw none (sym (none_latched (is_ready_of x.lines c) (is_ok_word (word_at_of memory 0))))

    main_stays : (word : ℕ) → main_step_of room empty x.lines no_latch word c ≡ quiet c.main
    unfolding main_step_of
    main_stays word = idle_cycle_is_quiet room empty x.lines c (and_left (is_idle c.main.state) _ stays)

    no_sync : has_user_sync_of c ≡ false
    no_sync = not-true _ (and_right (eqb (pulsed_of x c).passed 0) _ rest)

    still_is_step : stayed_idle_of x.lines (pulsed_of x c) c ≡ step_of room empty x memory c
    unfolding step_of
    still_is_step =
        sym (rw (none_in_latch, main_stays (word_at_of memory (pulsed_of x c).passed), user_stays empty c no_sync)
        (settled_still x.lines (pulsed_of x c) none))

  pub stays_idle_by_choices : (room empty : Bool) (x : Inputs) (memory : List ℕ) (p : Prescaled) → p ≡ pulsed_of x c
      → stays_idle_of p.passed c ≡ true → stayed_idle_of x.lines p c ≡ step_of room empty x memory c
  stays_idle_by_choices room empty x memory p e stays =
      ap (λ (q : Prescaled). stayed_idle_of x.lines q c) e
      ∙ still_is_step room empty x memory (ap (λ (q : Prescaled). stays_idle_of q.passed c) (sym e) ∙ stays)
