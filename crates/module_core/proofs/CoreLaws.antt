-- Laws of a tick of the core, as the rest of the record and the account see it.
--     step_is_event_step        it accepts an event, loads a tag or lets main go on (CoreEvents says what follows)
--     counted_is_in_one_mask    each counted pulse is in exactly one mask
--     step_keeps_pass_count     how many of an input's pulses have passed, by the masks
--     fast_reset_blinds, blind_tick_loses_all, reset_ends_blind_time   the blind time after a rejected pattern
--     step_keeps_lengths, step_keeps_factors, step_keeps_control
--     step_loads_six_bits       the word that it loads has six bits
--     step_loads_below_eight    it loads one only where no queue may hold eight words
-- Assumes nothing.
use Rattle.std.specs.Prelude.{◌≡◌, ℕ, suc, ◌+◌, ◌<◌, Bool, true, false, not, ◌&&◌, leb, List, if◌then◌else◌}
use mathlib.Core.Path.{refl, sym, ap, ◌∙◌}
use native.Mathlib.Omega.{arith}
use Rattle.bits.specs.Bits.{bit_at, one_if_of}
use Rattle.bits.specs.Bytes.{all_of}
use Rattle.bits.proofs.TestLaws.{and_left, by_cond}
use Rattle.registers.specs.Control.{inputs, counts, counted_of}
use Rattle.registers.proofs.ControlLaws.{counted_at}
use Rattle.prescaler.specs.Prescaler.{PassCount}
use Rattle.prescaler.specs.PrescalerFields.{counter_at, factor_at}
use Rattle.prescaler.proofs.PrescalerLaws as prescaler
use Rattle.prescaler.specs.Prescaler.{EightPlaces}
use Rattle.sync.specs.UserSync.{tag_word}
use Rattle.sequencer.specs.MemoryWord.{is_ok_word}
use Rattle.sequencer.specs.MainFields.{quiet}
use Rattle.sequencer.specs.States.{outcome_words}
use Rattle.sequencer.specs.MainSequencer as main
use Rattle.sequencer.specs.declared.states.Outcome.{Outcome}
use Rattle.sequencer.specs.declared.states.Outcome.TheVariants.{Tag}
use Rattle.sequencer.specs.declared.main_sequencer.MainStep.{MainStep}
use Rattle.sequencer.proofs.MainLaws.{step_loads_in_order}
use Rattle.scalers.specs.Scalers.{is_some}
use Rattle.trigger.specs.Lines.{has_strobe}
use Rattle.trigger.specs.Latch.{word_at_of}
use Rattle.trigger.specs.BlindTime.{blind_ticks, LosesAll}
use Rattle.trigger.specs.Effects.{outcome_of}
use Rattle.trigger.specs.declared.lines.Inputs.{Inputs}
use Rattle.trigger.specs.declared.latch.Latch.{Latch}
use Rattle.trigger.proofs.LatchLaws.{latch_is_one, accepted_is_ready}
use Rattle.trigger.proofs.BlindTimeLaws.{rejected_starts_count, blind_is_not_over, count_falls, unready_loses_all}
use Rattle.module_core.specs.Core.{reset_of, is_running, pulsed_of, is_ready_of, latch_in}
use Rattle.module_core.specs.Core.{cycle_step_of, main_step_of, user_step_of, settled_of, step_of}
use Rattle.module_core.specs.Spoiled.{allows_eight_of, is_sound_of}
use Rattle.module_core.specs.declared.Core.{Core}
use Rattle.module_core.proofs.CoreEvents.{EventStep, accepts, tags, goes_on}
use Rattle.module_core.proofs.CoreParts.{idle_is_named, ready_is_idle, ready_wants_no_sync, blind_is_not_ready}
use Rattle.module_core.proofs.CoreParts.{accepted_is_undecided}
use Rattle.module_core.proofs.CoreParts.{idle_cycle_is_quiet, cycle_decides_event, main_loads_six_bits}
use Rattle.module_core.proofs.CoreParts.{tag_is_wanted, tag_is_at_idle}
use Rattle.module_core.proofs.CoreParts.{is_load, tag_loads_below_eight, event_loads_below_eight}

-- ---- the whole step: which of the three ticks it is

module _ (room empty : Bool) (x : Inputs) (memory : List ℕ) (c : Core) where
  abbrev word : ℕ
  word = word_at_of memory (pulsed_of x c).passed

  abbrev latch : Latch
  latch = latch_in x memory c

  -- [Ready.1] [Ready.5]
  accepted_when_ready : is_some latch.accepted ≡ true → is_ready_of x.lines c ≡ true
  accepted_when_ready h =
      let ready : Bool = is_ready_of x.lines c in
      and_left ready (is_ok_word word) (accepted_is_ready ready (is_ok_word word) (pulsed_of x c).passed h)

  -- [Usersync.1] [Ready.1] a wanted tag keeps the unit from being ready
  accepted_has_no_tag : is_some latch.accepted ≡ true → (user_step_of empty c).tag ≡ false
  accepted_has_no_tag h = go (user_step_of empty c).tag refl
    where
      go : (tag : Bool) → (user_step_of empty c).tag ≡ tag → tag ≡ false
      go true e =
          sym (tag_is_wanted empty c e) ∙ ready_wants_no_sync x.lines c (accepted_when_ready h)
      go false e = refl

  -- a tag leaves main at Idle; else the outcome is main's own
  by_tag : (tag : Bool) → (user_step_of empty c).tag ≡ tag
      → EventStep c.main.state (cycle_step_of room empty x.lines c).next.state false
      (if tag then Tag tag_word else (cycle_step_of room empty x.lines c).outcome)
  by_tag true e =
      let idle = idle_is_named c.main.state (tag_is_at_idle empty c e) in
      let stays = idle_cycle_is_quiet room empty x.lines c (tag_is_at_idle empty c e) in
      tags idle (ap (λ (s : MainStep). s.next.state) stays ∙ idle)
  by_tag false e = goes_on (step_loads_in_order _ _).no_tag (cycle_decides_event room empty x.lines c)

  pub step_is_event_step : EventStep c.main.state (step_of room empty x memory c).next.main.state
      (is_some (step_of room empty x memory c).masks.accepted) (step_of room empty x memory c).outcome
  unfolding step_of settled_of main_step_of
  step_is_event_step = go (is_some latch.accepted) refl
    where
      after : Bool → MainStep
      after accepted = if accepted then quiet (main.accepted_of word c.main) else cycle_step_of room empty x.lines c

      go : (accepted : Bool) → is_some latch.accepted ≡ accepted
          → EventStep c.main.state (after accepted).next.state accepted
          (outcome_of (after accepted) (user_step_of empty c))
      go true e =
          rw (accepted_has_no_tag e)
          (accepts (idle_is_named c.main.state (ready_is_idle x.lines c (accepted_when_ready e)))
          (accepted_is_undecided word c.main))
      go false e = by_tag (user_step_of empty c).tag refl

  -- ---- its masks and its prescalers

  abbrev counted : ℕ → Bool
  counted i = counts c.control (has_strobe x.lines) x.triggers i

  abbrev pulses : ℕ
  pulses = counted_of (has_strobe x.lines) x.triggers c.control

  -- [Account.11] each counted pulse is in exactly one mask
  pub counted_is_in_one_mask : (i : ℕ) → i < inputs
      → one_if_of (counted i)
      ≡ one_if_of (bit_at (step_of room empty x memory c).masks.stopped i)
      + one_if_of (bit_at (step_of room empty x memory c).masks.scaled i)
      + one_if_of (bit_at (step_of room empty x memory c).masks.lost i)
      + one_if_of (bit_at (step_of room empty x memory c).masks.rejected i)
      + one_if_of (bit_at (step_of room empty x memory c).masks.accepted i)
  unfolding step_of settled_of pulsed_of
  counted_is_in_one_mask i h =
      let fate = prescaler.fate_is_one (is_running c) pulses c.prescalers i h in
      let latched = latch_is_one (is_ready_of x.lines c) (is_ok_word word) (pulsed_of x c).passed i in
      let at = counted_at (has_strobe x.lines) x.triggers c.control i h in
      rw (← at) (omega arith)

  -- [Account.12] [Account.17] the count of input i + 1 goes on by the masks of the answer
  pub step_keeps_pass_count : (i n p : ℕ) → i < inputs → EightPlaces c.prescalers
      → PassCount n p (counter_at c.prescalers i) (factor_at c.prescalers i)
      → PassCount (n + one_if_of (counted i && not (bit_at (step_of room empty x memory c).masks.stopped i)))
      (p + one_if_of (counted i && (not (bit_at (step_of room empty x memory c).masks.stopped i)
      && not (bit_at (step_of room empty x memory c).masks.scaled i))))
      (counter_at (step_of room empty x memory c).next.prescalers i)
      (factor_at (step_of room empty x memory c).next.prescalers i)
  unfolding step_of settled_of pulsed_of
  step_keeps_pass_count i n p h eight count =
      rw (
        ← counted_at (has_strobe x.lines) x.triggers c.control i h,
        ← prescaler.passed_is_rest (is_running c) pulses c.prescalers i h,
        prescaler.unstopped_is_running (is_running c) pulses c.prescalers i h,
      )
      (prescaler.step_keeps_pass_count (is_running c) pulses c.prescalers i n p h eight count)

  pub step_keeps_lengths : EightPlaces c.prescalers → EightPlaces (step_of room empty x memory c).next.prescalers
  unfolding step_of settled_of pulsed_of
  step_keeps_lengths = prescaler.step_keeps_lengths (is_running c) pulses c.prescalers

  pub step_keeps_factors : (step_of room empty x memory c).next.prescalers.factors ≡ c.prescalers.factors
  unfolding step_of settled_of pulsed_of
  step_keeps_factors = prescaler.step_keeps_factors (is_running c) pulses c.prescalers

  pub step_keeps_control : (step_of room empty x memory c).next.control ≡ c.control
  unfolding step_of settled_of
  step_keeps_control = refl

  -- ---- the blind time

  -- [Blind.2] a rejected pattern starts it
  pub fast_reset_blinds : is_some (step_of room empty x memory c).masks.rejected ≡ true
      → (step_of room empty x memory c).next.blind.count ≡ blind_ticks
  unfolding step_of settled_of
  fast_reset_blinds = rejected_starts_count c.blind latch.rejected

  -- [Blind.2] [Blind.4] while it lasts, what passes is lost, and the count falls
  pub blind_tick_loses_all : (k : ℕ) → c.blind.count ≡ suc k
      → LosesAll (pulsed_of x c).passed (step_of room empty x memory c).masks
      × ((step_of room empty x memory c).next.blind.count ≡ k)
  unfolding step_of settled_of
  blind_tick_loses_all k h =
      let unready = blind_is_not_ready x.lines c (blind_is_not_over c.blind k h) in
      let all = unready_loses_all (is_ready_of x.lines c) (is_ok_word word) (pulsed_of x c) unready in
      (all, count_falls c.blind k h latch.rejected all.rejected)

  -- ---- the word that it loads

  -- [Main.9] [Usersync.1]
  pub step_loads_six_bits : all_of (λ w. leb w 63) (outcome_words (step_of room empty x memory c).outcome) ≡ true
  unfolding step_of settled_of
  step_loads_six_bits =
      by_cond (λ (o : Outcome). all_of (λ w. leb w 63) (outcome_words o) ≡ true) (user_step_of empty c).tag
      (λ e. refl) (λ e. main_loads_six_bits room empty x.lines c latch word)

  -- [Spoiled.1f] an event or a tag is loaded only where no queue may hold eight words
  pub step_loads_below_eight : is_sound_of c ≡ true → is_load (step_of room empty x memory c).outcome ≡ true
      → allows_eight_of c ≡ false
  unfolding step_of settled_of
  step_loads_below_eight sound =
      by_cond (λ (o : Outcome). is_load o ≡ true → allows_eight_of c ≡ false) (user_step_of empty c).tag
      (λ e h. tag_loads_below_eight empty c e)
      (λ e h. event_loads_below_eight room empty x.lines c latch word sound h)

-- [Blind.3]
pub reset_ends_blind_time : (c : Core) → (reset_of c).blind.count ≡ 0
unfolding reset_of
reset_ends_blind_time c = refl
