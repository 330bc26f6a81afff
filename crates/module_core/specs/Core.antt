-- The core: all of the record but the branches, which it sees through two facts. A tick of it: pulses, ready, main and user
-- sync; the latch, and what their moves change besides, are in trigger.
--     document 01    "The tick"; Active; document 02, N1, N2, N5
--     is_ready_of      the ready rule
--     main_step_of, user_step_of   what main and the user sync do
--     settled_of, step_of   the core after all of them, with what the tick reports; a tick of the core
--     fresh_of, reset_of   the core at power-up, and after RESET
--     lines_out_of     the lines out
--     is_active_of     its part of the active rule
-- [Tick.2]: each part below is a function of the record as the tick found it, and of nothing that another part changed. The
-- inputs are those in force, and the tick runs: testing says which, supervisor when.
-- Own rules of 01 used here: none. Decisions: T1, T2, T4, T8, R6, A4. Left out: the spoiled rule, in Spoiled.
-- Assumes nothing.
use Rattle.std.specs.Prelude.{ℕ, ◌+◌, ◌*◌, ◌%◌, Bool, not, ◌&&◌, ◌||◌, List, if◌then◌else◌}
use Rattle.bits.specs.Notation.{◌▷◌}
use Rattle.bits.specs.Bits.{one_if_of}
use Rattle.registers.specs.Csr as csr
use Rattle.registers.specs.Control as control
use Rattle.registers.specs.declared.csr.Csr.{Csr}
use Rattle.prescaler.specs.Prescaler as prescaler
use Rattle.prescaler.specs.declared.Prescaled.{Prescaled}
use Rattle.timers.specs.Timers as timers
use Rattle.sync.specs.SyncCounter as counter
use Rattle.sync.specs.UserSync as user
use Rattle.sync.specs.declared.user.UserStep.{UserStep}
use Rattle.sequencer.specs.MemoryWord.{is_ok_word}
use Rattle.sequencer.specs.MainFields.{quiet}
use Rattle.sequencer.specs.States.{is_idle}
use Rattle.sequencer.specs.MainSequencer as main
use Rattle.sequencer.specs.declared.main_sequencer.Tests.{Tests}
use Rattle.sequencer.specs.declared.main_sequencer.MainStep.{MainStep}
use Rattle.scalers.specs.Scalers as scalers
use Rattle.trigger.specs.Lines.{has_strobe, has_pass2, has_fail2, has_pass3, has_fail3, has_front_busy, has_inhibit}
use Rattle.trigger.specs.Latch.{word_at_of, latch_of, masks_of}
use Rattle.trigger.specs.BlindTime as blind
use Rattle.trigger.specs.Latest as latest
use Rattle.trigger.specs.Effects.{csr_after_of, sync_after_of, outcome_of, signals_of}
use Rattle.trigger.specs.declared.lines.Lines.{Lines}
use Rattle.trigger.specs.declared.lines.Inputs.{Inputs}
use Rattle.trigger.specs.declared.latch.Latch.{Latch}
use Rattle.testing.specs.TestWord as test
use Rattle.module_core.specs.CoreFields.{with_prescalers, with_test, with_scalers, with_main, with_sync, with_blind}
use Rattle.module_core.specs.CoreFields.{with_user}
use Rattle.module_core.specs.declared.Core.{Core}
use Rattle.module_core.specs.declared.CoreStep.{CoreStep}
use Rattle.module_core.specs.declared.Latched.{Latched}

-- ---- fresh, and RESET

-- [Registers.4] all zero, all idle
unfoldable pub fresh_of : Core
fresh_of =
    record {
      prescalers = prescaler.fresh_of;
      csr = csr.fresh_of;
      control = control.fresh_of;
      test = test.fresh_of;
      scalers = scalers.fresh_of;
      main = main.idle_of;
      timers = timers.fresh_of;
      sync = counter.fresh_of;
      blind = blind.fresh_of;
      user = user.fresh_of;
      latest = latest.fresh_of;
    }

-- [CSRWrite.2d] the sequencers idle, scalers and sync count 0, every prescale counter loaded; the CSR's own bits are
-- cleared by the write; [Blind.3] the blind count 0; [State.3] what is kept of the latest tick stays; [Test.8b] what waits of
-- TEST is dropped
unfoldable pub reset_of : Core → Core
reset_of c =
    c ▷ with_prescalers (prescaler.reloaded_of c.prescalers) ▷ with_test test.fresh_of
    ▷ with_scalers (scalers.reset_of c.scalers) ▷ with_main main.idle_of ▷ with_sync (counter.zeroed_of c.sync)
    ▷ with_blind blind.fresh_of ▷ with_user user.fresh_of

-- ---- pulses

-- [Pulses.2] GO or OPEN PRESCALES
abbrev pub is_running : Core → Bool
is_running c = csr.is_go c.csr || control.opens_prescales c.control

unfoldable pub pulsed_of : Inputs → Core → Prescaled
pulsed_of x c =
    prescaler.step_of (is_running c) (control.counted_of (has_strobe x.lines) x.triggers c.control) c.prescalers

-- ---- ready

-- [Ready.1] inhibit low or overridden
abbrev pub is_uninhibited : Lines → Csr → Bool
is_uninhibited l w = not (has_inhibit l) || csr.overrides_inhibit w

-- [Ready.1] [Blind.2] the rule but for main at Idle
abbrev pub is_open_of : Lines → Core → Bool
is_open_of l c =
    csr.is_go c.csr
    && (not (csr.wants_user_sync c.csr)
    && (not c.user.waiting
    && (not (has_front_busy l)
    && (is_uninhibited l c.csr && blind.is_over c.blind))))

-- [Ready.1]
abbrev pub is_ready_of : Lines → Core → Bool
is_ready_of l c = is_idle c.main.state && is_open_of l c

-- ---- main and user sync

-- [Main.6] [Main.7] [Main.8] [Main.10] [Main.13] [Main.14] [Main.15] the tests of main, at the risen age
unfoldable pub tests_of : (room empty : Bool) (age : ℕ) → Lines → Core → Tests
tests_of room empty age l c =
    record {
      fail2 = has_fail2 l;
      pass2 = has_pass2 l;
      fail3 = has_fail3 l;
      pass3 = has_pass3 l;
      late = timers.is_late_due (csr.uses_t1 c.csr) age c.timers;
      due2 = timers.is_reached age c.timers.t2;
      due3 = timers.is_reached age c.timers.t3;
      front = timers.front_test_of (has_front_busy l) (csr.uses_t4 c.csr) age c.timers;
      sync = counter.is_due (csr.enables_sync c.csr) c.sync;
      room = room;
      empty = empty;
      clear = timers.clear_count_of (csr.uses_t5 c.csr) c.timers;
    }

-- [Main.1] the age rises first; at Idle nothing moves
abbrev pub cycle_step_of : (room empty : Bool) → Lines → Core → MainStep
cycle_step_of room empty l c =
    main.step_of (tests_of room empty (main.aged_of c.main).age l c) (main.aged_of c.main)

-- [Ready.5] an accepted pattern starts a cycle
unfoldable pub main_step_of : (room empty : Bool) → Lines → Latch → (word : ℕ) → Core → MainStep
main_step_of room empty l latch word c =
    if scalers.is_some latch.accepted then quiet (main.accepted_of word c.main) else cycle_step_of room empty l c

-- [Usersync.1] [Usersync.2]
abbrev pub user_step_of : (empty : Bool) → Core → UserStep
user_step_of empty c = user.step_of (csr.wants_user_sync c.csr) (is_idle c.main.state) empty c.user

-- ---- the core put together again

-- [Tick.3] [State.3]; [Test.7b] the lines are those in force; [Test.6] [Test.8a] what waited has acted or is dropped, and a
-- single step is used up
unfoldable pub settled_of : Lines → Prescaled → Latch → MainStep → UserStep → Core → CoreStep
settled_of l p latch m u c =
    record {
      next = record {
        prescalers = p.next;
        csr = csr_after_of l m u c.csr;
        control = c.control;
        test = test.fresh_of;
        scalers = scalers.counted_of (signals_of p.passed latch m u) c.scalers;
        main = m.next;
        timers = c.timers;
        sync = sync_after_of (csr.enables_sync c.csr) m u c.sync;
        blind = blind.after_of latch.rejected c.blind;
        user = u.next;
        latest = latest.kept_of l latch;
      };
      masks = masks_of p latch;
      outcome = outcome_of m u;
    }

-- ---- a tick of the core; room and empty are what it sees of the branches

abbrev pub latch_in : Inputs → List ℕ → Core → Latch
latch_in x memory c =
    latch_of (is_ready_of x.lines c) (is_ok_word (word_at_of memory (pulsed_of x c).passed)) (pulsed_of x c).passed

-- the same with the word, which nothing asks for where nothing passed
unfoldable pub latched_of : Lines → List ℕ → (passed : ℕ) → Core → Latched
latched_of l memory passed c =
    record {
      latch = latch_of (is_ready_of l c) (is_ok_word (word_at_of memory passed)) passed;
      word = if scalers.is_some passed then word_at_of memory passed else 0;
    }

-- [Tick.2] every part is given the record at the tick's start
unfoldable pub step_of : (room empty : Bool) → Inputs → List ℕ → Core → CoreStep
step_of room empty x memory c =
    settled_of x.lines (pulsed_of x c) (latch_in x memory c)
    (main_step_of room empty x.lines (latch_in x memory c) (word_at_of memory (pulsed_of x c).passed) c)
    (user_step_of empty c) c

-- ---- lines out, and what the active rule asks of the core

-- [Answer.1] the raised lines in bits 0–4, clear, CSR bit 5, and the accept pattern in bits 8–15
unfoldable pub lines_out_of : Core → ℕ
lines_out_of c =
    c.main.raised % 32
    + 32 * one_if_of (main.is_clearing c.main)
    + 64 * one_if_of (csr.enables_level1 c.csr)
    + 256 * c.main.accept

-- [Active.1] GO, main not Idle, a user sync that waits or is wanted
abbrev pub is_active_of : Core → Bool
is_active_of c =
    csr.is_go c.csr
    || (not (is_idle c.main.state) || (c.user.waiting || csr.wants_user_sync c.csr))
