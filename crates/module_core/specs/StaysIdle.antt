-- A tick in which no sequencer moves, and what of the core it changes: the step of Core, said shorter.
--     document 01    "The tick"; document 02, N1, N2, N5
--     has_user_sync_of  a user sync waits or is wanted
--     stays_idle_of    main is at Idle, nothing passed, and there is no user sync
--     stayed_idle_of   the core after such a tick, with what it reports
-- That it is the step of Core is proved (stays_idle_by_choices).
-- Own rules of 01 used here: none. Decisions: F29. Left out: nothing.
-- Assumes nothing.
use Rattle.std.specs.Prelude.{ℕ, Bool, false, not, ◌&&◌, ◌||◌, ◌==◌}
use Rattle.bits.specs.Notation.{◌▷◌}
use Rattle.registers.specs.Csr as csr
use Rattle.prescaler.specs.declared.Prescaled.{Prescaled}
use Rattle.sequencer.specs.States.{is_idle}
use Rattle.sequencer.specs.declared.states.Outcome.TheVariants.{Nothing}
use Rattle.testing.specs.TestWord as test
use Rattle.trigger.specs.Lines.{has_inhibit}
use Rattle.trigger.specs.Latch.{no_latch, masks_of}
use Rattle.trigger.specs.BlindTime as blind
use Rattle.trigger.specs.Latest as latest
use Rattle.trigger.specs.Effects.{status_of}
use Rattle.trigger.specs.declared.lines.Lines.{Lines}
use Rattle.module_core.specs.CoreFields.{with_prescalers, with_csr, with_test, with_blind, with_latest}
use Rattle.module_core.specs.declared.Core.{Core}
use Rattle.module_core.specs.declared.CoreStep.{CoreStep}

-- [Usersync.1] [Usersync.2]
abbrev pub has_user_sync_of : Core → Bool
has_user_sync_of c = c.user.waiting || csr.wants_user_sync c.csr

-- [Main.1] [Ready.3]
abbrev pub stays_idle_of : (passed : ℕ) → Core → Bool
stays_idle_of passed c = is_idle c.main.state && (passed == 0 && not (has_user_sync_of c))

-- [Ready.6] [Blind.2] [State.3] [Test.6] the counters, status bit 16, what waits of TEST, the blind count, what STATE shows
unfoldable pub stayed_idle_of : Lines → Prescaled → Core → CoreStep
stayed_idle_of l p c =
    record {
      next = c ▷ with_prescalers p.next ▷ with_csr (csr.marked_of (status_of (has_inhibit l) false false) c.csr)
          ▷ with_test test.fresh_of ▷ with_blind (blind.after_of 0 c.blind) ▷ with_latest (latest.kept_of l no_latch);
      masks = masks_of p no_latch;
      outcome = Nothing;
    }
