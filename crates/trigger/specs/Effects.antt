-- What the moves of a tick change besides themselves: the CSR's bits, the sync count, and what the tick reports and the
-- scalers count.
--     document 01    "The tick": Ready, Main and User sync; "The answer"
--     csr_after_of, sync_after_of   the CSR, with the status bits of status_of, and the sync count after the tick
--     outcome_of, signals_of      what is reported, and what the scalers count
-- Own rules of 01 used here: none. Decisions: T3, T6. Left out: nothing.
-- Assumes nothing.
use Rattle.std.specs.Prelude.{ℕ, ◌+◌, ◌*◌, Bool, ◌||◌, if◌then◌else◌}
use Rattle.bits.specs.Notation.{◌▷◌}
use Rattle.bits.specs.Bits.{one_if_of}
use Rattle.registers.specs.Csr as csr
use Rattle.registers.specs.declared.csr.Csr.{Csr}
use Rattle.sync.specs.SyncCounter as counter
use Rattle.sync.specs.UserSync as user
use Rattle.sync.specs.declared.counter.SyncCounter.{SyncCounter}
use Rattle.sync.specs.declared.user.UserStep.{UserStep}
use Rattle.sequencer.specs.States.{is_event}
use Rattle.sequencer.specs.declared.states.Outcome.{Outcome}
use Rattle.sequencer.specs.declared.states.Outcome.TheVariants.{Tag}
use Rattle.sequencer.specs.declared.main_sequencer.MainStep.{MainStep}
use Rattle.scalers.specs.declared.Signals.{Signals}
use Rattle.trigger.specs.Lines.{has_inhibit}
use Rattle.trigger.specs.declared.lines.Lines.{Lines}
use Rattle.trigger.specs.declared.latch.Latch.{Latch}

-- [Main.11] [Usersync.1] a word with the sync bit is loaded
abbrev pub loads_sync : MainStep → UserStep → Bool
loads_sync m u = m.sync || u.tag

-- [Ready.6] [Main.6] [Main.11] status bits 16, 17 and 18
abbrev pub status_of : (inhibit late sync : Bool) → ℕ
status_of inhibit late sync =
    one_if_of inhibit * csr.inhibit_status + one_if_of late * csr.late_fail_status + one_if_of sync * csr.sync_status

-- [Main.14] [Usersync.2] what the end of Sync hold and of a user sync clear; then the status bits
unfoldable pub csr_after_of : Lines → MainStep → UserStep → Csr → Csr
csr_after_of l m u w =
    w ▷ csr.sync_hold_ended_if_of m.ended ▷ csr.user_sync_ended_if_of u.ended
    ▷ csr.marked_of (status_of (has_inhibit l) m.late (loads_sync m u))

-- [Main.10] [Main.14] [Usersync.2]
unfoldable pub sync_after_of : (enabled : Bool) → MainStep → UserStep → SyncCounter → SyncCounter
sync_after_of enabled m u s =
    if m.ended || u.ended then counter.zeroed_of s
    else if is_event m.outcome then counter.after_load_of enabled s
    else s

-- [Usersync.1] [Answer.1] a tag is loaded only at Idle, where main has no outcome
abbrev pub outcome_of : MainStep → UserStep → Outcome
outcome_of m u = if u.tag then Tag user.tag_word else m.outcome

abbrev pub signals_of : (passed : ℕ) → Latch → MainStep → UserStep → Signals
signals_of passed latch m u =
    record {
      passed = passed;
      rejected = latch.rejected;
      accepted = latch.accepted;
      event = is_event m.outcome;
      failed2 = m.failed2;
      failed3 = m.failed3;
      late = m.late;
      sync = loads_sync m u;
    }
