-- Changes of one field of the main sequencer and of its step. Nothing of document 01 is decided here.
--     with_age n m   m with the age n; and so on, one for each field
--     quiet m       the step that leaves m and did nothing; with_outcome and so on: what it did besides
-- Assumes nothing.
use Rattle.std.specs.Prelude.{ℕ, Bool, false}
use Rattle.sequencer.specs.declared.states.State.{State}
use Rattle.sequencer.specs.declared.states.Outcome.{Outcome}
use Rattle.sequencer.specs.declared.states.Outcome.TheVariants.{Nothing}
use Rattle.sequencer.specs.declared.main_sequencer.MainSequencer.{MainSequencer}
use Rattle.sequencer.specs.declared.main_sequencer.MainStep.{MainStep}

-- ---- the sequencer

abbrev pub with_age : ℕ → MainSequencer → MainSequencer
with_age v m = record { state = m.state; clear = m.clear; class = m.class; code = m.code; age = v; accept = m.accept; raised = m.raised; late = m.late }

abbrev pub with_state : State → MainSequencer → MainSequencer
with_state v m = record { state = v; clear = m.clear; class = m.class; code = m.code; age = m.age; accept = m.accept; raised = m.raised; late = m.late }

abbrev pub with_clear : ℕ → MainSequencer → MainSequencer
with_clear v m = record { state = m.state; clear = v; class = m.class; code = m.code; age = m.age; accept = m.accept; raised = m.raised; late = m.late }

abbrev pub with_class : ℕ → MainSequencer → MainSequencer
with_class v m = record { state = m.state; clear = m.clear; class = v; code = m.code; age = m.age; accept = m.accept; raised = m.raised; late = m.late }

abbrev pub with_code : ℕ → MainSequencer → MainSequencer
with_code v m = record { state = m.state; clear = m.clear; class = m.class; code = v; age = m.age; accept = m.accept; raised = m.raised; late = m.late }

abbrev pub with_accept : ℕ → MainSequencer → MainSequencer
with_accept v m = record { state = m.state; clear = m.clear; class = m.class; code = m.code; age = m.age; accept = v; raised = m.raised; late = m.late }

abbrev pub with_raised : ℕ → MainSequencer → MainSequencer
with_raised v m = record { state = m.state; clear = m.clear; class = m.class; code = m.code; age = m.age; accept = m.accept; raised = v; late = m.late }

abbrev pub with_late : Bool → MainSequencer → MainSequencer
with_late v m = record { state = m.state; clear = m.clear; class = m.class; code = m.code; age = m.age; accept = m.accept; raised = m.raised; late = v }

-- ---- its step

abbrev pub quiet : MainSequencer → MainStep
quiet m = record { next = m; outcome = Nothing; late = false; sync = false; ended = false; failed2 = false; failed3 = false }

abbrev pub with_outcome : Outcome → MainStep → MainStep
with_outcome v s = record { next = s.next; outcome = v; late = s.late; sync = s.sync; ended = s.ended; failed2 = s.failed2; failed3 = s.failed3 }

abbrev pub with_late_fail : Bool → MainStep → MainStep
with_late_fail v s = record { next = s.next; outcome = s.outcome; late = v; sync = s.sync; ended = s.ended; failed2 = s.failed2; failed3 = s.failed3 }

abbrev pub with_sync : Bool → MainStep → MainStep
with_sync v s = record { next = s.next; outcome = s.outcome; late = s.late; sync = v; ended = s.ended; failed2 = s.failed2; failed3 = s.failed3 }

abbrev pub with_ended : Bool → MainStep → MainStep
with_ended v s = record { next = s.next; outcome = s.outcome; late = s.late; sync = s.sync; ended = v; failed2 = s.failed2; failed3 = s.failed3 }

abbrev pub with_failed2 : Bool → MainStep → MainStep
with_failed2 v s = record { next = s.next; outcome = s.outcome; late = s.late; sync = s.sync; ended = s.ended; failed2 = v; failed3 = s.failed3 }

abbrev pub with_failed3 : Bool → MainStep → MainStep
with_failed3 v s = record { next = s.next; outcome = s.outcome; late = s.late; sync = s.sync; ended = s.ended; failed2 = s.failed2; failed3 = v }
