-- The latch of a tick: the memory's word for a pattern, what becomes of the passed pulses, and the masks of the answer.
--     document 01    "Registers", Memory; "The tick", Ready; "The answer"
--     word_at_of       the memory's word for a pattern
--     latch_of        the passed pulses: lost, rejected or accepted; no_latch: there are none
--     masks_of        the five masks
-- Own rules of 01 used here: none. Decisions: T2. Left out: nothing.
-- Assumes nothing.
use Rattle.std.specs.Prelude.{ℕ, Bool, not, ◌&&◌, List, get_or, if◌then◌else◌}
use Rattle.prescaler.specs.declared.Prescaled.{Prescaled}
use Rattle.trigger.specs.declared.latch.Latch.{Latch}
use Rattle.trigger.specs.declared.latch.Masks.{Masks}

-- [Memory.1] the word at the place of the pattern
abbrev pub word_at_of : List ℕ → (pattern : ℕ) → ℕ
word_at_of memory pattern = get_or memory pattern 0

-- [Ready.3] with none passed nothing is latched
abbrev pub no_latch : Latch
no_latch = record { lost = 0; rejected = 0; accepted = 0 }

-- [Ready.2] [Ready.3] [Ready.4] [Ready.5] lost if not ready; else all rejected or all accepted; with none passed nothing
-- is latched: every mask is 0
abbrev pub latch_of : (ready ok : Bool) (passed : ℕ) → Latch
latch_of ready ok passed =
    record {
      lost = if ready then 0 else passed;
      rejected = if ready && not ok then passed else 0;
      accepted = if ready && ok then passed else 0;
    }

abbrev pub masks_of : Prescaled → Latch → Masks
masks_of p latch =
    record {
      stopped = p.stopped;
      scaled = p.scaled;
      lost = latch.lost;
      rejected = latch.rejected;
      accepted = latch.accepted;
    }
