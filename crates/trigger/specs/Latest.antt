-- What the record keeps of the latest tick that ran, for STATE to show: its lines, and whether it latched a pattern. Its
-- acknowledges are kept with the branches.
--     document 02    N2
--     fresh_of        before any tick
--     kept_of         what a tick that runs leaves
-- Own rules of 02 used here: none. Decisions: R6. Left out: the acknowledges, in branches; the bits, in access.
-- Assumes nothing.
use Rattle.std.specs.Prelude.{false, ◌||◌}
use Rattle.scalers.specs.Scalers.{is_some}
use Rattle.trigger.specs.declared.lines.Lines.{Lines}
use Rattle.trigger.specs.declared.latch.Latch.{Latch}
use Rattle.trigger.specs.declared.latest.Latest.{Latest}

-- [State.3] power-up and INITIALIZE: the lines are low
abbrev pub fresh_of : Latest
fresh_of = record { lines = record { word = 0 }; latched = false }

-- [State.3] [State.7] the pattern may be rejected or accepted
abbrev pub kept_of : Lines → Latch → Latest
kept_of l latch = record { lines = l; latched = is_some latch.rejected || is_some latch.accepted }
