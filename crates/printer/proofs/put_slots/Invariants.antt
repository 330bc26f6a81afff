-- `printer::put_slots` meets its contract. The loop's invariant: the slots so far are printed. Assumes nothing.
use Rattle.std.proofs.Common.{take}
use Rattle.text.specs.Written.{Wrote}
use Rattle.printer.specs.TickParts.{slots_part}
use Rattle.printer.proofs.put_slots.Given as goal

abbrev pub invariant-loop-slot : goal.invariant-loop-slot
invariant-loop-slot l = Wrote (slots_part (take l.slot-index l.slot-items)) l.initial.page l.page
