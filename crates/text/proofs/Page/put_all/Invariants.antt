-- `text::Page::put_all` meets its contract. The loop's invariant: the bytes so far are written. Assumes nothing.
use Rattle.std.proofs.Common.{take}
use Rattle.text.specs.Written.{Wrote}
use Rattle.text.proofs.Page.put_all.Given as goal

abbrev pub invariant-loop-b : goal.invariant-loop-b
invariant-loop-b l = Wrote (take l.b-index l.text) l.initial.self l.self
