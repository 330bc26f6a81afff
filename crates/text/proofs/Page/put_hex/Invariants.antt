-- `text::Page::put_hex` meets its contract. The loop's invariant: the digits left, written on the page as it is, give the
-- page asked for. Assumes nothing.
use Rattle.std.proofs.Common.{◌≡◌}
use Rattle.text.specs.Text.{hex}
use Rattle.text.specs.Page.{page, write}
use Rattle.text.proofs.Page.put_hex.Given as goal

abbrev pub invariant-loop-i : goal.invariant-loop-i
invariant-loop-i l =
    (l.self.out.ghost_name ≡ l.initial.self.out.ghost_name)
    × (write (hex l.i l.v) (page l.self.out.now l.self.at) ≡ write (hex l.fn.digits.count l.v) (page l.initial.self.out.now l.initial.self.at))
