-- `scalers::Scalers::counted` meets its contract: signals that are none leave both scalers (`counted_none`); else
-- both by what their calls ensure. Assumes nothing.
use Rattle.std.proofs.Common.{sym, ◌∙◌, rules}
use Rattle.scalers.specs.Scalers.{counted_of}
use Rattle.scalers.proofs.ScalersLaws.{counted_none}
use Rattle.scalers.proofs.Scalers.counted.Goals as goal

pub returns-then-is_none : goal.returns-then-is_none
returns-then-is_none c =
    let a = c.args in
    counted_none a.x a.self (sym c.is_none.ensures ∙ c.if-is_none.true) (search rules) (search rules)

pub returns : goal.returns
unfolding counted_of
returns c = rw (c.add-2.ensures, c.add.ensures, c.counts-counts.ensures)
