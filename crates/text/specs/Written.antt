-- What a function that prints does to the page that it is lent. A buyer need not believe it: the contract of `answers`
-- does not speak of it.
--     Wrote           the same buffer, and the text written on it
-- Own rules of 01 used here: none. Decisions: none. Left out: nothing.
-- Assumes nothing.
use Rattle.std.specs.Prelude.{ℕ, ◌≡◌, List}
use Rattle.text.specs.declared.Page.{Page}
use Rattle.text.specs.Page.{page, write}

abbrev pub Wrote : List ℕ → Page → Page → Type 0
Wrote text before after =
    (after.out.ghost_name ≡ before.out.ghost_name)
    × (page after.out.now after.at ≡ write text (page before.out.now before.at))
