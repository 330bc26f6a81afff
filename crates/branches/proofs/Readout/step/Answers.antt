-- `branches::Readout::step` meets its contract: a quiet readout with nothing to load stays (`quiet_is_silent`); any
-- other is stepped. Assumes nothing.
use mathlib.Core.Path.{◌≡◌, sym, ◌∙◌}
use mathlib.Core.Bool.{Bool, true, not, ◌&&◌}
use borrow.Author.Tests.{not-true}
use Rattle.bits.proofs.TestLaws.{and_left, and_right}
use Rattle.branches.proofs.ReadoutChoices.{quiet_is_silent}
use Rattle.std.proofs.Common.{◌≡◌, Bool, true}
use Rattle.branches.proofs.Readout.step.Goals as goal

pub returns-then-is_quiet-is_some : goal.returns-then-is_quiet-is_some
returns-then-is_quiet-is_some c =
    let four = c.well_formed.0.1.1.0.1.0.1 in
    let a = c.args in
    let quiet : Bool = c.is_quiet.result in
    let word : Bool = c.is_some.result in
    let test : (quiet && not word) ≡ true = c.if-is_quiet-is_some.true in
    let isQuiet = sym c.is_quiet.ensures ∙ and_left quiet (not word) test in
    let no_word = sym c.is_some.ensures ∙ not-true word (and_right quiet (not word) test) in
    c.silent.ensures ∙ quiet_is_silent a.acks a.load a.self four isQuiet no_word
