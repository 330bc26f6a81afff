-- `table::word_at` meets its contract. The loop's invariant: the word is what is gathered from input i on; the
-- measure is i. Assumes nothing.
use Prim.Native.Nat.{ℕ, ◌-◌}
use mathlib.Core.Path.{◌≡◌, refl, sym, ap, ◌∙◌}
use mathlib.Core.Bool.{true, false}
use native.Mathlib.Omega.{arith}
use lib.ListN.{length, get_or, get_or-eq_default}
use borrow.Author.Tests.{eq-eqb, ne_eqb}
use Rattle.table.specs.Table.{over_of}
use Rattle.table.proofs.TableChoices.{gathered, gathered_from, gathered_down, gathered_all, gathered_is_table}
use Rattle.std.proofs.Common.{◌≡◌, length, ℕ, ◌-◌, true, false}
use Rattle.table.proofs.word_at.Goals as goal

pub loop-i-init : goal.loop-i-init
unfolding gathered
loop-i-init c = (omega arith, omega arith, refl)

pub loop-i-preserved-then-place-i-eq1 : goal.loop-i-preserved-then-place-i-eq1
loop-i-preserved-then-place-i-eq1 c =
    let l = c.loop-i in
    let a = c.args in
    let down =
    gathered_down l.i a.words a.place c.loop-i-test.true l.invariant.0 true
    (eq-eqb _ _ c.if-place-i-eq1.true) in (
      omega arith,
      c.over-word.ensures.upper_bound,
      c.over-word.ensures.value ∙ ap (over_of (get_or a.words (l.i - 1) 0)) l.invariant.2 ∙ sym down,
    )

pub loop-i-preserved : goal.loop-i-preserved
loop-i-preserved c =
    let l = c.loop-i in
    let a = c.args in
    let down =
    gathered_down l.i a.words a.place c.loop-i-test.true l.invariant.0 false (ne_eqb _ _ c.if-place-i-eq1.false) in
    (omega arith, l.invariant.1, l.invariant.2 ∙ sym down)

pub returns : goal.returns
returns c =
    let l = c.loop-i in
    let a = c.args in
    let twelve : length a.words ≡ 12 = c.well_formed.0.1.0.1 in
    let bottom : l.i ≡ 0 = omega arith in
    let made =
    l.invariant.2 ∙ ap (λ (i : ℕ). gathered_from i (12 - i) a.words a.place) bottom ∙ gathered_all 12 a.words a.place in
    made ∙ gathered_is_table a.words a.place (get_or-eq_default a.words 0 (omega arith)) (rw made at l.invariant.1)
