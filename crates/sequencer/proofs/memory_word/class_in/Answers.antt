-- `sequencer::memory_word::class_in` meets its contract: the tests are those of the definition, in the same order.
-- Assumes nothing.
use Rattle.sequencer.specs.MemoryWord.{class_in_of}
use borrow.Author.Tests.{eq-eqb, ne_eqb}
use Rattle.sequencer.proofs.memory_word.class_in.Goals as goal

pub returns-then-word-eq1 : goal.returns-then-word-eq1
unfolding class_in_of
returns-then-word-eq1 c = rw (eq-eqb _ _ c.if-word-eq1.true)

pub returns-then-word-eq1-2 : goal.returns-then-word-eq1-2
unfolding class_in_of
returns-then-word-eq1-2 c = rw (eq-eqb _ _ c.if-word-eq1-2.true, ne_eqb _ _ c.if-word-eq1.false)

pub returns-then-word-eq1-3 : goal.returns-then-word-eq1-3
unfolding class_in_of
returns-then-word-eq1-3 c =
    rw (
      eq-eqb _ _ c.if-word-eq1-3.true,
      ne_eqb _ _ c.if-word-eq1-2.false,
      ne_eqb _ _ c.if-word-eq1.false,
    )

pub returns : goal.returns
unfolding class_in_of
returns c =
    rw (
      ne_eqb _ _ c.if-word-eq1-3.false,
      ne_eqb _ _ c.if-word-eq1-2.false,
      ne_eqb _ _ c.if-word-eq1.false,
    )
