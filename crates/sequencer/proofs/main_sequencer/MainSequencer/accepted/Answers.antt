-- `sequencer::main_sequencer::MainSequencer::accepted` meets its contract: the class that the code tests is the
-- word's, and each arm sets the fields that the accept names. Assumes nothing.
use Rattle.sequencer.specs.MainSequencer.{accepted_of}
use borrow.Author.Tests.{eq-eqb, ne_eqb}
use Rattle.sequencer.proofs.main_sequencer.MainSequencer.accepted.Goals as goal

pub returns-then-enters_delay : goal.returns-then-enters_delay
unfolding accepted_of
returns-then-enters_delay c =
    rw (
      c.with_state.ensures,
      c.accept_in.ensures,
      c.code_in.ensures,
      ← c.class_in-class.ensures,
      eq-eqb _ _ c.if-enters_delay.true,
    )

pub returns : goal.returns
unfolding accepted_of
returns c =
    rw (
      c.with_state-2.ensures,
      c.accept_in.ensures,
      c.code_in.ensures,
      ← c.class_in-class.ensures,
      ne_eqb _ _ c.if-enters_delay.false,
    )
