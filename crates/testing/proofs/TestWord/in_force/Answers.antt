-- `testing::TestWord::in_force` meets its contract: by the mode. Assumes nothing.
use Rattle.testing.specs.InForce.{in_force_of}
use Rattle.testing.proofs.TestWord.in_force.Goals as goal

pub returns-then-is_test_mode : goal.returns-then-is_test_mode
unfolding in_force_of
returns-then-is_test_mode c = rw (c.test_inputs.ensures, ← c.is_test_mode.ensures, c.if-is_test_mode.true)

pub returns : goal.returns
unfolding in_force_of
returns c = rw (← c.is_test_mode.ensures, c.if-is_test_mode.false)
