-- `testing::held_masks` meets its contract: the stopped pulses, and four masks that are 0. Assumes nothing.
use Rattle.testing.specs.InForce.{held_masks_of}
use Rattle.testing.proofs.held_masks.Goals as goal

pub returns : goal.returns
unfolding held_masks_of
returns c = rw c.held_pulses.ensures
