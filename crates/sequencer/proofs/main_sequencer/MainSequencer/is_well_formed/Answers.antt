-- `sequencer::main_sequencer::MainSequencer::is_well_formed` meets its contract: its three tests are those of the
-- definition, one for one. Assumes nothing.
use Rattle.sequencer.specs.MainSequencer.{is_well_formed_of}
use Rattle.sequencer.proofs.main_sequencer.MainSequencer.is_well_formed.Goals as goal

pub returns : goal.returns
unfolding is_well_formed_of
returns c = rw (c.is_class_of_wait2.ensures, c.is_wait2.ensures)
