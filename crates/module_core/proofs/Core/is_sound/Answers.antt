-- `module_core::Core::is_sound` meets its contract: its tests are the clauses of the definition, one for one. Assumes
-- nothing.
use Rattle.module_core.specs.Spoiled.{is_sound_of}
use Rattle.module_core.proofs.Core.is_sound.Goals as goal

pub returns : goal.returns
unfolding is_sound_of
returns c = cc
