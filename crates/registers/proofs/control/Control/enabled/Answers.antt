-- `registers::control::Control::enabled` meets its contract: the run of enable bits has the rule's bits
-- (`run_is_enabled`). Assumes nothing.
use Rattle.registers.proofs.ControlLaws.{run_is_enabled}
use Rattle.registers.proofs.control.Control.enabled.Goals as goal

pub returns : goal.returns
returns c = run_is_enabled c.args.self
