-- `branch::are_unused_zero` meets its contract: two shifts by half ask whether the number has no more than len bytes
-- (`shift_is_below`). Assumes nothing.
use Prim.Native.Nat.{◌%◌}
use Rattle.bits.proofs.BytesLaws.{shift_is_below}
use Rattle.std.proofs.Common.{◌%◌}
use Rattle.branch.proofs.are_unused_zero.Goals as goal

pub returns : goal.returns
returns c = shift_is_below (c.args.len % 16) c.args.words
