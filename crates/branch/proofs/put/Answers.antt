-- `branch::put` meets its contract: a shift by 8 bits a place puts the byte above the others (`shift_is_put`).
-- Assumes nothing.
use Prim.Native.Nat.{◌%◌}
use native.Mathlib.Omega.{arith}
use Rattle.bits.proofs.BytesLaws.{shift_is_put}
use Rattle.std.proofs.Common.{rules, ◌%◌}
use Rattle.branch.proofs.put.Goals as goal

pub returns : goal.returns
returns c = rw (shift_is_put (c.args.len % 8) c.args.w (omega arith) (search rules))
