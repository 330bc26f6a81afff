-- `bits::bit_at` meets its contract: below 32 the shift gives the bit; above, by the width law, there is none.
-- Assumes nothing.
use Prim.Native.Nat.{◌^◌}
use mathlib.Core.Path.{sym}
use borrow.Author.Tests.{lt-ltb}
use Rattle.bits.proofs.WidthLaws.{fits_iff_no_bit_outside}
use Rattle.std.proofs.Common.{rules}
use Rattle.bits.proofs.bit_at.Goals as goal

pub returns : goal.returns
returns c =
    let word : _ = c.args.word in
    sym ((fits_iff_no_bit_outside 32 word).0 (lt-ltb word (2 ^ 32) (search rules)) c.args.i c.if-i-lt32.false)
