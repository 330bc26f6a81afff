-- `testing::TestWord::lines` meets its contract: eight bits in a row, the last of them 0, are the seven lines.
-- Assumes nothing.
use Rattle.testing.specs.TestWord.{lines_of}
use Rattle.bits.specs.Bits as bits
use Rattle.testing.proofs.TestWord.lines.Goals as goal

pub returns : goal.returns
unfolding lines_of bits.mask_of
returns c =
    rw (
      c.from.ensures,
      c.mask8-lines.ensures,
      c.bit_at-inhibit.ensures,
      c.bit_at-busy.ensures,
      c.bit_at-fail3.ensures,
      c.bit_at-pass3.ensures,
      c.bit_at-fail2.ensures,
      c.bit_at-pass2.ensures,
      c.bit_at-strobe.ensures,
    )
