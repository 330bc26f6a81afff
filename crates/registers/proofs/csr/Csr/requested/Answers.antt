-- `registers::csr::Csr::requested` meets its contract: bit 15 is tested before bit 14, as in the definition. Assumes
-- nothing.
use Rattle.registers.specs.Csr.{requested_of}
use Rattle.registers.proofs.csr.Csr.requested.Goals as goal

pub returns-then-bit_at : goal.returns-then-bit_at
unfolding requested_of
returns-then-bit_at c = rw (← c.bit_at.ensures, c.if-bit_at.true)

pub returns-then-bit_at-2 : goal.returns-then-bit_at-2
unfolding requested_of
returns-then-bit_at-2 c =
    rw (
      ← c.bit_at-2.ensures,
      c.if-bit_at-2.true,
      ← c.bit_at.ensures,
      c.if-bit_at.false,
    )

pub returns : goal.returns
unfolding requested_of
returns c =
    rw (
      ← c.bit_at-2.ensures,
      c.if-bit_at-2.false,
      ← c.bit_at.ensures,
      c.if-bit_at.false,
    )
