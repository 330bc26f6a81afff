-- `testing::TestWord::acks` meets its contract: a byte of ones for each bit that is set (`acks_by_branch`). Assumes
-- nothing.
use Rattle.testing.specs.TestWord.{acknowledges, acks_of}
use Rattle.testing.proofs.TestingLaws.{acks_by_branch}
use Rattle.testing.proofs.TestWord.acks.Goals as goal

pub returns : goal.returns
unfolding acks_of
returns c =
    let w = c.args.self in
    rw (
      c.one_if-4.ensures.value,
      c.bit_at-4.ensures,
      c.one_if-3.ensures.value,
      c.bit_at-3.ensures,
      c.one_if-2.ensures.value,
      c.bit_at-2.ensures,
      c.one_if.ensures.value,
      c.bit_at.ensures,
    )
    (acks_by_branch (acknowledges w))
