-- `branches::Readout::stepped` meets its contract: the four steps, each with its byte of both words, are the step of
-- the readout (`gathered_of_four`). Assumes nothing.
use Rattle.bits.specs.Bits.{tabulate}
use Rattle.branches.proofs.ReadoutChoices.{gathered_of_four}
use Rattle.branches.proofs.Readout.stepped.Goals as goal

pub returns : goal.returns
unfolding tabulate
returns c =
    let four = c.well_formed.0.1.1.0.1.0.1 in
    let a = c.args in
    rw (
      c.gathered.ensures,
      c.step-s3.ensures,
      c.step-s2.ensures,
      c.step-s1.ensures,
      c.step-s0.ensures,
      c.bytes-on.ensures,
      c.bytes-ack.ensures,
    ) (gathered_of_four a.acks a.load a.self four)
