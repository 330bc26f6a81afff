-- `branch::are_six_bit` meets its contract: the library's bytes of the number, and its test of them, are the definition's.
-- Assumes nothing.
use mathlib.Core.Path.{ap, ◌∙◌}
use Rattle.std.specs.Int.{bytes_low_first}
use Rattle.bits.specs.Bytes.{all_of}
use Rattle.bits.proofs.BytesLaws.{first_bytes}
use Rattle.bits.proofs.ListLaws.{all_is_list_all}
use Rattle.branch.specs.Branch.{is_six_bit}
use Rattle.branch.proofs.are_six_bit.Goals as goal

pub returns : goal.returns
returns c =
    rw (c.all_six_bit.ensures, c.to_le_bytes.ensures)
    (all_is_list_all is_six_bit (bytes_low_first 0 8 c.args.words) ∙ ap (all_of is_six_bit) (first_bytes 8 c.args.words))
