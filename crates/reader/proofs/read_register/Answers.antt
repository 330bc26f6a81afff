-- `reader::read_register` meets its contract: its fields are there, and nothing after them. Assumes nothing.
use Rattle.std.proofs.Common.{rules}
use Rattle.reader.specs.declared.Command.TheVariants.{ReadRegister}
use Rattle.reader.proofs.FieldLaws.{one_field}
use Rattle.reader.proofs.read_register.Goals as goal

pub returns : goal.returns
returns c =
    let read = one_field ReadRegister c.in_ok-number.ensures.found in
    search (rules, read)
