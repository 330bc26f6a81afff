-- `reader::write_register` meets its contract: its fields are there, and nothing after them. Assumes nothing.
use Rattle.std.proofs.Common.{rules}
use Rattle.reader.specs.declared.Command.TheVariants.{WriteRegister}
use Rattle.reader.proofs.FieldLaws.{two_fields}
use Rattle.reader.proofs.write_register.Goals as goal

pub returns : goal.returns
returns c =
    let read = two_fields WriteRegister c.in_ok-number.ensures.found c.in_ok-value.ensures.found in
    search (rules, read)
