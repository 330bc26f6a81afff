-- `reader::read_memory` meets its contract: its fields are there, and nothing after them. Assumes nothing.
use Rattle.std.proofs.Common.{rules}
use Rattle.reader.specs.declared.Command.TheVariants.{ReadMemory}
use Rattle.reader.proofs.FieldLaws.{one_field}
use Rattle.reader.proofs.read_memory.Goals as goal

pub returns : goal.returns
returns c =
    let read = one_field ReadMemory c.in_ok-place.ensures.found in
    search (rules, read)
