-- `reader::write_memory` meets its contract: its fields are there, and nothing after them. Assumes nothing.
use Rattle.std.proofs.Common.{rules}
use Rattle.reader.specs.declared.Command.TheVariants.{WriteMemory}
use Rattle.reader.proofs.FieldLaws.{two_fields}
use Rattle.reader.proofs.write_memory.Goals as goal

pub returns : goal.returns
returns c =
    let read = two_fields WriteMemory c.in_ok-place.ensures.found c.in_ok-word.ensures.found in
    search (rules, read)
