-- `reader::tick` meets its contract: its fields are there, and nothing after them. Assumes nothing.
use Rattle.std.proofs.Common.{rules, refl}
use Rattle.reader.specs.declared.Command.TheVariants.{Tick}
use Rattle.reader.proofs.FieldLaws.{fields_after, three_fields}
use Rattle.reader.proofs.tick.Goals as goal

pub returns : goal.returns
returns c =
    let read = three_fields Tick c.in_ok-triggers.ensures.found c.in_ok-lines.ensures.found c.in_ok-acks.ensures.found in
    search (rules, read)

pub returns-in_err-acks : goal.returns-in_err-acks
returns-in_err-acks c =
    rw (c.from_residual-in_err-acks.ensures, fields_after _ _ _ _ _ c.in_ok-triggers.ensures.found, fields_after _ _ _ _ _ c.in_ok-lines.ensures.found, c.in_err-acks.ensures.other) refl
