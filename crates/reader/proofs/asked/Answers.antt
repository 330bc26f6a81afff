-- `reader::asked` meets its contract: the letter picks the one form that the line can have (`by_letter`). Assumes nothing.
use Rattle.std.proofs.Common.{rules, refl}
use Rattle.reader.proofs.FieldLaws.{by_letter, or_other, other_letter, no_letter}
use Rattle.reader.proofs.asked.Goals as goal

pub returns-in_err-letter : goal.returns-in_err-letter
returns-in_err-letter c = rw c.from_residual.ensures (no_letter _ c.in_err-letter.ensures.cases)

pub returns-in_default : goal.returns-in_default
returns-in_default c = rw c.in_ok-letter.ensures.cases.0 (search (rules, other_letter))

pub returns-in-87 : goal.returns-in-87
returns-in-87 c = rw (c.in_ok-letter.ensures.cases.0, by_letter, c.in-87.is, c.write_register.ensures, or_other) refl

pub returns-in-82 : goal.returns-in-82
returns-in-82 c = rw (c.in_ok-letter.ensures.cases.0, by_letter, c.in-82.is, c.read_register.ensures, or_other) refl

pub returns-in-77 : goal.returns-in-77
returns-in-77 c = rw (c.in_ok-letter.ensures.cases.0, by_letter, c.in-77.is, c.write_memory.ensures, or_other) refl

pub returns-in-86 : goal.returns-in-86
returns-in-86 c = rw (c.in_ok-letter.ensures.cases.0, by_letter, c.in-86.is, c.read_memory.ensures, or_other) refl

pub returns-in-84 : goal.returns-in-84
returns-in-84 c = rw (c.in_ok-letter.ensures.cases.0, by_letter, c.in-84.is, c.tick.ensures, or_other) refl
