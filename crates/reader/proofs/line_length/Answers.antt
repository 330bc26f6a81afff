-- `reader::line_length` meets its contract: the newline that the search finds, or the end (`newline_found`). Assumes nothing.
use Rattle.reader.proofs.ReaderLaws.{newline_found}
use Rattle.reader.proofs.line_length.Goals as goal

pub returns-clause-value : goal.returns-clause-value
returns-clause-value c = rw (c.unwrap_or.ensures, c.first_newline.ensures) (newline_found c.args.rest.now)
