-- `reader::field` meets its contract: a tab, then digits, then the rest (`field_found`). Assumes nothing.
use Rattle.reader.proofs.FieldLaws.{field_found}
use Rattle.reader.proofs.field.Goals as goal

pub returns-clause-found : goal.returns-clause-found
returns-clause-found c =
    let n = c.args.digits.count in
    let tab = c.in_ok-tab.ensures.cases in
    let split = c.in_ok-digits.ensures.cases in
    let read = c.in_ok-value.ensures in
    rw (tab.0, split.2)
    (field_found c.in_ok-tab.tab.now c.in_ok-tab.rest.now n c.in_ok-value.value c.if-tab-ne-TAB.false split.0
    (rw (← split.1, ← split.3) read.value.0) (rw (← split.1, ← split.3) read.value.1) (rw (← split.3) read.upper_bound))
