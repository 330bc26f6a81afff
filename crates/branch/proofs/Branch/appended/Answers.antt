-- `branch::Branch::appended` meets its contract: its calls choose the fields, by `appended_by_choices` as the load
-- does. Assumes nothing.
use Rattle.branch.proofs.BranchChoices.{appended_by_choices}
use Rattle.branch.proofs.Branch.appended.Goals as goal

pub returns : goal.returns
returns c =
    let a = c.args in
    let len = c.one_more_if.ensures in
    let words = c.select.ensures in
    let longer = c.put-longer.ensures in
    let word = c.unwrap_or.ensures in
    let loads = c.is_some.ensures in
    let free = c.has_free_place-free.ensures in
    rw (len, words, longer, word, loads, free) (appended_by_choices a.load a.self)
