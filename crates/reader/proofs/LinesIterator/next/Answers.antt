-- `reader::Lines::next` meets its contract: the first line is read, and the rest begins behind its newline. Assumes nothing.
use Rattle.std.proofs.Common.{rules, ◌≡◌, ◌<◌, length, List}
use mathlib.Core.Path.{ap}
use native.Mathlib.Omega.{arith}
use Rattle.reader.specs.declared.Line.{Line}
use Rattle.reader.specs.declared.Command.{Command}
use Rattle.reader.proofs.ReaderLaws.{commands_none, commands_first, length_at_most}
use Rattle.reader.proofs.LinesIterator.next.Goals as goal

pub returns-then-is_empty-clause-steps : goal.returns-then-is_empty-clause-steps
returns-then-is_empty-clause-steps c =
    let n : length c.args.self.now.0.now ≡ 0 = search rules in
    let e = commands_none c.args.self.now.0.now n in (e, e)

pub overflow_add-line : goal.overflow_add-line
overflow_add-line c =
    let e = ap (λ (l : Line). l.len) c.first_line-line.ensures in
    let h = length_at_most c.args.self.now.0.now in
    omega arith

pub returns-clause-steps : goal.returns-clause-steps
returns-clause-steps c =
    let l = c.args.self.now.0.now in
    let n : 0 < length l = search rules in
    rw (c.after-self.ensures, c.first_line-line.ensures) (commands_first l n)

pub returns-clause-goes : goal.returns-clause-goes
returns-clause-goes c =
    let e = ap (λ (cs : List Command). length cs) (returns-clause-steps c) in search rules
