-- `script::answers` meets its contract: the text fits the buffer (`answers_fit`), so it is what stands there. Assumes nothing.
use Rattle.std.proofs.Common.{rules}
use Rattle.script.proofs.FitLaws.{answers_fit}
use Rattle.script.proofs.RunLaws.{whole_text}
use Rattle.script.proofs.answers.Goals as goal

pub returns-clause-out_after : goal.returns-clause-out_after
returns-clause-out_after c =
    (whole_text _ c.args.out.now c.run_script.new.page.out.now c.len.result (search rules) (answers_fit c.args.script.now) (search rules)).0

pub returns-clause-upper_bound : goal.returns-clause-upper_bound
returns-clause-upper_bound c =
    let w = whole_text _ c.args.out.now c.run_script.new.page.out.now c.len.result (search rules) (answers_fit c.args.script.now) (search rules) in (w.1, w.2)
