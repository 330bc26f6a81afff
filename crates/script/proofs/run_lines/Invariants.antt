-- `script::run_lines` meets its contract. The loop's invariant: the answers of the lines left, written on the page as it is, give the
-- page asked for. Assumes nothing.
use Rattle.std.proofs.Common.{◌≡◌}
use Rattle.declines.specs.Runs.{session, fresh_session}
use Rattle.reader.specs.Reader.{lines_of, commands_of}
use Rattle.script.proofs.RunLaws.{answers_to}
use Rattle.script.specs.Script.{answers_from}
use Rattle.text.specs.Page.{page, write}
use Rattle.script.proofs.run_lines.Given as goal

abbrev pub invariant-loop-command : goal.invariant-loop-command
invariant-loop-command l =
    (l.page.out.ghost_name ≡ l.initial.page.out.ghost_name)
    × (write (answers_to (commands_of l.command-iterator.0.now) (session l.s l.memory)) (page l.page.out.now l.page.at)
    ≡ write (answers_from (lines_of l.rest) fresh_session) (page l.initial.page.out.now l.initial.page.at))
