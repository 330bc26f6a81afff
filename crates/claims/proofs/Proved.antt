-- Each claim of specs/Claims.antt, proved in one line by the theorem that it restates.
-- Assumes nothing.
use Rattle.branches.specs.Readout.{module_branches}
use Rattle.declines.specs.Runs.{fresh_session}
use Rattle.declines.proofs.DeclinesLaws.{declines_in_order}
use Rattle.declines.proofs.CallsLaws.{refusal_leaves, refusal_leaves_memory, spoiled_declines_all}
use Rattle.account.proofs.Theorem.{every_run_balances, any_two_branches}
use Rattle.reach.proofs.Never.{call_keeps_unspoiled, never_spoiled}
use Rattle.bench.proofs.Examples.{bench_examples}
use Rattle.claims.proofs.ExamplesLogged.{answers_are_logged}
use Rattle.reader.proofs.ReaderLaws.{lines_end, lines_append}
use Rattle.script.proofs.ScriptLaws.{answers_so_far, answer_is_line, answers_count}
use Rattle.claims.specs.Claims.{RefusesInOrder, RefusalLeavesRecord, RefusalLeavesMemory, SpoiledRecordRefuses}
use Rattle.claims.specs.Claims.{EveryRunBalances, EveryRunBalancesAtAnySize, AnyTwoBranchesAgree, NoRunIsSpoiled}
use Rattle.claims.specs.Claims.{EveryCallKeepsUnspoiled, BenchExamples, ExamplesAreLogged}
use Rattle.claims.specs.Claims.{LastNewlineMayLack, AnswersDoNotLookAhead, LinesDoNotLookAhead}
use Rattle.claims.specs.Claims.{EveryAnswerIsOneLine, OneAnswerEachLine}

pub refuses_in_order : RefusesInOrder
refuses_in_order = declines_in_order

pub refusal_leaves_record : RefusalLeavesRecord
refusal_leaves_record = refusal_leaves

pub refusal_leaves_the_memory : RefusalLeavesMemory
refusal_leaves_the_memory = refusal_leaves_memory

pub spoiled_record_refuses : SpoiledRecordRefuses
spoiled_record_refuses = spoiled_declines_all

pub demand3 : EveryRunBalances
demand3 = every_run_balances module_branches

pub demand3_at_any_size : EveryRunBalancesAtAnySize
demand3_at_any_size = every_run_balances

pub any_two_branches_agree : AnyTwoBranchesAgree
any_two_branches_agree = any_two_branches module_branches

pub last_newline_may_lack : LastNewlineMayLack
last_newline_may_lack = lines_end

pub answers_do_not_look_ahead : AnswersDoNotLookAhead
answers_do_not_look_ahead = answers_so_far

pub lines_do_not_look_ahead : LinesDoNotLookAhead
lines_do_not_look_ahead = lines_append

pub every_answer_is_one_line : EveryAnswerIsOneLine
every_answer_is_one_line = answer_is_line

pub one_answer_each_line : OneAnswerEachLine
one_answer_each_line = answers_count

pub no_run_is_spoiled : NoRunIsSpoiled
no_run_is_spoiled = never_spoiled module_branches

pub every_call_keeps_unspoiled : EveryCallKeepsUnspoiled
every_call_keeps_unspoiled = call_keeps_unspoiled

pub bench : BenchExamples
bench = bench_examples

pub examples_are_logged : ExamplesAreLogged
examples_are_logged asks = answers_are_logged asks fresh_session
