-- Each claim of specs/Table.antt, proved in one line by the law that it restates.
-- Assumes nothing.
use Rattle.table.proofs.TableLaws as table
use Rattle.table.proofs.TableExamples as shipped
use Rattle.declines.proofs.FillLaws as fill
use Rattle.declines.proofs.FilledMemory as filled
use Rattle.bench.proofs.FillExamples as examples
use Rattle.claims.specs.Table.{ShippedMeetsRule, ShippedWordsAreTaken, ShippedExamples, FillLeavesItsTable, WordComesBack}
use Rattle.claims.specs.Table.{BadWordIsDeclined, FilledMemoryAccepts, FilledMemoryRejectsNothing, FillExamples}

pub shipped_meets_rule : ShippedMeetsRule
shipped_meets_rule = table.shipped_meets_rule

pub shipped_words_are_taken : ShippedWordsAreTaken
shipped_words_are_taken = table.shipped_is_taken

pub shipped_examples : ShippedExamples
shipped_examples = shipped.shipped_places

pub fill_leaves_its_table : FillLeavesItsTable
fill_leaves_its_table words z e = (fill.done_fill words z e).left

pub word_comes_back : WordComesBack
word_comes_back = table.table_gives_back

pub bad_word_is_declined : BadWordIsDeclined
bad_word_is_declined = fill.bad_word_declined

pub filled_memory_accepts : FilledMemoryAccepts
filled_memory_accepts words z e = (filled.done_accepts words z e).accepts

pub filled_memory_rejects_nothing : FilledMemoryRejectsNothing
filled_memory_rejects_nothing = filled.done_rejects_nothing

pub fill_examples_lem : FillExamples
fill_examples_lem = examples.fill_examples_lem
