-- What is claimed of document 02's request N7, the memory filled from twelve words. proofs/TableProved.antt proves each by
-- citing its law. That the call gives its definition's answer, record and memory is its contract (Claims, `fill_memory`); which
-- decline comes first, and what it leaves, is RefusesInOrder, RefusalLeavesRecord and RefusalLeavesMemory there. Demand 3 and
-- NeverSpoiled are over lists that hold fills too.
-- Assumes nothing.
use Rattle.std.specs.Prelude.{◌≡◌, ℕ, ◌^◌, ◌<◌, true, false, List, length, ◌≢◌, IfOk, slice_index}
use Rattle.registers.specs.Control.{inputs}
use Rattle.sequencer.specs.MemoryWord.{is_ok_word}
use Rattle.table.specs.Shipped as shipped
use Rattle.table.specs.Shipped.{shipped_words}
use Rattle.table.specs.Table.{are_taken, table_of, ShippedPlaces}
use Rattle.trigger.specs.declared.lines.Inputs.{Inputs}
use Rattle.supervisor.specs.Supervisor.{is_active_of, is_spoiled_of}
use Rattle.supervisor.specs.declared.Supervisor.{Supervisor}
use Rattle.declines.specs.Answers.{declined, done}
use Rattle.declines.specs.Calls.{memory_places, tick_of}
use Rattle.declines.specs.Runs.{fill_memory, ask_of, Session, session, reply_to, after}
use Rattle.bench.specs.Bench.{all_right}
use Rattle.bench.specs.Fill.{fill_examples}

-- [Table.2a]–[Table.2d] [Table.7] Every shipped word is the one that the rule gives its input, and the module reads from it
-- level 1 OK and the rule's class, code and accept pattern: one test over all twelve. The code's constant is these words, by the
-- contract of table::shipped_words.
abbrev pub ShippedMeetsRule : Type 0
ShippedMeetsRule = shipped.ShippedMeetsRule

-- [Table.8b] The generator takes them.
abbrev pub ShippedWordsAreTaken : Type 0
ShippedWordsAreTaken = are_taken shipped_words ≡ true

-- [Table.3] [Table.5] [Table.6b] The document's examples, as words of the table that they fill.
abbrev pub ShippedExamples : Type 0
ShippedExamples = ShippedPlaces

-- [Table.4] A fill that is carried out leaves the table of its words, whatever stood in the memory, and the record as it is.
abbrev pub FillLeavesItsTable : Type 0
FillLeavesItsTable =
    (words : List ℕ) (z : Session) → reply_to (fill_memory words) z ≡ done
    → after (fill_memory words) z ≡ session z.supervisor (table_of memory_places words)

-- [Table.7] In that table each word stands at the place of its own input alone.
abbrev pub WordComesBack : Type 0
WordComesBack =
    (words : List ℕ) (i : ℕ) → i < inputs → slice_index words i < 2 ^ 16
    → slice_index (table_of memory_places words) (2 ^ i) ≡ slice_index words i

-- [Table.8b] A word that is not taken gets 8, after the declines of a memory write, and the record is left.
abbrev pub BadWordIsDeclined : Type 0
BadWordIsDeclined =
    (words memory : List ℕ) (s : Supervisor) → is_spoiled_of s ≡ false → length memory ≡ memory_places → is_active_of s ≡ false
    → are_taken words ≡ false → ask_of (fill_memory words) memory s ≡ record { reply = declined 8; next = s }

-- [Table.5] [Table.6a] [Table.8b] A memory that a fill has left accepts every pattern but the empty one ..
abbrev pub FilledMemoryAccepts : Type 0
FilledMemoryAccepts =
    (words : List ℕ) (z : Session) → reply_to (fill_memory words) z ≡ done → (place : ℕ) → (place ≢ 0) → place < memory_places
    → is_ok_word (slice_index (after (fill_memory words) z).memory place) ≡ true

-- .. so that no tick that is lent it, on any record, rejects a pulse.
abbrev pub FilledMemoryRejectsNothing : Type 0
FilledMemoryRejectsNothing =
    (words : List ℕ) (z : Session) → reply_to (fill_memory words) z ≡ done → (x : Inputs) (s : Supervisor)
    → IfOk (tick_of (after (fill_memory words) z).memory x s).answer (λ y. y.masks.rejected ≡ 0)

-- [Table.8a] [Table.8b] The examples of declined fills, as one statement over their table.
abbrev pub FillExamples : Type 0
FillExamples = all_right fill_examples ≡ true
