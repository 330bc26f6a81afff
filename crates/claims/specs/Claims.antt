-- What is claimed of the trigger supervisor: every demand, and every promise beyond the demands. What is no contract stands
-- here as one line under a paragraph in document 01's terms; proofs/Proved.antt proves each by citing its theorem.
--
-- Demand 2, and of demand 1 that every call is defined and ends, are the contracts of the public calls, proved in `calls`
-- and, for fresh, in `supervisor`. Each is an equality with the definition named here, for every record, every memory of any
-- length and every argument, and none has a `requires`:
--     Supervisor::fresh      supervisor/specs/Supervisor, freshOf at module_branches, which is four
--     write_register         declines/specs/Calls, write_register_of
--     read_register          declines/specs/Calls, read_register_of
--     write_bytes            declines/specs/Calls, write_bytes_of
--     read_bytes             declines/specs/Calls, read_bytes_of
--     write_memory           declines/specs/Calls, write_memory_of, and memory_after_of for the memory after it
--     read_memory            declines/specs/Calls, read_memory_of; the memory is lent for reading only
--     fill_memory            declines/specs/Fill, fill_memory_of, and memory_filled_of for the memory after it
--     tick                   declines/specs/Calls, tick_of; the memory is lent for reading only
-- The console's contract is proved in `script`, for every script:
--     answers                script/specs/Script, answers_of: the bytes printed, which always fit; the rest of the buffer
--                            is left open
-- That a function is proved says besides that it does nothing undefined and that it ends.
-- Assumes nothing.
use Rattle.std.specs.Prelude.{◌≡◌, ℕ, ◌<◌, true, false, List, [], ◌∷◌, ◌++◌, length, ◌==◌}
use Rattle.branches.specs.Readout.{module_branches}
use Rattle.supervisor.specs.Supervisor.{is_spoiled_of}
use Rattle.supervisor.specs.declared.Supervisor.{Supervisor}
use Rattle.declines.specs.Answers.{declined, decline_or_zero}
use Rattle.declines.specs.Runs.{Ask, Call, ask_of, memory_after, Session, fresh_session}
use Rattle.declines.specs.Refusals.{refusals_of, first_of, status_bit, Leaves}
use Rattle.account.specs.Demand3.{Demand3, words_of}
use Rattle.reach.specs.NeverSpoiled.{OfType, KeepsUnspoiled, NeverSpoiled}
use Rattle.bench.specs.Bench.{examples, all_right}
use Rattle.bench.specs.Sessions.{replies_to, replies_logged}
use Rattle.text.specs.Text.{newline}
use Rattle.reader.specs.Reader.{lines_of}
use Rattle.script.specs.Script.{line_answer, answers_from}
use Rattle.script.specs.AnswerLines.{session_at, OneLine, newlines}
use Rattle.reader.specs.declared.Command.{Command}

-- ---- demand 1, beside the contracts

-- [Declines.1a] A call is refused by the first of its tests that fails, with that test's number; where none fails it is
-- carried out. declines/specs/Refusals has the tests of every call in the documents' order; a plain register call is that of
-- the whole run (WholeRunIsPlainWrite, WholeRunIsPlainRead in Bytes).
abbrev pub RefusesInOrder : Type 0
RefusesInOrder =
    (a : Ask) (memory : List ℕ) (s : Supervisor) → decline_or_zero (ask_of a memory s).reply ≡ first_of (refusals_of a memory s)

-- [Declines.1b] A refusal leaves the record as it is; only a refusal with 4 sets a status bit: 19 for a write, 20 for a
-- read.
abbrev pub RefusalLeavesRecord : Type 0
RefusalLeavesRecord =
    (a : Ask) (memory : List ℕ) (s : Supervisor)
    → Leaves (status_bit a) s (ask_of a memory s).reply (ask_of a memory s).next

-- [Declines.1b] A refusal leaves the lent memory as it is.
abbrev pub RefusalLeavesMemory : Type 0
RefusalLeavesMemory =
    (a : Ask) (memory : List ℕ) (s : Supervisor) (n : ℕ) → (ask_of a memory s).reply ≡ declined n → memory_after a memory s ≡ memory

-- [Declines.2a] [Declines.3a] [Declines.4a] [Declines.5a] A spoiled record refuses every call that takes one with 1,
-- before all else.
abbrev pub SpoiledRecordRefuses : Type 0
SpoiledRecordRefuses =
    (a : Ask) (memory : List ℕ) (s : Supervisor) → is_spoiled_of s ≡ true → (ask_of a memory s).reply ≡ declined 1

-- ---- demand 3

-- [Account.1] After every list of calls from a fresh supervisor, refused ones among them, whatever memory is lent,
-- record and account balance: the words of each branch in order and at most eight held, the masks of each input, the
-- events and whether main holds the undecided one, n div (F + 1) where that is owed ([Bytes.10a]; PassCountOwed and PassCountOwedFromALoad in Bytes
-- say where at least).
abbrev pub EveryRunBalances : Type 0
EveryRunBalances = Demand3 module_branches

-- [Account.1] The same for a supervisor of any number of branches.
abbrev pub EveryRunBalancesAtAnySize : Type 0
EveryRunBalancesAtAnySize = (branches : ℕ) → Demand3 branches

-- [Account.16] What a branch of the module finished, followed by what it holds, is the same list for any two branches.
abbrev pub AnyTwoBranchesAgree : Type 0
AnyTwoBranchesAgree =
    (calls : List Call) (j k : ℕ) → j < module_branches → k < module_branches
    → words_of module_branches calls j ≡ words_of module_branches calls k

-- ---- the console

-- [Console.3] A last line that lacks its newline is read as if it had it.
abbrev pub LastNewlineMayLack : Type 0
LastNewlineMayLack =
    (b : ℕ) (bs : List ℕ) → (b == newline) ≡ false → lines_of (bs ++ (b ∷ [])) ≡ lines_of (bs ++ (b ∷ newline ∷ []))

-- [Console.5] What lines print does not depend on the lines after them.
abbrev pub AnswersDoNotLookAhead : Type 0
AnswersDoNotLookAhead =
    (ls ms : List (List ℕ)) (z : Session) → answers_from (ls ++ ms) z ≡ answers_from ls z ++ answers_from ms (session_at ls z)

-- [Console.4] Nor does where a line that is ended ends depend on the bytes after it.
abbrev pub LinesDoNotLookAhead : Type 0
LinesDoNotLookAhead = (a b : List ℕ) → lines_of (a ++ (newline ∷ b)) ≡ lines_of (a ++ (newline ∷ [])) ++ lines_of b

-- [Console.8] Every answer is one line, of bytes that document 01 allows in an answer.
abbrev pub EveryAnswerIsOneLine : Type 0
EveryAnswerIsOneLine = (c : Command) (z : Session) → OneLine (line_answer c z)

-- [Console.5] There are as many answers as lines after the first.
abbrev pub OneAnswerEachLine : Type 0
OneAnswerEachLine = (ls : List (List ℕ)) (z : Session) → newlines (answers_from ls z) ≡ length ls

-- ---- beyond the demands

-- No list of calls from a fresh supervisor reaches a spoiled record.
abbrev pub NoRunIsSpoiled : Type 0
NoRunIsSpoiled = NeverSpoiled module_branches

-- Every call leaves a record that is not spoiled so, reachable or not.
abbrev pub EveryCallKeepsUnspoiled : Type 0
EveryCallKeepsUnspoiled = (c : Call) (s : Supervisor) → OfType s → is_spoiled_of s ≡ false → KeepsUnspoiled c s

-- [Bench.1]–[Bench.9] The bench examples P1–P9, as one statement over their table.
abbrev pub BenchExamples : Type 0
BenchExamples = all_right examples ≡ true

-- [Lab.8] What an example looks at are the replies that a bystander logs of a run of its calls.
abbrev pub ExamplesAreLogged : Type 0
ExamplesAreLogged = (asks : List Ask) → replies_to asks ≡ replies_logged asks fresh_session
