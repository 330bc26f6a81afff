-- A session: asks to a fresh module over one memory, and what is looked at in its replies.
--     document 01   "Console program", the start; "When a call is declined" and "The tick", the answers
--     answered      the machine that is asked: ask_of, line by line
--     replies_to     its replies to a session
--     replies_logged   the replies that a bystander logs of the same asks in a run; `claims` says that they are the same
--     stopped, lost, rejected, accepted, passed, cleared, loaded, finished1, shown1, raised   what is looked at in a tick
--     read_out, high_bits, decline   and in the replies to other asks
-- Own rules of 01 used here: none. Decisions: none. Left out: nothing.
-- Assumes nothing.
use Rattle.std.specs.Prelude.{ℕ, zero, suc, ◌+◌, List, [], ◌∷◌, slice_index, slice_index_or, if◌then◌else◌}
use Rattle.bits.specs.Bits.{bit_at, one_if_of}
use Rattle.branch.specs.Slots.{word_of}
use Rattle.branches.specs.Readout.{no_side}
use Rattle.sequencer.specs.States.{is_cleared, outcome_words}
use Rattle.supervisor.specs.declared.Supervisor.{Supervisor}
use Rattle.supervisor.specs.declared.Answer.{Answer}
use Rattle.declines.specs.Answers.{Reply, declined, done, value, ticked, decline_or_zero}
use Rattle.declines.specs.Runs.{Ask, write_register, read_register, write_memory, read_memory, fill_memory, tick}
use Rattle.declines.specs.Runs.{Result, ask_of, memory_after, Session, session, fresh_session, after, Call, Entry, log_of}

-- ---- the replies to a session's asks

-- the machine of Runs, a line for each ask. An edit of this crate bends one of the lines: a wrong machine, which some example
-- must tell from this one
abbrev pub answered : Ask → List ℕ → Supervisor → Result
answered (write_register number run v) memory s = ask_of (write_register number run v) memory s
answered (read_register number run) memory s = ask_of (read_register number run) memory s
answered (write_memory place word) memory s = ask_of (write_memory place word) memory s
answered (read_memory place) memory s = ask_of (read_memory place) memory s
answered (fill_memory words) memory s = ask_of (fill_memory words) memory s
answered (tick x) memory s = ask_of (tick x) memory s

-- each ask is made of the record, and lent the memory, that the one before left
abbrev pub replies_by : (Ask → List ℕ → Supervisor → Result) → List Ask → Session → List Reply
replies_by machine [] z = []
replies_by machine (a ∷ rest) z =
    (machine a z.memory z.supervisor).reply
    ∷ replies_by machine rest
    (session (machine a z.memory z.supervisor).next (memory_after a z.memory z.supervisor))

abbrev pub replies_to : List Ask → List Reply
replies_to asks = replies_by answered asks fresh_session

-- ---- the same asks as calls of a run

-- each is lent the memory that the call before left
abbrev pub calls_of : List Ask → Session → List Call
calls_of [] z = []
calls_of (a ∷ rest) z = record { ask = a; memory = z.memory } ∷ calls_of rest (after a z)

abbrev pub replies_in : List Entry → List Reply
replies_in [] = []
replies_in (e ∷ es) = e.reply ∷ replies_in es

abbrev pub replies_logged : List Ask → Session → List Reply
replies_logged asks z = replies_in (log_of (calls_of asks z) z.supervisor)

-- ---- what is looked at in a reply: a number for each tick carried out, so that a declined one is missed

abbrev pub in_tick : (Answer → ℕ) → Reply → List ℕ
in_tick f (declined n) = []
in_tick f done = []
in_tick f (value v) = []
in_tick f (ticked a) = f a ∷ []

-- [Answer.1] masks; a pulse that the prescaler passes is in one of three ([Ready.2] [Ready.4] [Ready.5])
abbrev pub lost : Reply → List ℕ
lost = in_tick (λ a. a.masks.lost)

abbrev pub stopped : Reply → List ℕ
stopped = in_tick (λ a. a.masks.stopped)

abbrev pub accepted : Reply → List ℕ
accepted = in_tick (λ a. a.masks.accepted)

abbrev pub rejected : Reply → List ℕ
rejected = in_tick (λ a. a.masks.rejected)

abbrev pub passed : Reply → List ℕ
passed = in_tick (λ a. a.masks.lost + a.masks.rejected + a.masks.accepted)

-- [Answer.1] 1 in a tick that clears the event, else 0
abbrev pub cleared : Reply → List ℕ
cleared = in_tick (λ a. one_if_of (is_cleared a.outcome))

-- [Answer.1] the word of an event or tag; the word that branch 1 finishes, and the one that it shows; 0 where there is none
abbrev pub loaded : Reply → List ℕ
loaded = in_tick (λ a. slice_index (outcome_words a.outcome) 0)

abbrev pub finished1 : Reply → List ℕ
finished1 = in_tick (λ a. word_of (slice_index_or a.sides 0 no_side).finished)

abbrev pub shown1 : Reply → List ℕ
shown1 = in_tick (λ a. word_of (slice_index_or a.sides 0 no_side).shown)

-- lines out
abbrev pub raised : Reply → List ℕ
raised = in_tick (λ a. a.lines)

-- ---- and in the replies to other asks

-- [Declines.3b] the value that a read gives
abbrev pub read_out : Reply → List ℕ
read_out (declined n) = []
read_out done = []
read_out (value v) = v ∷ []
read_out (ticked a) = []

-- its bits that are 1, by their numbers: those of n bits from bit i on
abbrev pub high_from : (n i v : ℕ) → List ℕ
high_from zero i v = []
high_from (suc n) i v = if bit_at v i then i ∷ high_from n (suc i) v else high_from n (suc i) v

abbrev pub high_bits : Reply → List ℕ
high_bits (declined n) = []
high_bits done = []
high_bits (value v) = high_from 32 0 v
high_bits (ticked a) = []

-- [Declines.1a]
abbrev pub decline : Reply → List ℕ
decline r = decline_or_zero r ∷ []
