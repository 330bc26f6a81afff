-- The answers fit: five bytes for each byte of script.
--     room_of            the most that the answer to a command takes
--     answer_room       no answer is longer than the room of its command
--     command_roomy     a line has at least a fifth of its command's room, or is empty and has room for `no 6`
--     answer_fits       both together
--     answers_fit       the answers of a whole script
-- Assumes nothing.
use Prim.Native.Nat.{ℕ, suc, ◌+◌, ◌-◌, ◌*◌, ◌≤◌}
use mathlib.Core.Path.{◌≡◌, refl, ◌∙◌}
use mathlib.Core.Bool.{Bool, true, false, cond}
use mathlib.Core.List.{List, [], ◌∷◌}
use native.Mathlib.Omega.{arith}
use lib.Dec.{eqb, leb}
use lib.ListN.{length, length-append}
use borrow.Author.Tests.{eqb-true, leb-true}
use Rattle.bits.proofs.TestLaws.{and_right, by_cond}
use Rattle.branch.specs.Slots.{Slot}
use Rattle.std.specs.Prelude.{None, Some}
use Rattle.sequencer.specs.declared.states.Outcome.{Outcome}
use Rattle.sequencer.specs.declared.states.Outcome.TheVariants.{Nothing, Cleared, Event, Tag}
use Rattle.std.specs.Prelude.{Result, Ok, Err}
use Rattle.supervisor.specs.declared.Answer.{Answer}
use Rattle.trigger.specs.Lines.{inputs_of}
use Rattle.declines.specs.Answers.{verdict_reply, reading_reply, tick_reply}
use Rattle.declines.specs.Calls.{write_register_of, read_register_of, write_memory_of, read_memory_of, tick_of}
use Rattle.declines.proofs.BytesCallsLaws.{plain_write_reply, plain_read_reply}
use Rattle.declines.specs.declared.Decline.{Decline}
use Rattle.text.proofs.PageLaws.{hex_length}
use Rattle.reader.specs.Reader.{before_first, lines_of}
use Rattle.reader.specs.Reader.{has_field_of, has_fields, has_form, number_at, command_of, byte_of}
use Rattle.reader.specs.Reader.{is_write_register_of, is_read_register_of, is_write_memory_of, is_read_memory_of, is_tick_of}
use Rattle.printer.specs.Printer.{outcome_text, slot_text, side_at, fields_of, spaced, malformed, no_text, reply_text}
use Rattle.declines.specs.Runs.{Session, fresh_session}
use Rattle.script.specs.Script.{capacity, line_answer, session_after}
use Rattle.script.specs.Script.{answers_from, is_header_of, answers_after_header, answers_of}
use Rattle.text.specs.Text.{newline}
use Rattle.reader.specs.declared.Command.{Command}
use Rattle.reader.specs.declared.Command.TheVariants.{WriteRegister, ReadRegister, WriteMemory}
use Rattle.reader.specs.declared.Command.TheVariants.{ReadMemory, Tick, Other}

-- ---- how long a text is

slot_length : (s : Slot) → length (slot_text s) ≤ 2
slot_length None = omega arith
slot_length (Some w) = omega (arith, hex_length 2 w)

outcome_length : (o : Outcome) → length (outcome_text o) ≤ 3
outcome_length Nothing = omega arith
outcome_length Cleared = omega arith
outcome_length (Event w) = omega (arith, hex_length 2 w)
outcome_length (Tag w) = omega (arith, hex_length 2 w)

tick_length : (a : Answer) → length (spaced (fields_of a)) ≤ 53
tick_length a =
    simp (length-append, hex_length)
    (omega (
      arith,
      outcome_length a.outcome,
      slot_length (side_at a.sides 0).finished,
      slot_length (side_at a.sides 1).finished,
      slot_length (side_at a.sides 2).finished,
      slot_length (side_at a.sides 3).finished,
      slot_length (side_at a.sides 0).shown,
      slot_length (side_at a.sides 1).shown,
      slot_length (side_at a.sides 2).shown,
      slot_length (side_at a.sides 3).shown,
    ))

verdict_length : (r : Result Unit Decline) → length (reply_text 0 (verdict_reply r)) ≤ 5
verdict_length (Ok u) = omega arith
verdict_length (Err d) = omega arith

reading_length : (n : ℕ) (r : Result ℕ Decline) → 4 ≤ n → length (reply_text n (reading_reply r)) ≤ n + 1
reading_length n (Ok v) h = simp (length-append, hex_length) (omega arith)
reading_length n (Err d) h = omega arith

tick_reply_length : (r : Result Answer Decline) → length (reply_text 0 (tick_reply r)) ≤ 53
tick_reply_length (Ok a) = tick_length a
tick_reply_length (Err d) = omega arith

-- ---- room for it

abbrev pub room_of : Command → ℕ
room_of (WriteRegister number v) = 5
room_of (ReadRegister number) = 9
room_of (WriteMemory place w) = 5
room_of (ReadMemory place) = 5
room_of (Tick triggers lines acks) = 53
room_of Other = 5

pub answer_room : (c : Command) (z : Session) → length (line_answer c z) ≤ room_of c
answer_room (WriteRegister number v) z =
    rw (plain_write_reply number v z.supervisor)
    (verdict_length (write_register_of number v z.supervisor).answer)
answer_room (ReadRegister number) z =
    rw (plain_read_reply number z.supervisor)
    (reading_length 8 (read_register_of number z.supervisor).answer (omega arith))
answer_room (WriteMemory place w) z = verdict_length (write_memory_of z.memory place z.supervisor).answer
answer_room (ReadMemory place) z = reading_length 4 (read_memory_of z.memory place z.supervisor).answer (omega arith)
answer_room (Tick triggers lines acks) z =
    tick_reply_length (tick_of z.memory (inputs_of triggers lines acks) z.supervisor).answer
answer_room Other z = omega arith

-- ---- how long a line is

abbrev total : List ℕ → ℕ
total [] = 0
total (n ∷ ns) = 1 + n + total ns

fields_length : (l : List ℕ) (at : ℕ) (counts : List ℕ) → has_fields l at counts ≡ true → length l ≡ at + total counts
fields_length l at [] h = eqb-true (length l) at h ∙ omega arith
fields_length l at (n ∷ ns) h =
    fields_length l (at + 1 + n) ns (and_right (has_field_of l at n) (has_fields l (at + 1 + n) ns) h) ∙ omega arith

form_length : (letter : ℕ) (counts : List ℕ) (l : List ℕ) → has_form letter counts l ≡ true → length l ≡ 1 + total counts
form_length letter counts l h =
    fields_length l 1 counts (and_right (eqb (byte_of l 0) letter) (has_fields l 1 counts) h)

record Roomy (l : List ℕ) (c : Command) : Type 0 where
  fits : room_of c ≤ 5 + 5 * (length l - 1)

-- what a chosen command needs, it has if its form was found
chosen : (l : List ℕ) (t : Bool) (a b : Command) → (t ≡ true → Roomy l a) → Roomy l b → Roomy l (cond t a b)
chosen l true a b f g = f refl
chosen l false a b f g = g

command_roomy : (l : List ℕ) → Roomy l (command_of l)
unfolding command_of
command_roomy l =
    chosen l (is_write_register_of l) (WriteRegister (number_at l 2 2) (number_at l 5 8)) _
    (λ h. record { fits = omega (arith, form_length 87 (2 ∷ 8 ∷ []) l h) })
    (chosen l (is_read_register_of l) (ReadRegister (number_at l 2 2)) _
    (λ h. record { fits = omega (arith, form_length 82 (2 ∷ []) l h) })
    (chosen l (is_write_memory_of l) (WriteMemory (number_at l 2 3) (number_at l 6 4)) _
    (λ h. record { fits = omega (arith, form_length 77 (3 ∷ 4 ∷ []) l h) })
    (chosen l (is_read_memory_of l) (ReadMemory (number_at l 2 3)) _
    (λ h. record { fits = omega (arith, form_length 86 (3 ∷ []) l h) })
    (chosen l (is_tick_of l) (Tick (number_at l 2 3) (number_at l 6 2) (number_at l 9 8)) Other
    (λ h. record { fits = omega (arith, form_length 84 (3 ∷ 2 ∷ 8 ∷ []) l h) })
    (record { fits = omega arith })))))

answer_fits : (l : List ℕ) (z : Session) → length (line_answer (command_of l) z) ≤ 5 + 5 * (length l - 1)
answer_fits l z = omega (arith, answer_room (command_of l) z, (command_roomy l).fits)

-- ---- a whole script

-- what the answers of some lines take, at most
abbrev lines_room : List (List ℕ) → ℕ
lines_room [] = 0
lines_room (l ∷ ls) = 5 + 5 * (length l - 1) + lines_room ls

lines_fit : (ls : List (List ℕ)) (z : Session) → length (answers_from ls z) ≤ lines_room ls
unfolding answers_from
lines_fit [] z = omega arith
lines_fit (l ∷ ls) z =
    rw length-append (omega (arith, answer_fits l z, lines_fit ls (session_after (command_of l) z)))

byte_room : (b : ℕ) (ls : List (List ℕ)) → lines_room (before_first b ls) ≤ 5 + lines_room ls
byte_room b [] = omega arith
byte_room b (l ∷ ls) = omega arith

script_room : (script : List ℕ) → lines_room (lines_of script) ≤ 5 * length script
unfolding lines_of
script_room [] = omega arith
script_room (b ∷ bs) =
    by_cond (λ (ls : List (List ℕ)). lines_room ls ≤ 5 * suc (length bs)) (eqb b newline)
    (λ _. omega (arith, script_room bs))
    (λ _. omega (arith, script_room bs, byte_room b (lines_of bs)))

header_fits : (ls : List (List ℕ)) → lines_room ls ≤ capacity → length (answers_after_header ls) ≤ capacity
unfolding answers_after_header
header_fits [] h = omega arith
header_fits (l ∷ ls) h =
    by_cond (λ (t : List ℕ). length t ≤ capacity) (is_header_of l)
    (λ _. omega (arith, lines_fit ls fresh_session))
    (λ _. omega arith)

limit_fits : (limit : ℕ) (script : List ℕ) → 5 * limit ≤ capacity →
    length (cond (leb (length script) limit) (answers_after_header (lines_of script)) (no_text malformed)) ≤ capacity
limit_fits limit script k =
    by_cond (λ (t : List ℕ). length t ≤ capacity) (leb (length script) limit)
    (λ h. header_fits (lines_of script) (omega (arith, script_room script, leb-true (length script) limit h)))
    (λ _. omega arith)

pub answers_fit : (script : List ℕ) → length (answers_of script) ≤ capacity
unfolding answers_of
answers_fit script = limit_fits _ script (omega arith)
