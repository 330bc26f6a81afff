-- How an answer is printed.
--     document 01     "Console program"
--     reply_text       the bytes of a reply, newline included; a value gets the digits of its width
--     refusal_number   the number that comes after `no`
--     fields_of        the fifteen fields of a tick's answer
--     spaced          fields with one space between
-- Own rules of 01 used here: none. Decisions: none. Left out: nothing.
-- Assumes nothing.
use Rattle.std.specs.Prelude.{ℕ, ◌+◌, List, [], ◌∷◌, ◌++◌, get_or}
use Rattle.branch.specs.Slots.{Slot}
use Rattle.std.specs.Prelude.{None, Some}
use Rattle.branches.specs.Readout.{no_side}
use Rattle.branches.specs.declared.Side.{Side}
use Rattle.sequencer.specs.declared.states.Outcome.{Outcome}
use Rattle.sequencer.specs.declared.states.Outcome.TheVariants.{Nothing, Cleared, Event, Tag}
use Rattle.supervisor.specs.declared.Answer.{Answer}
use Rattle.printer.specs.declared.Refusal.{Refusal}
use Rattle.printer.specs.declared.Refusal.TheVariants.{Declined, Malformed}
use Rattle.declines.specs.Answers.{decline_number, Reply, declined, done, value, ticked}
use Rattle.text.specs.Text.{newline, space, hex}

-- ---- fields

abbrev pub dash : List ℕ
dash = 45 ∷ []

-- [Console.7] `-`, `c`, or `e` or `g` with the word
abbrev pub outcome_text : Outcome → List ℕ
outcome_text Nothing = dash
outcome_text Cleared = 99 ∷ []
outcome_text (Event w) = 101 ∷ hex 2 w
outcome_text (Tag w) = 103 ∷ hex 2 w

-- [Console.7] `-` or the word
abbrev pub slot_text : Slot → List ℕ
slot_text None = dash
slot_text (Some w) = hex 2 w

abbrev pub side_at : List Side → (b : ℕ) → Side
side_at sides b = get_or sides b no_side

abbrev pub finished_text : List Side → (b : ℕ) → List ℕ
finished_text sides b = slot_text (side_at sides b).finished

abbrev pub shown_text : List Side → (b : ℕ) → List ℕ
shown_text sides b = slot_text (side_at sides b).shown

-- [Console.7] masks, lines, outcome, what each branch finished, what each shows
abbrev pub fields_of : Answer → List (List ℕ)
fields_of a =
    hex 3 a.masks.stopped
    ∷ hex 3 a.masks.scaled
    ∷ hex 3 a.masks.lost
    ∷ hex 3 a.masks.rejected
    ∷ hex 3 a.masks.accepted
    ∷ hex 4 a.lines
    ∷ outcome_text a.outcome
    ∷ finished_text a.sides 0
    ∷ finished_text a.sides 1
    ∷ finished_text a.sides 2
    ∷ finished_text a.sides 3
    ∷ shown_text a.sides 0
    ∷ shown_text a.sides 1
    ∷ shown_text a.sides 2
    ∷ shown_text a.sides 3
    ∷ []

-- [Console.8] one space parts the fields, a newline ends the answer
abbrev pub spaced : List (List ℕ) → List ℕ
spaced [] = newline ∷ []
spaced (f ∷ []) = f ++ (newline ∷ [])
spaced (f ∷ (g ∷ fs)) = f ++ (space ∷ spaced (g ∷ fs))

-- ---- refusals

-- [Console.5] a line of other form, a bad first line, a longer script
abbrev pub malformed : ℕ
malformed = 6

-- [Console.5] document 01's number for each decline, and the console's own
abbrev pub refusal_number : Refusal → ℕ
refusal_number (Declined d) = decline_number d
refusal_number Malformed = malformed

-- ---- answers

-- [Console.5] the word `no` and the number, which is at most 6: one digit
abbrev pub no_text : (number : ℕ) → List ℕ
no_text number = spaced ((110 ∷ 111 ∷ []) ∷ ((48 + number) ∷ []) ∷ [])

-- [Console.5]
abbrev pub ok_text : List ℕ
ok_text = spaced ((111 ∷ 107 ∷ []) ∷ [])

-- [Console.5] [Console.7]
abbrev pub reply_text : (digits : ℕ) → Reply → List ℕ
reply_text digits (declined number) = no_text number
reply_text digits done = ok_text
reply_text digits (value v) = spaced (hex digits v ∷ [])
reply_text digits (ticked a) = spaced (fields_of a)
