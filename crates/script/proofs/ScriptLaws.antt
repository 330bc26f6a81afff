-- What follows from the definitions of a script's answers.
--     answers_so_far        nor does what they print
--     answer_is_line        an answer is bytes that document 01 allows, then its one newline
--     answers_count         as many answers as lines after the first
-- Assumes nothing.
use Prim.Native.Nat.{ℕ, zero, suc, ◌+◌, ◌/◌, ◌%◌, ◌^◌, ◌<◌, ◌≤◌}
use mathlib.Core.Path.{◌≡◌, refl, sym, ap, ◌∙◌}
use mathlib.Core.Bool.{Bool, true, false, ◌||◌, false≢true}
use mathlib.Core.List.{List, [], ◌∷◌, ◌++◌, append_assoc}
use native.Mathlib.Omega.{arith}
use lib.Dec.{eqb, ltb, leb}
use lib.ListN.{length}
use borrow.Author.Tests.{ne_eqb, le-leb, ltb-true, ltb-false}
use Rattle.bits.specs.Bytes.{all_of}
use Rattle.bits.proofs.BytesLaws.{all_append}
use Rattle.bits.proofs.TestLaws.{and_left, and_right, and_both, or_true, by_cond}
use Rattle.branch.specs.Slots.{Slot}
use Rattle.std.specs.Prelude.{None, Some}
use Rattle.sequencer.specs.declared.states.Outcome.{Outcome}
use Rattle.sequencer.specs.declared.states.Outcome.TheVariants.{Nothing, Cleared, Event, Tag}
use Rattle.std.specs.Prelude.{Result, Ok, Err}
use Rattle.supervisor.specs.declared.Answer.{Answer}
use Rattle.trigger.specs.Lines.{inputs_of}
use Rattle.declines.specs.Answers.{decline_number, verdict_reply, reading_reply, tick_reply}
use Rattle.declines.specs.Calls.{write_register_of, read_register_of, write_memory_of, read_memory_of, tick_of}
use Rattle.declines.proofs.BytesCallsLaws.{plain_write_reply, plain_read_reply}
use Rattle.declines.specs.declared.Decline.{Decline}
use Rattle.declines.specs.declared.Decline.TheVariants.{Spoiled, Length, Place, Active, Value}
use Rattle.text.specs.Text.{newline, space, hex_digit, hex, is_decimal, is_capital}
use Rattle.reader.specs.Reader.{command_of}
use Rattle.printer.specs.Printer.{outcome_text, slot_text, side_at, fields_of, spaced, reply_text, no_text}
use Rattle.declines.specs.Runs.{Session}
use Rattle.script.specs.Script.{line_answer, session_after, answers_from}
use Rattle.script.specs.AnswerLines.{session_at, letters, is_in, is_plain, Plain, OneLine, newlines}
use Rattle.reader.specs.declared.Command.{Command}
use Rattle.reader.specs.declared.Command.TheVariants.{WriteRegister, ReadRegister, WriteMemory}
use Rattle.reader.specs.declared.Command.TheVariants.{ReadMemory, Tick, Other}

-- ---- answers

-- [Console.5] what the lines before print does not depend on the lines after
pub answers_so_far : (ls ms : List (List ℕ)) (z : Session) →
    answers_from (ls ++ ms) z ≡ answers_from ls z ++ answers_from ms (session_at ls z)
unfolding answers_from
answers_so_far [] ms z = refl
answers_so_far (l ∷ ls) ms z =
    ap (λ (t : List ℕ). line_answer (command_of l) z ++ t) (answers_so_far ls ms (session_after (command_of l) z))
    ∙ sym (append_assoc (line_answer (command_of l) z) (answers_from ls (session_after (command_of l) z)) (answers_from ms (session_at ls (session_after (command_of l) z))))

-- ---- what an answer is made of

or_first : (p q : Bool) → p ≡ true → (p || q) ≡ true
or_first true q h = refl
or_first false q h = absurd (false≢true h)

digit_plain : (d : ℕ) → d < 16 → is_plain (hex_digit d) ≡ true
digit_plain d h =
    by_cond (λ (b : ℕ). is_plain b ≡ true) (ltb d 10)
    (λ k.
    let low : d < 10 = ltb-true d 10 k in
    or_first (is_decimal (48 + d)) (is_capital (48 + d) || is_in letters (48 + d))
    (and_both (leb 48 (48 + d)) (leb (48 + d) 57) (le-leb 48 (48 + d) (omega arith)) (le-leb (48 + d) 57 (omega arith))))
    (λ k.
    let high : 10 ≤ d = ltb-false d 10 k in
    or_true (is_decimal (55 + d)) (is_capital (55 + d) || is_in letters (55 + d))
    (or_first (is_capital (55 + d)) (is_in letters (55 + d))
    (and_both (leb 65 (55 + d)) (leb (55 + d) 70) (le-leb 65 (55 + d) (omega arith)) (le-leb (55 + d) 70 (omega arith)))))

hex_plain : (n v : ℕ) → Plain (hex n v)
unfolding hex
hex_plain zero v = refl
hex_plain (suc n) v =
    and_both (is_plain (hex_digit (v / 16 ^ n % 16))) (all_of is_plain (hex n v))
    (digit_plain (v / 16 ^ n % 16) (omega arith))
    (hex_plain n v)

slot_plain : (s : Slot) → Plain (slot_text s)
slot_plain None = refl
slot_plain (Some w) = hex_plain 2 w

outcome_plain : (o : Outcome) → Plain (outcome_text o)
outcome_plain Nothing = refl
outcome_plain Cleared = refl
outcome_plain (Event w) = hex_plain 2 w
outcome_plain (Tag w) = hex_plain 2 w

-- ---- every answer is such bytes and one newline

data PlainFields : List (List ℕ) → Type 0 where
  none : PlainFields []
  also : (f : List ℕ) {fs : List (List ℕ)} → Plain f → PlainFields fs → PlainFields (f ∷ fs)

spaced_line : {fs : List (List ℕ)} → PlainFields fs → OneLine (spaced fs)
spaced_line none = record { text = []; ends = refl; plain = refl }
spaced_line (also f h none) = record { text = f; ends = refl; plain = h }
spaced_line (also f h (also g k ks)) =
    let rest = spaced_line (also g k ks) in
    record {
      text = f ++ (space ∷ rest.text);
      ends = ap (λ (t : List ℕ). f ++ (space ∷ t)) rest.ends ∙ sym (append_assoc f (space ∷ rest.text) (newline ∷ []));
      plain = all_append is_plain f (space ∷ rest.text) h rest.plain;
    }

tick_line : (a : Answer) → OneLine (spaced (fields_of a))
tick_line a =
    spaced_line
    (also (hex 3 a.masks.stopped) (hex_plain 3 a.masks.stopped)
    (also (hex 3 a.masks.scaled) (hex_plain 3 a.masks.scaled)
    (also (hex 3 a.masks.lost) (hex_plain 3 a.masks.lost)
    (also (hex 3 a.masks.rejected) (hex_plain 3 a.masks.rejected)
    (also (hex 3 a.masks.accepted) (hex_plain 3 a.masks.accepted)
    (also (hex 4 a.lines) (hex_plain 4 a.lines)
    (also (outcome_text a.outcome) (outcome_plain a.outcome)
    (also (slot_text (side_at a.sides 0).finished) (slot_plain (side_at a.sides 0).finished)
    (also (slot_text (side_at a.sides 1).finished) (slot_plain (side_at a.sides 1).finished)
    (also (slot_text (side_at a.sides 2).finished) (slot_plain (side_at a.sides 2).finished)
    (also (slot_text (side_at a.sides 3).finished) (slot_plain (side_at a.sides 3).finished)
    (also (slot_text (side_at a.sides 0).shown) (slot_plain (side_at a.sides 0).shown)
    (also (slot_text (side_at a.sides 1).shown) (slot_plain (side_at a.sides 1).shown)
    (also (slot_text (side_at a.sides 2).shown) (slot_plain (side_at a.sides 2).shown)
    (also (slot_text (side_at a.sides 3).shown) (slot_plain (side_at a.sides 3).shown) none)))))))))))))))

no_line : (d : Decline) → OneLine (no_text (decline_number d))
no_line Spoiled = record { text = 110 ∷ 111 ∷ 32 ∷ 49 ∷ []; ends = refl; plain = refl }
no_line Length = record { text = 110 ∷ 111 ∷ 32 ∷ 50 ∷ []; ends = refl; plain = refl }
no_line Place = record { text = 110 ∷ 111 ∷ 32 ∷ 51 ∷ []; ends = refl; plain = refl }
no_line Active = record { text = 110 ∷ 111 ∷ 32 ∷ 52 ∷ []; ends = refl; plain = refl }
no_line Value = record { text = 110 ∷ 111 ∷ 32 ∷ 53 ∷ []; ends = refl; plain = refl }

verdict_line : (r : Result Unit Decline) → OneLine (reply_text 0 (verdict_reply r))
verdict_line (Ok u) = record { text = 111 ∷ 107 ∷ []; ends = refl; plain = refl }
verdict_line (Err d) = no_line d

reading_line : (n : ℕ) (r : Result ℕ Decline) → OneLine (reply_text n (reading_reply r))
reading_line n (Ok v) = spaced_line (also (hex n v) (hex_plain n v) none)
reading_line n (Err d) = no_line d

tick_reply_line : (r : Result Answer Decline) → OneLine (reply_text 0 (tick_reply r))
tick_reply_line (Ok a) = tick_line a
tick_reply_line (Err d) = no_line d

pub answer_is_line : (c : Command) (z : Session) → OneLine (line_answer c z)
answer_is_line (WriteRegister number v) z =
    rw (plain_write_reply number v z.supervisor)
    (verdict_line (write_register_of number v z.supervisor).answer)
answer_is_line (ReadRegister number) z =
    rw (plain_read_reply number z.supervisor)
    (reading_line 8 (read_register_of number z.supervisor).answer)
answer_is_line (WriteMemory place w) z = verdict_line (write_memory_of z.memory place z.supervisor).answer
answer_is_line (ReadMemory place) z = reading_line 4 (read_memory_of z.memory place z.supervisor).answer
answer_is_line (Tick triggers lines acks) z =
    tick_reply_line (tick_of z.memory (inputs_of triggers lines acks) z.supervisor).answer
answer_is_line Other z = record { text = 110 ∷ 111 ∷ 32 ∷ 54 ∷ []; ends = refl; plain = refl }

-- ---- as many answers as lines

newlines_append : (a b : List ℕ) → newlines (a ++ b) ≡ newlines a + newlines b
newlines_append [] b = omega arith
newlines_append (c ∷ a) b = omega (arith, newlines_append a b)

plain_no_newline : (b : ℕ) → is_plain b ≡ true → eqb b newline ≡ false
plain_no_newline b h = ne_eqb b newline (λ e. false≢true (ap is_plain (sym e) ∙ h))

plain_newlines : (t : List ℕ) → Plain t → newlines t ≡ 0
plain_newlines [] h = refl
plain_newlines (b ∷ t) h =
    rw (plain_no_newline b (and_left (is_plain b) (all_of is_plain t) h))
    (omega (arith, plain_newlines t (and_right (is_plain b) (all_of is_plain t) h)))

line_newlines : (t : List ℕ) → OneLine t → newlines t ≡ 1
line_newlines t o =
    ap newlines o.ends
    ∙ newlines_append o.text (newline ∷ [])
    ∙ ap (λ (n : ℕ). n + 1) (plain_newlines o.text o.plain)

pub answers_count : (ls : List (List ℕ)) (z : Session) → newlines (answers_from ls z) ≡ length ls
unfolding answers_from
answers_count [] z = refl
answers_count (l ∷ ls) z =
    newlines_append (line_answer (command_of l) z) (answers_from ls (session_after (command_of l) z))
    ∙ omega (
      arith,
      line_newlines (line_answer (command_of l) z) (answer_is_line (command_of l) z),
      answers_count ls (session_after (command_of l) z),
    )
