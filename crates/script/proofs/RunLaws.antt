-- The laws of a script's run: what its lines are answered, and that the whole fits.
--     written_at, written_text, written_length   what writing a text that fits does to a page
--     answers_to, lines_answers   the answers to the commands that the lines ask
--     long_script, bad_first, good_first   the three ways of a script
--     whole_text        a text that fits, printed on an empty page, is what stands there
-- Assumes nothing.
use Prim.Native.Nat.{ℕ, suc, ◌+◌, ◌<◌, ◌≤◌}
use mathlib.Core.Path.{◌≡◌, refl, sym, ap, ◌∙◌}
use mathlib.Core.Bool.{Bool, true, false, cond, false≢true}
use mathlib.Core.List.{map, List, [], ◌∷◌, ◌++◌, append-nil, append_assoc}
use native.Mathlib.Omega.{arith}
use native.Mathlib.Numerals.{add-one}
use lib.ListN.{length, take, drop, set, length-set}
use lib.Seq.{take-suc-set}
use borrow.Author.Tests.{lt-ltb, le-leb, lt-leb}
use Rattle.bits.specs.Bytes.{is_same_of}
use Rattle.reader.specs.Reader.{lines_of, line_length_of, command_of}
use Rattle.declines.specs.Runs.{Session, fresh_session}
use Rattle.script.specs.Script.{script_limit, capacity, line_answer, session_after}
use Rattle.script.specs.Script.{answers_from, is_header_of, answers_after_header, answers_of}
use Rattle.printer.specs.Printer.{malformed, no_text}
use Rattle.text.specs.Page.{Page, page, write, write_byte}
use Rattle.reader.specs.declared.Command.{Command}
use Rattle.reader.proofs.ReaderLaws.{lines_first}

-- ---- a text that fits

byte_fits : (b : ℕ) (p : Page) → p.at < length p.bytes → write_byte b p ≡ page (set p.bytes p.at b) (p.at + 1)
unfolding write_byte
byte_fits b p h = rw (lt-ltb p.at (length p.bytes) h)

pub written_at : (bs : List ℕ) (l : List ℕ) (at : ℕ) → at + length bs ≤ length l →
    (write bs (page l at)).at ≡ at + length bs
unfolding write
written_at [] l at h = omega arith
written_at (b ∷ bs) l at h =
    let e : at + 1 + length bs ≡ at + suc (length bs) = omega arith in
    ap (λ (p : Page). (write bs p).at) (byte_fits b (page l at) (omega arith))
    ∙ written_at bs (set l at b) (at + 1) (omega (arith, length-set l at b))
    ∙ e

pub written_length : (bs : List ℕ) (l : List ℕ) (at : ℕ) → at + length bs ≤ length l →
    length (write bs (page l at)).bytes ≡ length l
unfolding write
written_length [] l at h = refl
written_length (b ∷ bs) l at h =
    ap (λ (p : Page). length (write bs p).bytes) (byte_fits b (page l at) (omega arith))
    ∙ written_length bs (set l at b) (at + 1) (omega (arith, length-set l at b))
    ∙ length-set l at b

pub written_text : (bs : List ℕ) (l : List ℕ) (at : ℕ) → at + length bs ≤ length l →
    take (at + length bs) (write bs (page l at)).bytes ≡ take at l ++ bs
unfolding write
written_text [] l at h =
    let e : at + 0 ≡ at = omega arith in
    rw e (sym (append-nil (take at l)))
written_text (b ∷ bs) l at h =
    let e : at + suc (length bs) ≡ at + 1 + length bs = omega arith in
    let inside : at < length l = omega arith in
    ap (λ (n : ℕ). take n (write bs (write_byte b (page l at))).bytes) e
    ∙ ap (λ (p : Page). take (at + 1 + length bs) (write bs p).bytes) (byte_fits b (page l at) (omega arith))
    ∙ written_text bs (set l at b) (at + 1) (omega (arith, length-set l at b))
    ∙ rw (add-one at, take-suc-set l at b inside, append_assoc) refl

-- ---- commands, as the lines ask them

-- what they are answered, one after the other
abbrev pub answers_to : List Command → Session → List ℕ
answers_to [] z = []
answers_to (c ∷ cs) z = line_answer c z ++ answers_to cs (session_after c z)

pub lines_answers : (ls : List (List ℕ)) (z : Session) → answers_to (map command_of ls) z ≡ answers_from ls z
unfolding answers_from
lines_answers [] z = refl
lines_answers (l ∷ ls) z =
    ap (λ (t : List ℕ). line_answer (command_of l) z ++ t) (lines_answers ls (session_after (command_of l) z))

-- ---- a whole script

pub long_script : (script : List ℕ) → script_limit < length script → answers_of script ≡ no_text malformed
unfolding answers_of
long_script script h = rw (lt-leb (length script) script_limit h)

-- the first line decides
after_first : (l : List ℕ) (ls : List (List ℕ)) (t : Bool) → is_header_of l ≡ t →
    answers_after_header (l ∷ ls) ≡ cond t (answers_from ls fresh_session) (no_text malformed)
unfolding answers_after_header
after_first l ls t h = rw h

short_script : (script : List ℕ) → length script ≤ script_limit → answers_of script ≡ answers_after_header (lines_of script)
unfolding answers_of
short_script script h = rw (le-leb (length script) script_limit h)

pub bad_first : (script : List ℕ) → length script ≤ script_limit →
    is_header_of (take (line_length_of script) script) ≡ false → answers_of script ≡ no_text malformed
unfolding answers_after_header lines_of
bad_first [] h k = short_script [] h
bad_first (b ∷ bs) h k =
    short_script (b ∷ bs) h
    ∙ ap answers_after_header (lines_first (b ∷ bs) (omega arith))
    ∙ after_first (take (line_length_of (b ∷ bs)) (b ∷ bs)) (lines_of (drop (suc (line_length_of (b ∷ bs))) (b ∷ bs))) false k

pub good_first : (script : List ℕ) → length script ≤ script_limit →
    is_header_of (take (line_length_of script) script) ≡ true →
    answers_of script ≡ answers_from (lines_of (drop (line_length_of script + 1) script)) fresh_session
unfolding is_same_of line_length_of
good_first [] h k = absurd (false≢true k)
good_first (b ∷ bs) h k =
    short_script (b ∷ bs) h
    ∙ ap answers_after_header (lines_first (b ∷ bs) (omega arith))
    ∙ after_first (take (line_length_of (b ∷ bs)) (b ∷ bs)) (lines_of (drop (suc (line_length_of (b ∷ bs))) (b ∷ bs))) true k
    ∙ ap (λ (n : ℕ). answers_from (lines_of (drop n (b ∷ bs))) fresh_session) (sym (add-one (line_length_of (b ∷ bs))))

-- what a text that fits leaves on an empty page
pub whole_text : (text l l' : List ℕ) (r : ℕ) → length l ≡ capacity → length text ≤ capacity →
    page l' r ≡ write text (page l 0) → (take r l' ≡ text) × (r ≤ capacity) × (length l' ≡ capacity)
whole_text text l l' r full fits told =
    let room : 0 + length text ≤ length l = omega arith in
    let place : r ≡ 0 + length text = ap (λ (p : Page). p.at) told ∙ written_at text l 0 room in (
      (λ j. take (place j) (told j).bytes) ∙ written_text text l 0 room,
      omega arith,
      ap (λ (p : Page). length p.bytes) told ∙ written_length text l 0 room ∙ full,
    )
