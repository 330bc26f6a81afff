-- How a script is read: its lines, and what each line asks.
--     document 01     "Console program"
--     lines_of         the lines of a script
--     line_length_of, first_line_of   the first line of what is left of it, as the code reads it
--     has_form         a line of a letter and fields of so many digits
--     number_at        the number that digits of a line write
--     command_of       what a line asks; Other for a line of other form
-- Own rules of 01 used here: none. Decisions: K1. Left out: nothing.
-- Assumes nothing.
use Rattle.std.specs.Prelude.{ℕ, zero, suc, ◌+◌, ◌*◌, Bool, ◌&&◌, List, [], ◌∷◌, eqb, length, get_or, take, map, if◌then◌else◌}
use Rattle.bits.specs.Bits.{every}
use Rattle.text.specs.Text.{tab, newline, is_digit_of, digit_of}
use Rattle.reader.specs.declared.Command.{Command}
use Rattle.reader.specs.declared.Command.TheVariants.{WriteRegister, ReadRegister, WriteMemory}
use Rattle.reader.specs.declared.Command.TheVariants.{ReadMemory, Tick, Other}
use Rattle.reader.specs.declared.Line.{Line}

-- ---- lines

-- a byte put before the first line
abbrev pub before_first : ℕ → List (List ℕ) → List (List ℕ)
before_first b [] = (b ∷ []) ∷ []
before_first b (l ∷ ls) = (b ∷ l) ∷ ls

-- [Console.3] a newline ends a line and the last line may lack it: a final newline starts no further line
unfoldable pub lines_of : List ℕ → List (List ℕ)
lines_of [] = []
lines_of (b ∷ bs) = if eqb b newline then [] ∷ lines_of bs else before_first b (lines_of bs)

-- ---- the form of a line

abbrev pub byte_of : List ℕ → (i : ℕ) → ℕ
byte_of l i = get_or l i 0

abbrev pub has_digits_of : List ℕ → (at count : ℕ) → Bool
has_digits_of l at count = every count (λ i. is_digit_of (byte_of l (at + i)))

-- [Console.3] a tab, and then so many digits
abbrev pub has_field_of : List ℕ → (at count : ℕ) → Bool
has_field_of l at count = eqb (byte_of l at) tab && has_digits_of l (at + 1) count

-- field after field from a place on, and nothing behind the last one
abbrev pub has_fields : List ℕ → (at : ℕ) → (counts : List ℕ) → Bool
has_fields l at [] = eqb (length l) at
has_fields l at (n ∷ ns) = has_field_of l at n && has_fields l (at + 1 + n) ns

-- [Console.3] a letter, and a field for each count of digits
abbrev pub has_form : (letter : ℕ) → (counts : List ℕ) → List ℕ → Bool
has_form letter counts l = eqb (byte_of l 0) letter && has_fields l 1 counts

-- [Console.3] the five forms: W, R, M, V, T
abbrev pub is_write_register_of : List ℕ → Bool
is_write_register_of = has_form 87 (2 ∷ 8 ∷ [])

abbrev pub is_read_register_of : List ℕ → Bool
is_read_register_of = has_form 82 (2 ∷ [])

abbrev pub is_write_memory_of : List ℕ → Bool
is_write_memory_of = has_form 77 (3 ∷ 4 ∷ [])

abbrev pub is_read_memory_of : List ℕ → Bool
is_read_memory_of = has_form 86 (3 ∷ [])

abbrev pub is_tick_of : List ℕ → Bool
is_tick_of = has_form 84 (3 ∷ 2 ∷ 8 ∷ [])

-- ---- what a line asks

-- the number of so many digits, the highest first
unfoldable pub number_at : List ℕ → (at count : ℕ) → ℕ
number_at l at zero = 0
number_at l at (suc n) = 16 * number_at l at n + digit_of (byte_of l (at + n))

-- [Console.3] the fields of each form, by their places; [Console.5] a line of other form asks nothing
unfoldable pub command_of : List ℕ → Command
command_of l =
    if is_write_register_of l then WriteRegister (number_at l 2 2) (number_at l 5 8)
    else if is_read_register_of l then ReadRegister (number_at l 2 2)
    else if is_write_memory_of l then WriteMemory (number_at l 2 3) (number_at l 6 4)
    else if is_read_memory_of l then ReadMemory (number_at l 2 3)
    else if is_tick_of l then Tick (number_at l 2 3) (number_at l 6 2) (number_at l 9 8)
    else Other

-- ---- the line reader: what the code reads of a script from the start of a line on

-- how many bytes stand before the first newline
unfoldable pub line_length_of : List ℕ → ℕ
line_length_of [] = 0
line_length_of (b ∷ bs) = if eqb b newline then 0 else suc (line_length_of bs)

-- [Console.4] the first line of what is left
abbrev pub first_line_of : List ℕ → Line
first_line_of rest = record { len = line_length_of rest; command = command_of (take (line_length_of rest) rest) }

-- what the lines ask, one after the other
abbrev pub commands_of : List ℕ → List Command
commands_of rest = map command_of (lines_of rest)
