-- A console session: what each line prints and does, and what a whole script prints.
--     document 01     "Console program"
--     header          a script's first line
--     line_answer      what a line prints
--     session_after    the session after it
--     answers_from     what lines print, one after the other
--     answers_of       all that a script prints
-- Own rules of 01 used here: none. Decisions: K2, K3, K5. Left out: standard input and output, in console.
-- Assumes nothing.
use Rattle.std.specs.Prelude.{ℕ, Bool, List, [], ◌∷◌, ◌++◌, leb, length, if◌then◌else◌}
use Rattle.bits.specs.Bytes.{is_same_of}
use Rattle.trigger.specs.Lines.{inputs_of}
use Rattle.declines.specs.Runs.{plain_write, plain_read, write_memory, read_memory, tick}
use Rattle.declines.specs.Runs.{Session, fresh_session, reply_to, after}
use Rattle.reader.specs.Reader.{lines_of, command_of}
use Rattle.printer.specs.Printer.{malformed, reply_text, no_text}
use Rattle.reader.specs.declared.Command.{Command}
use Rattle.reader.specs.declared.Command.TheVariants.{WriteRegister, ReadRegister, WriteMemory}
use Rattle.reader.specs.declared.Command.TheVariants.{ReadMemory, Tick, Other}

-- ---- constants of document 01

-- [Console.1]
abbrev pub script_limit : ℕ
script_limit = 65536

-- how long the buffer is that the answers are printed in: five bytes for each byte of script
abbrev pub capacity : ℕ
capacity = 327680

-- [Console.2] `supervisor`, tab, `1`
abbrev pub header : List ℕ
header = 115 ∷ 117 ∷ 112 ∷ 101 ∷ 114 ∷ 118 ∷ 105 ∷ 115 ∷ 111 ∷ 114 ∷ 9 ∷ 49 ∷ []

-- ---- one line

-- [Console.5] a register is read in 8 digits, a memory word in 4
abbrev pub line_answer : Command → Session → List ℕ
line_answer (WriteRegister number v) z = reply_text 0 (reply_to (plain_write number v) z)
line_answer (ReadRegister number) z = reply_text 8 (reply_to (plain_read number) z)
line_answer (WriteMemory place w) z = reply_text 0 (reply_to (write_memory place w) z)
line_answer (ReadMemory place) z = reply_text 4 (reply_to (read_memory place) z)
line_answer (Tick triggers lines acks) z = reply_text 0 (reply_to (tick (inputs_of triggers lines acks)) z)
line_answer Other z = no_text malformed

abbrev pub session_after : Command → Session → Session
session_after (WriteRegister number v) z = after (plain_write number v) z
session_after (ReadRegister number) z = after (plain_read number) z
session_after (WriteMemory place w) z = after (write_memory place w) z
session_after (ReadMemory place) z = after (read_memory place) z
session_after (Tick triggers lines acks) z = after (tick (inputs_of triggers lines acks)) z
session_after Other z = z

-- ---- a script

-- [Console.5] a line that is declined, or of other form, does not stop the next
unfoldable pub answers_from : List (List ℕ) → Session → List ℕ
answers_from [] z = []
answers_from (l ∷ ls) z = line_answer (command_of l) z ++ answers_from ls (session_after (command_of l) z)

-- [Console.2]
abbrev pub is_header_of : List ℕ → Bool
is_header_of l = is_same_of l header

-- [Console.2] [Console.6] the lines after a right first line; no line at all has none
unfoldable pub answers_after_header : List (List ℕ) → List ℕ
answers_after_header [] = no_text malformed
answers_after_header (l ∷ ls) = if is_header_of l then answers_from ls fresh_session else no_text malformed

-- [Console.1] [Console.6]
unfoldable pub answers_of : List ℕ → List ℕ
answers_of script = if leb (length script) script_limit then answers_after_header (lines_of script) else no_text malformed
