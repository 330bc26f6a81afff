-- What is said of a script's answers as text, for the laws about them.
--     document 01    "Console program"
--     session_at      the session after some lines
--     OneLine        bytes that document 01 allows in an answer, then one newline
--     newlines       how many newlines there are
-- Own rules of 01 used here: none. Decisions: none. Left out: nothing.
-- Assumes nothing.
use Rattle.std.specs.Prelude.{ℕ, ◌+◌, ◌≡◌, Bool, true, false, ◌||◌, List, [], ◌∷◌, ◌++◌, eqb, if◌then◌else◌}
use Rattle.bits.specs.Bytes.{all_of}
use Rattle.text.specs.Text.{newline, is_decimal, is_capital}
use Rattle.reader.specs.Reader.{command_of}
use Rattle.declines.specs.Runs.{Session}
use Rattle.script.specs.Script.{session_after}

-- the session after these lines
abbrev pub session_at : List (List ℕ) → Session → Session
session_at [] z = z
session_at (l ∷ ls) z = session_at ls (session_after (command_of l) z)

-- a space, `-`, and the letters of `ok`, `no`, `c`, `e` and `g`
abbrev pub letters : List ℕ
letters = 32 ∷ 45 ∷ 99 ∷ 101 ∷ 103 ∷ 107 ∷ 110 ∷ 111 ∷ []

abbrev pub is_in : List ℕ → ℕ → Bool
is_in [] b = false
is_in (l ∷ ls) b = eqb b l || is_in ls b

-- [Console.8] a digit, a capital A–F, or one of these
abbrev pub is_plain : ℕ → Bool
is_plain b = is_decimal b || (is_capital b || is_in letters b)

abbrev pub Plain : List ℕ → Type 0
Plain t = all_of is_plain t ≡ true

-- [Console.8] one line, and no other newline in it: a newline is not plain
pub record OneLine (t : List ℕ) : Type 0 where
  pub text : List ℕ
  pub ends : t ≡ text ++ (newline ∷ [])
  pub plain : Plain text

abbrev pub newlines : List ℕ → ℕ
newlines [] = 0
newlines (b ∷ bs) = (if eqb b newline then 1 else 0) + newlines bs
