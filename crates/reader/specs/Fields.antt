-- What the code reads of a line field by field. A buyer need not believe it: what it makes of a whole line is `command_of`.
--     Field            what is left of a line begins with a field
-- Own rules of 01 used here: none. Decisions: none. Left out: nothing.
-- Assumes nothing.
use Rattle.std.specs.Prelude.{ℕ, ◌≡◌, ◌+◌, ◌<◌, ◌^◌, List, true, drop, length}
use Rattle.reader.specs.Reader.{has_field_of, number_at}

-- a field of n digits is there, with its number, and after it comes the rest
pub record Field (rest : List ℕ) (n : ℕ) (number : ℕ) (after : List ℕ) : Type 0 where
  pub form : has_field_of rest 0 n ≡ true
  pub value : number ≡ number_at rest 1 n
  pub bound : number < 16 ^ n
  pub follows : after ≡ drop (n + 1) rest
  pub within : length rest ≡ n + 1 + length after
