-- What the printing functions do to the buffer that the answers are printed in. A buyer need not believe it: the
-- contract of `answers` does not speak of it.
--     Page            the buffer, and the place after what is printed so far
--     write           bytes put there, one after the other
-- Own rules of 01 used here: none. Decisions: none. Left out: nothing.
-- Assumes nothing.
use Rattle.std.specs.Prelude.{ℕ, ◌+◌, List, [], ◌∷◌, ltb, length, set, if◌then◌else◌}

pub record Page : Type 0 where
  pub bytes : List ℕ
  pub at : ℕ

abbrev pub page : List ℕ → ℕ → Page
page bytes at = record { bytes = bytes; at = at }

-- a full page takes nothing more; no script fills it (script/proofs/FitLaws.antt)
unfoldable pub write_byte : ℕ → Page → Page
write_byte b p = if ltb p.at (length p.bytes) then page (set p.bytes p.at b) (p.at + 1) else p

unfoldable pub write : List ℕ → Page → Page
write [] p = p
write (b ∷ bs) p = write bs (write_byte b p)
