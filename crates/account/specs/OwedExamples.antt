-- Examples of where the pass count of input 1 is owed, as a table of logs.
--     document 02    N4
--     owed_logs       what a bystander logs, row by row; owed_after: whether the pass count is owed then
--     owed_answers    what each row says
-- Own rules of 02 used here: none. Decisions: R7. Left out: nothing.
-- Assumes nothing.
use Rattle.std.specs.Prelude.{ℕ, Bool, true, false, List, [], ◌∷◌, ◌++◌}
use Rattle.run.specs.Run.{run}
use Rattle.declines.specs.Answers.{declined, done}
use Rattle.declines.specs.Runs.{plain_write, write_register, Entry}
use Rattle.account.specs.Account.{start, account_of}

-- ---- writes of the factor of input 1, at register 2, as a bystander logs them

-- [Bytes.4a] with BYTE(3), and without it: BYTE(2) alone
abbrev pub loads : (v : ℕ) → Entry
loads v = record { ask = plain_write 2 v; reply = done }

abbrev pub changes : (v : ℕ) → Entry
changes v = record { ask = write_register 2 (run 2 1) v; reply = done }

abbrev pub is_declined : (v : ℕ) → Entry
is_declined v = record { ask = write_register 2 (run 2 1) v; reply = declined 4 }

-- [CSRWrite.1] [CSRWrite.2d]
abbrev pub reset : Entry
reset = record { ask = plain_write 0 0x4000; reply = done }

abbrev pub initialize : Entry
initialize = record { ask = plain_write 0 0x8000; reply = done }

-- ---- the table

abbrev pub owed_after : List (List Entry) → List Bool
owed_after [] = []
owed_after (log ∷ logs) = (account_of log start).settings.owed 0 ∷ owed_after logs

-- [Bytes.10a] changed; [Bytes.10b] only a load makes it owed again
abbrev pub changed : List Entry
changed = loads 2 ∷ changes 0x100 ∷ []

-- row 1 the start, and a load; row 2 the factor is changed, left as it was, declined
-- row 3 changed back, and left as it is now; row 4 loaded again, RESET, INITIALIZE
abbrev pub owed_logs : List (List Entry)
owed_logs =
    [] ∷ (loads 2 ∷ [])
    ∷ changed ∷ (loads 2 ∷ changes 0 ∷ []) ∷ (loads 2 ∷ is_declined 0x100 ∷ [])
    ∷ (changed ++ changes 0 ∷ []) ∷ (changed ++ changes 0x100 ∷ [])
    ∷ (changed ++ loads 2 ∷ []) ∷ (changed ++ reset ∷ []) ∷ (changed ++ initialize ∷ [])
    ∷ []

abbrev pub owed_answers : List Bool
owed_answers =
    true ∷ true
    ∷ false ∷ true ∷ true
    ∷ false ∷ false
    ∷ true ∷ true ∷ true
    ∷ []
