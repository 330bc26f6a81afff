-- Demand 3, as one statement about the whole list.
--
-- Take any list of calls, refused ones among them, each lent any memory, made on a fresh supervisor of k branches. Let a
-- bystander keep the account of the asks and replies. Then any branch, and so any two, share it with the bystander: the
-- words that a branch finished, followed by those it holds, are the words loaded, in their order, one for each event loaded
-- and each tag; and it holds at most eight. Every counted pulse of every input is in exactly one mask. Accepted events are
-- cleared, loaded or the one undecided, and there is such a one if and only if main stands at Delay, Wait 2, Wait 3 or
-- Front. Of n pulses n div (F + 1) pass, where no write without BYTE(3) has changed the factor since the counter was loaded.
--     document 01    "The account of demand 3"; document 02, N4 and N5
--     Balanced       the statement, of a record and an account
--     Demand3        it holds after every list of calls
-- Own rules of 01 used here: none. Decisions: E1, R7. Left out: where the pass count is owed at least, in Owed.
-- Assumes nothing.
use Rattle.std.specs.Prelude.{◌≡◌, ℕ, ◌+◌, ◌/◌, ◌<◌, ◌≤◌, true, List, ◌++◌, length}
use Rattle.bits.specs.Bits.{one_if_of}
use Rattle.registers.specs.Control.{inputs}
use Rattle.branch.specs.Branch.{queue_depth, held}
use Rattle.branches.specs.ReadoutFields.{branch_at}
use Rattle.sequencer.specs.States.{is_undecided}
use Rattle.supervisor.specs.Supervisor.{fresh_of}
use Rattle.supervisor.specs.declared.Supervisor.{Supervisor}
use Rattle.declines.specs.Runs.{Call, record_after, log_of}
use Rattle.account.specs.AccountFields.{Account}
use Rattle.account.specs.Account.{start, account_of}

-- the words held by branch k + 1
abbrev pub held_at : Supervisor → (k : ℕ) → List ℕ
held_at s k = held (branch_at s.readout.branches k)

-- [Account.17] of n pulses not stopped since the counter was loaded n div (F + 1) passed
abbrev pub Divides : Account → (i : ℕ) → Type 0
Divides a i = a.passes.p i ≡ a.passes.n i / (a.settings.factor i + 1)

pub record Balanced (branches : ℕ) (s : Supervisor) (a : Account) : Type 0 where
  -- the record has that many branches
  pub number : length s.readout.branches ≡ branches
  -- [Account.15] [Account.16] finished, then held, are the words loaded, in order
  pub order : (k : ℕ) → k < branches → a.finished k ++ held_at s k ≡ a.words
  -- [Account.14] [Account.15] one word for each event loaded and each tag
  pub words : length a.words ≡ a.events.loaded + a.events.tags
  -- [Main.13] [Spoiled.1f] at most eight are held
  pub eight : (k : ℕ) → k < branches → length (held_at s k) ≤ queue_depth
  -- [Account.11] each counted pulse is in exactly one mask
  pub pulses : (i : ℕ) → i < inputs
      → a.sums.counted i
      ≡ a.sums.stopped i + a.sums.scaled i + a.sums.lost i + a.sums.rejected i + a.sums.accepted i
  -- [Account.13] [Account.14] accepted events are cleared, loaded or undecided
  pub events : a.events.accepted ≡ a.events.cleared + a.events.loaded + one_if_of a.events.undecided
  -- [Account.18] main holds the undecided one
  pub decides : a.events.undecided ≡ is_undecided s.core.main.state
  -- [Account.17] [Bytes.10a] n div (F + 1) passed, where that is owed
  pub prescales : (i : ℕ) → i < inputs → a.settings.owed i ≡ true → Divides a i

-- [Account.1]
unfoldable pub Demand3 : (branches : ℕ) → Type 0
Demand3 branches =
    (calls : List Call)
    → Balanced branches (record_after calls (fresh_of branches)) (account_of (log_of calls (fresh_of branches)) start)

-- [Account.16] what branch k + 1 has finished and holds after a run
abbrev pub words_of : (branches : ℕ) → List Call → (k : ℕ) → List ℕ
words_of branches calls k =
    (account_of (log_of calls (fresh_of branches)) start).finished k ++ held_at (record_after calls (fresh_of branches)) k
