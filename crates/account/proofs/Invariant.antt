-- What holds of the record and the account after every call: the invariant behind demand 3.
-- It has five groups, each over just what it reads of the core, the branches and the account: a call that leaves those
-- alone hands the group on. Nothing of it speaks of "spoiled": a call on a spoiled record changes neither record nor
-- account, and on any other record the test itself gives what a tick needs.
--     SettingsFollow     control, the prescalers, and the account's settings and passes
--     ModesFollow        the two modes and what waits of TEST
--     PulsesFollow       the masks' sums: AddsUp, for each input
--     EventsFollow       main's state and the account's events
--     BranchesFollow     the branches and the account's words: Ordering, for each branch
--     with_modes_lem         the others handed on where the modes change
--     Invariant          the five, of a core, a list of branches and an account
-- Assumes nothing.
use Rattle.std.proofs.Common.{◌≡◌, ℕ, ◌+◌, ◌<◌, ◌≤◌, true, List, ◌++◌, length}
use Rattle.bits.specs.Bits.{one_if_of}
use Rattle.registers.specs.Control.{inputs}
use Rattle.prescaler.specs.Prescaler.{PassCount}
use Rattle.prescaler.specs.PrescalerFields.{counter_at, factor_at}
use Rattle.prescaler.specs.declared.Prescalers.{Prescalers}
use Rattle.prescaler.specs.Prescaler.{EightPlaces}
use Rattle.branch.specs.Branch.{queue_depth, held}
use Rattle.branch.specs.declared.Branch.{Branch}
use Rattle.branches.specs.ReadoutFields.{branch_at}
use Rattle.sequencer.specs.States.{is_undecided}
use Rattle.sequencer.specs.declared.states.State.{State}
use Rattle.module_core.specs.declared.Core.{Core}
use Rattle.declines.specs.Modes.{Modes, modes_of}
use Rattle.account.specs.AccountFields.{Settings, Passes, Sums, Events, Account}

pub record SettingsFollow (enables : ℕ) (b : Prescalers) (s : Settings) (q : Passes) : Type 0 where
  -- needed by every tick: the account's pulse rule is the machine's
  pub control : s.control ≡ enables
  -- a list stands for the array of eight: needed by every pulse and by a factor write
  pub eight : EightPlaces b
  -- needed by RESET, which keeps them, and by a merge; inputs 9–12 read 0 on both sides
  pub factors : (i : ℕ) → s.factor i ≡ factor_at b i
  -- needed by every pulse: its division is p; [Bytes.10a] where that is owed
  pub count : (i : ℕ) → i < inputs → s.owed i ≡ true → PassCount (q.n i) (q.p i) (counter_at b i) (factor_at b i)

-- needed by every tick: whether it runs, and which pulses count
abbrev pub ModesFollow : Core → Modes → Type 0
ModesFollow c m = m ≡ modes_of c

-- each counted pulse is in exactly one mask
abbrev pub AddsUp : Sums → (i : ℕ) → Type 0
AddsUp s i = s.counted i ≡ s.stopped i + s.scaled i + s.lost i + s.rejected i + s.accepted i

-- needed by every counted pulse
abbrev pub PulsesFollow : Sums → Type 0
PulsesFollow s = (i : ℕ) → i < inputs → AddsUp s i

-- needed by an accept and by every outcome
pub record EventsFollow (g : State) (e : Events) : Type 0 where
  pub balance : e.accepted ≡ e.cleared + e.loaded + one_if_of e.undecided
  -- main holds the undecided event
  pub decides : e.undecided ≡ is_undecided g

-- one branch, the words that it finished and the words loaded
pub record Ordering (b : Branch) (finished words : List ℕ) : Type 0 where
  pub order : finished ++ held b ≡ words
  pub eight : length (held b) ≤ queue_depth

pub record BranchesFollow (branches : ℕ) (bs : List Branch) (finished : ℕ → List ℕ) (loaded : List ℕ) (e : Events) : Type 0
  where
    -- needed by every load
    pub words : length loaded ≡ e.loaded + e.tags
    -- needed by INITIALIZE, which makes as many branches
    pub number : length bs ≡ branches
    -- needed by every load and every finished word
    pub ordering : (k : ℕ) → k < branches → Ordering (branch_at bs k) (finished k) loaded

pub record Groups (Settings Modes Pulses Events Branches : Type 0) : Type 0 where
  pub settings : Settings
  pub modes : Modes
  pub pulses : Pulses
  pub events : Events
  pub branches : Branches

-- a call that changes the modes alone
pub with_modes_lem : {S M N P E B : Type 0} → Groups S M P E B → N → Groups S N P E B
with_modes_lem g modes =
    record { settings = g.settings; modes = modes; pulses = g.pulses; events = g.events; branches = g.branches }

abbrev pub Invariant : (branches : ℕ) → Core → List Branch → Account → Type 0
Invariant branches c bs a =
    Groups (SettingsFollow c.control.word c.prescalers a.settings a.passes) (ModesFollow c a.modes)
    (PulsesFollow a.sums) (EventsFollow c.main.state a.events) (BranchesFollow branches bs a.finished a.words a.events)
