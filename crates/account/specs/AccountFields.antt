-- The account's record, and changes of its parts. Nothing of document 01 is decided here.
--     Account     what a bystander keeps; inputs and branches are counted from 0
--     Settings    the control and the factors that were written, and where n div (F + 1) is owed
--     Passes      by input: how many of its pulses met its prescaler, and how many passed
--     Sums        by input: how many of its pulses counted, and how often each mask has its bit
--     Events      how events went on
--     no_passes, no_sums, no_events   with every number 0
--     with_settings and so on: one part changed
--     put f k v   the rule f with v at k
-- Assumes nothing.
use Rattle.std.specs.Prelude.{ℕ, Bool, false, List, ◌==◌, if◌then◌else◌}
use Rattle.declines.specs.Modes.{Modes}

-- [Account.3] whole numbers without limit, for every input
pub record Sums : Type 0 where
  pub counted : ℕ → ℕ
  pub stopped : ℕ → ℕ
  pub scaled : ℕ → ℕ
  pub lost : ℕ → ℕ
  pub rejected : ℕ → ℕ
  pub accepted : ℕ → ℕ

pub record Events : Type 0 where
  pub accepted : ℕ
  pub cleared : ℕ
  pub loaded : ℕ
  pub tags : ℕ
  -- an event is accepted and neither cleared nor loaded
  pub undecided : Bool

-- what was written, as a bystander knows it
pub record Settings : Type 0 where
  pub control : ℕ
  -- of each input
  pub factor : ℕ → ℕ
  -- [Bytes.10a] of each input: its factor has not changed since its counter was loaded
  pub owed : ℕ → Bool

-- of each input: counted pulses not stopped, and those passed, since its counter was last loaded, RESET or INITIALIZE
pub record Passes : Type 0 where
  pub n : ℕ → ℕ
  pub p : ℕ → ℕ

pub record Account : Type 0 where
  pub settings : Settings
  -- [Test.9] the two modes, and what waits of TEST
  pub modes : Modes
  pub passes : Passes
  pub sums : Sums
  pub events : Events
  -- the words loaded, and of each branch the words finished, in order
  pub words : List ℕ
  pub finished : ℕ → List ℕ

abbrev pub no_passes : Passes
no_passes = record { n = λ i. 0; p = λ i. 0 }

abbrev pub no_sums : Sums
no_sums = record { counted = λ i. 0; stopped = λ i. 0; scaled = λ i. 0; lost = λ i. 0; rejected = λ i. 0; accepted = λ i. 0 }

abbrev pub no_events : Events
no_events = record { accepted = 0; cleared = 0; loaded = 0; tags = 0; undecided = false }

abbrev pub with_settings : Settings → Account → Account
with_settings v a = record { settings = v; modes = a.modes; passes = a.passes; sums = a.sums; events = a.events; words = a.words; finished = a.finished }

abbrev pub with_modes : Modes → Account → Account
with_modes v a = record { settings = a.settings; modes = v; passes = a.passes; sums = a.sums; events = a.events; words = a.words; finished = a.finished }

abbrev pub with_passes : Passes → Account → Account
with_passes v a = record { settings = a.settings; modes = a.modes; passes = v; sums = a.sums; events = a.events; words = a.words; finished = a.finished }

abbrev pub put : {A : Type 0} → (ℕ → A) → (k : ℕ) (v : A) → ℕ → A
put f k v i = if i == k then v else f i
