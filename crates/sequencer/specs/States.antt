-- What document 01 says of each state of the main sequencer, and of each outcome of a tick.
--     document 01    "The tick", Main; "The account of demand 3"; document 02, N2
--     facts_of        one table of facts, a row for each state
--     is_idle, is_undecided, is_loaded, is_wait2, is_sync_hold   its columns by name
--     outcome_words   the word that an outcome loads; is_cleared, is_event, is_tag: which outcome it is
-- Own rules of 01 used here: none. Decisions: none. Left out: nothing.
-- Assumes nothing.
use Rattle.std.specs.Prelude.{ℕ, Bool, true, false, List, [], ◌∷◌}
use Rattle.sequencer.specs.declared.states.State.{State}
use Rattle.sequencer.specs.declared.states.State.TheVariants.{Idle, Delay, Wait2, Wait3}
use Rattle.sequencer.specs.declared.states.State.TheVariants.{Front, Space, SyncHold, Clear}
use Rattle.sequencer.specs.declared.states.Outcome.{Outcome}
use Rattle.sequencer.specs.declared.states.Outcome.TheVariants.{Nothing, Cleared, Event, Tag}

-- ---- the states

pub record StateFacts : Type 0 where
  -- [Main.1] 01 says "in a cycle" of every other state
  pub idle : Bool
  -- [Account.18] an event is accepted and neither cleared nor loaded
  pub undecided : Bool
  -- [Spoiled.1f] the event is loaded, and main waits for the branches: a queue may hold eight words
  pub loaded : Bool
  -- [Spoiled.1c]
  pub wait2 : Bool
  -- [State.5] a sync word is loaded and its wait has not ended
  pub sync_hold : Bool

abbrev facts : (idle undecided loaded wait2 sync_hold : Bool) → StateFacts
facts i u l w h = record { idle = i; undecided = u; loaded = l; wait2 = w; sync_hold = h }

-- a state            idle  undecided loaded wait2 sync hold
abbrev pub facts_of : State → StateFacts
facts_of Idle = facts true false false false false
facts_of Delay = facts false true false false false
facts_of Wait2 = facts false true false true false
facts_of Wait3 = facts false true false false false
facts_of Front = facts false true false false false
facts_of Space = facts false false true false false
facts_of SyncHold = facts false false true false true
facts_of Clear = facts false false false false false

abbrev pub is_idle : State → Bool
is_idle g = (facts_of g).idle

abbrev pub is_undecided : State → Bool
is_undecided g = (facts_of g).undecided

abbrev pub is_loaded : State → Bool
is_loaded g = (facts_of g).loaded

abbrev pub is_wait2 : State → Bool
is_wait2 g = (facts_of g).wait2

abbrev pub is_sync_hold : State → Bool
is_sync_hold g = (facts_of g).sync_hold

-- ---- the outcomes of a tick

-- [Account.15] the word that joins the words loaded, none or one
abbrev pub outcome_words : Outcome → List ℕ
outcome_words Nothing = []
outcome_words Cleared = []
outcome_words (Event w) = w ∷ []
outcome_words (Tag w) = w ∷ []

pub record OutcomeFacts : Type 0 where
  pub cleared : Bool
  pub event : Bool
  pub tag : Bool

abbrev outcome : (cleared event tag : Bool) → OutcomeFacts
outcome c e t = record { cleared = c; event = e; tag = t }

-- an outcome                       cleared event tag
abbrev pub outcome_facts_of : Outcome → OutcomeFacts
outcome_facts_of Nothing = outcome false false false
outcome_facts_of Cleared = outcome true false false
outcome_facts_of (Event w) = outcome false true false
outcome_facts_of (Tag w) = outcome false false true

abbrev pub is_cleared : Outcome → Bool
is_cleared o = (outcome_facts_of o).cleared

abbrev pub is_event : Outcome → Bool
is_event o = (outcome_facts_of o).event

abbrev pub is_tag : Outcome → Bool
is_tag o = (outcome_facts_of o).tag
