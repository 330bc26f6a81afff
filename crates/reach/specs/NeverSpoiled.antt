-- Beyond the demands: no list of calls reaches a spoiled record, and every call leaves a record that is not spoiled so.
--
-- Demand 3 alone would let a machine pass that goes to Idle with eight words held and then declines every call for ever:
-- its account balances. Such a machine reaches a spoiled record, and this statement refuses it.
--     document 01      "When a call is declined", Spoiled
--     OfType           what the code's types say of every record: a list alone does not say it
--     KeepsUnspoiled   every call, on every such record that is not spoiled, reachable or not
--     NeverSpoiled     after every list of calls from a fresh supervisor
-- Own rules of 01 used here: none. Decisions: none. Left out: nothing.
-- Assumes nothing.
use Rattle.std.specs.Prelude.{◌≡◌, ℕ, ◌^◌, ◌<◌, false, List}
use Rattle.prescaler.specs.Prescaler.{EightPlaces}
use Rattle.supervisor.specs.Supervisor.{fresh_of, is_spoiled_of}
use Rattle.supervisor.specs.declared.Supervisor.{Supervisor}
use Rattle.declines.specs.Runs.{Call, call_of, record_after}

pub record OfType (s : Supervisor) : Type 0 where
  -- the factors and the counters are arrays of eight
  pub eight : EightPlaces s.core.prescalers
  -- [Registers.1] the interval has 16 bits
  pub interval : s.core.sync.interval < 2 ^ 16

pub record KeepsUnspoiled (c : Call) (s : Supervisor) : Type 0 where
  pub of_type : OfType (call_of c s).next
  pub unspoiled : is_spoiled_of (call_of c s).next ≡ false

unfoldable pub NeverSpoiled : (branches : ℕ) → Type 0
NeverSpoiled branches = (calls : List Call) → is_spoiled_of (record_after calls (fresh_of branches)) ≡ false
