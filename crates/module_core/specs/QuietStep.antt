-- Which steps of main are known to be quiet: main alone changes, and nothing is reported, no outcome, no status bit, no end of a
-- wait. For the code, which settles the core by a shorter way then; that such a step is quiet is proved (quiet_is_quiet).
--     document 01    "The tick", Main
--     is_quiet_in      by the state; front is the test of Front, empty that every branch is
--     cycled_of, main_cycled_of   the step of main with that mark, in a cycle, and of a tick
-- Own rules of 01 used here: none. Decisions: F30. Left out: nothing.
-- Assumes nothing.
use Rattle.std.specs.Prelude.{ℕ, Bool, true, not, ◌||◌}
use Rattle.sequencer.specs.MainSequencer.{aged_of}
use Rattle.sequencer.specs.declared.states.State.{State}
use Rattle.sequencer.specs.declared.states.State.TheVariants.{Idle, Delay, Wait2, Wait3}
use Rattle.sequencer.specs.declared.states.State.TheVariants.{Front, Space, SyncHold, Clear}
use Rattle.scalers.specs.Scalers.{is_some}
use Rattle.trigger.specs.Lines.{has_fail2, has_fail3}
use Rattle.trigger.specs.declared.lines.Lines.{Lines}
use Rattle.trigger.specs.declared.latch.Latch.{Latch}
use Rattle.module_core.specs.Core.{tests_of, cycle_step_of, main_step_of}
use Rattle.module_core.specs.declared.Core.{Core}
use Rattle.module_core.specs.declared.cycle.Cycled.{Cycled}

-- [Main.3] [Main.5] [Main.8] [Main.14] a fail, a load and the end of Sync hold are reported, and no other move
abbrev pub is_quiet_in : Lines → (front empty : Bool) → State → Bool
is_quiet_in l front empty Idle = true
is_quiet_in l front empty Delay = true
is_quiet_in l front empty Wait2 = not (has_fail2 l)
is_quiet_in l front empty Wait3 = not (has_fail3 l)
is_quiet_in l front empty Front = not front
is_quiet_in l front empty Space = true
is_quiet_in l front empty SyncHold = not empty
is_quiet_in l front empty Clear = true

abbrev pub cycled_of : (room empty : Bool) → Lines → Core → Cycled
cycled_of room empty l c =
    record {
      step = cycle_step_of room empty l c;
      quiet = is_quiet_in l (tests_of room empty (aged_of c.main).age l c).front empty c.main.state;
    }

-- [Ready.5] the start of a cycle is quiet
abbrev pub main_cycled_of : (room empty : Bool) → Lines → Latch → (word : ℕ) → Core → Cycled
main_cycled_of room empty l latch word c =
    record {
      step = main_step_of room empty l latch word c;
      quiet = is_some latch.accepted || (cycled_of room empty l c).quiet;
    }
