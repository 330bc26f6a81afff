-- What test mode and a held clock make of a tick: the inputs in force in one that runs, whether one is held, and its masks.
--     document 02      N5
--     in_force_of        what a tick that runs meets: in test mode what was written, else what comes from outside
--     is_held_of         a tick does not run
--     held_masks_of      the masks of a held tick
-- Own rules of 02 used here: none. Decisions: R9, T9. Left out: the rest of a held tick, in supervisor.
-- Assumes nothing.
use Rattle.std.specs.Prelude.{ℕ, Bool, not, ◌&&◌, if◌then◌else◌}
use Rattle.registers.specs.Csr.{holds_clock, is_test_mode}
use Rattle.registers.specs.Control.{counted_of, enabled_of}
use Rattle.registers.specs.declared.csr.Csr.{Csr}
use Rattle.registers.specs.declared.control.Control.{Control}
use Rattle.trigger.specs.Lines.{has_strobe}
use Rattle.trigger.specs.declared.lines.Inputs.{Inputs}
use Rattle.trigger.specs.declared.latch.Masks.{Masks}
use Rattle.testing.specs.TestWord.{pulses_inputs, steps, replaces_acks, lines_of, acks_of}
use Rattle.testing.specs.declared.TestWord.{TestWord}

-- ---- test mode

-- [Test.3] the inputs that are enabled in the tick
abbrev pub test_triggers_of : Control → TestWord → ℕ
test_triggers_of control w = if pulses_inputs w then enabled_of control else 0

-- [Test.4] outside acknowledges stay in force unless bit 14 waits
abbrev pub test_acks_of : TestWord → (acks : ℕ) → ℕ
test_acks_of w acks = if replaces_acks w then acks_of w else acks

-- [Test.2] the outside triggers and lines are blocked
abbrev pub test_inputs_of : Control → TestWord → (acks : ℕ) → Inputs
test_inputs_of control w acks =
    record { triggers = test_triggers_of control w; lines = lines_of w; acks = test_acks_of w acks }

-- [Test.6] test mode is asked in the tick that runs: without it nothing of what waits acts
unfoldable pub in_force_of : Csr → Control → TestWord → Inputs → Inputs
in_force_of csr control w x = if is_test_mode csr then test_inputs_of control w x.acks else x

-- ---- hold

-- [Test.7a] [Test.8a] a single step lets the next tick through
abbrev pub is_held_of : Csr → TestWord → Bool
is_held_of csr w = holds_clock csr && not (steps w)

-- [Test.7a] every counted outside pulse is stopped, whatever GO is; in test mode none counts
abbrev pub held_pulses_of : Csr → Control → Inputs → ℕ
held_pulses_of csr control x = if is_test_mode csr then 0 else counted_of (has_strobe x.lines) x.triggers control

-- [Test.7a] the other masks are 0
unfoldable pub held_masks_of : Csr → Control → Inputs → Masks
held_masks_of csr control x =
    record { stopped = held_pulses_of csr control x; scaled = 0; lost = 0; rejected = 0; accepted = 0 }
