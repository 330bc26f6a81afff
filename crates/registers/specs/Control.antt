-- Trigger control, register 1, held as the word that a read gives: its bits by name, and which pulses count.
--     document 01      "Registers", Control; "The tick", Pulses; document 02, N5
--     is_strobe_mode, is_enabled, opens_prescales   the bits by name
--     counts           a pulse of input i + 1 counts
--     counted_of        the counted pulses of a tick
--     enabled_of        the inputs that are enabled
-- Own rules of 01 used here: none. Decisions: none. Left out: nothing.
-- Assumes nothing.
use Rattle.std.specs.Prelude.{ℕ, suc, Bool, not, ◌&&◌, ◌||◌}
use Rattle.bits.specs.Bits.{bit_at, mask_of}
use Rattle.registers.specs.declared.control.Control.{Control}

-- [Tick.1] the trigger inputs
abbrev pub inputs : ℕ
inputs = 12

-- [Registers.4] every bit 0
abbrev pub fresh_of : Control
fresh_of = record { word = 0 }

-- ---- the bits by their names in [Control.1]

abbrev pub is_strobe_mode : Control → Bool
is_strobe_mode c = bit_at c.word 0

-- input i + 1
abbrev pub is_enabled : Control → (i : ℕ) → Bool
is_enabled c i = bit_at c.word (suc i)

abbrev pub opens_prescales : Control → Bool
opens_prescales c = bit_at c.word 15

-- ---- the pulses of a tick: bit i of triggers is input i + 1, strobe the strobe line

-- [Pulses.1] its enable bit is set; strobe mode asks for a high strobe besides
abbrev pub counts : Control → (strobe : Bool) (triggers i : ℕ) → Bool
counts c strobe triggers i = bit_at triggers i && (is_enabled c i && (not (is_strobe_mode c) || strobe))

unfoldable pub counted_of : (strobe : Bool) (triggers : ℕ) → Control → ℕ
counted_of strobe triggers c = mask_of inputs (counts c strobe triggers)

-- [Test.3] a pulse of every enabled input
unfoldable pub enabled_of : Control → ℕ
enabled_of c = mask_of inputs (is_enabled c)
