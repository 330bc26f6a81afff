-- What a tick brings: the trigger bits, the seven lines by name, the acknowledges.
--     document 01    "The tick", Input
--     inputs_of                  what a tick brings, from its three numbers
--     has_strobe .. has_inhibit   the lines by name
-- Own rules of 01 used here: none. Decisions: none. Left out: the acknowledges' layout, in branches.
-- Assumes nothing.
use Rattle.std.specs.Prelude.{ℕ, Bool}
use Rattle.bits.specs.Bits.{bit_at}
use Rattle.trigger.specs.declared.lines.Lines.{Lines}
use Rattle.trigger.specs.declared.lines.Inputs.{Inputs}

-- [Tick.1]
abbrev pub inputs_of : (triggers lines acks : ℕ) → Inputs
inputs_of triggers lines acks = record { triggers = triggers; lines = record { word = lines }; acks = acks }

-- ---- the lines, by their names in [Tick.1]

abbrev pub has_strobe : Lines → Bool
has_strobe l = bit_at l.word 0

abbrev pub has_pass2 : Lines → Bool
has_pass2 l = bit_at l.word 1

abbrev pub has_fail2 : Lines → Bool
has_fail2 l = bit_at l.word 2

abbrev pub has_pass3 : Lines → Bool
has_pass3 l = bit_at l.word 3

abbrev pub has_fail3 : Lines → Bool
has_fail3 l = bit_at l.word 4

abbrev pub has_front_busy : Lines → Bool
has_front_busy l = bit_at l.word 5

abbrev pub has_inhibit : Lines → Bool
has_inhibit l = bit_at l.word 6
