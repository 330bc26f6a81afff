-- TEST, register 21: the bits that wait, and what each stands for.
--     document 02      N5; source document 001, section 3.10
--     pulses_inputs .. replaces_acks   the bits by name
--     written_of        what waits after a write
--     lines_of, acks_of  the lines and the acknowledges that the bits stand for
-- The bits of all writes since the latest tick that ran wait together; that tick drops them (core).
-- Own rules of 02 used here: none. Decisions: R9. Left out: which bits a write may have, in registers.
-- Assumes nothing.
use Rattle.std.specs.Prelude.{ℕ, ◌+◌, ◌/◌, Bool, false, List, [], ◌∷◌, get_or, if◌then◌else◌}
use Rattle.bits.specs.Bits.{bit_at, bits_from, mask_of, set_of, clear_of}
use Rattle.trigger.specs.declared.lines.Lines.{Lines}
use Rattle.testing.specs.declared.TestWord.{TestWord}

-- [Registers.4] nothing waits
abbrev pub fresh_of : TestWord
fresh_of = record { word = 0 }

-- ---- the bits, by their names in section 3.10

-- [Test.3]
abbrev pub pulses_inputs : TestWord → Bool
pulses_inputs w = bit_at w.word 0

-- [Test.2]
abbrev pub passes2 : TestWord → Bool
passes2 w = bit_at w.word 2

abbrev pub passes3 : TestWord → Bool
passes3 w = bit_at w.word 3

abbrev pub fails2 : TestWord → Bool
fails2 w = bit_at w.word 4

abbrev pub fails3 : TestWord → Bool
fails3 w = bit_at w.word 5

-- [Test.8a]
abbrev pub steps : TestWord → Bool
steps w = bit_at w.word 7

-- [Test.2]
abbrev pub is_busy : TestWord → Bool
is_busy w = bit_at w.word 8

abbrev pub inhibits : TestWord → Bool
inhibits w = bit_at w.word 9

-- [Test.4] of branch k + 1
abbrev pub acknowledges : TestWord → (k : ℕ) → Bool
acknowledges w k = bit_at w.word (10 + k)

-- [Test.4]
abbrev pub replaces_acks : TestWord → Bool
replaces_acks w = bit_at w.word 14

-- ---- a write

-- [Test.8a] a single step counts only under hold
abbrev pub taken_of : (hold : Bool) (v : ℕ) → ℕ
taken_of hold v = if hold then v else clear_of (bits_from 7 1) v

-- [Test.6] the pulses of several writes together; [Test.8a] several steps as one
unfoldable pub written_of : (hold : Bool) (v : ℕ) → TestWord → TestWord
written_of hold v w = record { word = set_of (taken_of hold v) w.word }

-- ---- what the bits stand for

-- [Test.2] the seven lines of [Tick.1], in its order
abbrev pub line_bits_of : TestWord → List Bool
line_bits_of w =
    pulses_inputs w  -- [Test.3] the strobe counts as high
    ∷ passes2 w
    ∷ fails2 w
    ∷ passes3 w
    ∷ fails3 w
    ∷ is_busy w
    ∷ inhibits w
    ∷ []

unfoldable pub lines_of : TestWord → Lines
lines_of w = record { word = mask_of 7 (λ i. get_or (line_bits_of w) i false) }

-- [Test.4] a bit stands for all eight lines of its branch
unfoldable pub acks_of : TestWord → ℕ
acks_of w = mask_of 32 (λ i. acknowledges w (i / 8))
