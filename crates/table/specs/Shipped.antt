-- The twelve shipped words, one for each input: what a customer who brings none fills the memory from.
--     document 02      N7
--     shipped_words     the words
--     shipped_word_of    the rule: what the word of an input is
--     is_shipped        the word of an input, read as the module reads a memory word, says what the rule's sentence says
--     ShippedMeetsRule that each word is the rule's and reads so: one test over all entries
-- Own rules of 02 used here: none. Decisions: F37. Left out: nothing.
-- Assumes nothing.
use Rattle.std.specs.Prelude.{ℕ, suc, ◌+◌, ◌-◌, ◌*◌, ◌%◌, ◌^◌, ◌≡◌, Bool, true, ◌&&◌, List, [], ◌∷◌, eqb, leb, get_or, if◌then◌else◌}
use Rattle.bits.specs.Bits.{every}
use Rattle.registers.specs.Control.{inputs}
use Rattle.sequencer.specs.MemoryWord.{is_ok_word, class_in_of, code_in, accept_in}

-- [Table.3] those of inputs 1, 5 and 12 are the document's own examples
abbrev pub shipped_words : List ℕ
shipped_words =
    0x0119 ∷ 0x0229 ∷ 0x0439 ∷ 0x0849
    ∷ 0x1055 ∷ 0x2065 ∷ 0x4075 ∷ 0x8085
    ∷ 0x0193 ∷ 0x02A3 ∷ 0x04B3 ∷ 0x08C3
    ∷ []

-- ---- the rule, over inputs 1–12

-- [Table.2a]
abbrev pub shipped_class : (input : ℕ) → ℕ
shipped_class i = if leb i 4 then 3 else if leb i 8 then 2 else 1

-- [Table.2c]
abbrev pub shipped_accept : (input : ℕ) → ℕ
shipped_accept i = 2 ^ ((i - 1) % 8)

-- [Table.2d] bit 0, [Table.2a] the bit of its class, [Table.2b] the code from bit 4 on, [Table.2c] the accept pattern from
-- bit 8 on
unfoldable pub shipped_word_of : (input : ℕ) → ℕ
shipped_word_of i = 1 + 2 ^ shipped_class i + 16 * i + 256 * shipped_accept i

-- [Memory.2] the same by what the module finds in a memory word
unfoldable pub is_shipped : (input word : ℕ) → Bool
is_shipped i w =
    is_ok_word w
    && (eqb (class_in_of w) (shipped_class i) && (eqb (code_in w) i && eqb (accept_in w) (shipped_accept i)))

-- [Table.7] once over all entries
abbrev pub ShippedMeetsRule : Type 0
ShippedMeetsRule =
    every inputs (λ i. eqb (get_or shipped_words i 0) (shipped_word_of (suc i)) && is_shipped (suc i) (get_or shipped_words i 0)) ≡ true
