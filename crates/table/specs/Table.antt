-- The table that fills the memory from twelve words, one for each input: the word at every place.
--     document 02    N7
--     is_taken_word    a word that the generator takes; are_taken: all twelve are
--     lowest_of, some_of   the lowest index at which a test holds; whether it holds at any
--     table_word_of    the word at a place
--     table_of        the words at the first places: at all 4,096 of the memory
--     ShippedPlaces  the document's examples
-- Own rules of 02 used here: none. Decisions: H1, H2. Left out: who may fill, and when it is declined, in declines.
-- Assumes nothing.
use Rattle.std.specs.Prelude.{ℕ, zero, suc, ◌+◌, Bool, false, ◌&&◌, ◌||◌, ◌≡◌, List, [], ◌∷◌, map, eqb, ltb, get_or, if◌then◌else◌}
use Rattle.std.specs.Int.Bits.{bit_and, bit_or}
use Rattle.bits.specs.Bits.{bit_at, one_if_of, mask_of, tabulate, every}
use Rattle.registers.specs.Control.{inputs}
use Rattle.table.specs.Shipped.{shipped_words}

-- ---- which words are taken

-- [Table.8b] exactly one of bits 1–3
abbrev pub has_one_class : ℕ → Bool
has_one_class w = eqb (one_if_of (bit_at w 1) + one_if_of (bit_at w 2) + one_if_of (bit_at w 3)) 1

-- [Table.8b] level 1 OK too
abbrev pub is_taken_word : ℕ → Bool
is_taken_word w = bit_at w 0 && has_one_class w

-- [Table.8b] all twelve; a list that is shorter lacks a word, and what stands behind the twelfth is none
unfoldable pub are_taken : (words : List ℕ) → Bool
are_taken words = every inputs (λ i. is_taken_word (get_or words i 0))

-- ---- one index of many

-- the lowest index below n at which the test holds, or n
unfoldable pub lowest_of : (n : ℕ) → (ℕ → Bool) → ℕ
lowest_of zero f = 0
lowest_of (suc n) f = if f 0 then 0 else suc (lowest_of n (λ i. f (suc i)))

-- whether it holds at one of them
unfoldable pub some_of : (n : ℕ) → (ℕ → Bool) → Bool
some_of zero f = false
some_of (suc n) f = f 0 || some_of n (λ i. f (suc i))

-- ---- the word at a place

-- [Memory.1] [Table.6a] the word of the lowest input in the pattern
abbrev pub lowest_word : (words : List ℕ) (place : ℕ) → ℕ
lowest_word words place = get_or words (lowest_of inputs (bit_at place)) 0

-- [Table.6a] bits 0–7 are those of the lowest input's word; a bit above is set if it is in the word of any input of the
-- pattern
abbrev pub table_bit : (words : List ℕ) (place : ℕ) → ℕ → Bool
table_bit words place b =
    if ltb b 8 then bit_at (lowest_word words place) b
    else some_of inputs (λ i. bit_at place i && bit_at (get_or words i 0) b)

-- [Table.5] [Table.6a]
unfoldable pub table_word_of : (words : List ℕ) (place : ℕ) → ℕ
table_word_of words place = if eqb place 0 then 0 else mask_of 16 (table_bit words place)

-- [Table.4] every place from 0 on
unfoldable pub table_of : (places : ℕ) (words : List ℕ) → List ℕ
table_of places words = tabulate places (table_word_of words)

-- ---- a statement

-- [Table.3] [Table.5] [Table.6b] the shipped words at the places of no input, of inputs 1, 1 and 2, 5, 12, and of all
abbrev pub ShippedPlaces : Type 0
ShippedPlaces =
    map (table_word_of shipped_words) (0x000 ∷ 0x001 ∷ 0x003 ∷ 0x010 ∷ 0x800 ∷ 0xFFF ∷ [])
    ≡ 0x0000 ∷ 0x0119 ∷ 0x0319 ∷ 0x1055 ∷ 0x08C3 ∷ 0xFF19 ∷ []

-- ---- how the code goes about it; what it comes to is proved to be the above

-- an input's word over what the inputs above it have made: its own bits 0–7, and the accept bits of both
abbrev pub over_of : (word rest : ℕ) → ℕ
over_of w rest = bit_or w (bit_and rest 0xFF00)
