-- A run of neighbours among the four bytes of a word: which bytes it holds, and the word that it makes of two.
--     document 02      N4; source document 001: BYTE(0) is the highest byte
--     is_run_of          it is one: neither empty nor past the four bytes
--     holds_byte        BYTE(b) is in it; holds_bit: the byte of bit i is
--     has_byte3         it holds BYTE(3): such a write loads a counter or zeroes a scaler, such a read latches a scaler
--     overlaid_of       its bytes of a value, the other bytes of an old one; cut_of: its bytes alone
--     ten_runs          all of them; is_in: one of a list
-- Own rules of 02 used here: none. Decisions: R7. Left out: nothing.
-- Assumes nothing.
use Rattle.std.specs.Prelude.{ℕ, ◌+◌, ◌-◌, ◌/◌, Bool, false, ◌&&◌, ◌||◌, List, [], ◌∷◌, eqb, ltb, leb, if◌then◌else◌}
use Rattle.bits.specs.Bits.{bit_at, mask_of}
use Rattle.run.specs.declared.Run.{Run}

-- ---- the bytes of a word

-- [Bytes.2]
abbrev pub word_bytes : ℕ
word_bytes = 4

abbrev pub word_bits : ℕ
word_bits = 32

-- [Bytes.2] BYTE(0) is bits 31–24, BYTE(3) bits 7–0: the byte of bit i
abbrev pub byte_of : (i : ℕ) → ℕ
byte_of i = 3 - i / 8

-- ---- a run

abbrev pub run : (first count : ℕ) → Run
run first count = record { first = first; count = count }

-- what a plain call writes and reads
abbrev pub whole : Run
whole = run 0 word_bytes

abbrev pub is_whole_of : Run → Bool
is_whole_of r = eqb r.first 0 && eqb r.count word_bytes

-- [Bytes.11] one that is empty or leaves the four bytes gets 7
unfoldable pub is_run_of : Run → Bool
is_run_of r = leb 1 r.count && leb (r.first + r.count) word_bytes

-- [Bytes.2] the accesses of source document 001: a byte, two neighbours, three, all four
abbrev pub ten_runs : List Run
ten_runs =
    run 0 1 ∷ run 1 1 ∷ run 2 1 ∷ run 3 1
    ∷ run 0 2 ∷ run 1 2 ∷ run 2 2
    ∷ run 0 3 ∷ run 1 3
    ∷ run 0 4
    ∷ []

-- a run is one of a list
abbrev pub is_in : Run → List Run → Bool
is_in r [] = false
is_in r (x ∷ xs) = (eqb r.first x.first && eqb r.count x.count) || is_in r xs

unfoldable pub holds_byte : Run → (b : ℕ) → Bool
holds_byte r b = leb r.first b && ltb b (r.first + r.count)

abbrev pub holds_bit : Run → (i : ℕ) → Bool
holds_bit r i = holds_byte r (byte_of i)

-- [Bytes.4a] [Bytes.5a] with BYTE(3)
abbrev pub has_byte3 : Run → Bool
has_byte3 r = holds_byte r 3

-- ---- the word that it makes

-- the bits of its bytes
abbrev pub byte_mask_of : Run → ℕ
byte_mask_of r = mask_of word_bits (holds_bit r)

-- [Bytes.3a] bit i is the value's where the run holds its byte, and the old one's elsewhere; the whole run is the value
unfoldable pub overlaid_of : Run → (old v : ℕ) → ℕ
overlaid_of r old v =
    if is_whole_of r then v
    else mask_of word_bits (λ i. if holds_bit r i then bit_at v i else bit_at old i)

-- [Bytes.7] 0 outside the run
abbrev pub cut_of : Run → (v : ℕ) → ℕ
cut_of r v = overlaid_of r 0 v
