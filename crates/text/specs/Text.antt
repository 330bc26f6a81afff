-- The bytes that a script and its answers are made of.
--     document 01     "Console program"
--     tab, newline, space   the bytes that part fields and lines
--     hex_digit        the byte of one hexadecimal digit, a capital above 9
--     hex n v         n such digits of v, the highest first
--     is_digit_of       whether a byte is such a digit; digit_of: its value
-- Own rules of 01 used here: none. Decisions: none. Left out: nothing.
-- Assumes nothing.
use Rattle.std.specs.Prelude.{ℕ, zero, suc, ◌+◌, ◌-◌, ◌/◌, ◌%◌, ◌^◌, Bool, ◌&&◌, ◌||◌, List, [], ◌∷◌, ltb, leb, if◌then◌else◌}

-- ---- bytes that part lines and fields

abbrev pub tab : ℕ
tab = 9

abbrev pub newline : ℕ
newline = 10

abbrev pub space : ℕ
space = 32

-- ---- digits

-- [Console.8] 0–9 are the bytes 48–57, A–F the bytes 65–70
abbrev pub hex_digit : (d : ℕ) → ℕ
hex_digit d = if ltb d 10 then 48 + d else 55 + d

-- [Console.7] [Console.8] n digits, the highest first
unfoldable pub hex : (n v : ℕ) → List ℕ
hex zero v = []
hex (suc n) v = hex_digit (v / 16 ^ n % 16) ∷ hex n v

abbrev pub is_decimal : (b : ℕ) → Bool
is_decimal b = leb 48 b && leb b 57

abbrev pub is_capital : (b : ℕ) → Bool
is_capital b = leb 65 b && leb b 70

-- [Console.3] capitals only
unfoldable pub is_digit_of : (b : ℕ) → Bool
is_digit_of b = is_decimal b || is_capital b

-- the value of a digit; 0 for any other byte, which no form lets through
unfoldable pub digit_of : (b : ℕ) → ℕ
digit_of b = if is_decimal b then b - 48 else if is_capital b then b - 55 else 0
