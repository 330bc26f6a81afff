-- A word of the memory: what it says of the trigger pattern at whose place it stands.
--     document 01   "Registers", Memory
--     is_ok_word      level 1 OK, with a class
--     class_in_of     its class: 1–3, or 0 where no class bit is set
--     code_in, accept_in   its code and its accept pattern
-- Own rules of 01 used here: the lowest class bit decides; none means not OK. Decisions: none. Left out: nothing.
-- Assumes nothing.
use Rattle.std.specs.Prelude.{ℕ, ◌/◌, ◌%◌, Bool, ◌&&◌, ◌||◌, if◌then◌else◌}
use Rattle.bits.specs.Bits.{bit_at}

-- [Memory.2] [Memory.3] bits 1–3, the lowest set one
unfoldable pub class_in_of : ℕ → ℕ
class_in_of w = if bit_at w 1 then 1 else if bit_at w 2 then 2 else if bit_at w 3 then 3 else 0

-- [Memory.2] [Memory.3] bit 0, and a class
abbrev pub is_ok_word : ℕ → Bool
is_ok_word w = bit_at w 0 && (bit_at w 1 || (bit_at w 2 || bit_at w 3))

-- [Memory.2] bits 4–7
abbrev pub code_in : ℕ → ℕ
code_in w = w / 16 % 16

-- [Memory.2] bits 8–15
abbrev pub accept_in : ℕ → ℕ
accept_in w = w / 256 % 256
