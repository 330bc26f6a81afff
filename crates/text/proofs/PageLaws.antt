-- Laws of the page: how texts written one after the other are one text.
--     write_append     a text and then another are the one followed by the other
--     write_next       a text written byte by byte
--     write_hex        the digits of a word one by one
--     hex_length       as many digits as are asked for
--     power_of_digits  the code's shift by 4 bits a digit is a division by 16 a digit
-- Assumes nothing.
use Prim.Native.Nat.{ℕ, zero, suc, ◌+◌, ◌-◌, ◌*◌, ◌/◌, ◌%◌, ◌^◌, ◌<◌}
use mathlib.Core.Path.{◌≡◌, refl, ap}
use mathlib.Core.List.{List, [], ◌∷◌, ◌++◌}
use native.Mathlib.Omega.{arith}
use lib.ListN.{length, take, get_or}
use Rattle.std.proofs.lemmas.List.{take_more}
use Rattle.text.specs.Text.{hex_digit, hex}
use Rattle.text.specs.Page.{Page, write, write_byte}

pub write_append : (a b : List ℕ) (p : Page) → write (a ++ b) p ≡ write b (write a p)
unfolding write
write_append [] b p = refl
write_append (c ∷ a) b p = write_append a b (write_byte c p)

-- one byte more of a text
pub write_next : (bs : List ℕ) (i : ℕ) (p : Page) → i < length bs →
    write (take (i + 1) bs) p ≡ write (get_or bs i 0 ∷ []) (write (take i bs) p)
write_next bs i p h = rw (take_more bs i 0 h, write_append) refl

-- ---- digits

pub write_hex : (n v : ℕ) (p : Page) → 0 < n →
    write (hex n v) p ≡ write (hex (n - 1) v) (write_byte (hex_digit (v / 16 ^ (n - 1) % 16)) p)
unfolding hex write
write_hex zero v p h = absurd (omega arith)
write_hex (suc n) v p h =
    let e : suc n - 1 ≡ n = omega arith in
    rw e refl

pub hex_length : (n v : ℕ) → length (hex n v) ≡ n
unfolding hex
hex_length zero v = refl
hex_length (suc n) v = ap suc (hex_length n v)

pub power_of_digits : (n : ℕ) → 2 ^ (4 * n) ≡ 16 ^ n
power_of_digits zero = refl
power_of_digits (suc n) =
    let e : 4 * suc n ≡ suc (suc (suc (suc (4 * n)))) = omega arith in
    rw e (omega (arith, power_of_digits n))
