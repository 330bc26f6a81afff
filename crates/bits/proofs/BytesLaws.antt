-- Laws of the bytes of a number: what a division by 256 removes, what a byte put above adds.
--     bytes_length     as many bytes as are asked for
--     bytes_at         its j-th is byte j of v
--     bytes_first      the first byte, then those of the number divided by 256
--     bytes_put        a byte put above n bytes is the last of n + 1
--     put_is_sum       a byte put above by "or" is a byte added
--     put_fits         .. and takes one byte more
--     all_append       a test passed by two lists is passed by the one followed by the other
--     all_padded       the bytes above the last one used are zeros: a test that 0 passes need not look at them
--     shift_is_byte    the code's shift to the right, masked, is a byte of the number
--     masked_fits      .. and fits in eight bits
--     shift_is_put     the code's shift to the left puts a byte above n bytes
--     first_bytes      the bytes of a number as the library has them
--     shift_is_below   the code's two shifts to the right ask whether a number has n bytes
-- Assumes nothing.
use Prim.Native.Nat.{ℕ, zero, suc, ◌+◌, ◌*◌, ◌/◌, ◌%◌, ◌^◌, ◌<◌, ◌≤◌}
use mathlib.Core.Path.{◌≡◌, refl, sym, ap, ◌∙◌}
use mathlib.Core.Bool.{Bool, true, false, ◌&&◌}
use mathlib.Core.List.{List, [], ◌∷◌, ◌++◌}
use native.Mathlib.Omega.{arith}
use native.Mathlib.Nat.{pow-suc, pow-succ', one-le-pow, pow-le-pow_right, mul_assoc}
use native.Mathlib.Nat.{mod-eq_of_lt, div-one, div-eq_of_lt, lt-div-mul-add, div-div-eq-div-mul}
use lib.ListN.{length, get_or}
use lib.Dec.{eqb, ltb, lit<}
use lib.Arith.{digits_lt}
use lib.Bits.{bit_and, bit_or, and_mask, and_le_r, or_shifted_r}
use borrow.Author.Tests.{eq-eqb, ne_eqb, ltb-true, ltb-false}
use Rattle.std.specs.Int.{bytes_low_first}
use Rattle.bits.specs.Bytes.{byte_at, bytes, all_of}
use Rattle.bits.proofs.TestLaws.{and_left, and_right, and_both}

-- ---- the bytes, one by one

pub bytes_length : (n v : ℕ) → length (bytes n v) ≡ n
unfolding bytes
bytes_length zero v = refl
bytes_length (suc n) v = ap suc (bytes_length n (v / 256))

pub bytes_at : (n v j : ℕ) → j < n → get_or (bytes n v) j 0 ≡ byte_at v j
unfolding bytes
bytes_at zero v j h = absurd (omega arith)
bytes_at (suc n) v zero h = rw (div-one v)
bytes_at (suc n) v (suc j) h =
    rw (pow-succ' 256 j, ← div-div-eq-div-mul v 256 (256 ^ j)) (bytes_at n (v / 256) j (omega arith))

pub bytes_first : (n v : ℕ) → bytes (suc n) v ≡ v % 256 ∷ bytes n (v / 256)
unfolding bytes
bytes_first n v = refl

-- ---- a byte put above the others

power_of_bytes : (n : ℕ) → 2 ^ (8 * n) ≡ 256 ^ n
power_of_bytes zero = refl
power_of_bytes (suc n) =
    let e : 8 * suc n ≡ suc (suc (suc (suc (suc (suc (suc (suc (8 * n)))))))) = omega arith in
    rw e (omega (arith, power_of_bytes n))

pub put_is_sum : (n v w : ℕ) → v < 256 ^ n → bit_or v (w * 256 ^ n) ≡ w * 256 ^ n + v
put_is_sum n v w h = rw (← power_of_bytes n) (or_shifted_r w (8 * n) v (rw (power_of_bytes n) h))

pub put_fits : (n v w : ℕ) → v < 256 ^ n → w < 256 → w * 256 ^ n + v < 256 ^ suc n
put_fits n v w h byte = rw (pow-succ' 256 n) (digits_lt byte h)

put_above : (n v w : ℕ) → w * 256 ^ suc n + v ≡ w * 256 ^ n * 256 + v
put_above n v w = rw (pow-suc 256 n, mul_assoc w (256 ^ n) 256)

pub bytes_put : (n v w : ℕ) → v < 256 ^ n → w < 256 → bytes (suc n) (w * 256 ^ n + v) ≡ bytes n v ++ (w ∷ [])
unfolding bytes
bytes_put zero v w h byte =
    let e : (w * 256 ^ 0 + v) % 256 ≡ w = omega arith in
    rw e
bytes_put (suc n) v w h byte =
    let low : (w * 256 ^ n * 256 + v) % 256 ≡ v % 256 = omega arith in
    let above : (w * 256 ^ n * 256 + v) / 256 ≡ w * 256 ^ n + v / 256 = omega arith in
    rw (put_above, low, above, bytes_put n (v / 256) w (omega arith) byte)

-- ---- a test of every byte

pub all_append : (test : ℕ → Bool) (l r : List ℕ) → all_of test l ≡ true → all_of test r ≡ true
    → all_of test (l ++ r) ≡ true
all_append test [] r hl hr = hr
all_append test (w ∷ l) r hl hr =
    let rest = all_append test l r (and_right (test w) (all_of test l) hl) hr in
    and_both (test w) (all_of test (l ++ r)) (and_left (test w) (all_of test l) hl) rest

all_zeros : (test : ℕ → Bool) (n : ℕ) → test 0 ≡ true → all_of test (bytes n 0) ≡ true
unfolding bytes
all_zeros test zero zeros = refl
all_zeros test (suc n) zeros = rw zeros (all_zeros test n zeros)

pub all_padded : (test : ℕ → Bool) (n places v : ℕ) → test 0 ≡ true → n ≤ places → v < 256 ^ n
    → all_of test (bytes places v) ≡ all_of test (bytes n v)
unfolding bytes
all_padded test zero places v zeros h below =
    let e : v ≡ 0 = omega arith in
    rw e (all_zeros test places zeros)
all_padded test (suc n) zero v zeros h below = absurd (omega arith)
all_padded test (suc n) (suc places) v zeros h below =
    ap (λ (rest : Bool). test (v % 256) && rest) (all_padded test n places (v / 256) zeros (omega arith) (omega arith))

-- ---- the shifts and masks of the code

-- [Split.2a] [Split.2b] one law for every byte
pub shift_is_byte : (w b : ℕ) → bit_and (w / 2 ^ (8 * b)) 255 ≡ byte_at w b
shift_is_byte w b = rw (power_of_bytes b) (and_mask (w / 256 ^ b) 8)

-- whatever the mask, so that a narrower one is refused for its bytes and not for its cast
pub masked_fits : (n mask : ℕ) → mask < 256 → bit_and n mask < 256
masked_fits n mask h = omega (arith, and_le_r n mask)

pub shift_is_put : (n w : ℕ) → n < 8 → w < 256 → w * 2 ^ (8 * n) % 2 ^ 64 ≡ w * 256 ^ n
shift_is_put n w h byte =
    let below : w * 256 ^ n + 0 < 256 ^ suc n = put_fits n 0 w (one-le-pow n 256 (lit< tt)) byte in
    let within : 256 ^ suc n ≤ 256 ^ 8 = pow-le-pow_right (lit< tt) h in
    rw (power_of_bytes n) (mod-eq_of_lt (omega arith))

half_power : (n : ℕ) → 2 ^ (4 * n) * 2 ^ (4 * n) ≡ 256 ^ n
half_power zero = refl
half_power (suc n) =
    let e : 4 * suc n ≡ suc (suc (suc (suc (4 * n)))) = omega arith in
    let sixteen : 2 ^ suc (suc (suc (suc (4 * n)))) ≡ 16 * 2 ^ (4 * n) = omega arith in
    rw (e, sixteen) (omega (arith, half_power n))

quotient_zero : (v n : ℕ) → 0 < n → eqb (v / n) 0 ≡ ltb v n
quotient_zero v n h = go (ltb v n) refl
  where
    go : (p : Bool) → ltb v n ≡ p → eqb (v / n) 0 ≡ p
    go true e = eq-eqb (v / n) 0 (div-eq_of_lt (ltb-true v n e))
    go false e = ne_eqb (v / n) 0 (λ z. let f = rw z at (lt-div-mul-add {a = v} h) in omega (arith, ltb-false v n e))

pub shift_is_below : (n v : ℕ) → eqb (v / 2 ^ (4 * n) / 2 ^ (4 * n)) 0 ≡ ltb v (256 ^ n)
shift_is_below n v =
    rw (div-div-eq-div-mul v (2 ^ (4 * n)) (2 ^ (4 * n)), half_power n)
    (quotient_zero v (256 ^ n) (one-le-pow n 256 (lit< tt)))

-- ---- the library's bytes

-- the bytes from one upward are those of the number without the bytes below
low_bytes : (i n v : ℕ) → bytes_low_first i n v ≡ bytes n (v / 256 ^ i)
unfolding bytes
low_bytes i zero v = refl
low_bytes zero (suc n) v = rw (div-one v) (ap (λ (l : List ℕ). v % 256 ∷ l) (low_bytes 1 n v))
low_bytes (suc i) (suc n) v =
    ap (λ (l : List ℕ). v / 256 ^ suc i % 256 ∷ l)
    (low_bytes (suc (suc i)) n v
    ∙ ap (bytes n) (ap (λ (w : ℕ). v / w) (pow-suc 256 (suc i)) ∙ sym (div-div-eq-div-mul v (256 ^ suc i) 256)))

pub first_bytes : (n v : ℕ) → bytes_low_first 0 n v ≡ bytes n v
first_bytes n v = low_bytes 0 n v ∙ ap (bytes n) (div-one v)
