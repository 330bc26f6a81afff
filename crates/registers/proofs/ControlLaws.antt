-- Laws of trigger control: the code's word of counted pulses has the bits of the rule.
--     counted_at          bit i of the counted pulses is the rule for input i + 1
--     enabled_at          bit i of the enabled inputs is the enable bit of input i + 1
--     run_is_enabled      the code's run of the enable bits has them
--     counted_when_open   with no strobe asked for, or with it high, the enabled pulses count
--     counted_when_shut   in strobe mode with the strobe low none counts
--     none_counted        without a trigger none counts
-- Assumes nothing.
use Prim.Native.Nat.{ℕ, ◌/◌, ◌%◌, ◌^◌, ◌<◌}
use mathlib.Core.Path.{◌≡◌, refl, sym, ap, ◌∙◌}
use mathlib.Core.Bool.{Bool, true, false, not, ◌&&◌, ◌||◌}
use lib.Dec.{ltb}
use lib.Bits.{bit_and}
use Rattle.bits.specs.Bits.{bit_at, mask_of}
use Rattle.bits.proofs.BitsLaws.{zero_at, and_at_lem, low_at, half_at, mask_at, mask_at_below, mask_same, mask_none, words_equal_by_bits}
use Rattle.registers.specs.Control.{is_strobe_mode, is_enabled, counts, counted_of, enabled_of}
use Rattle.registers.specs.declared.control.Control.{Control}

pub counted_at : (strobe : Bool) (triggers : ℕ) (c : Control) (i : ℕ) → i < 12
    → bit_at (counted_of strobe triggers c) i ≡ counts c strobe triggers i
unfolding counted_of
counted_at strobe triggers c i h = mask_at_below 12 (counts c strobe triggers) i h

pub enabled_at : (c : Control) (i : ℕ) → i < 12 → bit_at (enabled_of c) i ≡ is_enabled c i
unfolding enabled_of
enabled_at c i h = mask_at_below 12 (is_enabled c) i h

-- [Test.3]
pub run_is_enabled : (c : Control) → c.word / 2 % 2 ^ 12 ≡ enabled_of c
unfolding enabled_of
run_is_enabled c =
    words_equal_by_bits (c.word / 2 % 2 ^ 12) (mask_of 12 (is_enabled c))
    (λ i.
    low_at 12 (c.word / 2) i
    ∙ ap (λ (t : Bool). ltb i 12 && t) (sym (half_at c.word i))
    ∙ sym (mask_at 12 (is_enabled c) i))

-- ---- the code's two returns, from the value of its test

open_bit : (below trigger enabled : Bool) → (below && (trigger && (enabled && true))) ≡ (trigger && (below && enabled))
open_bit true true true = refl
open_bit true true false = refl
open_bit true false enabled = refl
open_bit false true enabled = refl
open_bit false false enabled = refl

pub counted_when_open : (strobe : Bool) (triggers : ℕ) (c : Control) → (not (is_strobe_mode c) || strobe) ≡ true
    → bit_and triggers (enabled_of c) ≡ counted_of strobe triggers c
unfolding counted_of enabled_of
counted_when_open strobe triggers c h =
    words_equal_by_bits (bit_and triggers (mask_of 12 (is_enabled c))) (mask_of 12 (counts c strobe triggers))
    (λ i.
    and_at_lem triggers (mask_of 12 (is_enabled c)) i
    ∙ ap (λ (t : Bool). bit_at triggers i && t) (mask_at 12 (is_enabled c) i)
    ∙ sym (open_bit (ltb i 12) (bit_at triggers i) (is_enabled c i))
    ∙ ap (λ (t : Bool). ltb i 12 && (bit_at triggers i && (is_enabled c i && t))) (sym h)
    ∙ sym (mask_at 12 (counts c strobe triggers) i))

shut_bit : (trigger enabled : Bool) → false ≡ (trigger && (enabled && false))
shut_bit true true = refl
shut_bit true false = refl
shut_bit false enabled = refl

pub counted_when_shut : (strobe : Bool) (triggers : ℕ) (c : Control) → (not (is_strobe_mode c) || strobe) ≡ false
    → 0 ≡ counted_of strobe triggers c
unfolding counted_of
counted_when_shut strobe triggers c h =
    sym (mask_none 12)
    ∙ mask_same 12 (λ i. false) (counts c strobe triggers)
    (λ i k.
    shut_bit (bit_at triggers i) (is_enabled c i)
    ∙ ap (λ (t : Bool). bit_at triggers i && (is_enabled c i && t)) (sym h))

pub none_counted : (strobe : Bool) (c : Control) → counted_of strobe 0 c ≡ 0
unfolding counted_of
none_counted strobe c =
    mask_same 12 (counts c strobe 0) (λ i. false)
    (λ i h. ap (λ (t : Bool). t && (is_enabled c i && (not (is_strobe_mode c) || strobe))) (zero_at i))
    ∙ mask_none 12
