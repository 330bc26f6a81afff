-- Laws of test mode and of a held tick.
--     line_at, line_is_bit    a written line is the bit that stands for it, by name and by number
--     acks_at                 a written acknowledge is its branch's bit, on every line
--     written_at              what waits after a write, bit by bit
--     acks_by_branch          the code's sum of four bytes has a branch's bit for each of its lines
--     in_force_by             what is in force, part by part, by the mode
--     in_force_counts         which pulses count in a tick that runs, of the inputs in force
--     held_stops_counted      which ones a held tick stops
--     outside_is_blocked_lem, acks_are_blocked    the inputs in force in test mode are the same whatever comes from outside
-- Assumes nothing.
use Rattle.std.specs.Prelude.{if◌then◌else◌}
use Prim.Native.Nat.{ℕ, zero, suc, ◌+◌, ◌*◌, ◌/◌, ◌<◌}
use mathlib.Core.Path.{◌≡◌, refl, ap, ◌∙◌}
use mathlib.Core.Bool.{Bool, true, false, not, ◌&&◌, ◌||◌, cond}
use mathlib.Core.List.{List, [], ◌∷◌}
use native.Mathlib.Omega.{arith}
use lib.Dec.{eqb, leb, ltb, lit<}
use lib.ListN.{get_or}
use borrow.Author.Tests.{eqb-true, eqb-false, leb-true, le-ltb}
use Rattle.bits.specs.Bits.{bit_at, bits_from, one_if_of, mask_of, clear_of}
use Rattle.bits.proofs.TestLaws.{and_true}
use Rattle.bits.proofs.BitsLaws.{mask_at_below, zero_at, run_at, set_at, clear_at}
use Rattle.registers.specs.Csr.{is_test_mode}
use Rattle.registers.specs.Control.{is_strobe_mode, is_enabled, counts, counted_of, enabled_of}
use Rattle.registers.specs.declared.csr.Csr.{Csr}
use Rattle.registers.specs.declared.control.Control.{Control}
use Rattle.registers.proofs.ControlLaws.{counted_at, enabled_at}
use Rattle.trigger.specs.Lines.{has_strobe}
use Rattle.trigger.specs.declared.lines.Inputs.{Inputs}
use Rattle.testing.specs.TestWord.{pulses_inputs, acknowledges, replaces_acks, written_of, line_bits_of, lines_of, acks_of}
use Rattle.testing.specs.InForce.{test_inputs_of, in_force_of, held_pulses_of}
use Rattle.testing.specs.declared.TestWord.{TestWord}

-- ---- the lines

-- [Test.2] a line is the bit that stands for it
pub line_at : (w : TestWord) (i : ℕ) → i < 7 → bit_at (lines_of w).word i ≡ get_or (line_bits_of w) i false
unfolding lines_of
line_at w i h = mask_at_below 7 (λ i. get_or (line_bits_of w) i false) i h

-- [Test.2] [Test.3] the bits' numbers in section 3.10, in the order of the lines
abbrev pub line_numbers : List ℕ
line_numbers = 0 ∷ 2 ∷ 4 ∷ 3 ∷ 5 ∷ 8 ∷ 9 ∷ []

pub line_is_bit : (w : TestWord) (i : ℕ) → i < 7 → bit_at (lines_of w).word i ≡ bit_at w.word (get_or line_numbers i 0)
line_is_bit w i h = line_at w i h ∙ go i h
  where
    go : (i : ℕ) → i < 7 → get_or (line_bits_of w) i false ≡ bit_at w.word (get_or line_numbers i 0)
    go zero h = refl
    go (suc zero) h = refl
    go (suc (suc zero)) h = refl
    go (suc (suc (suc zero))) h = refl
    go (suc (suc (suc (suc zero)))) h = refl
    go (suc (suc (suc (suc (suc zero))))) h = refl
    go (suc (suc (suc (suc (suc (suc zero)))))) h = refl
    go (suc (suc (suc (suc (suc (suc (suc i))))))) h = absurd (omega arith)

-- ---- the acknowledges

-- [Test.4] four bytes, each all ones or 0
pub acks_by_branch : (f : ℕ → Bool)
    → 0xFF * one_if_of (f 0) + 0xFF00 * one_if_of (f 1) + 0xFF0000 * one_if_of (f 2) + 0xFF000000 * one_if_of (f 3)
    ≡ mask_of 32 (λ i. f (i / 8))
unfolding mask_of
acks_by_branch f = omega arith

-- [Test.4]
pub acks_at : (w : TestWord) (i : ℕ) → i < 32 → bit_at (acks_of w) i ≡ acknowledges w (i / 8)
unfolding acks_of
acks_at w i h = mask_at_below 32 (λ i. acknowledges w (i / 8)) i h

-- ---- a write

-- bit 7 alone
step_at_lem : (i : ℕ) → bit_at (bits_from 7 1) i ≡ eqb i 7
step_at_lem i = run_at 7 1 i ∙ go (eqb i 7) refl
  where
    go : (t : Bool) → eqb i 7 ≡ t → (leb 7 i && ltb i 8) ≡ t
    go true e = rw (eqb-true i 7 e)
    go false e = by (leb 7 i) refl
      where
        other : i ≡ 7 → ⊥
        other = eqb-false i 7 e

        by : (t : Bool) → leb 7 i ≡ t → (t && ltb i 8) ≡ false
        by true from = le-ltb i 8 (let above = leb-true 7 i from in let not7 = other in omega arith)
        by false below = refl

-- [Test.6] [Test.8a] what waited, and what is written; a single step only under hold
pub written_at : (hold : Bool) (v : ℕ) (w : TestWord) (i : ℕ)
    → bit_at (written_of hold v w).word i ≡ (bit_at w.word i || (bit_at v i && (hold || not (eqb i 7))))
unfolding written_of
written_at true v w i =
    set_at v w.word i ∙ ap (λ (t : Bool). bit_at w.word i || t) (and_true (bit_at v i))
written_at false v w i =
    set_at (clear_of (bits_from 7 1) v) w.word i
    ∙ ap (λ (t : Bool). bit_at w.word i || t)
    (clear_at (bits_from 7 1) v i ∙ ap (λ (t : Bool). bit_at v i && not t) (step_at_lem i))

-- ---- what is in force

-- [Test.2] [Test.4] a part of it, by the mode
pub in_force_by : {A : Type 0} (part : Inputs → A) (csr : Csr) (control : Control) (w : TestWord) (x : Inputs)
    → part (in_force_of csr control w x) ≡ cond (is_test_mode csr) (part (test_inputs_of control w x.acks)) (part x)
unfolding in_force_of
in_force_by part csr control w x = go (is_test_mode csr)
  where
    go : (test : Bool)
        → part (cond test (test_inputs_of control w x.acks) x) ≡ cond test (part (test_inputs_of control w x.acks)) (part x)
    go true = refl
    go false = refl

-- ---- which pulses count

-- a pulse of an enabled input, with the strobe high
pulse_counts : (enabled mode : Bool) → (enabled && (enabled && (not mode || true))) ≡ enabled
pulse_counts true true = refl
pulse_counts true false = refl
pulse_counts false mode = refl

module _ (control : Control) (w : TestWord) (i : ℕ) (h : i < 12) where
  written_counts : (pulse : Bool) → pulses_inputs w ≡ pulse
      → counts control (has_strobe (lines_of w)) (if pulse then enabled_of control else 0) i ≡ (pulse && is_enabled control i)
  written_counts true e =
      rw (line_at w 0 (lit< tt), e, enabled_at control i h) (pulse_counts (is_enabled control i) (is_strobe_mode control))
  written_counts false e = rw (zero_at i)

  -- [Test.3] [Test.9] of the inputs in force in a tick that runs
  pub in_force_counts : (csr : Csr) (x : Inputs)
      → counts control (has_strobe (in_force_of csr control w x).lines) (in_force_of csr control w x).triggers i
      ≡ (if is_test_mode csr then pulses_inputs w && is_enabled control i
      else counts control (has_strobe x.lines) x.triggers i)
  in_force_counts csr x =
      in_force_by (λ (y : Inputs). counts control (has_strobe y.lines) y.triggers i) csr control w x
      ∙ ap (λ (t : Bool). cond (is_test_mode csr) t (counts control (has_strobe x.lines) x.triggers i))
      (written_counts (pulses_inputs w) refl)

-- [Test.7a] a held tick stops exactly the counted pulses from outside, and none in test mode
pub held_stops_counted : (csr : Csr) (control : Control) (x : Inputs) (i : ℕ) → i < 12
    → bit_at (held_pulses_of csr control x) i
    ≡ (if is_test_mode csr then false else counts control (has_strobe x.lines) x.triggers i)
held_stops_counted csr control x i h = go (is_test_mode csr)
  where
    go : (test : Bool)
        → bit_at (if test then 0 else counted_of (has_strobe x.lines) x.triggers control) i
        ≡ (if test then false else counts control (has_strobe x.lines) x.triggers i)
    go true = zero_at i
    go false = counted_at (has_strobe x.lines) x.triggers control i h

-- ---- test mode blocks the outside

module _ (csr : Csr) (control : Control) (w : TestWord) (test : is_test_mode csr ≡ true) where
  -- [Test.2] all but the acknowledges
  pub outside_is_blocked_lem : (x y : Inputs) → x.acks ≡ y.acks → in_force_of csr control w x ≡ in_force_of csr control w y
  unfolding in_force_of
  outside_is_blocked_lem x y same = rw (test, same)

  -- [Test.4] and these too where bit 14 waits
  pub acks_are_blocked : replaces_acks w ≡ true → (x y : Inputs) → in_force_of csr control w x ≡ in_force_of csr control w y
  unfolding in_force_of
  acks_are_blocked replaces x y = rw (test, replaces)
