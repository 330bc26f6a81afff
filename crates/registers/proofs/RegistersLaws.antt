-- Laws of the registers by number and of the values that they take.
--     factor-, timer-, interval_fits_iff_no_bit_outside   the width law of bits, at 20, 14, 16 and 8 bits
--     control-, test_fits_iff_no_bit_outside    the mask law of bits
--     assign_declines_40_to_4f, assign_declines_60_up     the codes that 01 does not list
--     Between, Named, number_names       the numbers of each kind of register: the walk that the others go by
--     past_last_is_absent                a number past the last names no register
--     facts_by_number                    the facts of a number's register, by comparisons of the number
--     numbered_is_in_range               a number names factor 1–8, timer 1–5, scaler 0 or 1, or another one
--     setting_number, SettingAt, protected_is_setting   a protected register is a setting, and its number is the setting's
-- Assumes nothing.
use Prim.Native.Nat.{ℕ, ◌+◌, ◌-◌, ◌<◌, ◌≤◌}
use mathlib.Core.Path.{◌≡◌, refl}
use mathlib.Core.Logic.{◌↔◌}
use mathlib.Core.Bool.{true, false, ◌&&◌, ◌||◌, false≢true}
use native.Mathlib.Omega.{arith}
use lib.Dec.{eqb, ltb, leb}
use borrow.Author.Tests.{lt-leb, le-leb, ltb-true, ltb-false, eqb-true, eqb-false, ne_eqb}
use Rattle.bits.specs.Bits.{NoBitOutside, NoBitOutsideOf}
use Rattle.bits.proofs.TestLaws.{by_cond}
use Rattle.bits.proofs.WidthLaws.{fits_iff_no_bit_outside, only_iff_no_bit_outside}
use Rattle.registers.specs.Registers.{last_register, numbered_of, is_control, facts, facts_of}
use Rattle.registers.specs.Registers.{factor_width, timer_width, interval_width, control_bits}
use Rattle.registers.specs.Registers.{is_valid_control, is_valid_factor}
use Rattle.registers.specs.Registers.{is_valid_interval, is_valid_timer, is_valid_assign, test_bits, is_valid_test}
use Rattle.registers.specs.declared.register.Register.{Register}
use Rattle.registers.specs.declared.register.Facts.{Facts}
use Rattle.registers.specs.declared.register.Setting.{Setting}
use Rattle.registers.specs.declared.register.Setting.TheVariants.{Control, Factor, RocEnable, Interval, Timer}
use Rattle.registers.specs.declared.register.Register.TheVariants.{Csr, Scaler, Assign, State, Test, Absent}
use Rattle.registers.specs.declared.register.Register.TheVariants as register

-- ---- no bit outside the register

pub factor_fits_iff_no_bit_outside : (input v : ℕ) → (is_valid_factor input v ≡ true) ↔ NoBitOutside (factor_width input) v
factor_fits_iff_no_bit_outside input v = fits_iff_no_bit_outside (factor_width input) v

pub timer_fits_iff_no_bit_outside : (timer v : ℕ) → (is_valid_timer timer v ≡ true) ↔ NoBitOutside (timer_width timer) v
timer_fits_iff_no_bit_outside timer v = fits_iff_no_bit_outside (timer_width timer) v

pub interval_fits_iff_no_bit_outside : (v : ℕ) → (is_valid_interval v ≡ true) ↔ NoBitOutside interval_width v
interval_fits_iff_no_bit_outside v = fits_iff_no_bit_outside interval_width v

pub control_fits_iff_no_bit_outside : (v : ℕ) → (is_valid_control v ≡ true) ↔ NoBitOutsideOf control_bits v
control_fits_iff_no_bit_outside v = only_iff_no_bit_outside control_bits v

pub test_fits_iff_no_bit_outside : (v : ℕ) → (is_valid_test v ≡ true) ↔ NoBitOutsideOf test_bits v
test_fits_iff_no_bit_outside v = only_iff_no_bit_outside test_bits v

-- ---- the codes that are not listed

pub assign_declines_40_to_4f : (v : ℕ) → 64 ≤ v → v < 80 → is_valid_assign v ≡ false
assign_declines_40_to_4f v h k = rw (lt-leb v 63 h, lt-leb 80 v k)

pub assign_declines_60_up : (v : ℕ) → 96 ≤ v → is_valid_assign v ≡ false
assign_declines_60_up v h = rw (lt-leb v 63 (omega arith), le-leb 80 v (omega arith), lt-leb v 95 h)

-- ---- numbers: walked once

pub record Between (low high n : ℕ) : Type 0 where
  pub least : low ≤ n
  pub most : n ≤ high

-- [Registers.1] the factors and timers that there are
abbrev pub SettingInRange : Setting → Type 0
SettingInRange Control = Unit {0}
SettingInRange (Factor input) = Between 1 8 input
SettingInRange RocEnable = Unit {0}
SettingInRange Interval = Unit {0}
SettingInRange (Timer n) = Between 1 5 n

-- [Registers.1] the number that names a setting
abbrev pub setting_number : Setting → ℕ
setting_number Control = 1
setting_number (Factor input) = input + 1
setting_number RocEnable = 10
setting_number Interval = 11
setting_number (Timer timer) = timer + 11

-- the register of the number n, with the numbers of its kind
pub data Named (n : ℕ) : Register → Type 0 where
  csr : n ≡ 0 → Named n Csr
  control : n ≡ 1 → Named n (register.Setting Control)
  setting : (r : Setting) → Between 2 16 n → is_control r ≡ false → SettingInRange r → setting_number r ≡ n
      → Named n (register.Setting r)
  scaler : (k : ℕ) → Between 17 18 n → Between 0 1 k → Named n (Scaler k)
  assign : n ≡ 19 → Named n Assign
  state : n ≡ 20 → Named n State
  test : n ≡ last_register → Named n Test
  absent : last_register < n → Named n Absent

-- a number from k on that is not k
past : (n k : ℕ) → k ≤ n → eqb n k ≡ false → k < n
past n k from e = let other : (n ≡ k → ⊥) = eqb-false n k e in omega arith

-- the kinds that have several numbers, and the settings that have one
module _ (n : ℕ) where
  named_factor : 2 ≤ n → n < 10 → Named n (register.Setting (Factor (n - 1)))
  named_factor from below =
      setting (Factor (n - 1)) (record { least = from; most = omega arith }) refl
      (record { least = omega arith; most = omega arith }) (omega arith)

  named_timer : 12 ≤ n → n < 17 → Named n (register.Setting (Timer (n - 11)))
  named_timer from below =
      setting (Timer (n - 11)) (record { least = omega arith; most = omega arith }) refl
      (record { least = omega arith; most = omega arith }) (omega arith)

  named_roc_enable : n ≡ 10 → Named n (register.Setting RocEnable)
  named_roc_enable at = setting RocEnable (record { least = omega arith; most = omega arith }) refl tt (omega arith)

  named_interval : n ≡ 11 → Named n (register.Setting Interval)
  named_interval at = setting Interval (record { least = omega arith; most = omega arith }) refl tt (omega arith)

  named_scaler : 17 ≤ n → n < 19 → Named n (Scaler (n - 17))
  named_scaler from below =
      scaler (n - 17) (record { least = from; most = omega arith }) (record { least = omega arith; most = omega arith })

pub number_names : (n : ℕ) → Named n (numbered_of n)
unfolding numbered_of
number_names n =
    by_cond (Named n) (eqb n 0) (λ e. csr (eqb-true n 0 e)) (λ not0.
    let above0 : (n ≡ 0 → ⊥) = eqb-false n 0 not0 in
    by_cond (Named n) (eqb n 1) (λ e. control (eqb-true n 1 e)) (λ not1.
    let above1 : 2 ≤ n = past n 1 (omega arith) not1 in
    by_cond (Named n) (ltb n 10) (λ e. named_factor n above1 (ltb-true n 10 e)) (λ from10.
    let above9 : 10 ≤ n = ltb-false n 10 from10 in
    by_cond (Named n) (eqb n 10) (λ e. named_roc_enable n (eqb-true n 10 e)) (λ not10.
    let above10 : 11 ≤ n = past n 10 above9 not10 in
    by_cond (Named n) (eqb n 11) (λ e. named_interval n (eqb-true n 11 e)) (λ not11.
    let above11 : 12 ≤ n = past n 11 above10 not11 in
    by_cond (Named n) (ltb n 17) (λ e. named_timer n above11 (ltb-true n 17 e)) (λ from17.
    let above16 : 17 ≤ n = ltb-false n 17 from17 in
    by_cond (Named n) (ltb n 19) (λ e. named_scaler n above16 (ltb-true n 19 e)) (λ from19.
    let above18 : 19 ≤ n = ltb-false n 19 from19 in
    by_cond (Named n) (eqb n 19) (λ e. assign (eqb-true n 19 e)) (λ not19.
    let above19 : 20 ≤ n = past n 19 above18 not19 in
    by_cond (Named n) (eqb n 20) (λ e. state (eqb-true n 20 e)) (λ not20.
    let above20 : 21 ≤ n = past n 20 above19 not20 in
    by_cond (Named n) (eqb n last_register) (λ e. test (eqb-true n last_register e)) (λ not21.
    absent (past n last_register above20 not21)))))))))))

-- ---- what follows of a number's register

-- [Declines.2b]
pub past_last_is_absent : (n : ℕ) → last_register < n → numbered_of n ≡ Absent
past_last_is_absent n past = go (number_names n)
  where
    go : {r : Register} → Named n r → r ≡ Absent
    go (csr e) = absurd (omega arith)
    go (control e) = absurd (omega arith)
    go (setting r at other range number) = absurd (omega (arith, at.most))
    go (scaler k at range) = absurd (omega (arith, at.most))
    go (assign e) = absurd (omega arith)
    go (state e) = absurd (omega arith)
    go (test e) = absurd (omega arith)
    go (absent h) = refl

-- [Declines.2b] [Declines.2c] [Declines.3a] 0–19 are read and written, 1–16 are protected; [State.8a] [State.8b] 20 is read,
-- [Test.5b] 21 is written; [Test.2] 1 is open to test mode
abbrev pub facts_at : (n : ℕ) → Facts
facts_at n = facts (leb n 20) (leb n 19 || eqb n 21) (leb 1 n && leb n 16) (eqb n 1)

pub facts_by_number : (n : ℕ) → facts_of (numbered_of n) ≡ facts_at n
facts_by_number n = go (number_names n)
  where
    go : {r : Register} → Named n r → facts_of r ≡ facts_at n
    go (csr e) = rw e
    go (control e) = rw e
    go (setting r at other range number) =
        rw (
          other,
          le-leb 1 n (omega (arith, at.least)),
          le-leb n 16 at.most,
          le-leb n 19 (omega (arith, at.most)),
          le-leb n 20 (omega (arith, at.most)),
          ne_eqb n 1 (λ e. omega (arith, at.least)),
        )
    go (scaler k at range) =
        rw (
          le-leb 1 n (omega (arith, at.least)),
          lt-leb n 16 at.least,
          le-leb n 19 (omega (arith, at.most)),
          le-leb n 20 (omega (arith, at.most)),
          ne_eqb n 1 (λ e. omega (arith, at.least)),
        )
    go (assign e) = rw e
    go (state e) = rw e
    go (test e) = rw e
    go (absent h) =
        rw (
          le-leb 1 n (omega arith),
          lt-leb n 16 (omega arith),
          lt-leb n 19 (omega arith),
          lt-leb n 20 (omega arith),
          ne_eqb n 1 (λ e. omega arith),
          ne_eqb n 21 (λ e. omega arith),
        )

-- [Registers.1] the factors, timers and scalers that there are
abbrev pub InRange : Register → Type 0
InRange Csr = Unit {0}
InRange (register.Setting r) = SettingInRange r
InRange (Scaler n) = Between 0 1 n
InRange Assign = Unit {0}
InRange State = Unit {0}
InRange Test = Unit {0}
InRange Absent = Unit {0}

pub numbered_is_in_range : (n : ℕ) → InRange (numbered_of n)
numbered_is_in_range n = go (number_names n)
  where
    go : {r : Register} → Named n r → InRange r
    go (csr e) = tt
    go (control e) = tt
    go (setting r at other range number) = range
    go (scaler k at range) = range
    go (assign e) = tt
    go (state e) = tt
    go (test e) = tt
    go (absent h) = tt

-- ---- a protected register

pub record SettingAt (n : ℕ) : Type 0 where
  pub setting : Setting
  pub named : numbered_of n ≡ register.Setting setting
  pub range : SettingInRange setting
  pub number : setting_number setting ≡ n

-- [Declines.2c]
pub protected_is_setting : (n : ℕ) → (facts_of (numbered_of n)).protected ≡ true → SettingAt n
protected_is_setting n h = go (number_names n) refl h
  where
    go : {r : Register} → Named n r → numbered_of n ≡ r → (facts_of r).protected ≡ true → SettingAt n
    go (csr e) named h = absurd (false≢true h)
    go (control e) named h = record { setting = Control; named = named; range = tt; number = omega arith }
    go (setting r at other range number) named h =
        record { setting = r; named = named; range = range; number = number }
    go (scaler k at range) named h = absurd (false≢true h)
    go (assign e) named h = absurd (false≢true h)
    go (state e) named h = absurd (false≢true h)
    go (test e) named h = absurd (false≢true h)
    go (absent e) named h = absurd (false≢true h)
