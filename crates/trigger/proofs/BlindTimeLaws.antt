-- Laws of the blind time: its count, and the latch while it lasts.
--     rejected_starts_count   a rejected pattern starts the count
--     count_falls             a tick that rejects nothing lowers it
--     after_keeps_within      it stays within its bound
--     blind_is_not_over, unready_loses_all   what a count above 0 makes of the passed pulses
-- Assumes nothing.
use Prim.Native.Nat.{ℕ, suc, ◌-◌}
use mathlib.Core.Path.{◌≡◌, refl}
use mathlib.Core.Bool.{Bool, true, false}
use native.Mathlib.Omega.{arith}
use lib.Dec.{leb}
use borrow.Author.Tests.{leb-true, le-leb, ne_eqb}
use Rattle.bits.proofs.TestLaws.{by_cond}
use Rattle.prescaler.specs.declared.Prescaled.{Prescaled}
use Rattle.scalers.specs.Scalers.{is_some}
use Rattle.trigger.specs.Latch.{latch_of, masks_of}
use Rattle.trigger.specs.BlindTime.{blind_ticks, after_of, is_over, is_within, LosesAll}
use Rattle.trigger.specs.declared.blind.BlindTime.{BlindTime}

module _ (b : BlindTime) where
  -- [Blind.2]
  pub rejected_starts_count : (rejected : ℕ) → is_some rejected ≡ true → (after_of rejected b).count ≡ blind_ticks
  rejected_starts_count rejected h = rw h

  -- [Blind.3]
  pub after_keeps_within : (rejected : ℕ) → is_within b ≡ true → is_within (after_of rejected b) ≡ true
  after_keeps_within rejected h =
      by_cond (λ (n : ℕ). leb n blind_ticks ≡ true) (is_some rejected) (λ e. refl)
      (λ e. le-leb (b.count - 1) blind_ticks (omega (arith, leb-true b.count blind_ticks h)))

  module _ (k : ℕ) (blind : b.count ≡ suc k) where
    -- [Blind.2]
    pub blind_is_not_over : is_over b ≡ false
    blind_is_not_over = ne_eqb b.count 0 (λ e. absurd (omega (arith, blind, e)))

    -- [Blind.2]
    pub count_falls : (rejected : ℕ) → rejected ≡ 0 → (after_of rejected b).count ≡ k
    count_falls rejected h = rw (h, blind) (omega arith)

-- [Ready.2] [Blind.4] where the unit is not ready
pub unready_loses_all : (ready ok : Bool) (p : Prescaled) → ready ≡ false
    → LosesAll p.passed (masks_of p (latch_of ready ok p.passed))
unready_loses_all ready ok p h = rw h (record { lost = refl; rejected = refl; accepted = refl })
