-- The blind time: the ticks after a rejected pattern in which the unit is not ready.
--     document 02    N1
--     blind_ticks     how many they are
--     after_of        the count after a tick that ran
--     is_over, is_within   what the ready rule and the spoiled rule ask of it
--     LosesAll       what becomes of the pulses that pass while it lasts
-- Own rules of 02 used here: none. Decisions: T8. Left out: nothing.
-- Assumes nothing.
use Rattle.std.specs.Prelude.{ℕ, ◌-◌, ◌≡◌, Bool, eqb, leb, if◌then◌else◌}
use Rattle.scalers.specs.Scalers.{is_some}
use Rattle.trigger.specs.declared.blind.BlindTime.{BlindTime}
use Rattle.trigger.specs.declared.latch.Masks.{Masks}

-- [Blind.2] [Blind.3] the two ticks that follow, and the largest count of a record that is not spoiled
abbrev pub blind_ticks : ℕ
blind_ticks = 2

-- [Blind.3] not blind: power-up and RESET
abbrev pub fresh_of : BlindTime
fresh_of = record { count = 0 }

-- [Blind.2] a fast reset, which is a rejected pattern, starts the count; every other tick that runs lowers it, down to 0
abbrev pub after_of : (rejected : ℕ) → BlindTime → BlindTime
after_of rejected b = record { count = if is_some rejected then blind_ticks else b.count - 1 }

-- [Blind.2] the unit may be ready again
abbrev pub is_over : BlindTime → Bool
is_over b = eqb b.count 0

-- [Blind.4] what becomes of the pulses that pass while it lasts
pub record LosesAll (passed : ℕ) (masks : Masks) : Type 0 where
  pub lost : masks.lost ≡ passed
  pub rejected : masks.rejected ≡ 0
  pub accepted : masks.accepted ≡ 0

-- ---- what of it spoils a record

-- [Blind.3]
abbrev pub is_within : BlindTime → Bool
is_within b = leb b.count blind_ticks
