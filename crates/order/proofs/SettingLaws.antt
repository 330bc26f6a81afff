-- The settings as places of the record: what is stored in one stands when another is written, and two writes give the same
-- in both orders; so do a write and a status bit set.
--     Other, other_setting        two settings that differ, over any record
--     written_keeps_active, written_keeps_csr   what else a write leaves
--     marked_keeps_setting, marked_keeps_written   a status bit set before or after a write
-- Assumes nothing.
use Rattle.std.proofs.Common.{◌≡◌, ℕ, Bool, refl, ap}
use Rattle.registers.specs.declared.register.Setting.{Setting}
use Rattle.registers.specs.declared.register.Setting.TheVariants.{Control, Factor, RocEnable, Interval, Timer}
use Rattle.registers.proofs.RegistersLaws.{SettingInRange}
use Rattle.prescaler.proofs.PrescalerLoadLaws as prescaler
use Rattle.prescaler.specs.declared.Prescalers.{Prescalers}
use Rattle.timers.proofs.TimersLaws as timers
use Rattle.timers.specs.declared.Timers.{Timers}
use Rattle.module_core.specs.CoreFields.{with_prescalers, with_timers}
use Rattle.supervisor.specs.Supervisor.{on_core, is_active_of}
use Rattle.supervisor.specs.declared.Supervisor.{Supervisor}
use Rattle.access.specs.Access.{setting_written_of, setting_of}
use Rattle.declines.specs.Calls.{marked_of}

-- ---- another setting

module _ (s : Supervisor) (l k : Bool) (v w : ℕ) where
  pub record Other (a b : Setting) : Type 0 where
    pub stored : setting_of a (setting_written_of b k w s) ≡ setting_of a s
    pub commute : setting_written_of a l v (setting_written_of b k w s) ≡ setting_written_of b k w (setting_written_of a l v s)

  other_factor : (i j : ℕ) → (i ≡ j → ⊥) → Other (Factor i) (Factor j)
  unfolding setting_of setting_written_of
  other_factor i j h =
      record {
        stored = prescaler.with_factor_leaves_factor i j h k w s.core.prescalers;
        commute =
            ap (λ (b : Prescalers). on_core (with_prescalers b) s)
            (prescaler.with_factor_commutes i j h l k v w s.core.prescalers);
      }

  other_timer : (n m : ℕ) → SettingInRange (Timer n) → SettingInRange (Timer m) → (n ≡ m → ⊥) → Other (Timer n) (Timer m)
  unfolding setting_of setting_written_of
  other_timer n m range range' h =
      let other = timers.other_timer v w s.core.timers n m range.least range.most range'.least range'.most h in
      record { stored = other.stored; commute = ap (λ (t : Timers). on_core (with_timers t) s) other.commute }

  -- settings of two kinds are fields of their own
  pub other_setting : (a b : Setting) → SettingInRange a → SettingInRange b → (a ≡ b → ⊥) → Other a b
  unfolding setting_of setting_written_of
  other_setting Control Control range range' h = absurd (h refl)
  other_setting Control (Factor j) range range' h = record { stored = refl; commute = refl }
  other_setting Control RocEnable range range' h = record { stored = refl; commute = refl }
  other_setting Control Interval range range' h = record { stored = refl; commute = refl }
  other_setting Control (Timer m) range range' h = record { stored = refl; commute = refl }
  other_setting (Factor i) Control range range' h = record { stored = refl; commute = refl }
  other_setting (Factor i) (Factor j) range range' h = other_factor i j (λ e. h (ap Factor e))
  other_setting (Factor i) RocEnable range range' h = record { stored = refl; commute = refl }
  other_setting (Factor i) Interval range range' h = record { stored = refl; commute = refl }
  other_setting (Factor i) (Timer m) range range' h = record { stored = refl; commute = refl }
  other_setting RocEnable Control range range' h = record { stored = refl; commute = refl }
  other_setting RocEnable (Factor j) range range' h = record { stored = refl; commute = refl }
  other_setting RocEnable RocEnable range range' h = absurd (h refl)
  other_setting RocEnable Interval range range' h = record { stored = refl; commute = refl }
  other_setting RocEnable (Timer m) range range' h = record { stored = refl; commute = refl }
  other_setting Interval Control range range' h = record { stored = refl; commute = refl }
  other_setting Interval (Factor j) range range' h = record { stored = refl; commute = refl }
  other_setting Interval RocEnable range range' h = record { stored = refl; commute = refl }
  other_setting Interval Interval range range' h = absurd (h refl)
  other_setting Interval (Timer m) range range' h = record { stored = refl; commute = refl }
  other_setting (Timer n) Control range range' h = record { stored = refl; commute = refl }
  other_setting (Timer n) (Factor j) range range' h = record { stored = refl; commute = refl }
  other_setting (Timer n) RocEnable range range' h = record { stored = refl; commute = refl }
  other_setting (Timer n) Interval range range' h = record { stored = refl; commute = refl }
  other_setting (Timer n) (Timer m) range range' h = other_timer n m range range' (λ e. h (ap Timer e))

-- ---- what else a write leaves, and a status bit set

module _ (k : Bool) (w : ℕ) (s : Supervisor) where
  pub written_keeps_active : (b : Setting) → is_active_of (setting_written_of b k w s) ≡ is_active_of s
  unfolding is_active_of setting_written_of
  written_keeps_active Control = refl
  written_keeps_active (Factor j) = refl
  written_keeps_active RocEnable = refl
  written_keeps_active Interval = refl
  written_keeps_active (Timer m) = refl

  pub written_keeps_csr : (b : Setting) → (setting_written_of b k w s).core.csr ≡ s.core.csr
  unfolding setting_written_of
  written_keeps_csr Control = refl
  written_keeps_csr (Factor j) = refl
  written_keeps_csr RocEnable = refl
  written_keeps_csr Interval = refl
  written_keeps_csr (Timer m) = refl

  pub marked_keeps_written : (status : ℕ) (b : Setting)
      → setting_written_of b k w (marked_of status s) ≡ marked_of status (setting_written_of b k w s)
  unfolding setting_written_of marked_of
  marked_keeps_written status Control = refl
  marked_keeps_written status (Factor j) = refl
  marked_keeps_written status RocEnable = refl
  marked_keeps_written status Interval = refl
  marked_keeps_written status (Timer m) = refl

pub marked_keeps_setting : (status : ℕ) (s : Supervisor) (a : Setting) → setting_of a (marked_of status s) ≡ setting_of a s
unfolding setting_of marked_of
marked_keeps_setting status s Control = refl
marked_keeps_setting status s (Factor i) = refl
marked_keeps_setting status s RocEnable = refl
marked_keeps_setting status s Interval = refl
marked_keeps_setting status s (Timer n) = refl
