-- What is written by a run of bytes is read back: the run's bytes of the value, the others as they were.
--     setting_read_back, register_read_back   a value that the register takes
--     written_bytes_are_read   after a write that was carried out
-- Assumes nothing.
use Rattle.std.proofs.Common.{◌≡◌, ℕ, zero, suc, ◌+◌, ◌-◌, ◌%◌, ◌^◌, ◌<◌, Bool, true, false, List, refl, ap, ◌∙◌, mod-eq_of_lt, arith, ltb-true, le-leb}
use Rattle.bits.specs.Bits.{fits_in}
use Rattle.run.specs.Run.{has_byte3, overlaid_of}
use Rattle.run.specs.declared.Run.{Run}
use Rattle.registers.specs.Registers.{numbered_of, is_valid_value, is_valid_setting, is_valid_timer}
use Rattle.registers.specs.declared.register.Setting.{Setting}
use Rattle.registers.specs.declared.register.Setting.TheVariants.{Control, Factor, RocEnable, Interval, Timer}
use Rattle.registers.specs.declared.register.Register.{Register}
use Rattle.registers.specs.declared.register.Register.TheVariants.{Csr, Scaler, Assign, State, Test, Absent}
use Rattle.registers.specs.declared.register.Register.TheVariants as register
use Rattle.registers.proofs.RegistersLaws.{Between, SettingInRange, InRange, numbered_is_in_range}
use Rattle.prescaler.specs.PrescalerFields.{factor_at}
use Rattle.prescaler.specs.Prescaler.{prescaled_inputs, with_factor_of, factor_of, EightPlaces}
use Rattle.prescaler.specs.declared.Prescalers.{Prescalers}
use Rattle.prescaler.proofs.PrescalerLoadLaws.{with_factor_loads, with_factor_keeps_counter}
use Rattle.timers.specs.Timers as timers
use Rattle.timers.specs.declared.Timers.{Timers}
use Rattle.supervisor.specs.declared.Supervisor.{Supervisor}
use Rattle.access.specs.Access.{setting_written_of, written_of, setting_of, base_of, merged_of, shown_of}
use Rattle.declines.specs.Answers.{Reply, done}
use Rattle.declines.specs.Runs.{write_register, ask_of}
use Rattle.declines.specs.Latches.{keeps_value}
use Rattle.declines.proofs.CallEnds.{End, refused, refused_active, wrote, call_ends}

-- ---- one value

-- [Widths.1] [Widths.2] what fits is stored as it is
fit_is_whole : (width v : ℕ) → fits_in width v ≡ true → v % 2 ^ width ≡ v
fit_is_whole width v h = mod-eq_of_lt (ltb-true v (2 ^ width) h)

timer_read_back : (n v : ℕ) (t : Timers) → Between 1 5 n → is_valid_timer n v ≡ true
    → timers.stored_of n (timers.written_of n v t) ≡ v
unfolding timers.stored_of timers.written_of
timer_read_back zero v t range h = absurd (omega (arith, range.least))
timer_read_back (suc zero) v t range h = fit_is_whole 16 v h
timer_read_back (suc (suc zero)) v t range h = fit_is_whole 16 v h
timer_read_back (suc (suc (suc zero))) v t range h = fit_is_whole 16 v h
timer_read_back (suc (suc (suc (suc zero)))) v t range h = fit_is_whole 16 v h
timer_read_back (suc (suc (suc (suc (suc zero))))) v t range h = fit_is_whole 8 v h
timer_read_back (suc (suc (suc (suc (suc (suc n)))))) v t range h = absurd (omega (arith, range.most))

factor_read_back : (loads : Bool) (input v : ℕ) (b : Prescalers) → Between 1 8 input → EightPlaces b
    → factor_of input (with_factor_of loads input v b) ≡ v
unfolding factor_of
factor_read_back loads input v b range eight =
    rw (le-leb 1 input range.least, le-leb input prescaled_inputs range.most) (go loads)
  where
    place : input - 1 + 1 ≡ input
    place = omega (arith, range.least)

    below : input - 1 < prescaled_inputs
    below = omega (arith, range.least, range.most)

    go : (loads : Bool) → factor_at (with_factor_of loads input v b) (input - 1) ≡ v
    go true = (with_factor_loads input v b (input - 1) place below eight).factor
    go false = (with_factor_keeps_counter input v b (input - 1) place below eight).factor

module _ (s : Supervisor) (eight : EightPlaces s.core.prescalers) (loads : Bool) (v : ℕ) where
  setting_read_back : (r : Setting) → SettingInRange r → is_valid_setting r v ≡ true
      → setting_of r (setting_written_of r loads v s) ≡ v
  unfolding setting_of setting_written_of
  setting_read_back Control range h = refl
  setting_read_back (Factor input) range h = factor_read_back loads input v s.core.prescalers range eight
  setting_read_back RocEnable range h = refl
  setting_read_back Interval range h = fit_is_whole 16 v h
  setting_read_back (Timer n) range h = timer_read_back n v s.core.timers range h

  pub register_read_back : (r : Register) → InRange r → keeps_value r ≡ true → is_valid_value r v ≡ true
      → shown_of r (written_of r loads v s) ≡ v
  unfolding shown_of written_of
  register_read_back Csr range kept h = cc
  register_read_back (register.Setting r) range kept h = setting_read_back r range h
  register_read_back (Scaler n) range kept h = cc
  register_read_back Assign range kept h = refl
  register_read_back State range kept h = cc
  register_read_back Test range kept h = cc
  register_read_back Absent range kept h = cc

-- [Bytes.3a] the bytes that a write lacks are those that a read shows
base_is_shown : (r : Register) → keeps_value r ≡ true → (s : Supervisor) → base_of r s ≡ shown_of r s
unfolding base_of shown_of
base_is_shown Csr kept s = cc
base_is_shown (register.Setting r) kept s = refl
base_is_shown (Scaler n) kept s = cc
base_is_shown Assign kept s = refl
base_is_shown State kept s = cc
base_is_shown Test kept s = cc
base_is_shown Absent kept s = cc

-- ---- a write that was carried out

module _ (number : ℕ) (run : Run) (v : ℕ) (s : Supervisor) (eight : EightPlaces s.core.prescalers)
    (kept : keeps_value (numbered_of number) ≡ true)
  where
    abbrev after : ℕ
    after = overlaid_of run (shown_of (numbered_of number) s) v

    end_reads_back : {memory : List ℕ} {reply : Reply} {next : Supervisor}
        → End memory s (write_register number run v) reply next → reply ≡ done → shown_of (numbered_of number) next ≡ after
    end_reads_back (refused a n h) e = cc
    end_reads_back (refused_active a) e = cc
    end_reads_back (wrote _ _ _ valid) e =
        register_read_back s eight (has_byte3 run) (merged_of (numbered_of number) run v s) (numbered_of number)
        (numbered_is_in_range number) kept valid
        ∙ ap (λ (old : ℕ). overlaid_of run old v) (base_is_shown (numbered_of number) kept s)

    -- [Bytes.3a]
    pub written_bytes_are_read : (memory : List ℕ) → (ask_of (write_register number run v) memory s).reply ≡ done
        → shown_of (numbered_of number) (ask_of (write_register number run v) memory s).next ≡ after
    written_bytes_are_read memory e = end_reads_back (call_ends memory s (write_register number run v)) e
