-- A register write or read that is carried out keeps a record that is not spoiled so.
--     fresh_is_unspoiled     the fresh record, of any number of branches
--     marked_keeps_unspoiled a status bit set by a decline
--     write_keeps_unspoiled  a write of a value that its register takes; read-keeps-unspoiled: a read
--     fresh_is_of_type, write_keeps_type, read_keeps_type   what the code's types say
-- Assumes nothing.
use Rattle.std.proofs.Common.{◌≡◌, ℕ, Bool, true, false, cond, eqb, List, length, refl, mod-lt, lit<, pow_pos}
use Rattle.bits.specs.Notation.{◌▷◌}
use Rattle.bits.proofs.TestLaws.{by_cond}
use Rattle.registers.specs.Csr as csr
use Rattle.registers.proofs.CsrLaws as csrLaws
use Rattle.registers.specs.Registers.{is_valid_value, is_valid_setting, is_valid_assign}
use Rattle.registers.specs.declared.csr.Csr.{Csr}
use Rattle.registers.specs.declared.csr.CsrWrite.{CsrWrite}
use Rattle.registers.specs.declared.csr.Request.{Request}
use Rattle.registers.specs.declared.csr.Request.TheVariants.{Nothing, Reset, Initialize}
use Rattle.registers.specs.declared.register.Register.{Register}
use Rattle.registers.specs.declared.register.Register.TheVariants as register
use Rattle.registers.specs.declared.register.Setting.{Setting}
use Rattle.registers.specs.declared.register.Setting.TheVariants.{Control, Factor, RocEnable, Interval, Timer}
use Rattle.prescaler.proofs.PrescalerLoadLaws as loadLaws
use Rattle.branch.specs.Branch as branch
use Rattle.branch.proofs.BranchLaws.{fresh_well_formed}
use Rattle.branch.specs.declared.Branch.{Branch}
use Rattle.branches.specs.Readout as readout
use Rattle.branches.proofs.ReadoutLaws as laws
use Rattle.scalers.specs.ScalersFields.{with_assign}
use Rattle.scalers.specs.Scalers as scalers
use Rattle.scalers.specs.declared.Scalers.{Scalers}
use Rattle.module_core.specs.CoreFields.{with_csr, with_scalers}
use Rattle.module_core.specs.Core as core
use Rattle.module_core.specs.declared.Core.{Core}
use Rattle.supervisor.specs.Supervisor.{fresh_of, on_core, initialized_of, reset_of}
use Rattle.supervisor.specs.declared.Supervisor.{Supervisor}
use Rattle.access.specs.Access.{after_csr_of, csr_written_of, setting_written_of, written_of, after_read_of}
use Rattle.declines.specs.Calls.{marked_of}
use Rattle.reach.specs.NeverSpoiled.{OfType}
use Rattle.reach.proofs.Sound.{SoundBranch, Unspoiled}
use Rattle.reach.proofs.SequencersSound.{idle_is_sound}
use Rattle.reach.proofs.CoreSound.{reset_keeps_bank, fresh_has_bank}

-- ---- fresh branches

fresh_branch : (eight : Bool) (b : Branch) → b ≡ branch.fresh_of → SoundBranch eight b
fresh_branch eight b e = rw e (record { well_formed = fresh_well_formed; room = λ h. refl })

pub fresh_is_of_type : (n : ℕ) → OfType (fresh_of n)
unfolding fresh_of core.fresh_of
fresh_is_of_type n = record { eight = loadLaws.fresh_has_lengths; interval = lit< tt }

pub fresh_is_unspoiled : (n : ℕ) → Unspoiled (fresh_of n).core (fresh_of n).readout.branches
unfolding fresh_of core.fresh_of
fresh_is_unspoiled n =
    record {
      bank = fresh_has_bank;
      registers = record { csr = refl; control = refl; assign = refl };
      sequencers = idle_is_sound;
      branches = λ k h. fresh_branch _ _ (laws.fresh_is_fresh n k (rw (laws.fresh_has_length n) at h));
    }

-- a change leaves a record that is not spoiled
abbrev UnspoiledAfter : (Supervisor → Supervisor) → Supervisor → Type 0
UnspoiledAfter f s = Unspoiled (f s).core (f s).readout.branches

-- ---- the CSR

module _ (c : Core) (bs : List Branch) (u : Unspoiled c bs) where
  -- another CSR that may be stored
  with_csr_lem : (w : Csr) → csr.is_valid_stored_csr w ≡ true → Unspoiled (c ▷ with_csr w) bs
  with_csr_lem w valid =
      record {
        bank = u.bank;
        registers = record { csr = valid; control = u.registers.control; assign = u.registers.assign };
        sequencers = u.sequencers;
        branches = u.branches;
      }

  -- [CSRWrite.2d]
  reset_keeps_unspoiled : Unspoiled (core.reset_of c) (readout.fresh_branches (length bs))
  unfolding core.reset_of
  reset_keeps_unspoiled =
      record {
        bank = reset_keeps_bank c.prescalers u.bank;
        registers = u.registers;
        sequencers = idle_is_sound;
        branches = λ k h. fresh_branch _ _ (laws.fresh_is_fresh (length bs) k (rw (laws.fresh_has_length (length bs)) at h));
      }

module _ (s : Supervisor) (u : Unspoiled s.core s.readout.branches) where
  -- [Declines.2c] [Declines.4d]
  pub marked_keeps_unspoiled : (status : ℕ) → UnspoiledAfter (marked_of status) s
  unfolding marked_of
  marked_keeps_unspoiled status =
      with_csr_lem s.core s.readout.branches u (csr.marked_of status s.core.csr)
      (csrLaws.marked_keeps_valid status s.core.csr u.registers.csr)

  by_request : (r : Request) (w : CsrWrite) → csr.is_valid_stored_csr w.next ≡ true → UnspoiledAfter (after_csr_of r w) s
  unfolding initialized_of reset_of readout.emptied_of
  by_request Initialize w valid = fresh_is_unspoiled (length s.readout.branches)
  by_request Reset w valid =
      reset_keeps_unspoiled (s.core ▷ with_csr w.next) s.readout.branches
      (with_csr_lem s.core s.readout.branches u w.next valid)
  by_request Nothing w valid = with_csr_lem s.core s.readout.branches u w.next valid

  csr_keeps_unspoiled : (v : ℕ) → UnspoiledAfter (csr_written_of v) s
  unfolding csr_written_of
  csr_keeps_unspoiled v =
      by_request (csr.written_of v s.core.csr).request (csr.written_of v s.core.csr)
      (csrLaws.written_keeps_valid v s.core.csr u.registers.csr)

-- ---- every register

-- [Registers.3] a scaler written keeps the assign code
zeroed_keeps_assign : (n : ℕ) (x : Scalers) → is_valid_assign x.assign ≡ true
    → is_valid_assign (scalers.zeroed_of n x).assign ≡ true
zeroed_keeps_assign n x h = by_cond (λ (y : Scalers). is_valid_assign y.assign ≡ true) (eqb n 0) (λ e. h) (λ e. h)

-- [Bytes.5a] so does one latched
latched_keeps_assign : (n : ℕ) (x : Scalers) → is_valid_assign x.assign ≡ true
    → is_valid_assign (scalers.latched_of n x).assign ≡ true
latched_keeps_assign n x h = by_cond (λ (y : Scalers). is_valid_assign y.assign ≡ true) (eqb n 0) (λ e. h) (λ e. h)

module _ (s : Supervisor) (u : Unspoiled s.core s.readout.branches) where
  -- a setting touches neither main, the user sync nor the branches
  setting_keeps_unspoiled : (r : Setting) (loads : Bool) (v : ℕ) → is_valid_setting r v ≡ true
      → UnspoiledAfter (setting_written_of r loads v) s
  unfolding setting_written_of
  setting_keeps_unspoiled Control loads v valid =
      record {
        bank = u.bank;
        registers = record { csr = u.registers.csr; control = valid; assign = u.registers.assign };
        sequencers = u.sequencers;
        branches = u.branches;
      }
  setting_keeps_unspoiled (Factor input) loads v valid =
      let b = s.core.prescalers in
      record {
        bank = record {
          counters = loadLaws.with_factor_keeps_within input v b valid loads u.bank.counters;
          factors = loadLaws.with_factor_keeps_valid input v b valid loads u.bank.factors;
        };
        registers = u.registers;
        sequencers = u.sequencers;
        branches = u.branches;
      }
  setting_keeps_unspoiled RocEnable loads v valid = u
  setting_keeps_unspoiled Interval loads v valid = u
  setting_keeps_unspoiled (Timer n) loads v valid = u

  -- other scalers with a valid assign code
  with_scalers_lem : (x : Scalers) → is_valid_assign x.assign ≡ true
      → Unspoiled (s.core ▷ with_scalers x) s.readout.branches
  with_scalers_lem x valid =
      record {
        bank = u.bank;
        registers = record { csr = u.registers.csr; control = u.registers.control; assign = valid };
        sequencers = u.sequencers;
        branches = u.branches;
      }

  -- a change of the record, made or not
  made_or_not : (t : Bool) (x : Scalers) → is_valid_assign x.assign ≡ true
      → UnspoiledAfter (λ s'. cond t (s' ▷ on_core (with_scalers x)) s') s
  made_or_not true x valid = with_scalers_lem x valid
  made_or_not false x valid = u

  pub write_keeps_unspoiled : (r : Register) (loads : Bool) (v : ℕ) → is_valid_value r v ≡ true
      → UnspoiledAfter (written_of r loads v) s
  unfolding written_of
  write_keeps_unspoiled register.Csr loads v valid = csr_keeps_unspoiled s u v
  write_keeps_unspoiled (register.Setting r) loads v valid = setting_keeps_unspoiled r loads v valid
  write_keeps_unspoiled (register.Scaler n) loads v valid =
      made_or_not loads (scalers.zeroed_of n s.core.scalers)
      (zeroed_keeps_assign n s.core.scalers u.registers.assign)
  write_keeps_unspoiled register.Assign loads v valid = with_scalers_lem (s.core.scalers ▷ with_assign v) valid
  write_keeps_unspoiled register.State loads v valid = u
  write_keeps_unspoiled register.Test loads v valid = u
  write_keeps_unspoiled register.Absent loads v valid = u

  -- [Bytes.5a] a latch is no part of the rule
  pub read_keeps_unspoiled : (r : Register) (latches : Bool) → UnspoiledAfter (after_read_of r latches) s
  unfolding after_read_of
  read_keeps_unspoiled register.Csr latches = u
  read_keeps_unspoiled (register.Setting r) latches = u
  read_keeps_unspoiled (register.Scaler n) latches =
      made_or_not latches (scalers.latched_of n s.core.scalers)
      (latched_keeps_assign n s.core.scalers u.registers.assign)
  read_keeps_unspoiled register.Assign latches = u
  read_keeps_unspoiled register.State latches = u
  read_keeps_unspoiled register.Test latches = u
  read_keeps_unspoiled register.Absent latches = u

-- ---- and the types

module _ (s : Supervisor) (of_type : OfType s) where
  of_request : (r : Request) (w : CsrWrite) → OfType (after_csr_of r w s)
  unfolding initialized_of reset_of core.reset_of
  of_request Initialize w = fresh_is_of_type (length s.readout.branches)
  of_request Reset w =
      record { eight = loadLaws.reloaded_keeps_lengths s.core.prescalers of_type.eight; interval = of_type.interval }
  of_request Nothing w = record { eight = of_type.eight; interval = of_type.interval }

  setting_keeps_type : (r : Setting) (loads : Bool) (v : ℕ) → OfType (setting_written_of r loads v s)
  unfolding setting_written_of
  setting_keeps_type Control loads v = record { eight = of_type.eight; interval = of_type.interval }
  setting_keeps_type (Factor input) loads v =
      record {
        eight = loadLaws.with_factor_keeps_lengths input v s.core.prescalers loads of_type.eight;
        interval = of_type.interval;
      }
  setting_keeps_type RocEnable loads v = record { eight = of_type.eight; interval = of_type.interval }
  setting_keeps_type Interval loads v = record { eight = of_type.eight; interval = mod-lt v (pow_pos 16) }
  setting_keeps_type (Timer n) loads v = record { eight = of_type.eight; interval = of_type.interval }

  -- other scalers, or not
  scalers_keep_type : (t : Bool) (x : Scalers) → OfType (cond t (s ▷ on_core (with_scalers x)) s)
  scalers_keep_type true x = record { eight = of_type.eight; interval = of_type.interval }
  scalers_keep_type false x = of_type

  pub write_keeps_type : (r : Register) (loads : Bool) (v : ℕ) → OfType (written_of r loads v s)
  unfolding written_of csr_written_of
  write_keeps_type register.Csr loads v =
      of_request (csr.written_of v s.core.csr).request (csr.written_of v s.core.csr)
  write_keeps_type (register.Setting r) loads v = setting_keeps_type r loads v
  write_keeps_type (register.Scaler n) loads v = scalers_keep_type loads (scalers.zeroed_of n s.core.scalers)
  write_keeps_type register.Assign loads v = scalers_keep_type true (s.core.scalers ▷ with_assign v)
  write_keeps_type register.State loads v = of_type
  write_keeps_type register.Test loads v = record { eight = of_type.eight; interval = of_type.interval }
  write_keeps_type register.Absent loads v = of_type

  pub read_keeps_type : (r : Register) (latches : Bool) → OfType (after_read_of r latches s)
  unfolding after_read_of
  read_keeps_type register.Csr latches = of_type
  read_keeps_type (register.Setting r) latches = of_type
  read_keeps_type (register.Scaler n) latches = scalers_keep_type latches (scalers.latched_of n s.core.scalers)
  read_keeps_type register.Assign latches = of_type
  read_keeps_type register.State latches = of_type
  read_keeps_type register.Test latches = of_type
  read_keeps_type register.Absent latches = of_type
