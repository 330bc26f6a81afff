-- The fresh record has the invariant, and a register write or read that is carried out keeps it.
--     fresh_has_invariant     with the account at its start
--     write_keeps_invariant   any register, any run of bytes, any value
--     read_keeps_invariant    any register
-- Assumes nothing.
use Rattle.std.proofs.Common.{◌≡◌, ℕ, zero, suc, ◌+◌, ◌-◌, ◌<◌, Bool, true, false, cond, eqb, List, [], length, get_or, replicate, sym, refl, ap, ◌∙◌, subst, arith, lit≤, eqb-true, le-leb}
use borrow.Author.Tests.{eqb-false}
use Rattle.bits.specs.Notation.{◌▷◌}
use Rattle.bits.proofs.TestLaws.{and_left, and_right, by_cond}
use Rattle.run.specs.Run.{has_byte3, overlaid_of}
use Rattle.run.specs.declared.Run.{Run}
use Rattle.registers.specs.Csr as csr
use Rattle.registers.specs.Registers.{numbered_of}
use Rattle.registers.specs.Control.{inputs}
use Rattle.registers.specs.declared.csr.Csr as word
use Rattle.registers.specs.declared.csr.CsrWrite.{CsrWrite}
use Rattle.registers.specs.declared.csr.Request.{Request}
use Rattle.registers.specs.declared.csr.Request.TheVariants.{Nothing, Reset, Initialize}
use Rattle.registers.specs.declared.register.Register.{Register}
use Rattle.registers.specs.declared.register.Register.TheVariants.{Csr, Scaler, Assign, State, Test, Absent}
use Rattle.registers.specs.declared.register.Register.TheVariants as register
use Rattle.registers.specs.declared.register.Setting.{Setting}
use Rattle.registers.specs.declared.register.Setting.TheVariants.{Control, Factor, RocEnable, Interval, Timer}
use Rattle.registers.proofs.RegistersLaws.{Between, SettingInRange, InRange, numbered_is_in_range}
use Rattle.prescaler.specs.Prescaler.{prescaled_inputs, with_factor_of, factor_of, PassCount}
use Rattle.prescaler.specs.PrescalerFields.{counter_at, factor_at}
use Rattle.prescaler.specs.declared.Prescalers.{Prescalers}
use Rattle.prescaler.proofs.PrescalerLaws.{StandsAt}
use Rattle.prescaler.proofs.PrescalerLoadLaws as load
use Rattle.branch.specs.Branch.{held}
use Rattle.branch.specs.declared.Branch.{Branch}
use Rattle.branches.specs.Readout.{fresh_branches, emptied_of}
use Rattle.branches.proofs.ReadoutLaws as readout
use Rattle.module_core.specs.CoreFields.{with_csr}
use Rattle.module_core.specs.Core as core
use Rattle.module_core.specs.declared.Core.{Core}
use Rattle.supervisor.specs.Supervisor.{fresh_of, reset_of, initialized_of}
use Rattle.supervisor.specs.declared.Supervisor.{Supervisor}
use Rattle.access.specs.Access.{after_csr_of, csr_written_of, setting_written_of, written_of, setting_of, base_of, merged_of}
use Rattle.access.specs.Access.{requested_by, after_read_of}
use Rattle.declines.specs.Modes as modes
use Rattle.declines.specs.Modes.{Modes, modes_of, modes_in}
use Rattle.declines.proofs.ModesLaws.{write_keeps_modes}
use Rattle.account.specs.AccountFields.{Settings, Passes, Account, no_events}
use Rattle.account.specs.Account.{start, after_request, modes_after, factor_set, passes_loaded, still_owed}
use Rattle.account.specs.Account.{after_factor, after_setting, after_write}
use Rattle.account.proofs.Invariant.{SettingsFollow, Ordering, BranchesFollow, Invariant, with_modes_lem}

-- ---- fresh

replicate_reads_zero : (n i : ℕ) → ◌≡◌ {A = ℕ} (get_or (replicate n 0) i 0) 0
replicate_reads_zero zero i = refl
replicate_reads_zero (suc n) zero = refl
replicate_reads_zero (suc n) (suc i) = replicate_reads_zero n i

-- a branch that holds nothing, with nothing loaded
nothing_held : (b : Branch) → held b ≡ [] → Ordering b [] []
nothing_held b none = record { order = none; eight = rw none (lit≤ tt) }

-- fresh branches, and nothing loaded
fresh_branches_lem : (n : ℕ) → BranchesFollow n (fresh_branches n) start.finished [] no_events
fresh_branches_lem n =
    record {
      words = refl;
      number = readout.fresh_has_length n;
      ordering = λ k h. nothing_held _ (readout.fresh_holds_nothing n k h);
    }

-- [Registers.4] [Account.4]
pub fresh_has_invariant : (branches : ℕ)
    → Invariant branches (fresh_of branches).core (fresh_of branches).readout.branches start
unfolding fresh_of core.fresh_of
fresh_has_invariant n =
    record {
      settings = record {
        control = refl;
        eight = load.fresh_has_lengths;
        factors = λ i. sym (replicate_reads_zero prescaled_inputs i);
        count = λ i h owed. load.fresh_has_pass_count i;
      };
      modes = refl;
      pulses = λ i h. refl;
      events = record { balance = refl; decides = refl };
      branches = fresh_branches_lem n;
    }

-- ---- a factor

module _ (b : Prescalers) {control : ℕ} {s : Settings} {q : Passes} (v : SettingsFollow control b s q) (input x : ℕ)
    (range : Between 1 8 input)
  where
    -- the place of the input, counted from 0
    abbrev k : ℕ
    k = input - 1

    abbrev written : (loads : Bool) → Prescalers
    written loads = with_factor_of loads input x b

    -- where it stands at the input written, and everywhere else
    place_of : (i : ℕ) → eqb i k ≡ true → i + 1 ≡ input
    place_of i e = let same : i ≡ k = eqb-true i k e in omega arith

    others : (i : ℕ) → eqb i k ≡ false → (loads : Bool) → StandsAt (written loads) i (counter_at b i) (factor_at b i)
    others i e loads =
        let other : (i ≡ k → ⊥) = eqb-false i k e in
        load.with_factor_keeps_others input x b loads i (λ same. other (omega arith))

    factor_at_lem : (loads : Bool) (i : ℕ) (here : Bool) → eqb i k ≡ here → cond here x (s.factor i) ≡ factor_at (written loads) i
    factor_at_lem true i true e = sym (load.with_factor_loads input x b i (place_of i e) (omega (arith, place_of i e)) v.eight).factor
    factor_at_lem false i true e =
        sym (load.with_factor_keeps_counter input x b i (place_of i e) (omega (arith, place_of i e)) v.eight).factor
    factor_at_lem loads i false e = v.factors i ∙ sym (others i e loads).factor

    -- the count of every other input is as it was
    count_elsewhere : (loads : Bool) (i : ℕ) → i < inputs → eqb i k ≡ false → s.owed i ≡ true
        → PassCount (q.n i) (q.p i) (counter_at (written loads) i) (factor_at (written loads) i)
    count_elsewhere loads i h e owed = rw ((others i e loads).counter, (others i e loads).factor) (v.count i h owed)

    -- [Bytes.4a] a load
    count_loaded : (i : ℕ) → i < inputs → (here : Bool) → eqb i k ≡ here → cond here true (s.owed i) ≡ true
        → PassCount (cond here 0 (q.n i)) (cond here 0 (q.p i)) (counter_at (written true) i) (factor_at (written true) i)
    count_loaded i h true e owed =
        load.with_factor_has_pass_count input x b i (place_of i e) (omega (arith, place_of i e)) v.eight
    count_loaded i h false e owed = count_elsewhere true i h e owed

    -- [Bytes.10a] no load: it is owed only where the factor is what it was
    count_kept : (i : ℕ) → i < inputs → (here : Bool) → eqb i k ≡ here
        → cond here (still_owed k x s) (s.owed i) ≡ true
        → PassCount (q.n i) (q.p i) (counter_at (written false) i) (factor_at (written false) i)
    count_kept i h true e owed =
        let place : i ≡ k = eqb-true i k e in
        let at = load.with_factor_keeps_counter input x b i (place_of i e) (omega (arith, place_of i e)) v.eight in
        let was : s.owed k ≡ true = and_left (s.owed k) (eqb x (s.factor k)) owed in
        let same : x ≡ factor_at b i =
        eqb-true x (s.factor k) (and_right (s.owed k) (eqb x (s.factor k)) owed) ∙ v.factors k ∙ rw place in
        rw (at.counter, at.factor, same) (v.count i h (rw place was))
    count_kept i h false e owed = count_elsewhere false i h e owed

    -- [Registers.2] [Account.7]
    load_keeps_settings : SettingsFollow control (written true) (factor_set k x true s) (passes_loaded k q)
    load_keeps_settings =
        record {
          control = v.control;
          eight = load.with_factor_keeps_lengths input x b true v.eight;
          factors = λ i. factor_at_lem true i (eqb i k) refl;
          count = λ i h owed. count_loaded i h (eqb i k) refl owed;
        }

    change_keeps_settings : SettingsFollow control (written false) (factor_set k x (still_owed k x s) s) q
    change_keeps_settings =
        record {
          control = v.control;
          eight = load.with_factor_keeps_lengths input x b false v.eight;
          factors = λ i. factor_at_lem false i (eqb i k) refl;
          count = λ i h owed. count_kept i h (eqb i k) refl owed;
        }

-- ---- RESET and INITIALIZE

module _ {branches : ℕ} (c : Core) (bs : List Branch) (a : Account) (v : Invariant branches c bs a) where
  -- [CSRWrite.2d] [Account.9] [Test.8b] the write has set the CSR before
  reset_keeps_invariant : (w : word.Csr) (m : Modes) → m ≡ modes_of (c ▷ with_csr w ▷ core.reset_of)
      → Invariant branches (c ▷ with_csr w ▷ core.reset_of) (fresh_branches (length bs)) (after_request Reset m a)
  unfolding core.reset_of
  reset_keeps_invariant w m modes =
      record {
        settings = record {
          control = v.settings.control;
          eight = load.reloaded_keeps_lengths c.prescalers v.settings.eight;
          factors = v.settings.factors;
          count = λ i h owed. load.reloaded_has_pass_count c.prescalers i;
        };
        modes = modes;
        pulses = λ i h. refl;
        events = record { balance = refl; decides = refl };
        branches = rw v.branches.number (fresh_branches_lem branches);
      }

-- ---- a register write

-- [Bytes.10b] the factor that the account keeps of an input is the stored one
factor_is_stored : {branches : ℕ} (s : Supervisor) (a : Account) → Invariant branches s.core s.readout.branches a
    → (input : ℕ) → Between 1 8 input → a.settings.factor (input - 1) ≡ factor_of input s.core.prescalers
unfolding factor_of
factor_is_stored s a v input range =
    v.settings.factors (input - 1)
    ∙ rw (le-leb 1 input range.least, le-leb input prescaled_inputs range.most)

module _ {branches : ℕ} (s : Supervisor) (a : Account) (v : Invariant branches s.core s.readout.branches a) where
  abbrev after : (Supervisor → Supervisor) → Account → Type 0
  after f b = Invariant branches (f s).core (f s).readout.branches b

  -- [Test.9] the record's modes after a write are those that the account follows
  modes_after_lem : (r : Register) (run : Run) (x : ℕ)
      → modes_after r run x a ≡ modes_in (written_of r (has_byte3 run) (merged_of r run x s) s)
  modes_after_lem r run x = ap (modes.after_write r run x) v.modes ∙ sym (write_keeps_modes s r run x)

  -- [CSRWrite.1] [CSRWrite.2d]: but for the modes a CSR write by itself changes nothing that the account follows
  request_keeps_invariant : (q : Request) (w : CsrWrite) (m : Modes) → m ≡ modes_in (after_csr_of q w s)
      → after (after_csr_of q w) (after_request q m a)
  unfolding initialized_of reset_of emptied_of
  request_keeps_invariant Initialize w m modes = rw v.branches.number (fresh_has_invariant branches)
  request_keeps_invariant Reset w m modes =
      reset_keeps_invariant s.core s.readout.branches a v w.next m modes
  request_keeps_invariant Nothing w m modes = with_modes_lem v modes

  -- the bank with a factor written, and the account after it
  factor_keeps_invariant : (loads : Bool) (input x : ℕ) → Between 1 8 input
      → after (setting_written_of (Factor input) loads x) (after_factor loads (input - 1) x a)
  unfolding setting_written_of
  factor_keeps_invariant true input x range =
      record {
        settings = load_keeps_settings s.core.prescalers v.settings input x range;
        modes = v.modes;
        pulses = v.pulses;
        events = v.events;
        branches = v.branches;
      }
  factor_keeps_invariant false input x range =
      record {
        settings = change_keeps_settings s.core.prescalers v.settings input x range;
        modes = v.modes;
        pulses = v.pulses;
        events = v.events;
        branches = v.branches;
      }

  -- the two merges agree: the account's control and factors are the record's
  abbrev merged : Setting → Run → (x : ℕ) → ℕ
  merged r run x = overlaid_of run (setting_of r s) x

  -- [Account.6] [Account.7] [Bytes.10b]
  setting_keeps_invariant : (r : Setting) → SettingInRange r → (run : Run) (x : ℕ)
      → after (setting_written_of r (has_byte3 run) (merged r run x)) (after_setting r run x a)
  unfolding setting_written_of setting_of
  setting_keeps_invariant Control h run x =
      let f = v.settings in
      record {
        settings = record {
          control = ap (λ (old : ℕ). overlaid_of run old x) f.control;
          eight = f.eight;
          factors = f.factors;
          count = f.count;
        };
        modes = v.modes;
        pulses = v.pulses;
        events = v.events;
        branches = v.branches;
      }
  setting_keeps_invariant (Factor input) h run x =
      let stored : ℕ = merged (Factor input) run x in
      let same : stored ≡ overlaid_of run (a.settings.factor (input - 1)) x =
      ap (λ (old : ℕ). overlaid_of run old x) (sym (factor_is_stored s a v input h)) in
      subst (λ (y : ℕ). after (setting_written_of (Factor input) (has_byte3 run) stored) (after_factor (has_byte3 run) (input - 1) y a))
      same (factor_keeps_invariant (has_byte3 run) input stored h)
  setting_keeps_invariant RocEnable h run x = v
  setting_keeps_invariant Interval h run x = v
  setting_keeps_invariant (Timer n) h run x = v

  register_keeps_invariant : (r : Register) → InRange r → (run : Run) (x : ℕ)
      → after (written_of r (has_byte3 run) (merged_of r run x s)) (after_write r run x a)
  unfolding written_of base_of csr_written_of csr.written_of
  register_keeps_invariant Csr h run x = request_keeps_invariant (requested_by run x) _ _ (modes_after_lem Csr run x)
  register_keeps_invariant (register.Setting r) h run x = setting_keeps_invariant r h run x
  register_keeps_invariant (Scaler n) h run x =
      by_cond (λ (next : Supervisor). Invariant branches next.core next.readout.branches a) (has_byte3 run) (λ e. v) (λ e. v)
  register_keeps_invariant Assign h run x = v
  register_keeps_invariant State h run x = v
  register_keeps_invariant Test h run x = with_modes_lem v (modes_after_lem Test run x)
  register_keeps_invariant Absent h run x = v

  -- [Account.5]–[Account.9]
  pub write_keeps_invariant : (number : ℕ) (run : Run) (x : ℕ)
      → after (written_of (numbered_of number) (has_byte3 run) (merged_of (numbered_of number) run x s))
      (after_write (numbered_of number) run x a)
  write_keeps_invariant number run x = register_keeps_invariant (numbered_of number) (numbered_is_in_range number) run x

  -- [Bytes.5a] a read may change a latch, which the account does not follow
  pub read_keeps_invariant : (r : Register) (latches : Bool) → after (after_read_of r latches) a
  unfolding after_read_of
  read_keeps_invariant Csr latches = v
  read_keeps_invariant (register.Setting r) latches = v
  read_keeps_invariant (Scaler n) true = v
  read_keeps_invariant (Scaler n) false = v
  read_keeps_invariant Assign latches = v
  read_keeps_invariant State latches = v
  read_keeps_invariant Test latches = v
  read_keeps_invariant Absent latches = v
