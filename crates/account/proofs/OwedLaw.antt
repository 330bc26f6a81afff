-- The pass count of an input is owed from the start, and from each load on, as long as no write without BYTE(3) comes to its
-- factor: demand 3's proviso then says nothing.
--     call_keeps_owed         one call that keeps the factor, whatever was answered
--     load_makes_owed         one that loads its counter
--     log_keeps_owed          a whole log
--     pass_count_is_owed, load_owes   n div (F + 1) passed
-- Assumes nothing.
use Rattle.std.proofs.Common.{◌≡◌, ℕ, ◌-◌, Bool, true, false, not, ◌&&◌, ◌||◌, eqb, List, [], ◌∷◌, ◌++◌, refl}
use Rattle.bits.proofs.TestLaws.{and_left, and_right, by_cond}
use Rattle.run.specs.Run.{has_byte3}
use Rattle.run.specs.declared.Run.{Run}
use Rattle.registers.specs.Registers.{numbered_of}
use Rattle.registers.specs.declared.csr.Request.{Request}
use Rattle.registers.specs.declared.csr.Request.TheVariants.{Nothing, Reset, Initialize}
use Rattle.registers.specs.declared.register.Register.{Register}
use Rattle.registers.specs.declared.register.Register.TheVariants.{Csr, Scaler, Assign, State, Test, Absent}
use Rattle.registers.specs.declared.register.Register.TheVariants as register
use Rattle.registers.specs.declared.register.Setting.{Setting}
use Rattle.registers.specs.declared.register.Setting.TheVariants.{Control, Factor, RocEnable, Interval, Timer}
use Rattle.supervisor.specs.Supervisor.{fresh_of}
use Rattle.supervisor.specs.declared.Supervisor.{Supervisor}
use Rattle.access.specs.Access.{requested_by}
use Rattle.declines.specs.Answers.{Reply, declined, done, value, ticked}
use Rattle.declines.specs.Runs.{Ask, write_register, read_register, write_memory, read_memory, fill_memory, tick}
use Rattle.declines.specs.Runs.{Call, call_of, record_after, every_ask, log_of}
use Rattle.declines.specs.Follow.{after_call}
use Rattle.declines.specs.Modes.{Modes}
use Rattle.account.specs.AccountFields.{Account}
use Rattle.account.specs.Account.{after_tick, after_request, after_factor, after_setting, after_write, rules, account_of, start}
use Rattle.account.specs.Demand3.{Demand3}
use Rattle.account.specs.Owed.{is_factor_of, writes_factor, keeps_factor, request_loads, register_loads, loads}
use Rattle.account.specs.Owed.{PassCountIsOwed, LoadOwes}
use Rattle.account.proofs.Theorem.{every_run_balances}

module _ (i : ℕ) where
  -- the pass count of the input is owed
  abbrev Owed : Account → Type 0
  Owed a = a.settings.owed i ≡ true

  -- ---- one call that keeps the factor

  module _ (a : Account) (owed : Owed a) where
    request_keeps_owed : (r : Request) (m : Modes) → Owed (after_request r m a)
    request_keeps_owed Initialize m = refl
    request_keeps_owed Reset m = refl
    request_keeps_owed Nothing m = owed

    -- [Bytes.10a] another input's factor, or a load
    factor_keeps_owed : (k v : ℕ) (loaded : Bool) → (not (eqb i k) || loaded) ≡ true → Owed (after_factor loaded k v a)
    factor_keeps_owed k v true h = by_cond (λ (t : Bool). t ≡ true) (eqb i k) (λ e. refl) (λ e. owed)
    factor_keeps_owed k v false h =
        by_cond (λ (t : Bool). t ≡ true) (eqb i k) (λ e. let z : false ≡ true = rw e at h in cc) (λ e. owed)

    setting_keeps_owed : (r : Setting) (run : Run) (v : ℕ) → (not (is_factor_of i r) || has_byte3 run) ≡ true
        → Owed (after_setting r run v a)
    setting_keeps_owed Control run v h = owed
    setting_keeps_owed (Factor input) run v h = factor_keeps_owed (input - 1) _ (has_byte3 run) h
    setting_keeps_owed RocEnable run v h = owed
    setting_keeps_owed Interval run v h = owed
    setting_keeps_owed (Timer n) run v h = owed

    write_keeps_owed : (r : Register) (run : Run) (v : ℕ) → (not (writes_factor i r) || has_byte3 run) ≡ true
        → Owed (after_write r run v a)
    write_keeps_owed Csr run v h = request_keeps_owed (requested_by run v) _
    write_keeps_owed (register.Setting r) run v h = setting_keeps_owed r run v h
    write_keeps_owed (Scaler n) run v h = owed
    write_keeps_owed Assign run v h = owed
    write_keeps_owed State run v h = owed
    write_keeps_owed Test run v h = owed
    write_keeps_owed Absent run v h = owed

    pub call_keeps_owed : (ask : Ask) (reply : Reply) → keeps_factor i ask ≡ true → Owed (after_call rules ask reply a)
    unfolding after_tick
    call_keeps_owed ask (declined n) h = owed
    call_keeps_owed ask (value v) h = owed
    call_keeps_owed (write_register number run v) done h = write_keeps_owed (numbered_of number) run v h
    call_keeps_owed (read_register number run) done h = owed
    call_keeps_owed (write_memory place word) done h = owed
    call_keeps_owed (read_memory place) done h = owed
    call_keeps_owed (fill_memory words) done h = owed
    call_keeps_owed (tick x) done h = owed
    call_keeps_owed (write_register number run v) (ticked y) h = owed
    call_keeps_owed (read_register number run) (ticked y) h = owed
    call_keeps_owed (write_memory place word) (ticked y) h = owed
    call_keeps_owed (read_memory place) (ticked y) h = owed
    call_keeps_owed (fill_memory words) (ticked y) h = owed
    call_keeps_owed (tick x) (ticked y) h = owed

  -- ---- one call that loads the counter

  module _ (a : Account) where
    request_makes_owed : (r : Request) (m : Modes) → request_loads r ≡ true → Owed (after_request r m a)
    request_makes_owed Initialize m h = refl
    request_makes_owed Reset m h = refl
    request_makes_owed Nothing m h = cc

    factor_makes_owed : (k v : ℕ) (loaded : Bool) → (eqb i k && loaded) ≡ true → Owed (after_factor loaded k v a)
    factor_makes_owed k v true h = rw (and_left (eqb i k) true h)
    factor_makes_owed k v false h = let z : false ≡ true = and_right (eqb i k) false h in cc

    setting_makes_owed : (r : Setting) (run : Run) (v : ℕ) → (is_factor_of i r && has_byte3 run) ≡ true
        → Owed (after_setting r run v a)
    setting_makes_owed Control run v h = cc
    setting_makes_owed (Factor input) run v h = factor_makes_owed (input - 1) _ (has_byte3 run) h
    setting_makes_owed RocEnable run v h = cc
    setting_makes_owed Interval run v h = cc
    setting_makes_owed (Timer n) run v h = cc

    write_makes_owed : (r : Register) (run : Run) (v : ℕ) → register_loads i r run v ≡ true → Owed (after_write r run v a)
    write_makes_owed Csr run v h = request_makes_owed (requested_by run v) _ h
    write_makes_owed (register.Setting r) run v h = setting_makes_owed r run v h
    write_makes_owed (Scaler n) run v h = cc
    write_makes_owed Assign run v h = cc
    write_makes_owed State run v h = cc
    write_makes_owed Test run v h = cc
    write_makes_owed Absent run v h = cc

    pub load_makes_owed : (ask : Ask) → loads i ask ≡ true → Owed (after_call rules ask done a)
    load_makes_owed (write_register number run v) h = write_makes_owed (numbered_of number) run v h
    load_makes_owed (read_register number run) h = cc
    load_makes_owed (write_memory place word) h = cc
    load_makes_owed (read_memory place) h = cc
    load_makes_owed (fill_memory words) h = cc
    load_makes_owed (tick x) h = cc

  -- ---- the whole run

  pub log_keeps_owed : (calls : List Call) (s : Supervisor) (a : Account) → every_ask (keeps_factor i) calls ≡ true → Owed a
      → Owed (account_of (log_of calls s) a)
  log_keeps_owed [] s a h owed = owed
  log_keeps_owed (c ∷ cs) s a h owed =
      log_keeps_owed cs (call_of c s).next _ (and_right (keeps_factor i c.ask) (every_ask (keeps_factor i) cs) h)
      (call_keeps_owed a owed c.ask (call_of c s).reply
      (and_left (keeps_factor i c.ask) (every_ask (keeps_factor i) cs) h))

  -- from a load on, whatever came before it
  log_loads_owed : (before after : List Call) (c : Call) (s : Supervisor) (a : Account) → loads i c.ask ≡ true
      → (call_of c (record_after before s)).reply ≡ done → every_ask (keeps_factor i) after ≡ true
      → Owed (account_of (log_of (before ++ (c ∷ after)) s) a)
  log_loads_owed [] after c s a load carried h =
      log_keeps_owed after (call_of c s).next _ h (rw carried (load_makes_owed a c.ask load))
  log_loads_owed (b ∷ bs) after c s a load carried h =
      log_loads_owed bs after c (call_of b s).next _ load carried h

-- [Account.17] [Bytes.10a]
pub pass_count_is_owed : (branches : ℕ) → PassCountIsOwed branches
unfolding PassCountIsOwed Demand3
pass_count_is_owed branches calls i below h =
    (every_run_balances branches calls).prescales i below (log_keeps_owed i calls (fresh_of branches) start h refl)

pub load_owes : (branches : ℕ) → LoadOwes branches
unfolding LoadOwes Demand3
load_owes branches before after c i below load carried h =
    (every_run_balances branches (before ++ (c ∷ after))).prescales i below
    (log_loads_owed i before after c (fresh_of branches) start load carried h)
