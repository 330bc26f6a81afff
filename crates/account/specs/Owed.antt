-- Where the pass count is owed: demand 3 has it with a proviso, and an account that never owed would balance.
--     document 02      N4
--     keeps_factor      an ask that is no write of an input's factor without BYTE(3)
--     loads            an ask that loads an input's counter: its factor written with BYTE(3), RESET, INITIALIZE
--     PassCountIsOwed  from the start on, as long as every ask keeps that factor
--     LoadOwes         and from every load on
-- Inputs are counted from 0.
-- Own rules of 02 used here: none. Decisions: R7. Left out: nothing.
-- Assumes nothing.
use Rattle.std.specs.Prelude.{◌≡◌, ℕ, ◌-◌, ◌<◌, Bool, true, false, not, ◌&&◌, ◌||◌, List, ◌∷◌, ◌++◌, ◌==◌}
use Rattle.run.specs.Run.{has_byte3}
use Rattle.run.specs.declared.Run.{Run}
use Rattle.registers.specs.Control.{inputs}
use Rattle.registers.specs.Registers.{numbered_of}
use Rattle.registers.specs.declared.csr.Request.{Request}
use Rattle.registers.specs.declared.csr.Request.TheVariants.{Nothing, Reset, Initialize}
use Rattle.registers.specs.declared.register.Register.{Register}
use Rattle.registers.specs.declared.register.Register.TheVariants.{Csr, Scaler, Assign, State, Test, Absent}
use Rattle.registers.specs.declared.register.Register.TheVariants as register
use Rattle.registers.specs.declared.register.Setting.{Setting}
use Rattle.registers.specs.declared.register.Setting.TheVariants.{Control, Factor, RocEnable, Interval, Timer}
use Rattle.supervisor.specs.Supervisor.{fresh_of}
use Rattle.access.specs.Access.{requested_by}
use Rattle.declines.specs.Answers.{done}
use Rattle.declines.specs.Runs.{Ask, write_register, read_register, write_memory, read_memory, fill_memory, tick}
use Rattle.declines.specs.Runs.{Call, call_of, record_after, every_ask, log_of}
use Rattle.account.specs.AccountFields.{Account}
use Rattle.account.specs.Account.{start, account_of}
use Rattle.account.specs.Demand3.{Divides}

-- ---- a write of the factor of input i

abbrev pub is_factor_of : (i : ℕ) → Setting → Bool
is_factor_of i Control = false
is_factor_of i (Factor input) = i == input - 1
is_factor_of i RocEnable = false
is_factor_of i Interval = false
is_factor_of i (Timer n) = false

abbrev pub writes_factor : (i : ℕ) → Register → Bool
writes_factor i Csr = false
writes_factor i (register.Setting r) = is_factor_of i r
writes_factor i (Scaler n) = false
writes_factor i Assign = false
writes_factor i State = false
writes_factor i Test = false
writes_factor i Absent = false

-- [Bytes.4a] it has BYTE(3), or writes something else
abbrev pub keeps_factor : (i : ℕ) → Ask → Bool
keeps_factor i (write_register number run v) = not (writes_factor i (numbered_of number)) || has_byte3 run
keeps_factor i (read_register number run) = true
keeps_factor i (write_memory place word) = true
keeps_factor i (read_memory place) = true
keeps_factor i (fill_memory words) = true
keeps_factor i (tick x) = true

-- ---- a load

abbrev pub request_loads : Request → Bool
request_loads Initialize = true
request_loads Reset = true
request_loads Nothing = false

abbrev pub register_loads : (i : ℕ) → Register → Run → (v : ℕ) → Bool
register_loads i Csr run v = request_loads (requested_by run v)
register_loads i (register.Setting r) run v = is_factor_of i r && has_byte3 run
register_loads i (Scaler n) run v = false
register_loads i Assign run v = false
register_loads i State run v = false
register_loads i Test run v = false
register_loads i Absent run v = false

-- [Bytes.10a] a write with BYTE(3), RESET or INITIALIZE
abbrev pub loads : (i : ℕ) → Ask → Bool
loads i (write_register number run v) = register_loads i (numbered_of number) run v
loads i (read_register number run) = false
loads i (write_memory place word) = false
loads i (read_memory place) = false
loads i (fill_memory words) = false
loads i (tick x) = false

-- ---- the two promises

-- the account of a list of calls from a fresh supervisor
abbrev pub account_after : (branches : ℕ) → List Call → Account
account_after branches calls = account_of (log_of calls (fresh_of branches)) start

-- [Account.17] [Bytes.10a] from the start
unfoldable pub PassCountIsOwed : (branches : ℕ) → Type 0
PassCountIsOwed branches =
    (calls : List Call) (i : ℕ) → i < inputs → every_ask (keeps_factor i) calls ≡ true → Divides (account_after branches calls) i

-- [Account.17] [Bytes.10a] from a load that was carried out, whatever came before it
unfoldable pub LoadOwes : (branches : ℕ) → Type 0
LoadOwes branches =
    (before after : List Call) (c : Call) (i : ℕ) → i < inputs → loads i c.ask ≡ true
    → (call_of c (record_after before (fresh_of branches))).reply ≡ done
    → every_ask (keeps_factor i) after ≡ true → Divides (account_after branches (before ++ (c ∷ after))) i
