-- The account of demand 3: what a bystander keeps, from the log of asks and replies alone.
--     document 01    "The account of demand 3"; document 02, N4 and N5
--     start_of        the account at the start, at modes, a control value and factors that were written
--     after_tick      after a tick that was carried out
--     after_write     after a register write that was carried out
--     account_of      after a whole log; by its type it sees neither record nor memory
-- It shares with the machine only words: which register a number names, which bytes a run holds, what a CSR write asks, which
-- inputs are enabled and which pulses count, what a mask's bit is, which outcome an answer reports and the word in it.
-- Own rules of 01 used here: none. Decisions: R7, T9. Left out: how the modes follow the log, in declines.
-- Assumes nothing.
use Rattle.std.specs.Prelude.{ℕ, ◌+◌, ◌-◌, Bool, true, not, ◌&&◌, ◌||◌, List, [], ◌++◌, ◌==◌, slice_index_or, if◌then◌else◌}
use Rattle.bits.specs.Notation.{◌▷◌}
use Rattle.bits.specs.Bits.{bit_at, one_if_of}
use Rattle.run.specs.Run.{has_byte3, overlaid_of}
use Rattle.run.specs.declared.Run.{Run}
use Rattle.registers.specs.Control.{is_enabled, counts}
use Rattle.registers.specs.declared.control.Control.{Control}
use Rattle.registers.specs.declared.csr.Request.{Request}
use Rattle.registers.specs.declared.csr.Request.TheVariants.{Nothing, Reset, Initialize}
use Rattle.registers.specs.declared.register.Register.{Register}
use Rattle.registers.specs.declared.register.Register.TheVariants.{Csr, Scaler, Assign, State, Test, Absent}
use Rattle.registers.specs.declared.register.Register.TheVariants as register
use Rattle.registers.specs.declared.register.Setting.{Setting}
use Rattle.registers.specs.declared.register.Setting.TheVariants.{Factor, RocEnable, Interval, Timer}
use Rattle.registers.specs.declared.register.Setting.TheVariants as setting
use Rattle.branch.specs.Slots.{words_in}
use Rattle.branches.specs.Readout.{no_side}
use Rattle.sequencer.specs.States.{outcome_words, is_cleared, is_event, is_tag}
use Rattle.sequencer.specs.declared.states.Outcome.{Outcome}
use Rattle.scalers.specs.Scalers.{is_some}
use Rattle.trigger.specs.Lines.{has_strobe}
use Rattle.trigger.specs.declared.lines.Inputs.{Inputs}
use Rattle.supervisor.specs.declared.Answer.{Answer}
use Rattle.access.specs.Access.{requested_by}
use Rattle.declines.specs.Runs.{Entry}
use Rattle.declines.specs.Follow.{Rules, after_log}
use Rattle.declines.specs.Modes as modes
use Rattle.declines.specs.Modes.{Modes, no_modes, runs}
use Rattle.account.specs.AccountFields.{Settings, Passes, Sums, Events, Account, no_passes, no_sums, no_events}
use Rattle.account.specs.AccountFields.{with_settings, with_modes, with_passes, put}

-- ---- the start

-- [Account.4] [Account.9] all counts 0, all lists empty, nothing undecided; [Bytes.10a] every pass count is owed
abbrev pub start_of : Modes → (control : ℕ) → (factor : ℕ → ℕ) → Account
start_of modes control factor =
    record {
      settings = record { control = control; factor = factor; owed = λ i. true };
      modes = modes;
      passes = no_passes;
      sums = no_sums;
      events = no_events;
      words = [];
      finished = λ k. [];
    }

-- [Account.4] control 0, every factor 0; [Test.9] both modes off, nothing waits
abbrev pub start : Account
start = start_of no_modes 0 (λ i. 0)

-- ---- a tick carried out

-- the control that the account keeps
abbrev control_in : Account → Control
control_in a = record { word = a.settings.control }

-- [Test.3] [Test.9] a written pulse counts at every enabled input, in a tick that runs
abbrev pub test_counts : Account → (i : ℕ) → Bool
test_counts a i = runs a.modes && (bit_at a.modes.waiting 0 && is_enabled (control_in a) i)

-- [Account.10] the pulse rule; [Test.7a] [Test.9] in test mode no outside pulse counts
abbrev pub counts_in : Account → Inputs → (i : ℕ) → Bool
counts_in a x i =
    if a.modes.test then test_counts a i else counts (control_in a) (has_strobe x.lines) x.triggers i

-- one more where the test holds
abbrev pub add : (ℕ → ℕ) → (ℕ → Bool) → ℕ → ℕ
add f test i = f i + one_if_of (test i)

-- [Account.11]
abbrev pub sums_after : (counted : ℕ → Bool) → Answer → Sums → Sums
sums_after counted y s =
    record {
      counted = add s.counted counted;
      stopped = add s.stopped (bit_at y.masks.stopped);
      scaled = add s.scaled (bit_at y.masks.scaled);
      lost = add s.lost (bit_at y.masks.lost);
      rejected = add s.rejected (bit_at y.masks.rejected);
      accepted = add s.accepted (bit_at y.masks.accepted);
    }

-- [Account.14] such an outcome leaves nothing undecided
abbrev pub decides : Outcome → Bool
decides o = is_cleared o || (is_event o || is_tag o)

-- [Account.13] [Account.14]
abbrev pub undecided_after : (accepted : Bool) → Outcome → Bool → Bool
undecided_after accepted o before = not (decides o) && (accepted || before)

abbrev pub events_after : Answer → Events → Events
events_after y e =
    record {
      accepted = e.accepted + one_if_of (is_some y.masks.accepted);
      cleared = e.cleared + one_if_of (is_cleared y.outcome);
      loaded = e.loaded + one_if_of (is_event y.outcome);
      tags = e.tags + one_if_of (is_tag y.outcome);
      undecided = undecided_after (is_some y.masks.accepted) y.outcome e.undecided;
    }

-- [Account.12] n counts what is not in stopped, p what is not in scaled either
abbrev pub passes_after : (counted : ℕ → Bool) → Answer → Passes → Passes
passes_after counted y q =
    record {
      n = add q.n (λ i. counted i && not (bit_at y.masks.stopped i));
      p = add q.p (λ i. counted i && (not (bit_at y.masks.stopped i) && not (bit_at y.masks.scaled i)));
    }

-- [Account.15] a loaded word joins the words, each finished word its branch's; [Test.9] in a tick that runs what
-- waits has acted
unfoldable pub after_tick : Inputs → Answer → Account → Account
after_tick x y a =
    record {
      settings = a.settings;
      modes = modes.after_tick a.modes;
      passes = passes_after (counts_in a x) y a.passes;
      sums = sums_after (counts_in a x) y a.sums;
      events = events_after y a.events;
      words = a.words ++ outcome_words y.outcome;
      finished = λ k. a.finished k ++ words_in (slice_index_or y.sides k no_side).finished;
    }

-- ---- a register write carried out

-- [Account.8] [Account.9]; [Test.8b] with the modes as the write leaves them
abbrev pub after_request : Request → Modes → Account → Account
after_request Initialize m a = start
after_request Reset m a = start_of m a.settings.control a.settings.factor
after_request Nothing m a = a ▷ with_modes m

-- the settings with another factor of an input, counted from 0, and whether its pass count is owed
abbrev pub factor_set : (i v : ℕ) (owed : Bool) → Settings → Settings
factor_set i v owed s = record { control = s.control; factor = put s.factor i v; owed = put s.owed i owed }

-- [Account.7] its own n and p start anew
abbrev pub passes_loaded : (i : ℕ) → Passes → Passes
passes_loaded i q = record { n = put q.n i 0; p = put q.p i 0 }

-- [Bytes.10b] only a load does that; from it on the pass count is owed
abbrev pub after_load : (i v : ℕ) → Account → Account
after_load i v a = a ▷ with_settings (factor_set i v true a.settings) ▷ with_passes (passes_loaded i a.passes)

-- [Bytes.10a] without a load it is owed for as long as the factor stays what it was
abbrev pub still_owed : (i v : ℕ) → Settings → Bool
still_owed i v s = s.owed i && v == s.factor i

abbrev pub after_change : (i v : ℕ) → Account → Account
after_change i v a = a ▷ with_settings (factor_set i v (still_owed i v a.settings) a.settings)

-- [Bytes.4a] a write with BYTE(3) loads; i is the input, counted from 0, v the merged value
abbrev pub after_factor : (loads : Bool) (i v : ℕ) → Account → Account
after_factor loads i v a = if loads then after_load i v a else after_change i v a

-- [Account.5] [Account.6] every other setting leaves it alone; [Bytes.10b] the account keeps merged values
abbrev pub after_setting : Setting → Run → (v : ℕ) → Account → Account
after_setting setting.Control run v a =
    let s = a.settings in
    a ▷ with_settings (record { control = overlaid_of run s.control v; factor = s.factor; owed = s.owed })
after_setting (Factor input) run v a =
    after_factor (has_byte3 run) (input - 1) (overlaid_of run (a.settings.factor (input - 1)) v) a
after_setting RocEnable run v a = a
after_setting Interval run v a = a
after_setting (Timer n) run v a = a

-- [Test.9] the modes, after the write
abbrev pub modes_after : Register → Run → (v : ℕ) → Account → Modes
modes_after r run v a = modes.after_write r run v a.modes

-- [Account.5] and every other register; [Bytes.3b] what a CSR write lacks counts as 0
abbrev pub after_write : Register → Run → (v : ℕ) → Account → Account
after_write Csr run v a = after_request (requested_by run v) (modes_after Csr run v a) a
after_write (register.Setting r) run v a = after_setting r run v a
after_write (Scaler n) run v a = a
after_write Assign run v a = a
after_write State run v a = a
after_write Test run v a = a ▷ with_modes (modes_after Test run v a)
after_write Absent run v a = a

-- ---- a whole log

abbrev pub rules : Rules Account
rules = record { wrote = after_write; ticked = after_tick }

-- [Account.3] [Account.5]
abbrev pub account_of : List Entry → Account → Account
account_of log a = after_log rules log a
