-- A tick that is held keeps the invariant: what counts is stopped, and nothing else is said.
--     counts_when_held       the pulses that the account counts are those stopped
--     held_keeps_invariant   on any record
-- Assumes nothing.
use Rattle.std.proofs.Common.{◌≡◌, ℕ, ◌+◌, ◌<◌, Bool, true, false, not, ◌&&◌, List, [], ◌++◌, get_or, sym, refl, ap, ◌∙◌, append-nil, arith}
use Rattle.bits.specs.Bits.{bit_at}
use Rattle.bits.proofs.BitsLaws.{zero_at}
use Rattle.registers.specs.Control.{inputs}
use Rattle.branch.specs.Slots.{words_in}
use Rattle.branches.specs.ReadoutFields.{branch_at}
use Rattle.branches.specs.Readout.{no_side}
use Rattle.branches.proofs.ReadoutLaws.{standing_finishes_nothing}
use Rattle.trigger.specs.declared.lines.Inputs.{Inputs}
use Rattle.testing.specs.InForce as testing
use Rattle.testing.proofs.TestingLaws.{held_stops_counted}
use Rattle.supervisor.specs.Supervisor.{is_held_of, held_of}
use Rattle.supervisor.specs.declared.Supervisor.{Supervisor}
use Rattle.supervisor.specs.declared.Answer.{Answer}
use Rattle.declines.specs.Modes as modes
use Rattle.declines.specs.Modes.{modes_in}
use Rattle.declines.proofs.ModesLaws.{runs_unless_held, held_keeps_modes}
use Rattle.account.specs.AccountFields.{Account}
use Rattle.account.specs.Account.{counts_in, sums_after, passes_after, after_tick}
use Rattle.account.proofs.Invariant.{SettingsFollow, Ordering, AddsUp, Invariant}

-- a pulse that is stopped meets no prescaler
stopped_meets_none : (b : Bool) → (b && not b) ≡ false
stopped_meets_none true = refl
stopped_meets_none false = refl

stopped_passes_none : (b t : Bool) → (b && (not b && t)) ≡ false
stopped_passes_none true t = refl
stopped_passes_none false t = refl

none_more : (n : ℕ) → n + 0 ≡ n
none_more n = omega arith

module _ (x : Inputs) (s : Supervisor) (stands : is_held_of s ≡ true) where
  abbrev answer : Answer
  answer = (held_of x s).answer

  module _ (a : Account) (control : a.settings.control ≡ s.core.control.word) (modes : a.modes ≡ modes_in s) where
    -- [Test.7a] [Test.9]
    counts_when_held : (i : ℕ) → i < inputs → counts_in a x i ≡ bit_at answer.masks.stopped i
    unfolding held_of testing.held_masks_of
    counts_when_held i h =
        rw (control, modes, runs_unless_held s, stands) (sym (held_stops_counted s.core.csr s.core.control x i h))

    -- [Account.11]
    held_adds_up : (i : ℕ) → i < inputs → AddsUp a.sums i → AddsUp (sums_after (counts_in a x) answer a.sums) i
    unfolding held_of testing.held_masks_of
    held_adds_up i h sums = rw (counts_when_held i h, zero_at i) (omega arith)

    -- [Account.12]
    held_keeps_settings : SettingsFollow s.core.control.word s.core.prescalers a.settings a.passes
        → SettingsFollow s.core.control.word s.core.prescalers a.settings
        (passes_after (counts_in a x) answer a.passes)
    held_keeps_settings v =
        record {
          control = v.control;
          eight = v.eight;
          factors = v.factors;
          count = λ i h owed.
              rw (
                counts_when_held i h,
                stopped_meets_none (bit_at answer.masks.stopped i),
                stopped_passes_none (bit_at answer.masks.stopped i) (not (bit_at answer.masks.scaled i)),
                none_more (a.passes.n i),
                none_more (a.passes.p i),
              )
              (v.count i h owed);
        }

  -- [Test.7a] nothing finishes
  held_keeps_ordering : (k : ℕ) → (finished words : List ℕ) → Ordering (branch_at s.readout.branches k) finished words
      → Ordering (branch_at s.readout.branches k) (finished ++ words_in (get_or answer.sides k no_side).finished) (words ++ [])
  unfolding held_of
  held_keeps_ordering k finished words v =
      rw (standing_finishes_nothing s.readout.branches k, append-nil finished, append-nil words) v

  pub held_keeps_invariant : {branches : ℕ} (a : Account) → Invariant branches s.core s.readout.branches a
      → Invariant branches s.core s.readout.branches (after_tick x answer a)
  unfolding after_tick held_of testing.held_masks_of
  held_keeps_invariant a v =
      let e = v.events in
      let b = v.branches in
      record {
        settings = held_keeps_settings a v.settings.control v.modes v.settings;
        modes = ap modes.after_tick v.modes ∙ sym (held_keeps_modes s stands);
        pulses = λ i h. held_adds_up a v.settings.control v.modes i h (v.pulses i h);
        events = record { balance = omega (arith, e.balance); decides = e.decides };
        branches = record {
          words = rw (append-nil a.words) (omega (arith, b.words));
          number = b.number;
          ordering = λ k h. held_keeps_ordering k (a.finished k) a.words (b.ordering k h);
        };
      }
