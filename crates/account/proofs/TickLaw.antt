-- A tick that runs keeps the invariant, part by part: the masks, the prescalers, the events, the branches.
--     counts_in_force       the pulses that the account counts are those that count of the inputs in force
--     ran_keeps_invariant   on a record that is not spoiled
-- Assumes nothing.
use Rattle.std.proofs.Common.{◌≡◌, ℕ, ◌+◌, ◌<◌, Bool, true, false, List, ◌++◌, length, get_or, sym, refl, ap, ◌∙◌, append_assoc, arith, length-append}
use Rattle.bits.specs.Bits.{one_if_of}
use Rattle.registers.specs.Csr as csr
use Rattle.registers.specs.Control.{inputs, counts}
use Rattle.branch.specs.Branch.{held, is_six_bit_load}
use Rattle.branch.specs.Slots.{words_in, is_word_of}
use Rattle.branch.proofs.BranchLaws.{held_at_most_eight}
use Rattle.branches.specs.ReadoutFields.{branch_at}
use Rattle.branches.specs.Readout as readout
use Rattle.branches.specs.Readout.{no_side}
use Rattle.branches.proofs.ReadoutLaws as branches
use Rattle.sequencer.specs.States.{is_undecided, is_event, is_tag, outcome_words}
use Rattle.sequencer.specs.declared.states.Outcome.{Outcome}
use Rattle.sequencer.specs.declared.states.Outcome.TheVariants.{Nothing, Cleared, Event, Tag}
use Rattle.scalers.specs.Scalers.{is_some}
use Rattle.trigger.specs.Lines.{has_strobe}
use Rattle.trigger.specs.declared.lines.Inputs.{Inputs}
use Rattle.testing.proofs.TestingLaws.{in_force_counts}
use Rattle.module_core.specs.Core as core
use Rattle.module_core.specs.Spoiled.{allows_eight_of}
use Rattle.module_core.specs.declared.CoreStep.{CoreStep}
use Rattle.module_core.proofs.CoreEvents.{EventStep, event_step_balances, undecided_follows}
use Rattle.module_core.proofs.CoreLaws as laws
use Rattle.supervisor.specs.Supervisor.{load_of, core_step_of, readout_step_of, joined_of, ran_of, in_force_of, is_held_of}
use Rattle.supervisor.specs.Supervisor.{is_spoiled_of}
use Rattle.supervisor.specs.declared.Supervisor.{Supervisor}
use Rattle.supervisor.specs.declared.Answer.{Answer}
use Rattle.supervisor.proofs.SupervisorLaws.{load_words, word_is_load}
use Rattle.supervisor.proofs.SupervisorLaws.{unspoiled_is_well_formed, unspoiled_is_sound}
use Rattle.declines.specs.Modes as modes
use Rattle.declines.specs.Modes.{modes_in}
use Rattle.declines.proofs.ModesLaws.{runs_unless_held, ran_keeps_modes}
use Rattle.account.specs.AccountFields.{Events, Account}
use Rattle.account.specs.Account.{counts_in, sums_after, undecided_after, events_after, passes_after, after_tick}
use Rattle.account.proofs.Invariant.{SettingsFollow, Ordering, AddsUp, Invariant}

-- an event and a tag load one word, and nothing else loads any
outcome_loads : (o : Outcome) → length (outcome_words o) ≡ one_if_of (is_event o) + one_if_of (is_tag o)
outcome_loads Nothing = refl
outcome_loads Cleared = refl
outcome_loads (Event w) = refl
outcome_loads (Tag w) = refl

-- ---- the tick, part by part

module _ (memory : List ℕ) (x : Inputs) (s : Supervisor) where
  -- what the tick meets
  abbrev y : Inputs
  y = in_force_of x s

  -- what the core sees of the branches
  abbrev room : Bool
  room = readout.has_room_of (csr.locks_roc s.core.csr) (csr.locks_branch4 s.core.csr) s.readout.branches

  abbrev empty : Bool
  empty = readout.is_empty_of s.readout.branches

  abbrev step : CoreStep
  step = core.step_of room empty y memory s.core

  abbrev answer : Answer
  answer = (ran_of memory y s).answer

  -- the lines of each branch
  abbrev acks : ℕ → ℕ
  acks = readout.lines_at y.acks

  abbrev enabled : ℕ → ℕ
  enabled = readout.lines_at s.readout.roc

  -- [Account.10] [Test.9] with the control and the modes that the account keeps
  module _ (runs : is_held_of s ≡ false) (a : Account) (control : a.settings.control ≡ s.core.control.word)
      (modes : a.modes ≡ modes_in s)
    where
      counts_in_force : (i : ℕ) → i < inputs
          → counts_in a x i ≡ counts s.core.control (has_strobe y.lines) y.triggers i
      unfolding in_force_of
      counts_in_force i h =
          rw (control, modes, runs_unless_held s, runs)
          (sym (in_force_counts s.core.control s.core.test i h s.core.csr x))

      -- [Account.11]
      tick_adds_up : (i : ℕ) → i < inputs → AddsUp a.sums i → AddsUp (sums_after (counts_in a x) answer a.sums) i
      unfolding ran_of joined_of core_step_of readout_step_of
      tick_adds_up i h sums =
          let one = laws.counted_is_in_one_mask room empty y memory s.core i h in
          rw (counts_in_force i h) (omega arith)

      -- [Account.12] [Account.17]
      tick_keeps_settings : SettingsFollow s.core.control.word s.core.prescalers a.settings a.passes
          → SettingsFollow step.next.control.word step.next.prescalers a.settings
          (passes_after (counts_in a x) answer a.passes)
      unfolding ran_of joined_of core_step_of readout_step_of
      tick_keeps_settings v =
          let q = a.passes in
          record {
            control = v.control ∙ ap (λ c. c.word) (sym (laws.step_keeps_control room empty y memory s.core));
            eight = laws.step_keeps_lengths room empty y memory s.core v.eight;
            factors = λ i.
                v.factors i
                ∙ sym (ap (λ (f : List ℕ). get_or f i 0) (laws.step_keeps_factors room empty y memory s.core));
            count = λ i h owed.
                rw (counts_in_force i h)
                (laws.step_keeps_pass_count room empty y memory s.core i (q.n i) (q.p i) h v.eight (v.count i h owed));
          }

  -- [Account.13] [Account.14] [Account.18]
  event_step : EventStep s.core.main.state step.next.main.state (is_some step.masks.accepted)
      step.outcome
  event_step = laws.step_is_event_step room empty y memory s.core

  tick_decides : (e : Events) → e.undecided ≡ is_undecided s.core.main.state
      → (events_after answer e).undecided ≡ is_undecided step.next.main.state
  unfolding ran_of joined_of core_step_of readout_step_of
  tick_decides e decides =
      ap (undecided_after (is_some step.masks.accepted) step.outcome) decides ∙ undecided_follows event_step

  tick_balances_events : (e : Events) → e.undecided ≡ is_undecided s.core.main.state
      → e.accepted ≡ e.cleared + e.loaded + one_if_of e.undecided
      → (events_after answer e).accepted
      ≡ (events_after answer e).cleared + (events_after answer e).loaded + one_if_of (events_after answer e).undecided
  unfolding ran_of joined_of core_step_of readout_step_of
  tick_balances_events e decides events =
      let balance = event_step_balances event_step in
      let state = s.core.main.state in
      let before : e.accepted ≡ e.cleared + e.loaded + one_if_of (is_undecided state) = rw (← decides) events in
      rw (tick_decides e decides) (omega arith)

  -- [Account.14] [Account.15]
  tick_counts_words : (a : Account) → length a.words ≡ a.events.loaded + a.events.tags
      → length (a.words ++ outcome_words answer.outcome)
      ≡ (events_after answer a.events).loaded + (events_after answer a.events).tags
  tick_counts_words a words =
      rw (length-append a.words (outcome_words answer.outcome), outcome_loads answer.outcome) (omega arith)

  -- ---- the branches: a word is loaded where no queue may hold eight

  module _ (clean : is_spoiled_of s ≡ false) where
    load_is_six_bit : is_six_bit_load (load_of step.outcome) ≡ true
    load_is_six_bit = rw (load_words step.outcome) (laws.step_loads_six_bits room empty y memory s.core)

    load_has_room : is_word_of (load_of step.outcome) ≡ true → allows_eight_of s.core ≡ false
    load_has_room h =
        laws.step_loads_below_eight room empty y memory s.core (unspoiled_is_sound s clean)
        (word_is_load step.outcome h)

    -- [Account.15] [Account.16]
    tick_keeps_ordering : (k : ℕ) → k < length s.readout.branches → (finished words : List ℕ)
        → Ordering (branch_at s.readout.branches k) finished words
        → Ordering (branch_at (ran_of memory y s).next.readout.branches k)
        (finished ++ words_in (get_or answer.sides k no_side).finished) (words ++ outcome_words answer.outcome)
    unfolding ran_of joined_of core_step_of readout_step_of readout.step_of
    tick_keeps_ordering k h finished words v =
        let bs = s.readout.branches in
        let load = load_of step.outcome in
        let eight = allows_eight_of s.core in
        let fine = unspoiled_is_well_formed s clean in
        let after = branch_at (readout.branches_after_of acks enabled load bs) k in
        let done = words_in (get_or (readout.sides_after_of acks enabled load bs) k no_side).finished in
        let step-order = branches.step_keeps_order acks enabled load bs k h eight fine load_is_six_bit load_has_room in
        record {
          order =
              append_assoc finished done (held after)
              ∙ ap (λ (l : List ℕ). finished ++ l) step-order
              ∙ sym (append_assoc finished (held (branch_at bs k)) (words_in load))
              ∙ rw (v.order, load_words step.outcome);
          eight =
              held_at_most_eight after
              (branches.step_keeps_well_formed acks enabled load bs k h eight fine load_is_six_bit);
        }

    -- ---- all of it

    pub ran_keeps_invariant : {branches : ℕ} (a : Account) → is_held_of s ≡ false
        → Invariant branches s.core s.readout.branches a
        → Invariant branches (ran_of memory y s).next.core (ran_of memory y s).next.readout.branches
        (after_tick x answer a)
    unfolding ran_of joined_of core_step_of readout_step_of readout.step_of after_tick
    ran_keeps_invariant a runs v =
        let e = v.events in
        let b = v.branches in
        record {
          settings = tick_keeps_settings runs a v.settings.control v.modes v.settings;
          modes = ap modes.after_tick v.modes ∙ sym (ran_keeps_modes s memory y runs);
          pulses = λ i h. tick_adds_up runs a v.settings.control v.modes i h (v.pulses i h);
          events = record {
            balance = tick_balances_events a.events e.decides e.balance;
            decides = tick_decides a.events e.decides;
          };
          branches = record {
            words = tick_counts_words a b.words;
            number = branches.step_keeps_length acks enabled (load_of step.outcome) s.readout.branches ∙ b.number;
            ordering = λ k h. tick_keeps_ordering k (rw b.number h) (a.finished k) a.words (b.ordering k h);
          };
        }
