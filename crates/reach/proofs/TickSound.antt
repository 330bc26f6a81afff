-- A tick that runs keeps a record that is not spoiled so, whatever inputs are in force.
--     load_allows_eight      after a load a queue may hold eight words
--     leaves_by_test         where eight words are no longer allowed, the branches passed the test
--     tick_keeps_type        arrays of eight, an interval of 16 bits
--     tick_keeps_unspoiled   a tick that is carried out
-- Assumes nothing.
use Rattle.std.specs.Prelude.{if◌then◌else◌}
use Rattle.std.proofs.Common.{◌≡◌, ℕ, ◌<◌, Bool, true, false, not, ◌&&◌, ◌||◌, List, length, sym, refl, ap, ◌∙◌, ap₂, true≢false, arith}
use mathlib.Core.Bool.{false≢true}
use Rattle.bits.proofs.TestLaws.{and_left, by_cond, or_true}
use Rattle.registers.specs.Csr as csr
use Rattle.sync.proofs.SyncLaws.{user_tag_exactly, user_waits_exactly}
use Rattle.branch.specs.Branch.{queue_depth}
use Rattle.branch.proofs.BranchLaws.{held_length}
use Rattle.branches.specs.ReadoutFields.{branch_at}
use Rattle.branches.specs.Readout as readout
use Rattle.branches.proofs.ReadoutLaws as laws
use Rattle.branch.specs.declared.Branch.{Branch}
use Rattle.sequencer.specs.MemoryWord.{is_ok_word}
use Rattle.sequencer.specs.MainFields.{quiet}
use Rattle.sequencer.specs.States.{is_idle, is_loaded, is_event}
use Rattle.sequencer.specs.MainSequencer as main
use Rattle.sequencer.proofs.MainLaws.{step_loads_in_order, aged_keeps_state}
use Rattle.sequencer.specs.declared.states.State.{State}
use Rattle.sequencer.specs.declared.states.State.TheVariants.{Idle, Delay, Wait2, Wait3}
use Rattle.sequencer.specs.declared.states.State.TheVariants.{Front, Space, SyncHold, Clear}
use Rattle.sequencer.specs.declared.states.Outcome.TheVariants.{Tag}
use Rattle.sequencer.specs.declared.main_sequencer.MainStep.{MainStep}
use Rattle.sync.specs.UserSync.{tag_word}
use Rattle.sync.specs.SyncCounter as counter
use Rattle.sync.specs.declared.counter.SyncCounter.{SyncCounter}
use Rattle.sync.specs.declared.user.UserStep.{UserStep}
use Rattle.scalers.specs.Scalers as scalers
use Rattle.trigger.specs.Latch.{word_at_of}
use Rattle.trigger.specs.Effects as effects
use Rattle.trigger.specs.declared.lines.Inputs.{Inputs}
use Rattle.trigger.specs.declared.latch.Latch.{Latch}
use Rattle.trigger.proofs.LatchLaws.{accepted_is_ready}
use Rattle.module_core.specs.Core as core
use Rattle.module_core.specs.Spoiled.{allows_eight_of}
use Rattle.module_core.proofs.CoreParts.{is_load, main_has_no_tag}
use Rattle.module_core.proofs.CoreLaws as coreLaws
use Rattle.module_core.specs.declared.Core.{Core}
use Rattle.module_core.specs.declared.CoreStep.{CoreStep}
use Rattle.supervisor.specs.Supervisor.{core_step_of, readout_step_of, joined_of, ran_of}
use Rattle.supervisor.specs.declared.Supervisor.{Supervisor}
use Rattle.reach.specs.NeverSpoiled.{OfType}
use Rattle.reach.proofs.Sound.{Unspoiled, sound_test}
use Rattle.reach.proofs.SequencersSound.{tick_keeps_sequencers}
use Rattle.reach.proofs.CoreSound.{tick_keeps_bank, tick_keeps_registers}
use Rattle.reach.proofs.ReadoutSound.{branch_stays_sound}

-- ---- what the core's step says of eight words

loaded_is_not_idle : (g : State) → is_loaded g ≡ true → is_idle g ≡ false
loaded_is_not_idle Idle h = absurd (false≢true h)
loaded_is_not_idle Delay h = refl
loaded_is_not_idle Wait2 h = refl
loaded_is_not_idle Wait3 h = refl
loaded_is_not_idle Front h = refl
loaded_is_not_idle Space h = refl
loaded_is_not_idle SyncHold h = refl
loaded_is_not_idle Clear h = refl

or_none_left : (a b : Bool) → (a || b) ≡ false → a ≡ false
or_none_left true b h = h
or_none_left false b h = refl

or_none_right : (a b : Bool) → (a || b) ≡ false → b ≡ false
or_none_right true b h = absurd (true≢false h)
or_none_right false b h = h

-- a user sync that waited and does no longer found every branch empty
wait_over : (waiting wanted empty : Bool) → waiting ≡ true → ((not waiting && wanted) || (waiting && not empty)) ≡ false
    → empty ≡ true
wait_over true wanted true h e = refl
wait_over true wanted false h e = absurd (true≢false e)
wait_over false wanted empty h e = absurd (false≢true h)

module _ (room empty : Bool) (x : Inputs) (memory : List ℕ) (c : Core) where
  abbrev passed : ℕ
  passed = (core.pulsed_of x c).passed

  abbrev word : ℕ
  word = word_at_of memory passed

  abbrev latch : Latch
  latch = core.latch_in x memory c

  abbrev main_step : MainStep
  main_step = core.main_step_of room empty x.lines latch word c

  abbrev cycle : MainStep
  cycle = core.cycle_step_of room empty x.lines c

  -- an event that main loads leaves it waiting for the branches
  event_is_loaded : is_event main_step.outcome ≡ true → is_loaded main_step.next.state ≡ true
  unfolding core.main_step_of
  event_is_loaded =
      by_cond (λ (s : MainStep). is_event s.outcome ≡ true → is_loaded s.next.state ≡ true)
      (scalers.is_some latch.accepted) (λ e h. absurd (false≢true h)) (λ e. (step_loads_in_order _ _).load_after)

  tag_waits : (core.user_step_of empty c).tag ≡ true → (core.user_step_of empty c).next.waiting ≡ true
  tag_waits h =
      let wanted = csr.wants_user_sync c.csr in
      let idle = is_idle c.main.state in
      user_waits_exactly wanted idle empty c.user
      ∙ ap (λ (t : Bool). t || (c.user.waiting && not empty)) (sym (user_tag_exactly wanted idle empty c.user) ∙ h)

  -- [Spoiled.1f]
  load_allows_eight : is_load (core.step_of room empty x memory c).outcome ≡ true
      → allows_eight_of (core.step_of room empty x memory c).next ≡ true
  unfolding core.step_of core.settled_of
  load_allows_eight = go (core.user_step_of empty c).tag refl
    where
      go : (tag : Bool) → (core.user_step_of empty c).tag ≡ tag
          → is_load (effects.outcome_of main_step (core.user_step_of empty c)) ≡ true
          → (is_loaded main_step.next.state || (core.user_step_of empty c).next.waiting) ≡ true
      go true e h = or_true (is_loaded main_step.next.state) _ (tag_waits e)
      go false e h = by (is_event main_step.outcome) refl
        where
          by : (event : Bool) → is_event main_step.outcome ≡ event
              → (is_loaded main_step.next.state || (core.user_step_of empty c).next.waiting) ≡ true
          by true q = ap (λ (t : Bool). t || (core.user_step_of empty c).next.waiting) (event_is_loaded q)
          by false q =
              let outcome = ap (λ (t : Bool). is_load (if t then Tag tag_word else main_step.outcome)) e in
              absurd (true≢false (sym h ∙ outcome ∙ ap₂ ◌||◌ q (main_has_no_tag room empty x.lines c latch word)))

  -- main that waits for the branches accepts nothing
  loaded_goes_on : is_loaded c.main.state ≡ true → main_step ≡ cycle
  unfolding core.main_step_of
  loaded_goes_on h = ap (λ (t : Bool). if t then quiet (main.accepted_of word c.main) else cycle) (go _ refl)
    where
      go : (t : Bool) → scalers.is_some latch.accepted ≡ t → t ≡ false
      go true e =
          let ready : Bool = core.is_ready_of x.lines c in
          let rule = and_left ready _ (accepted_is_ready ready (is_ok_word word) passed e) in
          sym (and_left (is_idle c.main.state) _ rule) ∙ loaded_is_not_idle c.main.state h
      go false e = refl

  -- [Main.13] [Main.14] [Usersync.2] where eight words are no longer allowed, the branches passed the test
  leaves_by_test : allows_eight_of c ≡ true → allows_eight_of (core.step_of room empty x memory c).next ≡ false
      → (room || empty) ≡ true
  unfolding core.step_of core.settled_of core.tests_of
  leaves_by_test = go c.user.waiting (is_loaded c.main.state) refl refl
    where
      waits_after : Bool
      waits_after = (core.user_step_of empty c).next.waiting

      go : (waiting loaded : Bool) → c.user.waiting ≡ waiting → is_loaded c.main.state ≡ loaded
          → (is_loaded c.main.state || c.user.waiting) ≡ true
          → (is_loaded main_step.next.state || waits_after) ≡ false → (room || empty) ≡ true
      go true loaded w l eight after =
          let ends = user_waits_exactly (csr.wants_user_sync c.csr) (is_idle c.main.state) empty c.user in
          let gone = sym (or_none_right (is_loaded main_step.next.state) waits_after after) ∙ ends in
          or_true room empty (wait_over c.user.waiting _ empty w (sym gone))
      go false true w l eight after =
          let main-left = or_none_left (is_loaded main_step.next.state) waits_after after in
          let state = ap (λ (s : MainStep). is_loaded s.next.state) (loaded_goes_on l) in
          (step_loads_in_order _ _).leaves (ap is_loaded (aged_keeps_state c.main) ∙ l) (sym state ∙ main-left)
      go false false w l eight after = absurd (true≢false (sym eight ∙ ap₂ ◌||◌ l w))

-- ---- the tick of the whole record

sync_keeps_interval : (enabled : Bool) (m : MainStep) (w : UserStep) (c : SyncCounter)
    → (effects.sync_after_of enabled m w c).interval ≡ c.interval
unfolding effects.sync_after_of counter.after_load_of
sync_keeps_interval enabled m w c =
    by_cond (λ (r : SyncCounter). r.interval ≡ c.interval) (m.ended || w.ended) (λ e. refl)
    (λ e.
    by_cond (λ (r : SyncCounter). r.interval ≡ c.interval) (is_event m.outcome)
    (λ e.
    by_cond (λ (r : SyncCounter). r.interval ≡ c.interval)
    (not (counter.reaches_interval c) && counter.is_counting enabled c) (λ e. refl) (λ e. refl))
    (λ e. refl))

interval_stays : (room empty : Bool) (x : Inputs) (memory : List ℕ) (c : Core)
    → (core.step_of room empty x memory c).next.sync.interval ≡ c.sync.interval
unfolding core.step_of core.settled_of
interval_stays room empty x memory c =
    sync_keeps_interval (csr.enables_sync c.csr) (main_step room empty x memory c) (core.user_step_of empty c) c.sync

-- every branch has room where the core's test on the branches held
test_gives_room : (lock lock4 : Bool) (bs : List Branch) (k : ℕ) → k < length bs
    → (readout.has_room_of lock lock4 bs || readout.is_empty_of bs) ≡ true → (branch_at bs k).len < queue_depth
test_gives_room lock lock4 bs k h = go (readout.has_room_of lock lock4 bs) refl
  where
    go : (room : Bool) → readout.has_room_of lock lock4 bs ≡ room → (room || readout.is_empty_of bs) ≡ true
        → (branch_at bs k).len < queue_depth
    go true e t = laws.room_is_below_eight bs k h lock lock4 e
    go false e t =
        let none = ap length (laws.empty_at bs k h t) in
        omega (arith, none, held_length (branch_at bs k))

module _ (memory : List ℕ) (x : Inputs) (s : Supervisor) (of_type : OfType s)
    (u : Unspoiled s.core s.readout.branches)
  where
    pub tick_keeps_type : OfType (ran_of memory x s).next
    unfolding ran_of joined_of core_step_of
    tick_keeps_type =
        let lock = csr.locks_roc s.core.csr in
        let lock4 = csr.locks_branch4 s.core.csr in
        let room = readout.has_room_of lock lock4 s.readout.branches in
        let empty = readout.is_empty_of s.readout.branches in
        record {
          eight = coreLaws.step_keeps_lengths room empty x memory s.core of_type.eight;
          interval = rw (interval_stays room empty x memory s.core) of_type.interval;
        }

    pub tick_keeps_unspoiled : Unspoiled (ran_of memory x s).next.core (ran_of memory x s).next.readout.branches
    unfolding ran_of joined_of core_step_of readout_step_of readout.step_of
    tick_keeps_unspoiled =
        let lock = csr.locks_roc s.core.csr in
        let lock4 = csr.locks_branch4 s.core.csr in
        let room = readout.has_room_of lock lock4 s.readout.branches in
        let empty = readout.is_empty_of s.readout.branches in
        let acks = readout.lines_at x.acks in
        let enabled = readout.lines_at s.readout.roc in
        let bs = s.readout.branches in
        let step : CoreStep = core.step_of room empty x memory s.core in
        record {
          bank = tick_keeps_bank room empty x memory s.core u.bank;
          registers = tick_keeps_registers room empty x memory s.core u.registers;
          sequencers = tick_keeps_sequencers room empty x memory s.core u.sequencers of_type.interval;
          branches = λ k h.
              let before = rw (laws.step_keeps_length acks enabled _ bs) at h in
              branch_stays_sound acks enabled (allows_eight_of s.core) bs u.branches k before step.outcome
              (allows_eight_of step.next)
              (coreLaws.step_loads_six_bits room empty x memory s.core)
              (load_allows_eight room empty x memory s.core)
              (coreLaws.step_loads_below_eight room empty x memory s.core (sound_test s.core bs u))
              (λ e e'.
              test_gives_room lock lock4 bs k before (leaves_by_test room empty x memory s.core e e'));
        }
