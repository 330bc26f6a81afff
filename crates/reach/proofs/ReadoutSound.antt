-- One branch after a tick: what of the spoiled rule it keeps.
--     adds_none            without a load a branch holds no more words than before
--     branch_stays_sound   its clauses after a tick, by the outcome
-- Assumes nothing.
use Rattle.std.proofs.Common.{◌≡◌, ℕ, ◌<◌, ◌≤◌, Bool, true, false, List, length, get_or, sym, refl, ap, ◌∙◌, true≢false, append-nil, arith, length-append, ltb-true, lt-ltb}
use mathlib.Core.Bool.{false≢true}
use Rattle.bits.specs.Bytes.{all_of}
use Rattle.branch.specs.Branch.{queue_depth, held, has_free_place_of}
use Rattle.branch.specs.Branch as branch
use Rattle.branch.specs.Slots.{words_in}
use Rattle.branch.proofs.BranchLaws.{held_length}
use Rattle.branch.specs.Slots.{Slot}
use Rattle.std.specs.Prelude.{None}
use Rattle.branch.specs.declared.Branch.{Branch}
use Rattle.branches.specs.ReadoutFields.{branch_at}
use Rattle.branches.specs.Readout as readout
use Rattle.branches.proofs.ReadoutLaws as laws
use Rattle.sequencer.specs.States.{outcome_words}
use Rattle.sequencer.specs.declared.states.Outcome.{Outcome}
use Rattle.supervisor.specs.Supervisor.{load_of}
use Rattle.supervisor.proofs.SupervisorLaws.{load_words, no_load}
use Rattle.module_core.proofs.CoreParts.{is_load}
use Rattle.reach.proofs.Sound.{SoundBranch, SoundBranches, branches_test}

-- ---- a branch that takes no load holds no more words than before

module _ (acks enabled : ℕ → ℕ) (eight : Bool) (bs : List Branch) (sound : SoundBranches eight bs) (k : ℕ) (h : k < length bs) where
  abbrev before : Branch
  before = branch_at bs k

  abbrev after : Slot → Branch
  after load = branch_at (readout.branches_after_of acks enabled load bs) k

  pub adds_none : (after None).len ≤ before.len
  adds_none =
      let fine = branches_test eight bs sound in
      let order = laws.step_keeps_order acks enabled None bs k h eight fine refl (λ e. absurd (false≢true e)) in
      let words = words_in (get_or (readout.sides_after_of acks enabled None bs) k readout.no_side).finished in
      let sum = sym (length-append words (held (after None))) ∙ ap length (order ∙ append-nil (held before)) in
      omega (arith, sum, held_length (after None), held_length before)

  -- one branch after a tick whose outcome is o: eight' is whether eight words are allowed after it
  pub branch_stays_sound : (o : Outcome) (eight' : Bool)
      → all_of branch.is_six_bit (outcome_words o) ≡ true
      → (is_load o ≡ true → eight' ≡ true)
      → (is_load o ≡ true → eight ≡ false)
      → (eight ≡ true → eight' ≡ false → before.len < queue_depth)
      → SoundBranch eight' (after (load_of o))
  branch_stays_sound o eight' six loads below leaves =
      record {
        well_formed =
            laws.step_keeps_well_formed acks enabled (load_of o) bs k h eight (branches_test eight bs sound)
            (ap (all_of branch.is_six_bit) (load_words o) ∙ six);
        room = λ e. go (is_load o) refl e;
      }
    where
      room_before : eight' ≡ false → before.len < queue_depth
      room_before e = by (eight) refl
        where
          by : (t : Bool) → eight ≡ t → before.len < queue_depth
          by true q = leaves q e
          by false q = ltb-true before.len queue_depth ((sound k h).room q)

      go : (t : Bool) → is_load o ≡ t → eight' ≡ false → has_free_place_of (after (load_of o)) ≡ true
      go true q e = absurd (true≢false (sym (loads q) ∙ e))
      go false q e =
          rw (no_load o q)
          (lt-ltb (after None).len queue_depth (omega (arith, adds_none, room_before e)))
