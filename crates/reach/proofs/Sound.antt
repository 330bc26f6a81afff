-- A record that is not spoiled, as facts in four groups, each over just the fields that it reads: a call that leaves the
-- fields of a group alone hands the group on.
--     SoundBank, SoundRegisters   the prescalers, and the other registers; the sequencers are in SequencersSound
--     SoundBranches           the branches, and SoundBranch: one of them
--     Unspoiled               the four, of a core and a list of branches
--     unspoiled_from_test, unspoiled_to_test   the spoiled rule and the facts say the same
--     sound_test, branches_test   what the laws of the core and of the branches ask
--     counter_beyond_width_is_spoiled, blind_above_2_is_spoiled   a counter and a blind count out of their bounds
-- Assumes nothing.
use Rattle.std.proofs.Common.{◌≡◌, ℕ, suc, ◌<◌, Bool, true, false, ◌&&◌, ◌||◌, List, ◌++◌, length, sym, refl, ◌∙◌, arith, lit<, leb-true}
use borrow.Author.Tests.{not-false}
use Rattle.bits.proofs.TestLaws.{and_left, and_right, and_both, every_at, at_every, or_rest}
use Rattle.bits.proofs.TestLaws.{all_true_at, all_true_left, all_true_right, all_true_both}
use Rattle.registers.specs.Csr as csr
use Rattle.registers.specs.Registers.{is_valid_control, is_valid_factor, is_valid_assign}
use Rattle.registers.specs.declared.csr.Csr.{Csr}
use Rattle.prescaler.specs.PrescalerFields.{counter_at}
use Rattle.prescaler.specs.Prescaler as prescaler
use Rattle.prescaler.proofs.PrescalerWidths.{fit_at}
use Rattle.prescaler.specs.declared.Prescalers.{Prescalers}
use Rattle.branch.specs.Branch.{has_free_place_of, WellFormedBranch}
use Rattle.branch.specs.Branch as branch
use Rattle.branch.proofs.BranchLaws.{well_formed_from_test, well_formed_to_test}
use Rattle.branch.specs.declared.Branch.{Branch}
use Rattle.branches.specs.ReadoutFields.{branch_at}
use Rattle.branches.specs.Readout as readout
use Rattle.trigger.specs.BlindTime.{blind_ticks}
use Rattle.module_core.specs.Spoiled.{bank_clauses, register_clauses, sequencer_clauses, is_sound_of, allows_eight_of}
use Rattle.module_core.specs.declared.Core.{Core}
use Rattle.supervisor.specs.Supervisor.{is_spoiled_of}
use Rattle.supervisor.specs.declared.Supervisor.{Supervisor}
use Rattle.reach.proofs.SequencersSound.{SoundSequencers, sequencers_from_test, sequencers_to_test}

-- ---- the facts

pub record SoundBank (b : Prescalers) : Type 0 where
  -- [Bytes.9]
  pub counters : prescaler.has_counters_within_of b ≡ true
  -- [Spoiled.1a]
  pub factors : prescaler.has_valid_factors_of b ≡ true

-- [Spoiled.1a]
pub record SoundRegisters (w : Csr) (enables assigned : ℕ) : Type 0 where
  pub csr : csr.is_valid_stored_csr w ≡ true
  pub control : is_valid_control enables ≡ true
  pub assign : is_valid_assign assigned ≡ true

-- one branch: well formed, and with room where eight words are not allowed
pub record SoundBranch (eight : Bool) (b : Branch) : Type 0 where
  pub well_formed : WellFormedBranch b
  pub room : eight ≡ false → has_free_place_of b ≡ true

abbrev pub SoundBranches : (eight : Bool) → List Branch → Type 0
SoundBranches eight bs = (k : ℕ) → k < length bs → SoundBranch eight (branch_at bs k)

pub record Groups (Bank Registers Sequencers Branches : Type 0) : Type 0 where
  pub bank : Bank
  pub registers : Registers
  pub sequencers : Sequencers
  pub branches : Branches

abbrev pub Unspoiled : Core → List Branch → Type 0
Unspoiled c bs =
    Groups (SoundBank c.prescalers) (SoundRegisters c.csr c.control.word c.scalers.assign) (SoundSequencers c)
    (SoundBranches (allows_eight_of c) bs)

-- ---- the rule and the facts

or_when : (a b : Bool) → (a ≡ false → b ≡ true) → (a || b) ≡ true
or_when true b h = refl
or_when false b h = h refl

branch_from_test : (eight : Bool) (b : Branch) → readout.is_sound_branch_of eight b ≡ true → SoundBranch eight b
branch_from_test eight b h =
    let room = and_left (eight || has_free_place_of b) (branch.is_well_formed_of b) h in
    record {
      well_formed = well_formed_from_test b (and_right (eight || has_free_place_of b) (branch.is_well_formed_of b) h);
      room = or_rest eight (has_free_place_of b) room;
    }

branch_to_test : (eight : Bool) (b : Branch) → SoundBranch eight b → readout.is_sound_branch_of eight b ≡ true
branch_to_test eight b h =
    and_both (eight || has_free_place_of b) (branch.is_well_formed_of b) (or_when eight (has_free_place_of b) h.room)
    (well_formed_to_test b h.well_formed)

module _ (eight : Bool) (bs : List Branch) where
  abbrev sound : ℕ → Bool
  sound k = readout.is_sound_branch_of eight (branch_at bs k)

  branches_from_test : readout.is_well_formed_of eight bs ≡ true → SoundBranches eight bs
  unfolding readout.is_well_formed_of
  branches_from_test h k i = branch_from_test eight (branch_at bs k) (every_at (length bs) sound h k i)

  -- what the laws of the branches ask
  pub branches_test : SoundBranches eight bs → readout.is_well_formed_of eight bs ≡ true
  unfolding readout.is_well_formed_of
  branches_test h = at_every (length bs) sound (λ k i. branch_to_test eight (branch_at bs k) (h k i))

module _ (c : Core) (bs : List Branch) where
  from_tests : is_sound_of c ≡ true → SoundBranches (allows_eight_of c) bs → Unspoiled c bs
  unfolding is_sound_of
  from_tests h branches =
      let clause : (i : ℕ) → i < 5 → _ =
      all_true_at (bank_clauses c ++ register_clauses c) (all_true_left (bank_clauses c ++ register_clauses c) (sequencer_clauses c) h)
      in
      record {
        bank = record { counters = clause 0 (lit< tt); factors = clause 1 (lit< tt) };
        registers = record { csr = clause 2 (lit< tt); control = clause 3 (lit< tt); assign = clause 4 (lit< tt) };
        sequencers =
            sequencers_from_test c (all_true_right (bank_clauses c ++ register_clauses c) (sequencer_clauses c) h);
        branches = branches;
      }

  -- what the laws of the core ask
  pub sound_test : Unspoiled c bs → is_sound_of c ≡ true
  unfolding is_sound_of
  sound_test u =
      all_true_both (bank_clauses c ++ register_clauses c) (sequencer_clauses c)
      (rw (u.bank.counters, u.bank.factors, u.registers.csr, u.registers.control, u.registers.assign))
      (sequencers_to_test c u.sequencers)

module _ (s : Supervisor) where
  abbrev eight : Bool
  eight = allows_eight_of s.core

  abbrev branches_fine : Bool
  branches_fine = readout.is_well_formed_of eight s.readout.branches

  pub unspoiled_from_test : is_spoiled_of s ≡ false → Unspoiled s.core s.readout.branches
  unfolding is_spoiled_of
  unspoiled_from_test h =
      let both : (branches_fine && is_sound_of s.core) ≡ true = not-false (branches_fine && is_sound_of s.core) h in
      from_tests s.core s.readout.branches (and_right branches_fine (is_sound_of s.core) both)
      (branches_from_test eight s.readout.branches (and_left branches_fine (is_sound_of s.core) both))

  pub unspoiled_to_test : Unspoiled s.core s.readout.branches → is_spoiled_of s ≡ false
  unfolding is_spoiled_of
  unspoiled_to_test u =
      rw (branches_test eight s.readout.branches u.branches, sound_test s.core s.readout.branches u)

  -- [Bytes.9]
  pub counter_beyond_width_is_spoiled : (i : ℕ) → i < prescaler.prescaled_inputs
      → is_valid_factor (suc i) (counter_at s.core.prescalers i) ≡ false → is_spoiled_of s ≡ true
  counter_beyond_width_is_spoiled i below beyond = go (is_spoiled_of s) refl
    where
      go : (spoiled : Bool) → is_spoiled_of s ≡ spoiled → spoiled ≡ true
      go true e = refl
      go false e =
          let fits = fit_at s.core.prescalers.counters (unspoiled_from_test e).bank.counters i below in
          let z : false ≡ true = sym beyond ∙ fits in
          cc

  -- [Blind.3]
  pub blind_above_2_is_spoiled : 2 < s.core.blind.count → is_spoiled_of s ≡ true
  blind_above_2_is_spoiled h = go (is_spoiled_of s) refl
    where
      go : (spoiled : Bool) → is_spoiled_of s ≡ spoiled → spoiled ≡ true
      go true e = refl
      go false e =
          let within = leb-true s.core.blind.count blind_ticks (unspoiled_from_test e).sequencers.blind in
          absurd (omega (arith, h, within))
