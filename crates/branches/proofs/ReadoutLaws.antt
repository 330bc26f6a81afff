-- Laws of the branches, for any number of them and any lines: what a tick, RESET and power-up do to each of them.
--     step_keeps_length, branch_after_step, side_after_step   each branch takes its own step
--     well_formed_at, room_for_load           what the spoiled rule gives of a branch; it has room for a load where
--                                             eight words are not allowed
--     step_keeps_order                        finished, then held after = held before, then loaded
--     step_keeps_well_formed                  a step leaves every branch well formed
--     fresh-..                                as many branches, and none holds a word; RESET leaves such too
--     empty_at, room_at, room_is_below_eight  the two facts that the core asks, said of a branch
--     standing_finishes_nothing, standing_shows   a held tick finishes nothing, and shows what stands
-- Place k is branch k + 1.
-- Assumes nothing.
use Rattle.std.specs.Prelude.{if◌then◌else◌}
use Prim.Native.Nat.{ℕ, ◌%◌, ◌<◌}
use mathlib.Core.Path.{◌≡◌, refl, ap, ◌∙◌}
use mathlib.Core.Bool.{Bool, true, false, not, ◌&&◌, ◌||◌}
use mathlib.Core.List.{List, [], ◌++◌}
use native.Mathlib.Omega.{arith}
use lib.Dec.{eqb, ltb}
use lib.ListN.{length, get_or, length-replicate, get_or-replicate}
use borrow.Author.Tests.{ltb-true, ltb-false, not-true}
use Rattle.bits.specs.Bits.{tabulate}
use Rattle.bits.specs.Bytes.{bytes}
use Rattle.bits.proofs.TestLaws.{and_left, and_right, every_at, or_rest}
use Rattle.bits.proofs.BitsLaws.{tabulate_at, tabulate_past, tabulate_length}
use Rattle.branch.specs.Branch as branch
use Rattle.branch.specs.Branch.{queue_depth, held, has_place_for, is_six_bit_load, WellFormedBranch}
use Rattle.branch.specs.Slots.{words_in, is_word_of}
use Rattle.branch.specs.Slots.{Slot}
use Rattle.std.specs.Prelude.{None, Some}
use Rattle.branch.specs.declared.Branch.{Branch}
use Rattle.branch.specs.declared.BranchStep.{BranchStep}
use Rattle.branch.proofs.BranchLaws as laws
use Rattle.branches.specs.ReadoutFields.{branch_at}
use Rattle.branches.specs.Readout.{module_branches, fresh_branches, is_empty_of, depth_of, has_room_of, step_at}
use Rattle.branches.specs.Readout.{side_after_of, branches_after_of, sides_after_of, no_side}
use Rattle.branches.specs.Readout.{standing_side_of, standing_of, is_sound_branch_of, is_well_formed_of}
use Rattle.branches.specs.declared.Side.{Side}

-- ---- what the spoiled rule gives of a branch

module _ (eight : Bool) (bs : List Branch) (fine : is_well_formed_of eight bs ≡ true) (k : ℕ) (h : k < length bs) where
  abbrev at : Branch
  at = branch_at bs k

  sound_at : is_sound_branch_of eight at ≡ true
  unfolding is_well_formed_of
  sound_at = every_at (length bs) (λ i. is_sound_branch_of eight (branch_at bs i)) fine k h

  -- [Spoiled.1d] [Spoiled.1f] [Spoiled.1g]
  pub well_formed_at : WellFormedBranch at
  well_formed_at =
      laws.well_formed_from_test at (and_right (eight || branch.has_free_place_of at) (branch.is_well_formed_of at) sound_at)

  -- [Spoiled.1f] seven words at most where eight are not allowed
  pub room_for_load : (load : Slot) → (is_word_of load ≡ true → eight ≡ false) → has_place_for load at ≡ true
  room_for_load None rule = refl
  room_for_load (Some w) rule =
      or_rest eight (branch.has_free_place_of at) (and_left (eight || branch.has_free_place_of at) (branch.is_well_formed_of at) sound_at)
      (rule refl)

-- ---- a tick

module _ (acks enabled : ℕ → ℕ) (load : Slot) (bs : List Branch) where
  abbrev step : ℕ → BranchStep
  step = step_at acks enabled load bs

  abbrev after : List Branch
  after = branches_after_of acks enabled load bs

  abbrev sides : List Side
  sides = sides_after_of acks enabled load bs

  pub step_keeps_length : length after ≡ length bs
  unfolding branches_after_of
  step_keeps_length = tabulate_length (length bs) (λ k. (step k).next)

  module _ (k : ℕ) (h : k < length bs) where
    pub branch_after_step : branch_at after k ≡ (step k).next
    unfolding branches_after_of
    branch_after_step = tabulate_at (length bs) (λ i. (step i).next) k branch.fresh_of h

    pub side_after_step : get_or sides k no_side ≡ side_after_of (step k)
    unfolding sides_after_of
    side_after_step = tabulate_at (length bs) (λ i. side_after_of (step i)) k no_side h

    module _ (eight : Bool) (fine : is_well_formed_of eight bs ≡ true) (six : is_six_bit_load load ≡ true) where
      -- [Account.15] [Account.16] a word is loaded only where eight are not allowed
      pub step_keeps_order : (is_word_of load ≡ true → eight ≡ false)
          → words_in (get_or sides k no_side).finished ++ held (branch_at after k) ≡ held (branch_at bs k) ++ words_in load
      step_keeps_order rule =
          rw (branch_after_step, side_after_step)
          (laws.step_keeps_order (acks k) (enabled k) (branch_at bs k) load six (room_for_load eight bs fine k h load rule)
          (well_formed_at eight bs fine k h))

      pub step_keeps_well_formed : WellFormedBranch (branch_at after k)
      step_keeps_well_formed =
          rw branch_after_step
          (laws.step_keeps_well_formed (acks k) (enabled k) (branch_at bs k) load six (well_formed_at eight bs fine k h))

-- ---- power-up and RESET

-- [Registers.4] [CSRWrite.2d]
module _ (n : ℕ) where
  pub fresh_has_length : length (fresh_branches n) ≡ n
  fresh_has_length = length-replicate n branch.fresh_of

  pub fresh_is_fresh : (k : ℕ) → k < n → branch_at (fresh_branches n) k ≡ branch.fresh_of
  fresh_is_fresh k h = get_or-replicate n k branch.fresh_of branch.fresh_of h

  pub fresh_holds_nothing : (k : ℕ) → k < n → held (branch_at (fresh_branches n) k) ≡ []
  fresh_holds_nothing k h = ap held (fresh_is_fresh k h) ∙ laws.fresh_holds_nothing

-- ---- the two facts that the core asks

module _ (bs : List Branch) (k : ℕ) (h : k < length bs) where
  -- [Main.14] [Usersync.2]
  pub empty_at : is_empty_of bs ≡ true → held (branch_at bs k) ≡ []
  unfolding is_empty_of bytes
  empty_at e =
      let b : Branch = branch_at bs k in
      let none = every_at (length bs) (λ i. not (branch.has_word (branch_at bs i))) e k h in
      let zero : b.len ≡ 0 = omega (arith, ltb-false 0 b.len (not-true (branch.has_word b) none)) in
      ap (λ (n : ℕ). bytes n b.words) zero

  -- [Main.13]
  pub room_at : (lock lock4 : Bool) → has_room_of lock lock4 bs ≡ true → (branch_at bs k).len < depth_of lock lock4 k
  unfolding has_room_of
  room_at lock lock4 e =
      ltb-true (branch_at bs k).len (depth_of lock lock4 k)
      (every_at (length bs) (λ i. ltb (branch_at bs i).len (depth_of lock lock4 i)) e k h)

  -- [Spoiled.1f] whatever the locks: seven words at most
  pub room_is_below_eight : (lock lock4 : Bool) → has_room_of lock lock4 bs ≡ true → (branch_at bs k).len < queue_depth
  room_is_below_eight lock lock4 e = go ((eqb (k % module_branches) 3 && lock4) || lock) (room_at lock lock4 e)
    where
      go : (locked : Bool) → (branch_at bs k).len < (if locked then 1 else queue_depth) → (branch_at bs k).len < queue_depth
      go true room = omega arith
      go false room = room

-- [Test.7a]
pub standing_finishes_nothing : (bs : List Branch) (k : ℕ) → (get_or (standing_of bs) k no_side).finished ≡ None
unfolding standing_of
standing_finishes_nothing bs k = go (ltb k (length bs)) refl
  where
    side : ℕ → Side
    side i = standing_side_of (branch_at bs i)

    at_place : (v : Side) → get_or (tabulate (length bs) side) k no_side ≡ v
        → (get_or (tabulate (length bs) side) k no_side).finished ≡ v.finished
    at_place v e = ap (λ (w : Side). w.finished) e

    go : (t : Bool) → ltb k (length bs) ≡ t → (get_or (tabulate (length bs) side) k no_side).finished ≡ None
    go true e = at_place (side k) (tabulate_at (length bs) side k no_side (ltb-true k (length bs) e))
    go false e = at_place no_side (tabulate_past (length bs) side k no_side (ltb-false k (length bs) e))

pub standing_shows : (bs : List Branch) (k : ℕ) → k < length bs
    → (get_or (standing_of bs) k no_side).shown ≡ branch.shown_in (branch_at bs k).phase (branch_at bs k)
unfolding standing_of
standing_shows bs k h =
    ap (λ (v : Side). v.shown) (tabulate_at (length bs) (λ i. standing_side_of (branch_at bs i)) k no_side h)
