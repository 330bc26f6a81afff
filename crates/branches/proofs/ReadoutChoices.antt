-- The code's four branches are the definitions' list: what it tests and builds one by one, and what it need not look at.
--     four_from            an array of four branches has four
--     four_in_a_row        the list of an array's four places is the array, for `silent`
--     every_of_four        four tests in a row are the test of every branch
--     emptied_of_four      four fresh branches are a readout emptied
--     gathered_of_four     four steps put together are the step of the readout, for `stepped`
--     standing_of_four     four sides in a row are those of the readout as it stands, for `standing`
--     quiet_is_silent      with every branch quiet and nothing to load nothing moves, for `step`
--     quiet_is_well_formed quiet branches spoil no record if no place holds anything, for `is_well_formed`
-- Assumes nothing.
use Prim.Native.Nat.{ℕ, zero, suc, ◌<◌}
use mathlib.Core.Path.{◌≡◌, refl, sym, ap, ◌∙◌}
use mathlib.Core.Bool.{Bool, true, false, not, ◌&&◌, true≢false}
use mathlib.Core.List.{List, [], ◌∷◌, map}
use native.Mathlib.Omega.{arith}
use lib.Dec.{eqb, ltb}
use lib.ListN.{length, length-map}
use borrow.Author.Tests.{ltb-true, ltb-false, ne_eqb, not-true}
use Rattle.bits.specs.Notation.{◌▷◌}
use Rattle.bits.specs.Bits.{tabulate, every}
use Rattle.bits.specs.Bytes.{bytes}
use Rattle.bits.proofs.TestLaws.{every_at}
use Rattle.bits.proofs.BitsLaws.{tabulate_same, tabulate_get_d}
use Rattle.branch.specs.Branch as branch
use Rattle.branch.specs.Slots.{is_word_of}
use Rattle.branch.proofs.BranchLaws.{quiet_step_silent}
use Rattle.branch.specs.declared.Phase.{Phase}
use Rattle.branch.specs.declared.Phase.TheVariants.{Rest, Strobe, Drop}
use Rattle.branch.specs.Slots.{Slot}
use Rattle.std.specs.Prelude.{None, Some}
use Rattle.branch.specs.declared.Branch.{Branch}
use Rattle.branch.specs.declared.BranchStep.{BranchStep}
use Rattle.branches.specs.ReadoutFields.{with_branches, with_acks, branch_at}
use Rattle.branches.specs.Readout.{fresh_branches, emptied_of, is_quiet_of, step_at, side_after_of, branches_after_of}
use Rattle.branches.specs.Readout.{sides_after_of, lines_at, step_of, gathered_of, no_side, silent_of}
use Rattle.branches.specs.Readout.{standing_side_of, standing_of, is_sound_branch_of, is_well_formed_of}
use Rattle.branches.specs.declared.Readout.{Readout}

-- ---- four in a row

-- an array of the code has four branches: the prover says it of the list of their parts
pub four_from : {A : Type 0} (f : Branch → A) (bs : List Branch) → length (map f bs) ≡ 4 → length bs ≡ 4
four_from f bs h = sym (length-map bs f) ∙ h

pub four_in_a_row : (bs : List Branch) → length bs ≡ 4
    → branch_at bs 0 ∷ branch_at bs 1 ∷ branch_at bs 2 ∷ branch_at bs 3 ∷ [] ≡ bs
unfolding tabulate
four_in_a_row bs h = ap (λ (k : ℕ). tabulate k (branch_at bs)) (sym h) ∙ tabulate_get_d bs branch.fresh_of

pub every_of_four : (n : ℕ) (f : ℕ → Bool) → n ≡ 4 → (f 0 && (f 1 && (f 2 && (f 3 && true)))) ≡ every n f
unfolding every
every_of_four n f h = ap (λ (k : ℕ). every k f) (sym h)

pub emptied_of_four : (r : Readout) → length r.branches ≡ 4
    → r ▷ with_branches (branch.fresh_of ∷ branch.fresh_of ∷ branch.fresh_of ∷ branch.fresh_of ∷ []) ≡ emptied_of r
unfolding emptied_of
emptied_of_four r h = ap (λ (k : ℕ). r ▷ with_branches (fresh_branches k)) (sym h)

-- the step of a branch of a module
abbrev pub step_in : (acks : ℕ) → Slot → Readout → (k : ℕ) → BranchStep
step_in acks load r = step_at (lines_at acks) (lines_at r.roc) load r.branches

pub gathered_of_four : (acks : ℕ) (load : Slot) (r : Readout) → length r.branches ≡ 4
    → gathered_of (step_in acks load r 0) (step_in acks load r 1) (step_in acks load r 2) (step_in acks load r 3) r.roc acks
    ≡ step_of acks load r
unfolding gathered_of step_of branches_after_of sides_after_of tabulate
gathered_of_four acks load r h =
    ap (λ (k : ℕ). record {
      next = r ▷ with_branches (tabulate k (λ i. (step_in acks load r i).next)) ▷ with_acks acks;
      sides = tabulate k (λ i. side_after_of (step_in acks load r i));
    }) (sym h)

pub standing_of_four : (bs : List Branch) → length bs ≡ 4
    → standing_side_of (branch_at bs 0) ∷ standing_side_of (branch_at bs 1)
    ∷ standing_side_of (branch_at bs 2) ∷ standing_side_of (branch_at bs 3) ∷ []
    ≡ standing_of bs
unfolding standing_of tabulate
standing_of_four bs h = ap (λ (k : ℕ). tabulate k (λ i. standing_side_of (branch_at bs i))) (sym h)

-- ---- nothing moves

is_nothing : (load : Slot) → is_word_of load ≡ false → load ≡ None
is_nothing None h = refl
is_nothing (Some w) h = absurd (true≢false h)

pub quiet_is_silent : (acks : ℕ) (load : Slot) (r : Readout) → length r.branches ≡ 4
    → is_quiet_of r.branches ≡ true → is_word_of load ≡ false → silent_of acks r ≡ step_of acks load r
unfolding is_quiet_of step_of branches_after_of sides_after_of tabulate
quiet_is_silent acks load r four quiet none =
    let n : ℕ = length r.branches in
    let silent : (k : ℕ) → k < n → step_in acks load r k ≡ branch.silent (branch_at r.branches k) =
    λ k h. rw (is_nothing load none)
    (quiet_step_silent _ _ (branch_at r.branches k) (every_at n (λ i. branch.is_quiet_of (branch_at r.branches i)) quiet k h)) in
    let branches = tabulate_same n (λ k. (step_in acks load r k).next) (branch_at r.branches) (λ k h. ap (λ (s : BranchStep). s.next) (silent k h)) in
    let sides = tabulate_same n (λ k. side_after_of (step_in acks load r k)) (λ k. no_side) (λ k h. ap side_after_of (silent k h)) in
    let nothing : tabulate n (λ k. no_side) ≡ no_side ∷ no_side ∷ no_side ∷ no_side ∷ [] = ap (λ (k : ℕ). tabulate k (λ i. no_side)) four in
    let next = branches ∙ tabulate_get_d r.branches branch.fresh_of in
    sym (λ j. record { next = r ▷ with_branches (next j) ▷ with_acks acks; sides = (sides ∙ nothing) j })

-- ---- quiet branches are told by their places

every_same : (n : ℕ) (f g : ℕ → Bool) → ((i : ℕ) → i < n → f i ≡ g i) → every n f ≡ every n g
unfolding every
every_same zero f g h = refl
every_same (suc n) f g h =
    λ j. h 0 (omega arith) j && every_same n (λ i. f (suc i)) (λ i. g (suc i)) (λ i k. h (suc i) (omega arith)) j

quiet_is_sound_branch : (eight : Bool) (phase : Phase) (words len : ℕ) → (branch.is_rest_of phase && not (ltb 0 len)) ≡ true
    → eqb words 0 ≡ is_sound_branch_of eight (record { words = words; len = len; phase = phase })
unfolding branch.is_well_formed_of bytes
quiet_is_sound_branch eight Rest words len h =
    let none : len ≡ 0 = omega (arith, ltb-false 0 len (not-true (ltb 0 len) h)) in
    rw none (go (ltb words 1) refl eight)
  where
    zero_words : ltb words 1 ≡ true → words ≡ 0
    zero_words e = omega (arith, ltb-true words 1 e)

    some_words : ltb words 1 ≡ false → eqb words 0 ≡ false
    some_words e = ne_eqb words 0 (λ z. omega (arith, z, ltb-false words 1 e))

    go : (t : Bool) → ltb words 1 ≡ t → (eight : Bool)
        → eqb words 0 ≡ is_sound_branch_of eight (record { words = words; len = 0; phase = Rest })
    go true e true = rw (zero_words e)
    go true e false = rw (zero_words e)
    go false e true = rw (e, some_words e)
    go false e false = rw (e, some_words e)
quiet_is_sound_branch eight Strobe words len h = absurd (true≢false (sym h))
quiet_is_sound_branch eight Drop words len h = absurd (true≢false (sym h))

pub quiet_is_well_formed : (eight : Bool) (bs : List Branch) → is_quiet_of bs ≡ true
    → every (length bs) (λ k. eqb (branch_at bs k).words 0) ≡ is_well_formed_of eight bs
unfolding is_quiet_of is_well_formed_of
quiet_is_well_formed eight bs quiet =
    every_same (length bs) (λ k. eqb (branch_at bs k).words 0) (λ k. is_sound_branch_of eight (branch_at bs k))
    (λ k i.
    let b : Branch = branch_at bs k in
    quiet_is_sound_branch eight b.phase b.words b.len (every_at (length bs) (λ k. branch.is_quiet_of (branch_at bs k)) quiet k i))
