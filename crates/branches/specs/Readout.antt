-- The branches, and the readout: the branches of a module, their ROC enable register and the acknowledges of the latest
-- tick. All that the rest of the record sees of the branches is here, and it is said of a list of any length, by place: the
-- module has four.
--     document 01     "The tick", Branches; "The tick", Main for the two facts that main asks; Active; Spoiled
--     document 02     N2, the kept acknowledges; N5, a held tick
--     is_empty_of       every branch is empty; has_room_of: every branch is below its depth
--     is_quiet_of       no branch keeps the record active
--     branches_after_of, sides_after_of   a tick of all branches, and what each finished and shows; acks and enabled give the
--                     lines of a place, whatever words they come from
--     is_well_formed_of  no branch spoils the record
--     lines_at, step_of how a module's own two words give the lines of each branch, and its tick
--     standing_of      what each branch shows as it stands
-- Place k is branch k + 1.
-- Own rules of 01 and 02 used here: none. Decisions: B4, B6, T4, A4, R6. Left out: nothing.
-- Assumes nothing.
use Rattle.std.specs.Prelude.{ℕ, ◌%◌, Bool, not, ◌&&◌, ◌||◌, List, [], ◌∷◌, eqb, ltb, length, replicate, if◌then◌else◌}
use Rattle.bits.specs.Notation.{◌▷◌}
use Rattle.bits.specs.Bits.{tabulate, every}
use Rattle.bits.specs.Bytes.{byte_at}
use Rattle.branch.specs.Branch as branch
use Rattle.branch.specs.Slots.{Slot}
use Rattle.std.specs.Prelude.{None}
use Rattle.branch.specs.declared.Branch.{Branch}
use Rattle.branch.specs.declared.BranchStep.{BranchStep}
use Rattle.branches.specs.ReadoutFields.{with_branches, with_acks, branch_at}
use Rattle.branches.specs.declared.Readout.{Readout}
use Rattle.branches.specs.declared.Side.{Side}
use Rattle.branches.specs.declared.ReadoutStep.{ReadoutStep}

-- ---- the readout

-- [Registers.1] the branches of a module
abbrev pub module_branches : ℕ
module_branches = 4

-- [Registers.4] every branch fresh
abbrev pub fresh_branches : (n : ℕ) → List Branch
fresh_branches n = replicate n branch.fresh_of

-- [Registers.4] no controller enabled, every branch fresh; [State.3] before any tick the kept acknowledges are low
abbrev pub fresh_of : (branches : ℕ) → Readout
fresh_of n = record { branches = fresh_branches n; roc = 0; acks = 0 }

-- [CSRWrite.2d] RESET empties the queues and idles the handshakes; ROC enable and, by [State.3], the kept acknowledges stay
unfoldable pub emptied_of : Readout → Readout
emptied_of r = r ▷ with_branches (fresh_branches (length r.branches))

-- a test of every branch
abbrev pub every_branch : (ℕ → Branch → Bool) → List Branch → Bool
every_branch test bs = every (length bs) (λ k. test k (branch_at bs k))

-- ---- what main and the user sync ask: two facts

-- [Main.14] [Usersync.2] DECISIONS B4: a branch at Drop may be empty
unfoldable pub is_empty_of : List Branch → Bool
is_empty_of bs = every_branch (λ k b. not (branch.has_word b)) bs

-- [Main.13] DECISIONS B6: 8, or 1 by CSR bit 9, or by bit 10 for branch 4 of a module, every fourth of a longer list
abbrev pub depth_of : (lock lock4 : Bool) (k : ℕ) → ℕ
depth_of lock lock4 k = if (eqb (k % module_branches) 3 && lock4) || lock then 1 else branch.queue_depth

unfoldable pub has_room_of : (lock lock4 : Bool) → List Branch → Bool
has_room_of lock lock4 bs = every_branch (λ k b. ltb b.len (depth_of lock lock4 k)) bs

-- ---- what the active rule asks

-- [Active.1] no branch holds a word or is away from Rest
unfoldable pub is_quiet_of : List Branch → Bool
is_quiet_of bs = every_branch (λ k b. branch.is_quiet_of b) bs

-- ---- a tick of all branches

-- each branch has its own acknowledges and enabled controllers
abbrev pub step_at : (acks enabled : ℕ → ℕ) → Slot → List Branch → (k : ℕ) → BranchStep
step_at acks enabled load bs k = branch.step_of (acks k) (enabled k) load (branch_at bs k)

abbrev pub side_after_of : BranchStep → Side
side_after_of s = record { finished = s.finished; shown = s.shown }

-- [Branches.5] a load reaches every branch
unfoldable pub branches_after_of : (acks enabled : ℕ → ℕ) → Slot → List Branch → List Branch
branches_after_of acks enabled load bs = tabulate (length bs) (λ k. (step_at acks enabled load bs k).next)

unfoldable pub sides_after_of : (acks enabled : ℕ → ℕ) → Slot → List Branch → List Side
sides_after_of acks enabled load bs = tabulate (length bs) (λ k. side_after_of (step_at acks enabled load bs k))

-- ---- a tick of a module

-- [Tick.1] [Registers.1] each branch of a module has its own byte of the acknowledges and of ROC enable
abbrev pub lines_at : (word k : ℕ) → ℕ
lines_at word k = byte_at word k

-- [State.3] a tick keeps its acknowledges
unfoldable pub step_of : (acks : ℕ) → Slot → Readout → ReadoutStep
step_of acks load r =
    record {
      next = r ▷ with_branches (branches_after_of (lines_at acks) (lines_at r.roc) load r.branches) ▷ with_acks acks;
      sides = sides_after_of (lines_at acks) (lines_at r.roc) load r.branches;
    }

-- the same, put together from the steps of a module's four branches
unfoldable pub gathered_of : (s0 s1 s2 s3 : BranchStep) (roc acks : ℕ) → ReadoutStep
gathered_of s0 s1 s2 s3 roc acks =
    record {
      next = record { branches = s0.next ∷ s1.next ∷ s2.next ∷ s3.next ∷ []; roc = roc; acks = acks };
      sides = side_after_of s0 ∷ side_after_of s1 ∷ side_after_of s2 ∷ side_after_of s3 ∷ [];
    }

-- and where nothing moves
abbrev pub no_side : Side
no_side = record { finished = None; shown = None }

abbrev pub silent_of : (acks : ℕ) → Readout → ReadoutStep
silent_of acks r = record { next = r ▷ with_acks acks; sides = no_side ∷ no_side ∷ no_side ∷ no_side ∷ [] }

-- ---- a tick that is held

-- [Test.7a] nothing finishes, and the word shown is as it stands
abbrev pub standing_side_of : Branch → Side
standing_side_of b = record { finished = None; shown = branch.shown_in b.phase b }

unfoldable pub standing_of : List Branch → List Side
standing_of bs = tabulate (length bs) (λ k. standing_side_of (branch_at bs k))

-- ---- what of the branches spoils a record

-- [Spoiled.1d] [Spoiled.1f] [Spoiled.1g] one branch: seven words at most, unless eight are allowed
abbrev pub is_sound_branch_of : (eight : Bool) → Branch → Bool
is_sound_branch_of eight b = (eight || branch.has_free_place_of b) && branch.is_well_formed_of b

unfoldable pub is_well_formed_of : (eight : Bool) → List Branch → Bool
is_well_formed_of eight bs = every_branch (λ k b. is_sound_branch_of eight b) bs
