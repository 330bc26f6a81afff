-- The handshake of each branch as STATE shows it: its strobe, and the AND and the OR of its acknowledges.
--     document 02     N2
--     strobe_at, and_at, or_at          of the branch at a place
--     strobes_of, ands_of, ors_of       of a module's four
-- Place k is branch k + 1. The acknowledges are those of the latest tick, the enabled controllers those of ROC enable as it
-- stands.
-- Own rules of 02 used here: none. Decisions: R6. Left out: nothing.
-- Assumes nothing.
use Rattle.std.specs.Prelude.{ℕ, Bool, not, List}
use Rattle.bits.specs.Bits.{tabulate}
use Rattle.branch.specs.Branch.{is_strobe_of, all_high, all_low}
use Rattle.branches.specs.ReadoutFields.{branch_at}
use Rattle.branches.specs.Readout.{module_branches, lines_at}
use Rattle.branches.specs.declared.Readout.{Readout}

-- ---- of a branch

-- [State.2]
abbrev pub strobe_at : Readout → (k : ℕ) → Bool
strobe_at r k = is_strobe_of (branch_at r.branches k).phase

-- [State.7] over none it is high
abbrev pub and_at : Readout → (k : ℕ) → Bool
and_at r k = all_high (lines_at r.acks k) (lines_at r.roc k)

-- [State.7] over none it is low
abbrev pub or_at : Readout → (k : ℕ) → Bool
or_at r k = not (all_low (lines_at r.acks k) (lines_at r.roc k))

-- ---- of a module's branches

unfoldable pub strobes_of : Readout → List Bool
strobes_of r = tabulate module_branches (strobe_at r)

unfoldable pub ands_of : Readout → List Bool
ands_of r = tabulate module_branches (and_at r)

unfoldable pub ors_of : Readout → List Bool
ors_of r = tabulate module_branches (or_at r)
