-- Changes of one field of the readout, and its branches by place. Nothing of document 01 is decided here.
--     with_branches, with_roc, with_acks   the readout with one field changed
--     branch_at bs k                     branch k + 1 of a list of branches
-- Assumes nothing.
use Rattle.std.specs.Prelude.{ℕ, List, get_or}
use Rattle.branch.specs.Branch.{fresh_of}
use Rattle.branch.specs.declared.Branch.{Branch}
use Rattle.branches.specs.declared.Readout.{Readout}

abbrev pub with_branches : List Branch → Readout → Readout
with_branches v r = record { branches = v; roc = r.roc; acks = r.acks }

abbrev pub with_roc : ℕ → Readout → Readout
with_roc v r = record { branches = r.branches; roc = v; acks = r.acks }

abbrev pub with_acks : ℕ → Readout → Readout
with_acks v r = record { branches = r.branches; roc = r.roc; acks = v }

abbrev pub branch_at : List Branch → (k : ℕ) → Branch
branch_at bs k = get_or bs k fresh_of
