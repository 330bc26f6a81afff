-- `branches::Readout::is_well_formed` meets its contract: quiet branches are told by their places
-- (`quiet_is_well_formed`); else each is tested (`every_of_four`). Assumes nothing.
use Rattle.branches.specs.Readout.{is_well_formed_of}
use mathlib.Core.Path.{sym, ◌∙◌}
use lib.Dec.{eqb}
use lib.ListN.{length}
use Rattle.branches.specs.Readout.{is_sound_branch_of}
use Rattle.branches.specs.ReadoutFields.{branch_at}
use Rattle.branches.proofs.ReadoutChoices.{every_of_four, quiet_is_well_formed}
use Rattle.std.proofs.Common.{length}
use Rattle.branches.proofs.Readout.is_well_formed.Goals as goal

pub returns-then-is_quiet : goal.returns-then-is_quiet
returns-then-is_quiet c =
    let four = c.well_formed.0.1.1.0.1.0.1 in
    let a = c.args in
    let bs = a.self.branches in
    let quiet = sym c.is_quiet.ensures ∙ c.if-is_quiet.true in
    every_of_four (length bs) (λ k. eqb (branch_at bs k).words 0) four ∙ quiet_is_well_formed a.eight bs quiet

pub returns : goal.returns
unfolding is_well_formed_of
returns c =
    let four = c.well_formed.0.1.1.0.1.0.1 in
    let a = c.args in
    let bs = a.self.branches in
    rw (
      c.is_sound_branch-4.ensures,
      c.is_sound_branch-3.ensures,
      c.is_sound_branch-2.ensures,
      c.is_sound_branch.ensures,
    ) (every_of_four (length bs) (λ k. is_sound_branch_of a.eight (branch_at bs k)) four)
