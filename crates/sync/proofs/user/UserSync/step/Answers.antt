-- `sync::user::UserSync::step` meets its contract: its three bools are the moves (`user_step_by_choices`). Assumes
-- nothing.
use Rattle.sync.specs.UserSync.{step_of}
use Rattle.sync.proofs.SyncLaws.{user_step_by_choices}
use Rattle.sync.proofs.user.UserSync.step.Goals as goal

pub returns : goal.returns
unfolding step_of
returns c =
    let a = c.args in
    user_step_by_choices a.wanted a.idle a.empty a.self.waiting
