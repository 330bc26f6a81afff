-- A session's replies are those that a bystander logs of a run.
--     replies_are_logged    those of ask_of, the machine of Runs
-- Not said of `answered`: an edit that bends it is refused by an example and not here. `claims` says it of `answered` too.
-- Assumes nothing.
use Rattle.std.proofs.Common.{◌≡◌, List, [], ◌∷◌, refl, ap}
use Rattle.declines.specs.Answers.{Reply}
use Rattle.declines.specs.Runs.{Ask, ask_of, Session, reply_to, after}
use Rattle.bench.specs.Sessions.{replies_by, replies_logged}

pub replies_are_logged : (asks : List Ask) (z : Session) → replies_by ask_of asks z ≡ replies_logged asks z
replies_are_logged [] z = refl
replies_are_logged (a ∷ rest) z = ap (λ (l : List Reply). reply_to a z ∷ l) (replies_are_logged rest (after a z))
