-- What the examples of bench look at are the replies that a bystander logs. It stands here, and not in bench, so that an edit
-- of bench that bends the machine it asks must be refused by an example.
--     answered_is_asked     the machine that is asked is that of the calls, a line for each ask
--     answers_are_logged    so its replies are those of the log
-- Assumes nothing.
use Rattle.std.proofs.Common.{◌≡◌, ℕ, List, [], ◌∷◌, refl, ap, ◌∙◌}
use Rattle.supervisor.specs.declared.Supervisor.{Supervisor}
use Rattle.declines.specs.Answers.{Reply}
use Rattle.declines.specs.Runs.{Ask, write_register, read_register, write_memory, read_memory, fill_memory, tick}
use Rattle.declines.specs.Runs.{Result, ask_of, memory_after, Session, session, reply_to, after}
use Rattle.bench.specs.Sessions.{answered, replies_by, replies_logged}
use Rattle.bench.proofs.SessionsLaws.{replies_are_logged}

answered_is_asked : (a : Ask) (memory : List ℕ) (s : Supervisor) → answered a memory s ≡ ask_of a memory s
answered_is_asked (write_register n run v) memory s = refl
answered_is_asked (read_register n run) memory s = refl
answered_is_asked (write_memory p w) memory s = refl
answered_is_asked (read_memory p) memory s = refl
answered_is_asked (fill_memory words) memory s = refl
answered_is_asked (tick x) memory s = refl

replies_alike : (asks : List Ask) (z : Session) → replies_by answered asks z ≡ replies_by ask_of asks z
replies_alike [] z = refl
replies_alike (a ∷ rest) z =
    ap (λ (r : Result). r.reply ∷ replies_by answered rest (session r.next (memory_after a z.memory z.supervisor)))
    (answered_is_asked a z.memory z.supervisor)
    ∙ ap (λ (l : List Reply). reply_to a z ∷ l) (replies_alike rest (after a z))

pub answers_are_logged : (asks : List Ask) (z : Session) → replies_by answered asks z ≡ replies_logged asks z
answers_are_logged asks z = replies_alike asks z ∙ replies_are_logged asks z
