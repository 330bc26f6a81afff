-- What a bystander follows, by rules of his own, is what a record has of it, if every call keeps it so.
--     chain_follows    through a chain of calls
-- Assumes nothing.
use Rattle.std.proofs.Common.{◌≡◌, ℕ, List, refl, ap, ◌∙◌}
use Rattle.supervisor.specs.declared.Supervisor.{Supervisor}
use Rattle.declines.specs.Answers.{Reply}
use Rattle.declines.specs.Runs.{Ask, Entry}
use Rattle.declines.specs.Follow.{Rules, after_call, after_log}
use Rattle.declines.proofs.CallEnds.{End, Chain, stop, then}

module _ {A : Type 0} (rules : Rules A) (view : Supervisor → A)
    (keeps : (memory : List ℕ) (s : Supervisor) (a : Ask) (reply : Reply) (next : Supervisor) → End memory s a reply next
    → view next ≡ after_call rules a reply (view s))
  where
    pub chain_follows : {log : List Entry} {s last : Supervisor} → Chain log s last → view last ≡ after_log rules log (view s)
    chain_follows stop = refl
    chain_follows (then {memory = memory} {a = a} {reply = reply} {log = log} {s = s} {next = next} end rest) =
        chain_follows rest ∙ ap (after_log rules log) (keeps memory s a reply next end)
