-- Demand 3, proved: every run balances, for any number of branches. By induction over the run.
--     end_keeps_invariant          one call, by how it ends
--     chain_keeps_invariant        a chain of them
--     invariant_implies_balanced   the statement, from the invariant
--     every_run_balances           the theorem
--     any_two_branches             any two branches have the same words finished and held
-- Assumes nothing.
use Rattle.std.proofs.Common.{◌≡◌, ℕ, ◌<◌, List, sym, ◌∙◌}
use Rattle.run.specs.Run.{has_byte3}
use Rattle.registers.specs.Registers.{numbered_of}
use Rattle.prescaler.specs.PrescalerFields.{counter_at, factor_at}
use Rattle.prescaler.proofs.PrescalerLaws.{pass_count_divides}
use Rattle.supervisor.specs.Supervisor.{fresh_of}
use Rattle.supervisor.specs.declared.Supervisor.{Supervisor}
use Rattle.declines.specs.Answers.{Reply}
use Rattle.declines.specs.Calls.{marked_of}
use Rattle.declines.specs.Runs.{Ask, Call, record_after, Entry, log_of}
use Rattle.declines.specs.Follow.{after_call}
use Rattle.declines.proofs.CallEnds.{End, refused, refused_active, wrote, read, gave, stored, filled, ran, held}
use Rattle.declines.proofs.CallEnds.{Chain, stop, then, run_is_chain}
use Rattle.declines.proofs.ModesLaws.{marked_keeps_modes}
use Rattle.account.specs.AccountFields.{Account}
use Rattle.account.specs.Account.{start, rules, account_of}
use Rattle.account.specs.Demand3.{Balanced, Demand3, words_of}
use Rattle.account.proofs.Invariant.{Invariant, with_modes_lem}
use Rattle.account.proofs.WriteLaw.{fresh_has_invariant, write_keeps_invariant, read_keeps_invariant}
use Rattle.account.proofs.TickLaw.{ran_keeps_invariant}
use Rattle.account.proofs.HeldLaw.{held_keeps_invariant}

-- ---- one call, by how it ends

-- a record's own invariant
abbrev pub Kept : (branches : ℕ) → Supervisor → Account → Type 0
Kept branches s a = Invariant branches s.core s.readout.branches a

-- [Account.5] a refusal and a value read leave the account alone; a status bit is nothing that it follows
end_keeps_invariant : {branches : ℕ} {memory : List ℕ} {s : Supervisor} {ask : Ask} {reply : Reply} {next : Supervisor}
    (a : Account) → Kept branches s a → End memory s ask reply next → Kept branches next (after_call rules ask reply a)
unfolding marked_of
end_keeps_invariant a v (refused ask n h) = v
end_keeps_invariant {s = s} a v (refused_active ask) = with_modes_lem v (v.modes ∙ sym (marked_keeps_modes s _))
end_keeps_invariant {s = s} a v (wrote number run x valid) = write_keeps_invariant s a v number run x
end_keeps_invariant {s = s} a v (read number run n) = read_keeps_invariant s a v (numbered_of number) (has_byte3 run)
end_keeps_invariant a v (gave place n) = v
end_keeps_invariant a v (stored place word) = v
end_keeps_invariant a v (filled words taken) = v
end_keeps_invariant {memory = memory} {s = s} a v (ran x clean runs) = ran_keeps_invariant memory x s clean a runs v
end_keeps_invariant {s = s} a v (held x stands) = held_keeps_invariant x s stands a v

-- ---- the whole run

pub chain_keeps_invariant : {branches : ℕ} {log : List Entry} {s last : Supervisor} (a : Account) → Kept branches s a
    → Chain log s last → Kept branches last (account_of log a)
chain_keeps_invariant a v stop = v
chain_keeps_invariant a v (then end rest) = chain_keeps_invariant _ (end_keeps_invariant a v end) rest

pub invariant_implies_balanced : {branches : ℕ} (s : Supervisor) (a : Account) → Kept branches s a
    → Balanced branches s a
invariant_implies_balanced s a v =
    let b = s.core.prescalers in
    let q = a.passes in
    record {
      number = v.branches.number;
      order = λ k h. (v.branches.ordering k h).order;
      eight = λ k h. (v.branches.ordering k h).eight;
      pulses = v.pulses;
      events = v.events.balance;
      decides = v.events.decides;
      words = v.branches.words;
      prescales = λ i h owed.
          rw (v.settings.factors i)
          (pass_count_divides (q.n i) (q.p i) (counter_at b i) (factor_at b i) (v.settings.count i h owed));
    }

pub every_run_balances : (branches : ℕ) → Demand3 branches
unfolding Demand3
every_run_balances branches calls =
    invariant_implies_balanced (record_after calls (fresh_of branches)) (account_of (log_of calls (fresh_of branches)) start)
    (chain_keeps_invariant start (fresh_has_invariant branches) (run_is_chain calls (fresh_of branches)))

-- ---- any two branches

-- [Account.16]
pub any_two_branches : (branches : ℕ) (calls : List Call) (j k : ℕ) → j < branches → k < branches
    → words_of branches calls j ≡ words_of branches calls k
unfolding Demand3
any_two_branches branches calls j k hj hk =
    let balanced = every_run_balances branches calls in
    balanced.order j hj ∙ sym (balanced.order k hk)
