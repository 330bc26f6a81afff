-- No run reaches a spoiled record: every call keeps a record that is not spoiled so, and the fresh one is none.
--     UnspoiledOfType        what every call keeps: not spoiled, and of the code's types
--     call_keeps_unspoiled   every call, on every record of the code's types that is not spoiled, reachable or not
--     never_spoiled          from a fresh supervisor of any number of branches
-- Assumes nothing.
use Rattle.std.proofs.Common.{◌≡◌, ℕ, false, List}
use Rattle.run.specs.Run.{has_byte3}
use Rattle.registers.specs.Registers.{numbered_of}
use Rattle.supervisor.specs.Supervisor.{fresh_of, is_spoiled_of, in_force_of}
use Rattle.supervisor.specs.declared.Supervisor.{Supervisor}
use Rattle.declines.specs.Answers.{Reply}
use Rattle.declines.specs.Calls.{marked_of}
use Rattle.declines.specs.Runs.{Ask, Call, call_of, record_after, Entry}
use Rattle.declines.proofs.CallEnds.{End, refused, refused_active, wrote, read, gave, stored, filled, ran, held, call_ends}
use Rattle.declines.proofs.CallEnds.{Chain, stop, then, run_is_chain}
use Rattle.declines.specs.Refusals.{status_bit}
use Rattle.reach.specs.NeverSpoiled.{OfType, KeepsUnspoiled, NeverSpoiled}
use Rattle.reach.proofs.Sound.{Unspoiled, unspoiled_from_test, unspoiled_to_test}
use Rattle.reach.proofs.TickSound.{tick_keeps_type, tick_keeps_unspoiled}
use Rattle.reach.proofs.WriteSound.{fresh_is_of_type, fresh_is_unspoiled, marked_keeps_unspoiled}
use Rattle.reach.proofs.WriteSound.{write_keeps_type, write_keeps_unspoiled, read_keeps_type, read_keeps_unspoiled}

-- what every call keeps
pub record UnspoiledOfType (s : Supervisor) : Type 0 where
  pub of_type : OfType s
  pub unspoiled : Unspoiled s.core s.readout.branches

-- ---- one call, by how it ends

marked_keeps_fine : (status : ℕ) (s : Supervisor) → UnspoiledOfType s → UnspoiledOfType (marked_of status s)
unfolding marked_of
marked_keeps_fine status s fine =
    record {
      of_type = record { eight = fine.of_type.eight; interval = fine.of_type.interval };
      unspoiled = marked_keeps_unspoiled s fine.unspoiled status;
    }

end_keeps_fine : {memory : List ℕ} {s : Supervisor} {a : Ask} {reply : Reply} {next : Supervisor} → UnspoiledOfType s
    → End memory s a reply next → UnspoiledOfType next
end_keeps_fine fine (refused a n h) = fine
end_keeps_fine {s = s} fine (refused_active a) = marked_keeps_fine (status_bit a) s fine
end_keeps_fine {s = s} fine (wrote number run v valid) =
    record {
      of_type = write_keeps_type s fine.of_type (numbered_of number) (has_byte3 run) _;
      unspoiled = write_keeps_unspoiled s fine.unspoiled (numbered_of number) (has_byte3 run) _ valid;
    }
end_keeps_fine {s = s} fine (read number run v) =
    record {
      of_type = read_keeps_type s fine.of_type (numbered_of number) (has_byte3 run);
      unspoiled = read_keeps_unspoiled s fine.unspoiled (numbered_of number) (has_byte3 run);
    }
end_keeps_fine fine (gave place v) = fine
end_keeps_fine fine (stored place word) = fine
end_keeps_fine fine (filled words taken) = fine
end_keeps_fine {memory = memory} {s = s} fine (ran x clean runs) =
    record {
      of_type = tick_keeps_type memory (in_force_of x s) s fine.of_type fine.unspoiled;
      unspoiled = tick_keeps_unspoiled memory (in_force_of x s) s fine.of_type fine.unspoiled;
    }
end_keeps_fine fine (held x stands) = fine

chain_keeps_fine : {log : List Entry} {s last : Supervisor} → UnspoiledOfType s → Chain log s last → UnspoiledOfType last
chain_keeps_fine fine stop = fine
chain_keeps_fine fine (then end rest) = chain_keeps_fine (end_keeps_fine fine end) rest

-- ---- the promises

pub call_keeps_unspoiled : (c : Call) (s : Supervisor) → OfType s → is_spoiled_of s ≡ false → KeepsUnspoiled c s
call_keeps_unspoiled c s of_type clean =
    let before : UnspoiledOfType s = record { of_type = of_type; unspoiled = unspoiled_from_test s clean } in
    let fine = end_keeps_fine before (call_ends c.memory s c.ask) in
    record { of_type = fine.of_type; unspoiled = unspoiled_to_test (call_of c s).next fine.unspoiled }

pub never_spoiled : (branches : ℕ) → NeverSpoiled branches
unfolding NeverSpoiled
never_spoiled branches calls =
    let fresh : UnspoiledOfType (fresh_of branches) = record { of_type = fresh_is_of_type branches; unspoiled = fresh_is_unspoiled branches } in
    unspoiled_to_test (record_after calls (fresh_of branches))
    (chain_keeps_fine fresh (run_is_chain calls (fresh_of branches))).unspoiled
