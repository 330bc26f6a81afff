-- The loop of `harness::run_calls`: as many calls are run as the index says. Assumes nothing.
use Rattle.std.proofs.Common.{◌≡◌}
use Rattle.harness.proofs.run_calls.Given as goal

abbrev pub invariant-loop-i : goal.invariant-loop-i
invariant-loop-i l = l.ran ≡ l.i
