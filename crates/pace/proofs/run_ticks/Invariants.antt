-- The loop of `pace::run_ticks`: as many ticks are run as the index says. Assumes nothing.
use Rattle.std.proofs.Common.{◌≡◌}
use Rattle.pace.proofs.run_ticks.Given as goal

abbrev pub invariant-loop-i : goal.invariant-loop-i
invariant-loop-i l = l.ran ≡ l.i
