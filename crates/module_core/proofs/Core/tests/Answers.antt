-- `module_core::Core::tests` meets its contract: the literal is the definition, each test as its call ensures.
-- Assumes nothing.
use Rattle.module_core.specs.Core.{tests_of}
use Rattle.module_core.proofs.Core.tests.Goals as goal

pub returns : goal.returns
unfolding tests_of
returns c =
    rw (
      c.clear_count.ensures,
      c.uses_t5.ensures,
      c.is_due.ensures,
      c.enables_sync.ensures,
      c.front_test.ensures,
      c.uses_t4.ensures,
      c.has_front_busy.ensures,
      c.is_reached-2.ensures,
      c.is_reached.ensures,
      c.is_late_due.ensures,
      c.uses_t1.ensures,
      c.has_pass3.ensures,
      c.has_fail3.ensures,
      c.has_pass2.ensures,
      c.has_fail2.ensures,
    )
