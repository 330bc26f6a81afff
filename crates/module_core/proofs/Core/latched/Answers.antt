-- `module_core::Core::latched` meets its contract: where nothing passed nothing is latched (`latched_at_none`), else
-- by its calls. Assumes nothing.
use Rattle.module_core.specs.Core.{latched_of}
use Rattle.module_core.proofs.CoreParts.{latched_at_none}
use borrow.Author.Tests.{ne_eqb}
use Rattle.module_core.proofs.Core.latched.Goals as goal

pub returns-then-passed-eq0 : goal.returns-then-passed-eq0
returns-then-passed-eq0 c =
    let a = c.args in
    rw c.none.ensures (latched_at_none a.lines _ a.passed a.self c.if-passed-eq0.true)

pub returns : goal.returns
unfolding latched_of
returns c =
    rw (
      c.latch_of-latch.ensures,
      c.is_ready.ensures,
      c.word_at-word.ensures,
      ne_eqb _ _ c.if-passed-eq0.false,
    )
