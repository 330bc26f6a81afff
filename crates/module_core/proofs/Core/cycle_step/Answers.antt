-- `module_core::Core::cycle_step` meets its contract: each state calls its own part on the tests as their call
-- ensures, which is the step, and quiet where it says so (`cycled_by_state`). Assumes nothing.
use Rattle.sequencer.specs.declared.states.State.TheVariants.{Idle, Delay, Wait2, Wait3}
use Rattle.sequencer.specs.declared.states.State.TheVariants.{Front, Space, SyncHold, Clear}
use Rattle.module_core.proofs.CoreCycle.{cycled_by_state}
use Rattle.module_core.proofs.Core.cycle_step.Goals as goal

pub returns-in-Idle : goal.returns-in-Idle
returns-in-Idle c =
    let a = c.args in
    rw (c.marked.ensures, c.quiet_step.ensures, c.aged-aged.ensures)
    (cycled_by_state a.room a.empty a.lines a.self Idle c.in-Idle.is)

pub returns-in-Delay : goal.returns-in-Delay
returns-in-Delay c =
    let a = c.args in
    rw (c.marked-in-Delay.ensures, c.in_delay.ensures, c.tests.ensures, c.aged-aged.ensures)
    (cycled_by_state a.room a.empty a.lines a.self Delay c.in-Delay.is)

pub returns-in-Wait2 : goal.returns-in-Wait2
returns-in-Wait2 c =
    let a = c.args in
    rw (c.marked-in-Wait2.ensures, c.has_fail2.ensures, c.in_wait2-step.ensures, c.tests-in-Wait2.ensures, c.aged-aged.ensures)
    (cycled_by_state a.room a.empty a.lines a.self Wait2 c.in-Wait2.is)

pub returns-in-Wait3 : goal.returns-in-Wait3
returns-in-Wait3 c =
    let a = c.args in
    rw (c.marked-in-Wait3.ensures, c.has_fail3.ensures, c.in_wait3-step.ensures, c.tests-in-Wait3.ensures, c.aged-aged.ensures)
    (cycled_by_state a.room a.empty a.lines a.self Wait3 c.in-Wait3.is)

pub returns-in-Front : goal.returns-in-Front
returns-in-Front c =
    let a = c.args in
    rw (c.marked-in-Front.ensures, c.in_front.ensures, c.tests-t.ensures, c.aged-aged.ensures)
    (cycled_by_state a.room a.empty a.lines a.self Front c.in-Front.is)

pub returns-in-Space : goal.returns-in-Space
returns-in-Space c =
    let a = c.args in
    rw (c.marked-in-Space.ensures, c.in_space.ensures, c.tests-in-Space.ensures, c.aged-aged.ensures)
    (cycled_by_state a.room a.empty a.lines a.self Space c.in-Space.is)

pub returns-in-SyncHold : goal.returns-in-SyncHold
returns-in-SyncHold c =
    let a = c.args in
    rw (c.marked-in-SyncHold.ensures, c.in_sync_hold-step.ensures, c.tests-in-SyncHold.ensures, c.aged-aged.ensures)
    (cycled_by_state a.room a.empty a.lines a.self SyncHold c.in-SyncHold.is)

pub returns-in-Clear : goal.returns-in-Clear
returns-in-Clear c =
    let a = c.args in
    rw (c.marked-in-Clear.ensures, c.in_clear.ensures, c.tests-in-Clear.ensures, c.aged-aged.ensures)
    (cycled_by_state a.room a.empty a.lines a.self Clear c.in-Clear.is)
