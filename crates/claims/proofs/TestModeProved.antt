-- Each claim of specs/TestMode.antt, proved in one line by the law that it restates.
-- Assumes nothing.
use Rattle.registers.proofs.RegistersLaws as registers
use Rattle.branches.specs.Readout.{module_branches}
use Rattle.testing.proofs.TestingLaws as testing
use Rattle.supervisor.proofs.SupervisorLaws as supervisor
use Rattle.declines.proofs.TestCallsLaws as calls
use Rattle.declines.proofs.ModesLaws as modes
use Rattle.bench.proofs.TestExamples as examples
use Rattle.claims.specs.TestMode.{TestFitsItsBits, TestIsWritten, TestIsNotRead, WritesWaitTogether, TestBitsAreLines}
use Rattle.claims.specs.TestMode.{TestBitsAreAcks, TestModeBlocksOutside, TestAcksBlockOutside, ControlIsOpenInTestMode}
use Rattle.claims.specs.TestMode.{OutsideAcksStay, GuardedByNumber}
use Rattle.claims.specs.TestMode.{HeldTickLeavesRecord, HeldTickStandsStill, OneStepOneTick, ResetKeepsModes}
use Rattle.claims.specs.TestMode.{WrittenPulseCounts, OutsideIsInForce, RunningTickDropsWaiting, StepLetsATickThrough}
use Rattle.claims.specs.TestMode.{EveryRunFollowsTheModes, TestExamples, HoldExamples}

pub test_fits_its_bits : TestFitsItsBits
test_fits_its_bits = registers.test_fits_iff_no_bit_outside

pub test_is_written_lem : TestIsWritten
test_is_written_lem = calls.test_is_written_lem

pub test_is_not_read : TestIsNotRead
test_is_not_read = calls.test_is_not_read

pub writes_wait_together : WritesWaitTogether
writes_wait_together = testing.written_at

pub test_bits_are_lines : TestBitsAreLines
test_bits_are_lines = supervisor.line_in_force

pub test_bits_are_acks : TestBitsAreAcks
test_bits_are_acks = supervisor.ack_in_force

pub outside_acks_stay_lem : OutsideAcksStay
outside_acks_stay_lem = supervisor.outside_acks_stay_lem

pub written_pulse_counts : WrittenPulseCounts
written_pulse_counts = supervisor.written_pulse_counts

pub outside_is_in_force : OutsideIsInForce
outside_is_in_force = supervisor.outside_is_in_force

pub test_mode_blocks_outside : TestModeBlocksOutside
test_mode_blocks_outside = supervisor.test_mode_blocks

pub test_acks_block_outside : TestAcksBlockOutside
test_acks_block_outside = supervisor.test_acks_block

pub control_is_open_in_test_mode : ControlIsOpenInTestMode
control_is_open_in_test_mode = calls.control_is_open_lem

pub guarded_by_number : GuardedByNumber
guarded_by_number = calls.guarded_by_number

pub held_tick_leaves_record : HeldTickLeavesRecord
held_tick_leaves_record = supervisor.held_leaves_record

pub held_tick_stands_still : HeldTickStandsStill
held_tick_stands_still = supervisor.held_stands_still

pub running_tick_drops_waiting : RunningTickDropsWaiting
running_tick_drops_waiting = supervisor.unheld_drops_waiting

pub step_lets_a_tick_through : StepLetsATickThrough
step_lets_a_tick_through = calls.step_lets_a_tick_through

pub one_step_one_tick : OneStepOneTick
one_step_one_tick = supervisor.one_step_one_tick

pub reset_keeps_modes_lem : ResetKeepsModes
reset_keeps_modes_lem = modes.reset_keeps_modes_lem

pub every_run_follows_the_modes : EveryRunFollowsTheModes
every_run_follows_the_modes = modes.every_run_follows_the_modes module_branches

pub test_examples_lem : TestExamples
test_examples_lem = examples.test_examples_lem

pub hold_examples_lem : HoldExamples
hold_examples_lem = examples.hold_examples_lem
