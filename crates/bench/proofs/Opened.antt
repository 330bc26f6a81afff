-- One name that opens every definition on the way of a call: `unfolding machine` under a statement lets it compute.
--     machine    stands for nothing; unfolding it unfolds what its own line names
-- Assumes nothing.
use Rattle.std.proofs.Common.{Bool, true}
use Rattle.bits.specs.Bits as bits
use Rattle.bits.specs.Bytes as bytes
use Rattle.run.specs.Run as run
use Rattle.registers.specs.Control as control
use Rattle.registers.specs.Csr as csr
use Rattle.registers.specs.Registers as registers
use Rattle.prescaler.specs.Prescaler as prescaler
use Rattle.timers.specs.Timers as timers
use Rattle.sync.specs.SyncCounter as counter
use Rattle.sync.specs.UserSync as user
use Rattle.sequencer.specs.MemoryWord as memory
use Rattle.sequencer.specs.MainSequencer as main
use Rattle.table.specs.Table as table
use Rattle.scalers.specs.Scalers as scalers
use Rattle.branch.specs.Branch as branch
use Rattle.branches.specs.Readout as readout
use Rattle.trigger.specs.Effects as effects
use Rattle.testing.specs.TestWord as test
use Rattle.testing.specs.InForce as testing
use Rattle.module_core.specs.Core as core
use Rattle.module_core.specs.Spoiled as spoiled
use Rattle.supervisor.specs.Supervisor as supervisor
use Rattle.state.specs.State as state
use Rattle.access.specs.Access as access
use Rattle.declines.specs.Calls as calls
use Rattle.declines.specs.Fill as fill
use Rattle.declines.specs.Runs as runs
use Rattle.bench.specs.Asks as asks

unfoldable pub machine : Bool
unfolding bits.mask_of bits.tabulate bits.every bytes.bytes bytes.is_same_of run.is_run_of run.holds_byte run.overlaid_of control.counted_of control.enabled_of csr.cleared_if_of csr.marked_of csr.sync_hold_ended_of csr.user_sync_ended_of csr.sync_hold_ended_if_of csr.user_sync_ended_if_of csr.requested_of csr.set_then_cleared_of csr.changed_of csr.written_of registers.numbered_of prescaler.with_factor_of prescaler.factor_of prescaler.step_of prescaler.all_fit_of timers.written_of timers.stored_of counter.after_load_of user.step_of memory.class_in_of main.aged_of main.accepted_of main.step_of main.is_well_formed_of table.are_taken table.lowest_of table.some_of table.table_word_of table.table_of scalers.counts_of scalers.counted_of branch.moved_of branch.appended_of branch.step_of branch.is_well_formed_of readout.standing_of readout.emptied_of readout.is_empty_of readout.has_room_of readout.is_quiet_of readout.branches_after_of readout.sides_after_of readout.step_of readout.is_well_formed_of test.written_of test.lines_of test.acks_of testing.in_force_of testing.held_masks_of core.fresh_of core.reset_of core.pulsed_of core.tests_of core.main_step_of effects.csr_after_of effects.sync_after_of core.settled_of core.step_of core.lines_out_of spoiled.is_sound_of supervisor.fresh_of supervisor.initialized_of supervisor.reset_of supervisor.is_active_of supervisor.is_spoiled_of supervisor.core_step_of supervisor.readout_step_of supervisor.joined_of supervisor.ran_of supervisor.in_force_of supervisor.is_held_of supervisor.held_of supervisor.ticked_of calls.marked_of calls.write_run_of calls.read_run_of calls.write_bytes_of calls.read_bytes_of calls.write_memory_of calls.memory_after_of calls.read_memory_of calls.tick_of fill.fill_memory_of fill.memory_filled_of runs.fresh_session access.csr_written_of access.setting_written_of access.written_of access.setting_of access.base_of state.state_bits_of state.state_of access.after_read_of access.shown_of asks.times
machine = true
