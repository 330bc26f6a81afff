-- Each claim of specs/Bytes.antt, proved in one line by the law that it restates.
-- Assumes nothing.
use Rattle.branches.specs.Readout.{module_branches}
use Rattle.run.proofs.RunLaws as runs
use Rattle.prescaler.proofs.PrescalerLoadLaws as load
use Rattle.declines.proofs.BytesCallsLaws as bytes
use Rattle.declines.proofs.LatchLaws as latch
use Rattle.declines.proofs.ReadBackLaws as back
use Rattle.account.proofs.OwedLaw as owed
use Rattle.account.proofs.OwedExamples as owedTable
use Rattle.reach.proofs.Sound as sound
use Rattle.bench.proofs.BytesExamples as byteCalls
use Rattle.claims.specs.Bytes.{TheRunsAreTen, RunTakesItsBytes, WholeRunIsPlainWrite}
use Rattle.claims.specs.Bytes.{WholeRunIsPlainRead, WrittenBytesAreRead, FactorAloneKeepsCounters, PartialReadIsCut}
use Rattle.claims.specs.Bytes.{ReadsLeaveTheRest, ScalerReadLatches, ScalerReadByLatch, ScalerWriteLeaves}
use Rattle.claims.specs.Bytes.{LatchedCountStands, InitializeZeroesLatches, CounterBeyondWidthIsSpoiled}
use Rattle.claims.specs.Bytes.{PassCountOwed, PassCountOwedFromALoad, OwedExamples, BytesExamples}

pub the_runs_are_ten : TheRunsAreTen
the_runs_are_ten = runs.run_is_of_ten

pub run_takes_its_bytes : RunTakesItsBytes
run_takes_its_bytes = runs.overlaid_at

pub whole_run_is_plain_write : WholeRunIsPlainWrite
whole_run_is_plain_write = bytes.plain_write_is_whole

pub whole_run_is_plain_read : WholeRunIsPlainRead
whole_run_is_plain_read = bytes.plain_read_is_whole

pub written_bytes_are_read : WrittenBytesAreRead
written_bytes_are_read = back.written_bytes_are_read

pub factor_alone_keeps_counters : FactorAloneKeepsCounters
factor_alone_keeps_counters = load.with_factor_leaves_counters

pub partial_read_is_cut : PartialReadIsCut
partial_read_is_cut = latch.partial_read_is_cut

pub reads_leave_the_rest : ReadsLeaveTheRest
reads_leave_the_rest = latch.read_leaves_rest

pub scaler_read_latches : ScalerReadLatches
scaler_read_latches = latch.scaler_read_latches

pub scaler_read_by_latch : ScalerReadByLatch
scaler_read_by_latch = latch.scaler_read_by_latch

pub scaler_write_leaves : ScalerWriteLeaves
scaler_write_leaves = latch.scaler_write_leaves

pub latched_count_stands : LatchedCountStands
latched_count_stands = latch.latch_stands

pub initialize_zeroes_latches : InitializeZeroesLatches
initialize_zeroes_latches = latch.initialize_zeroes_latch

pub counter_beyond_width_is_spoiled : CounterBeyondWidthIsSpoiled
counter_beyond_width_is_spoiled = sound.counter_beyond_width_is_spoiled

pub pass_count_owed : PassCountOwed
pass_count_owed = owed.pass_count_is_owed module_branches

pub pass_count_owed_from_a_load : PassCountOwedFromALoad
pass_count_owed_from_a_load = owed.load_owes module_branches

pub owed_examples : OwedExamples
owed_examples = owedTable.owed_examples

pub bytes_examples_lem : BytesExamples
bytes_examples_lem = byteCalls.bytes_examples_lem
