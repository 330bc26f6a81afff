-- Each claim of specs/Parts.antt, proved in one line by the law that it restates.
-- Assumes nothing.
use Rattle.registers.proofs.RegistersLaws as registers
use Rattle.registers.proofs.CsrLaws as csr
use Rattle.prescaler.proofs.PrescalerLaws as prescaler
use Rattle.prescaler.proofs.PrescalerLoadLaws as loads
use Rattle.sync.proofs.SyncLaws as sync
use Rattle.sequencer.proofs.MainLaws as main
use Rattle.branch.proofs.BranchLaws as branch
use Rattle.declines.proofs.CallsLaws as calls
use Rattle.claims.specs.Parts.{FactorFitsItsWidth, TimerFitsItsWidth, AssignDeclines40To4F, AssignDeclines60Up}
use Rattle.claims.specs.Parts.{CsrBitAfterWrite, ClearWins, PulseHasOneFate, LoadStartsPassCount}
use Rattle.claims.specs.Parts.{PulseKeepsPassCount, PassCountDivides}
use Rattle.claims.specs.Parts.{FirstPulseIsScaled, FailBeatsPass2, FailBeatsPass3, ToIdleZeroes, IntervalOneIsDue}
use Rattle.claims.specs.Parts.{SyncLoadKeepsCount, UserSyncEndsExactly, BranchKeepsOrder, StrobeHasWord}
use Rattle.claims.specs.Parts.{NoneEnabledIsHigh, NoneEnabledIsLow, IntervalFitsItsWidth, ControlFitsItsBits}
use Rattle.claims.specs.Parts.{PastLastIsAbsent, FactsByNumber, PlaceForEachPattern, ResetClearsBits0To3}
use Rattle.claims.specs.Parts.{WriteLeavesOtherPlaces, MarksSetStatusBits, SyncHoldEndsARun}
use Rattle.claims.specs.Parts.{UserSyncEndsARun, FirstPulseIsScaledAfterReset, ZeroIsPassed, Inputs9To12Pass}

pub factor_fits_its_width : FactorFitsItsWidth
factor_fits_its_width = registers.factor_fits_iff_no_bit_outside

pub timer_fits_its_width : TimerFitsItsWidth
timer_fits_its_width = registers.timer_fits_iff_no_bit_outside

pub interval_fits_its_width : IntervalFitsItsWidth
interval_fits_its_width = registers.interval_fits_iff_no_bit_outside

pub control_fits_its_bits : ControlFitsItsBits
control_fits_its_bits = registers.control_fits_iff_no_bit_outside

pub past_last_is_absent : PastLastIsAbsent
past_last_is_absent = registers.past_last_is_absent

pub facts_by_number : FactsByNumber
facts_by_number = registers.facts_by_number

pub place_for_each_pattern : PlaceForEachPattern
place_for_each_pattern = calls.place_for_each_pattern

pub write_leaves_other_places : WriteLeavesOtherPlaces
write_leaves_other_places = calls.write_leaves_other_places

pub assign_declines_40_to_4f : AssignDeclines40To4F
assign_declines_40_to_4f = registers.assign_declines_40_to_4f

pub assign_declines_60_up : AssignDeclines60Up
assign_declines_60_up = registers.assign_declines_60_up

pub csr_bit_after_write : CsrBitAfterWrite
csr_bit_after_write = csr.written_at

pub clear_wins : ClearWins
clear_wins = csr.clear_wins

pub reset_clears_bits_0_to_3 : ResetClearsBits0To3
reset_clears_bits_0_to_3 = csr.reset_clears

pub marks_set_status_bits : MarksSetStatusBits
marks_set_status_bits = csr.marked_at

pub sync_hold_ends_a_run : SyncHoldEndsARun
sync_hold_ends_a_run = csr.sync_hold_ended_at

pub user_sync_ends_a_run : UserSyncEndsARun
user_sync_ends_a_run = csr.user_sync_ended_at

pub pulse_has_one_fate : PulseHasOneFate
pulse_has_one_fate = prescaler.fate_is_one

pub load_starts_pass_count : LoadStartsPassCount
load_starts_pass_count = prescaler.loaded_has_pass_count

pub pulse_keeps_pass_count : PulseKeepsPassCount
pulse_keeps_pass_count = prescaler.pulse_keeps_pass_count

pub pass_count_divides : PassCountDivides
pass_count_divides = prescaler.pass_count_divides

pub first_pulse_is_scaled : FirstPulseIsScaled
first_pulse_is_scaled = loads.first_pulse_scaled

pub first_pulse_is_scaled_after_reset : FirstPulseIsScaledAfterReset
first_pulse_is_scaled_after_reset = loads.first_pulse_scaled_after_reset

pub zero_is_passed : ZeroIsPassed
zero_is_passed = prescaler.zero_is_passed

pub inputs_9_to_12_pass : Inputs9To12Pass
inputs_9_to_12_pass = prescaler.unprescaled_is_passed

pub fail_beats_pass2 : FailBeatsPass2
fail_beats_pass2 = main.fail_beats_pass2

pub fail_beats_pass3 : FailBeatsPass3
fail_beats_pass3 = main.fail_beats_pass3

pub to_idle_zeroes : ToIdleZeroes
to_idle_zeroes = main.to_idle_zeroes

pub interval_one_is_due : IntervalOneIsDue
interval_one_is_due = sync.interval_one_is_due

pub sync_load_keeps_count : SyncLoadKeepsCount
sync_load_keeps_count = sync.sync_load_keeps_count

pub user_sync_ends_exactly : UserSyncEndsExactly
user_sync_ends_exactly = sync.user_ends_exactly

pub branch_keeps_order : BranchKeepsOrder
branch_keeps_order = branch.step_keeps_order

pub strobe_has_word : StrobeHasWord
strobe_has_word = branch.strobe_has_word

pub none_enabled_is_high : NoneEnabledIsHigh
none_enabled_is_high = branch.none_enabled_all_high

pub none_enabled_is_low : NoneEnabledIsLow
none_enabled_is_low = branch.none_enabled_all_low
