-- Each claim of specs/Requests.antt, proved in one line by the law that it restates.
-- Assumes nothing.
use Rattle.branches.specs.Readout.{module_branches}
use Rattle.module_core.proofs.CoreLaws as core
use Rattle.state.proofs.StateLaws as state
use Rattle.declines.proofs.StateCallsLaws as calls
use Rattle.reach.proofs.Sound as sound
use Rattle.bench.proofs.BlindExamples as blind
use Rattle.bench.proofs.StateExamples as reads
use Rattle.claims.specs.Requests.{FastResetBlinds, BlindTickLosesAll, ResetEndsBlindTime, BlindAbove2IsSpoiled}
use Rattle.claims.specs.Requests.{BlindExamples, StateShowsItsBits, FreshStateReads, ResetKeepsLatest}
use Rattle.claims.specs.Requests.{StateIsRead, StateIsNotWritten, StateShowsTheTick, EveryRunKeepsTheLatestTick}
use Rattle.claims.specs.Requests.{StateExamples}

pub fast_reset_blinds : FastResetBlinds
fast_reset_blinds = core.fast_reset_blinds

pub blind_tick_loses_all : BlindTickLosesAll
blind_tick_loses_all = core.blind_tick_loses_all

pub reset_ends_blind_time : ResetEndsBlindTime
reset_ends_blind_time = core.reset_ends_blind_time

pub blind_above_2_is_spoiled : BlindAbove2IsSpoiled
blind_above_2_is_spoiled = sound.blind_above_2_is_spoiled

pub blind_examples_lem : BlindExamples
blind_examples_lem = blind.blind_examples_lem

pub state_is_read : StateIsRead
state_is_read = calls.state_is_read

pub state_is_not_written : StateIsNotWritten
state_is_not_written = calls.state_is_not_written

pub state_shows_its_bits : StateShowsItsBits
state_shows_its_bits = state.state_shows_its_bits

pub fresh_state_reads : FreshStateReads
fresh_state_reads = state.fresh_state_reads

pub reset_keeps_latest : ResetKeepsLatest
reset_keeps_latest = state.reset_keeps_lem

pub state_shows_the_tick : StateShowsTheTick
state_shows_the_tick = state.shows_tick

pub every_run_keeps_the_latest_tick : EveryRunKeepsTheLatestTick
every_run_keeps_the_latest_tick = calls.every_run_keeps_the_latest_tick module_branches

pub state_examples_lem : StateExamples
state_examples_lem = reads.state_examples_lem
