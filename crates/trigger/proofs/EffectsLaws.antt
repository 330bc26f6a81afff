-- Laws of what the moves of a tick change besides themselves.
--     csr_after_keeps_mode        bits 4–13 of the CSR, the modes among them
--     nothing_ended               where neither Sync hold nor a user sync ends, no end clears a bit
--     sync_after_by_count         the sync counter after a tick is the one before with another count
-- Assumes nothing.
use Rattle.std.specs.Prelude.{if◌then◌else◌}
use Prim.Native.Nat.{ℕ, ◌+◌, ◌<◌, ◌≤◌}
use mathlib.Core.Path.{◌≡◌, refl, sym, ◌∙◌}
use mathlib.Core.Bool.{Bool, true, false, not, ◌&&◌, ◌||◌, true≢false}
use Rattle.registers.specs.Csr as csr
use Rattle.registers.specs.Csr.{sync_hold_ended_if_of, user_sync_ended_if_of}
use Rattle.registers.specs.declared.csr.Csr.{Csr}
use Rattle.registers.proofs.CsrLaws.{marked_keeps_mode, sync_hold_keeps_mode, user_sync_keeps_mode}
use Rattle.sync.specs.SyncCounter.{with_count, is_counting, reaches_interval, after_load_of, zeroed_of}
use Rattle.sync.specs.declared.counter.SyncCounter.{SyncCounter}
use Rattle.sync.specs.declared.user.UserStep.{UserStep}
use Rattle.sequencer.specs.States.{is_event}
use Rattle.sequencer.specs.declared.main_sequencer.MainStep.{MainStep}
use Rattle.trigger.specs.Effects.{csr_after_of, sync_after_of}
use Rattle.trigger.specs.declared.lines.Lines.{Lines}

-- [Test.1] only a write sets and clears a mode
pub csr_after_keeps_mode : (l : Lines) (m : MainStep) (u : UserStep) (c : Csr) (i : ℕ) → 4 ≤ i → i < csr.settable_count
    → csr.has_bit (csr_after_of l m u c) i ≡ csr.has_bit c i
unfolding csr_after_of
csr_after_keeps_mode l m u c i low high =
    marked_keeps_mode i low high _ _
    ∙ user_sync_keeps_mode i low high u.ended _
    ∙ sync_hold_keeps_mode i low high m.ended c

pub nothing_ended : (held waited : Bool) (c : Csr) → (held || waited) ≡ false
    → user_sync_ended_if_of waited (sync_hold_ended_if_of held c) ≡ c
unfolding sync_hold_ended_if_of user_sync_ended_if_of
nothing_ended true waited c h = absurd (true≢false h)
nothing_ended false true c h = absurd (true≢false h)
nothing_ended false false c h = refl

keeps_interval : (ended event counts : Bool) (s : SyncCounter)
    → (if ended then zeroed_of s else if event then if counts then with_count (s.count + 1) s else s else s).interval
    ≡ s.interval
keeps_interval true event counts s = refl
keeps_interval false true true s = refl
keeps_interval false true false s = refl
keeps_interval false false counts s = refl

-- no move changes the interval
pub sync_after_by_count : (enabled : Bool) (m : MainStep) (u : UserStep) (s : SyncCounter)
    → with_count (sync_after_of enabled m u s).count s ≡ sync_after_of enabled m u s
unfolding sync_after_of after_load_of
sync_after_by_count enabled m u s =
    let ended = m.ended || u.ended in
    let counts = not (reaches_interval s) && is_counting enabled s in
    λ j.
    record {
      interval = sym (keeps_interval ended (is_event m.outcome) counts s) j;
      count = (sync_after_of enabled m u s).count;
    }
