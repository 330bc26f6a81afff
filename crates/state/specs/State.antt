-- The STATE register: what a read of register 20 shows, bit by bit.
--     document 02     N2; source document 001, section 3.11
--     state_bits_of     the 32 tests, bit 0 first, each by its name in section 3.11
--     state_of         the word that they make; state_byte_of: its bytes
--     LatestTick, latest_tick_in   what a record keeps of the latest tick
--     ShowsTick       that STATE shows what was in force in a tick, and whether it latched a pattern
-- The lines and the latched trigger are those of the latest tick that ran, as are the acknowledges, as they were in force in it
-- ([Test.7b]); all else, the enabled controllers too, is the record as it stands at the read.
-- Own rules of 02 used here: none. Decisions: R6. Left out: nothing.
-- Assumes nothing.
use Rattle.std.specs.Prelude.{◌≡◌, ℕ, ◌+◌, ◌*◌, Bool, false, not, ◌||◌, List, [], ◌∷◌, slice_index_or}
use Rattle.bits.specs.Bits.{bit_at, mask_of}
use Rattle.registers.specs.Csr as csr
use Rattle.branches.specs.Readout.{is_empty_of, has_room_of}
use Rattle.branches.specs.Handshakes.{strobe_at, and_at, or_at}
use Rattle.sequencer.specs.States.{is_idle, is_sync_hold}
use Rattle.sequencer.specs.MainSequencer.{ok_line, start2_line, accept2_line, start3_line, accept3_line, is_raised, is_clearing}
use Rattle.scalers.specs.Scalers.{is_some}
use Rattle.trigger.specs.Lines.{has_pass2, has_fail2, has_pass3, has_fail3, has_front_busy, has_inhibit}
use Rattle.trigger.specs.declared.lines.Lines.{Lines}
use Rattle.trigger.specs.declared.lines.Inputs.{Inputs}
use Rattle.trigger.specs.declared.latch.Masks.{Masks}
use Rattle.trigger.specs.declared.latest.Latest.{Latest}
use Rattle.module_core.specs.Core.{is_ready_of}
use Rattle.supervisor.specs.Supervisor.{is_active_of}
use Rattle.supervisor.specs.declared.Supervisor.{Supervisor}

-- ---- what the tests ask

-- [State.3] the lines of the latest tick that ran
abbrev pub lines_kept : Supervisor → Lines
lines_kept s = s.core.latest.lines

-- [State.4a] the ready rule with those lines; [State.4b] TS BUSY is its opposite
abbrev pub shows_ready : Supervisor → Bool
shows_ready s = is_ready_of (lines_kept s) s.core

-- [State.5] from loading a sync word, or a tag, until its wait ends
abbrev pub shows_sync : Supervisor → Bool
shows_sync s = is_sync_hold s.core.main.state || s.core.user.waiting

-- [State.7] some branch is not below its depth, by the locks as they stand
abbrev pub shows_full : Supervisor → Bool
shows_full s = not (has_room_of (csr.locks_roc s.core.csr) (csr.locks_branch4 s.core.csr) s.readout.branches)

-- ---- the 32 bits

-- [State.2] the bits of section 3.11, in its order; [State.6] pass and fail are the plain lines; [State.7] bits 0, 12 and
-- 19, and AND and OR of each branch
unfoldable pub state_bits_of : Supervisor → List Bool
state_bits_of s =
    is_raised ok_line s.core.main  --  0 [State.7] LEVEL 1 ACCEPT
    ∷ is_raised start2_line s.core.main  --  1 [State.2] LEVEL 2 START
    ∷ has_pass2 (lines_kept s)  --  2 [State.6] LEVEL 2 PASS
    ∷ has_fail2 (lines_kept s)  --  3 [State.6] LEVEL 2 FAIL
    ∷ is_raised accept2_line s.core.main  --  4 [State.2] LEVEL 2 ACCEPT
    ∷ is_raised start3_line s.core.main  --  5 [State.2] LEVEL 3 START
    ∷ has_pass3 (lines_kept s)  --  6 [State.6] LEVEL 3 PASS
    ∷ has_fail3 (lines_kept s)  --  7 [State.6] LEVEL 3 FAIL
    ∷ is_raised accept3_line s.core.main  --  8 [State.2] LEVEL 3 ACCEPT
    ∷ is_clearing s.core.main  --  9 [State.2] CLEAR
    ∷ has_front_busy (lines_kept s)  -- 10 [State.3] FRONT END BUSY
    ∷ has_inhibit (lines_kept s)  -- 11 [State.3] EXTERNAL INHIBIT
    ∷ s.core.latest.latched  -- 12 [State.7] LATCHED TRIGGER
    ∷ not (shows_ready s)  -- 13 [State.4b] TS BUSY
    ∷ not (is_idle s.core.main.state)  -- 14 [State.2] SEQUENCER ACTIVE
    ∷ shows_ready s  -- 15 [State.4a] READY
    ∷ is_active_of s  -- 16 [State.2] ACTIVE
    ∷ shows_sync s  -- 17 [State.5] SYNCHRONIZATION
    ∷ is_empty_of s.readout.branches  -- 18 [State.2] BUFFERS EMPTY
    ∷ shows_full s  -- 19 [State.7] BUFFER FULL
    ∷ strobe_at s.readout 0  -- 20 [State.2] ROC BRANCH 1 STROBE
    ∷ and_at s.readout 0  -- 21 [State.7] ROC BRANCH 1 AND_ACK
    ∷ or_at s.readout 0  -- 22 [State.7] ROC BRANCH 1 OR_ACK
    ∷ strobe_at s.readout 1  -- 23 [State.2] ROC BRANCH 2 STROBE
    ∷ and_at s.readout 1  -- 24 [State.7] ROC BRANCH 2 AND_ACK
    ∷ or_at s.readout 1  -- 25 [State.7] ROC BRANCH 2 OR_ACK
    ∷ strobe_at s.readout 2  -- 26 [State.2] ROC BRANCH 3 STROBE
    ∷ and_at s.readout 2  -- 27 [State.7] ROC BRANCH 3 AND_ACK
    ∷ or_at s.readout 2  -- 28 [State.7] ROC BRANCH 3 OR_ACK
    ∷ strobe_at s.readout 3  -- 29 [State.2] ROC BRANCH 4 STROBE
    ∷ and_at s.readout 3  -- 30 [State.7] ROC BRANCH 4 AND_ACK
    ∷ or_at s.readout 3  -- 31 [State.7] ROC BRANCH 4 OR_ACK
    ∷ []

abbrev pub state_bit_at : Supervisor → (i : ℕ) → Bool
state_bit_at s i = slice_index_or (state_bits_of s) i false

-- ---- the word

unfoldable pub state_of : Supervisor → ℕ
state_of s = mask_of 32 (state_bit_at s)

-- the code makes it of four bytes
unfoldable pub state_byte_of : (b : ℕ) → Supervisor → ℕ
state_byte_of b s = mask_of 8 (λ i. state_bit_at s (8 * b + i))

-- ---- facts and statements

-- [State.3] all that a record keeps of the latest tick that ran
pub record LatestTick : Type 0 where
  pub kept : Latest
  pub acks : ℕ

abbrev pub latest_tick_in : Supervisor → LatestTick
latest_tick_in s = record { kept = s.core.latest; acks = s.readout.acks }

-- [State.7] a pattern is latched where it is rejected or accepted
abbrev pub has_latched : Masks → Bool
has_latched m = is_some m.rejected || is_some m.accepted

-- [State.3] [State.6] [State.7] STATE of the record s shows what was in force in a tick, and whether it latched a pattern
pub record ShowsTick (x : Inputs) (masks : Masks) (s : Supervisor) : Type 0 where
  pub pass2 : bit_at (state_of s) 2 ≡ has_pass2 x.lines
  pub fail2 : bit_at (state_of s) 3 ≡ has_fail2 x.lines
  pub pass3 : bit_at (state_of s) 6 ≡ has_pass3 x.lines
  pub fail3 : bit_at (state_of s) 7 ≡ has_fail3 x.lines
  pub front_busy : bit_at (state_of s) 10 ≡ has_front_busy x.lines
  pub inhibit : bit_at (state_of s) 11 ≡ has_inhibit x.lines
  pub latched : bit_at (state_of s) 12 ≡ has_latched masks
