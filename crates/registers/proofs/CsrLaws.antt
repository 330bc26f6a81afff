-- Laws of the CSR: what each operation does to bit i, and that a stored CSR stays valid.
--     marked_at, sync_hold_ended_at, user_sync_ended_at, written_at   bit i after each operation, for every i
--     go_rises_exactly        a write raises GO exactly when GO was 0, bit 0 is set and bit 16 is not
--     clear_wins              a bit that the write sets and clears is 0 after it
--     reset_clears            after RESET bits 0–3 are 0
--     marked_keeps_low        bits 0–15 after marks
--     mode-after-.., ..-keeps-mode   bits 4–13: after a write, with RESET or not; after marks and after the end of a sync
--     fresh_is_valid          the fresh CSR has no bit
--     ..-keeps-valid          a CSR with no bit other than 0–13 and 16–20 has none after the operation either
-- Assumes nothing.
use Prim.Native.Nat.{ℕ, ◌+◌, ◌/◌, ◌^◌, ◌<◌, ◌≤◌}
use mathlib.Core.Path.{◌≡◌, refl, sym, ap, ap₂, ◌∙◌}
use mathlib.Core.Bool.{Bool, true, false, not, ◌&&◌, ◌||◌}
use lib.Bits.{bit_and}
use lib.Dec.{ltb, leb, leb-zero}
use native.Mathlib.Omega.{arith}
use borrow.Author.Tests.{lt-ltb, le-ltb, lt-leb}
use Rattle.bits.specs.Bits.{bit_at, bits_from, set_of}
use Rattle.bits.proofs.TestLaws.{and_true, and_fails}
use Rattle.bits.proofs.BitsLaws.{set_at, clear_at, and_at_lem, shift_at, zero_at, run_at}
use Rattle.bits.proofs.WidthLaws.{set_keeps_only, clear_keeps_only, and_keeps_only}
use Rattle.registers.specs.Csr.{settable_count, settable_bits, status_bits, stored_bits, reset_bits, go_bit}
use Rattle.registers.specs.Csr.{has_bit, is_go, pauses_on_next_sync, pauses_and_syncs, is_valid_stored_csr}
use Rattle.registers.specs.Csr.{fresh_of, cleared_of, cleared_if_of, marked_of, sync_hold_ended_of, user_sync_ended_of}
use Rattle.registers.specs.Csr.{sync_hold_ended_if_of, user_sync_ended_if_of}
use Rattle.registers.specs.Csr.{requested_of, set_then_cleared_of, go_rises, changed_of, after_request_of, written_of}
use Rattle.registers.specs.CsrBits.{is_settable_bit, is_status_bit, set_or_cleared, bit_set_then_cleared}
use Rattle.registers.specs.CsrBits.{clears_status, bit_changed, bit_after}
use Rattle.registers.specs.declared.csr.Csr.{Csr}
use Rattle.registers.specs.declared.csr.Request.{Request}
use Rattle.registers.specs.declared.csr.Request.TheVariants.{Nothing, Reset, Initialize}

-- ---- bit i of a run from bit 0, of the bits that a value has in a run, of a CSR with bits cleared

low_run_at : (n i : ℕ) → bit_at (bits_from 0 n) i ≡ ltb i (0 + n)
low_run_at n i = run_at 0 n i ∙ ap (λ (t : Bool). t && ltb i (0 + n)) (leb-zero i)

settable_at : (v i : ℕ) → bit_at (bit_and v settable_bits) i ≡ (bit_at v i && is_settable_bit i)
settable_at v i = and_at_lem v settable_bits i ∙ ap (λ (t : Bool). bit_at v i && t) (low_run_at settable_count i)

cleared_if_at : (t : Bool) (m : ℕ) (c : Csr) (i : ℕ)
    → has_bit (cleared_if_of t m c) i ≡ (has_bit c i && not (t && bit_at m i))
unfolding cleared_if_of
cleared_if_at true m c i = clear_at m c.word i
cleared_if_at false m c i = and_true (has_bit c i)

-- ---- bit i after what a tick does

pub marked_at : (marks : ℕ) (c : Csr) (i : ℕ)
    → has_bit (marked_of marks c) i ≡ (has_bit c i || (bit_at marks i && is_status_bit i))
unfolding marked_of
marked_at marks c i =
    set_at (bit_and marks status_bits) c.word i
    ∙ ap (λ (t : Bool). has_bit c i || t)
    (and_at_lem marks status_bits i ∙ ap (λ (t : Bool). bit_at marks i && t) (run_at 16 5 i))

pub sync_hold_ended_at : (c : Csr) (i : ℕ)
    → has_bit (sync_hold_ended_of c) i ≡ (has_bit c i && not (pauses_on_next_sync c && ltb i 2))
unfolding sync_hold_ended_of
sync_hold_ended_at c i =
    cleared_if_at (pauses_on_next_sync c) (bits_from 0 2) c i
    ∙ ap (λ (t : Bool). has_bit c i && not (pauses_on_next_sync c && t)) (low_run_at 2 i)

pub user_sync_ended_at : (c : Csr) (i : ℕ)
    → has_bit (user_sync_ended_of c) i ≡ ((has_bit c i && not (leb 2 i && ltb i 4)) && not (pauses_and_syncs c && ltb i 1))
unfolding user_sync_ended_of
user_sync_ended_at c i =
    cleared_if_at (pauses_and_syncs c) go_bit (cleared_of (bits_from 2 2) c) i
    ∙ ap₂ (λ (t u : Bool). t && not (pauses_and_syncs c && u))
    (clear_at (bits_from 2 2) c.word i ∙ ap (λ (t : Bool). has_bit c i && not t) (run_at 2 2 i))
    (low_run_at 1 i)

-- ---- bit i after a write

set_then_cleared_at : (v : ℕ) (c : Csr) (i : ℕ)
    → has_bit (set_then_cleared_of v c) i ≡ bit_set_then_cleared v c i
unfolding set_then_cleared_of
set_then_cleared_at v c i =
    clear_at (bit_and (v / 2 ^ 16) settable_bits) (set_of (bit_and v settable_bits) c.word) i
    ∙ ap₂ (λ (t u : Bool). t && not u)
    (set_at (bit_and v settable_bits) c.word i ∙ ap (λ (t : Bool). has_bit c i || t) (settable_at v i))
    (settable_at (v / 2 ^ 16) i ∙ ap (λ (t : Bool). t && is_settable_bit i) (shift_at v 16 i))

rises : (go set clear : Bool)
    → (not go && ((go || (set && true)) && not (clear && true))) ≡ (not go && (set && not clear))
rises true set clear = refl
rises false true true = refl
rises false true false = refl
rises false false clear = refl

pub go_rises_exactly : (v : ℕ) (c : Csr)
    → go_rises c (set_then_cleared_of v c) ≡ (not (is_go c) && (bit_at v 0 && not (bit_at v 16)))
go_rises_exactly v c =
    ap (λ (t : Bool). not (is_go c) && t) (set_then_cleared_at v c 0) ∙ rises (is_go c) (bit_at v 0) (bit_at v 16)

changed_at : (v : ℕ) (c : Csr) (i : ℕ) → has_bit (changed_of v c) i ≡ bit_changed v c i
unfolding changed_of
changed_at v c i =
    cleared_if_at (go_rises c (set_then_cleared_of v c) || bit_at v 31) status_bits (set_then_cleared_of v c) i
    ∙ ap₂ (λ (t u : Bool). t && not (u && bit_at status_bits i))
    (set_then_cleared_at v c i) (ap (λ (t : Bool). t || bit_at v 31) (go_rises_exactly v c))
    ∙ ap (λ (t : Bool). bit_set_then_cleared v c i && not (clears_status v c && t)) (run_at 16 5 i)

after_request_at : (r : Request) (v : ℕ) (c : Csr) (i : ℕ) → has_bit (after_request_of r v c) i ≡ bit_after r v c i
after_request_at Initialize v c i = zero_at i
after_request_at Reset v c i =
    clear_at reset_bits (changed_of v c).word i ∙ ap₂ (λ (t u : Bool). t && not u) (changed_at v c i) (low_run_at 4 i)
after_request_at Nothing v c i = changed_at v c i

pub written_at : (v : ℕ) (c : Csr) (i : ℕ) → has_bit (written_of v c).next i ≡ bit_after (requested_of v) v c i
unfolding written_of
written_at v c i = after_request_at (requested_of v) v c i

-- ---- two rules of 01 that follow

pub clear_wins : (v : ℕ) (c : Csr) (i : ℕ)
    → i < settable_count → bit_at v (16 + i) ≡ true → has_bit (set_then_cleared_of v c) i ≡ false
clear_wins v c i h clears =
    set_then_cleared_at v c i
    ∙ ap₂ (λ (t u : Bool). (has_bit c i || (bit_at v i && u)) && not (t && u)) clears (lt-ltb i settable_count h)
    ∙ and_fails (has_bit c i || (bit_at v i && true)) refl

pub reset_clears : (v : ℕ) (c : Csr) (i : ℕ) → i < 4 → has_bit (after_request_of Reset v c) i ≡ false
reset_clears v c i h =
    after_request_at Reset v c i
    ∙ ap (λ (t : Bool). bit_changed v c i && not t) (lt-ltb i 4 h)
    ∙ and_fails (bit_changed v c i) refl

-- ---- bits 4–13, the modes among them: a write sets and clears them, and nothing else does

and_nothing : (t s : Bool) → (t && not (s && false)) ≡ t
and_nothing true true = refl
and_nothing true false = refl
and_nothing false s = refl

or_nothing : (t s : Bool) → (t || (s && false)) ≡ t
or_nothing true s = refl
or_nothing false true = refl
or_nothing false false = refl

-- [CSR.2] the status bits are above 15
below_status : (i : ℕ) → i < 16 → is_status_bit i ≡ false
below_status i below = rw (lt-leb 16 i below)

-- a status bit set leaves the bits that a write sets
pub marked_keeps_low : (i : ℕ) → i < 16 → (marks : ℕ) (c : Csr) → has_bit (marked_of marks c) i ≡ has_bit c i
marked_keeps_low i below marks c =
    marked_at marks c i
    ∙ ap (λ (t : Bool). has_bit c i || (bit_at marks i && t)) (below_status i below)
    ∙ or_nothing (has_bit c i) (bit_at marks i)

module _ (i : ℕ) (from4 : 4 ≤ i) (below14 : i < settable_count) where
  no_status : is_status_bit i ≡ false
  no_status = below_status i (omega arith)

  no_reset : ltb i 4 ≡ false
  no_reset = le-ltb i 4 from4

  settable : (v : ℕ) (c : Csr) → bit_set_then_cleared v c i ≡ set_or_cleared v i (has_bit c i)
  settable v c =
      rw (lt-ltb i settable_count below14, ← and_true (bit_at v i), ← and_true (bit_at v (16 + i)))

  mode_after_change : (v : ℕ) (c : Csr) → has_bit (changed_of v c) i ≡ set_or_cleared v i (has_bit c i)
  mode_after_change v c =
      changed_at v c i
      ∙ ap (λ (t : Bool). bit_set_then_cleared v c i && not (clears_status v c && t)) no_status
      ∙ and_nothing (bit_set_then_cleared v c i) (clears_status v c)
      ∙ settable v c

  -- [Test.8b] RESET leaves it as the write does
  pub mode_after_reset : (v : ℕ) (c : Csr) → has_bit (after_request_of Reset v c) i ≡ set_or_cleared v i (has_bit c i)
  mode_after_reset v c =
      after_request_at Reset v c i
      ∙ ap (λ (t : Bool). bit_changed v c i && not t) no_reset
      ∙ sym (and_true (bit_changed v c i))
      ∙ sym (changed_at v c i)
      ∙ mode_after_change v c

  pub mode_after_write : (v : ℕ) (c : Csr) → has_bit (after_request_of Nothing v c) i ≡ set_or_cleared v i (has_bit c i)
  mode_after_write = mode_after_change

  -- what a tick and a declined call do
  pub marked_keeps_mode : (marks : ℕ) (c : Csr) → has_bit (marked_of marks c) i ≡ has_bit c i
  marked_keeps_mode = marked_keeps_low i (omega arith)

  pub sync_hold_keeps_mode : (ended : Bool) (c : Csr) → has_bit (sync_hold_ended_if_of ended c) i ≡ has_bit c i
  unfolding sync_hold_ended_if_of
  sync_hold_keeps_mode true c =
      sync_hold_ended_at c i
      ∙ ap (λ (t : Bool). has_bit c i && not (pauses_on_next_sync c && t)) (le-ltb i 2 (omega arith))
      ∙ and_nothing (has_bit c i) (pauses_on_next_sync c)
  sync_hold_keeps_mode false c = refl

  pub user_sync_keeps_mode : (ended : Bool) (c : Csr) → has_bit (user_sync_ended_if_of ended c) i ≡ has_bit c i
  unfolding user_sync_ended_if_of
  user_sync_keeps_mode true c =
      user_sync_ended_at c i
      ∙ ap₂ (λ (t u : Bool). (has_bit c i && not (leb 2 i && t)) && not (pauses_and_syncs c && u)) no_reset
      (le-ltb i 1 (omega arith))
      ∙ and_nothing (has_bit c i && not (leb 2 i && false)) (pauses_and_syncs c)
      ∙ and_nothing (has_bit c i) (leb 2 i)
  user_sync_keeps_mode false c = refl

-- ---- a stored CSR stays valid

abbrev Valid : Csr → Type 0
Valid c = is_valid_stored_csr c ≡ true

pub fresh_is_valid : Valid fresh_of
fresh_is_valid = refl

cleared_keeps_valid : (m : ℕ) (c : Csr) → Valid c → Valid (cleared_of m c)
cleared_keeps_valid m c h = clear_keeps_only stored_bits c.word m h

cleared_if_keeps_valid : (t : Bool) (m : ℕ) (c : Csr) → Valid c → Valid (cleared_if_of t m c)
unfolding cleared_if_of
cleared_if_keeps_valid true m c h = cleared_keeps_valid m c h
cleared_if_keeps_valid false m c h = h

pub marked_keeps_valid : (marks : ℕ) (c : Csr) → Valid c → Valid (marked_of marks c)
unfolding marked_of
marked_keeps_valid marks c h =
    set_keeps_only stored_bits c.word (bit_and marks status_bits) h
    (and_keeps_only stored_bits marks status_bits refl)

pub sync_hold_ended_keeps_valid : (c : Csr) → Valid c → Valid (sync_hold_ended_of c)
unfolding sync_hold_ended_of
sync_hold_ended_keeps_valid c h = cleared_if_keeps_valid (pauses_on_next_sync c) (bits_from 0 2) c h

pub user_sync_ended_keeps_valid : (c : Csr) → Valid c → Valid (user_sync_ended_of c)
unfolding user_sync_ended_of
user_sync_ended_keeps_valid c h =
    cleared_if_keeps_valid (pauses_and_syncs c) go_bit (cleared_of (bits_from 2 2) c)
    (cleared_keeps_valid (bits_from 2 2) c h)

pub sync_hold_ended_if_keeps_valid : (ended : Bool) (c : Csr) → Valid c → Valid (sync_hold_ended_if_of ended c)
unfolding sync_hold_ended_if_of
sync_hold_ended_if_keeps_valid true c h = sync_hold_ended_keeps_valid c h
sync_hold_ended_if_keeps_valid false c h = h

pub user_sync_ended_if_keeps_valid : (ended : Bool) (c : Csr) → Valid c → Valid (user_sync_ended_if_of ended c)
unfolding user_sync_ended_if_of
user_sync_ended_if_keeps_valid true c h = user_sync_ended_keeps_valid c h
user_sync_ended_if_keeps_valid false c h = h

set_then_cleared_keeps_valid : (v : ℕ) (c : Csr) → Valid c → Valid (set_then_cleared_of v c)
unfolding set_then_cleared_of
set_then_cleared_keeps_valid v c h =
    clear_keeps_only stored_bits (set_of (bit_and v settable_bits) c.word) (bit_and (v / 2 ^ 16) settable_bits)
    (set_keeps_only stored_bits c.word (bit_and v settable_bits) h (and_keeps_only stored_bits v settable_bits refl))

changed_keeps_valid : (v : ℕ) (c : Csr) → Valid c → Valid (changed_of v c)
unfolding changed_of
changed_keeps_valid v c h =
    cleared_if_keeps_valid (go_rises c (set_then_cleared_of v c) || bit_at v 31) status_bits (set_then_cleared_of v c)
    (set_then_cleared_keeps_valid v c h)

after_request_keeps_valid : (r : Request) (v : ℕ) (c : Csr) → Valid c → Valid (after_request_of r v c)
after_request_keeps_valid Initialize v c h = fresh_is_valid
after_request_keeps_valid Reset v c h = cleared_keeps_valid reset_bits (changed_of v c) (changed_keeps_valid v c h)
after_request_keeps_valid Nothing v c h = changed_keeps_valid v c h

pub written_keeps_valid : (v : ℕ) (c : Csr) → Valid c → Valid (written_of v c).next
unfolding written_of
written_keeps_valid v c h = after_request_keeps_valid (requested_of v) v c h
