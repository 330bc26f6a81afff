-- The two scalers: what a tick adds to each, and the latch by which each is read.
--     document 01    "Registers": scalers, assign; document 02, N4
--     counts_of       scaler 1 counts this tick, by its assign code
--     counted_of      both scalers after a tick
--     zeroed_of       a scaler written; latched_of: its value latched; latch_of: the value last latched
-- Own rules of 01 used here: level fails count where a wait acts on them, late ones too. Decisions: C1, C2, R7.
-- Left out: nothing.
-- Assumes nothing.
use Rattle.std.specs.Prelude.{ℕ, ◌+◌, ◌-◌, ◌%◌, ◌^◌, Bool, not, ◌&&◌, ◌||◌, ◌==◌, nat_le, nat_lt, if◌then◌else◌}
use Rattle.bits.specs.Notation.{◌▷◌}
use Rattle.bits.specs.Bits.{bit_at, one_if_of}
use Rattle.scalers.specs.ScalersFields.{with_scaler0, with_scaler1, with_latch0, with_latch1}
use Rattle.scalers.specs.declared.Scalers.{Scalers}
use Rattle.scalers.specs.declared.Signals.{Signals}

-- ---- the scalers

-- [Registers.4] both 0, code 0; [Bytes.5b] and both latches 0
abbrev pub fresh_of : Scalers
fresh_of = record { scaler0 = 0; scaler1 = 0; assign = 0; latch0 = 0; latch1 = 0 }

-- [Registers.3] [Bytes.4a] a write to register 17 or 18; n is 0 or 1
abbrev pub zeroed_of : (n : ℕ) → Scalers → Scalers
zeroed_of n s = if n == 0 then s ▷ with_scaler0 0 else s ▷ with_scaler1 0

-- [Bytes.5a] a scaler's value kept in its latch
abbrev pub latched_of : (n : ℕ) → Scalers → Scalers
latched_of n s = if n == 0 then s ▷ with_latch0 s.scaler0 else s ▷ with_latch1 s.scaler1

-- [Bytes.5b] the value last latched
abbrev pub latch_of : (n : ℕ) → Scalers → ℕ
latch_of n s = if n == 0 then s.latch0 else s.latch1

-- [CSRWrite.2d] RESET zeroes both scalers and keeps the assign code; [Bytes.5b] and the latches
abbrev pub reset_of : Scalers → Scalers
reset_of s = s ▷ with_scaler0 0 ▷ with_scaler1 0

-- ---- a tick

-- [Assign.1] some pulse is in the mask
abbrev pub is_some : (mask : ℕ) → Bool
is_some mask = not (mask == 0)

-- [Assign.1] [Assign.4] a tick that brings nothing, for the code; neither scaler counts it (counted-none)
abbrev pub is_none_of : Signals → Bool
is_none_of x =
    (x.passed == 0 && (x.rejected == 0 && x.accepted == 0))
    && not (x.event || (x.failed2 || (x.failed3 || (x.late || x.sync))))

-- [Assign.1] by the codes in their order; 50h–5Fh is what is left, since a write takes no other code
-- DECISIONS C1: passed is past the prescaler, lost pulses too; what is latched is rejected or accepted
unfoldable pub counts_of : Signals → (code : ℕ) → Bool
counts_of x code =
    if code == 0 then is_some x.passed
    else if nat_le code 12 then bit_at x.passed (code - 1)
    else if code == 13 then is_some x.rejected || is_some x.accepted
    else if code == 14 then is_some x.accepted
    else if code == 15 then is_some x.rejected
    else if nat_lt code 32 then x.failed2
    else if nat_lt code 48 then x.failed3
    else if nat_lt code 64 then x.late
    else x.sync

-- [Assign.3b] a scaler of 32 bits runs on from its last value to 0
abbrev pub add_of : Bool → ℕ → ℕ
add_of t n = (n + one_if_of t) % 2 ^ 32

-- [Assign.3a] [Assign.4] one at most; scaler 0 counts loaded events
unfoldable pub counted_of : Signals → Scalers → Scalers
counted_of x s =
    s ▷ with_scaler0 (add_of x.event s.scaler0) ▷ with_scaler1 (add_of (counts_of x s.assign) s.scaler1)
