-- Laws of the latch: what becomes of a passed pulse.
--     latch_is_one         it is lost, rejected or accepted, exactly one of the three
--     accepted_is_ready    it is accepted only where the unit is ready and the word is OK
-- Assumes nothing.
use Prim.Native.Nat.{ℕ, ◌+◌}
use mathlib.Core.Path.{◌≡◌, refl}
use mathlib.Core.Bool.{Bool, true, false, ◌&&◌}
use native.Mathlib.Omega.{arith}
use Rattle.bits.specs.Bits.{bit_at, one_if_of}
use Rattle.bits.proofs.BitsLaws.{zero_at}
use Rattle.scalers.specs.Scalers.{is_some}
use Rattle.trigger.specs.Latch.{latch_of}

-- [Ready.2] [Ready.4] [Ready.5] [Account.11]
pub latch_is_one : (ready ok : Bool) (passed i : ℕ)
    → one_if_of (bit_at passed i)
    ≡ one_if_of (bit_at (latch_of ready ok passed).lost i)
    + one_if_of (bit_at (latch_of ready ok passed).rejected i)
    + one_if_of (bit_at (latch_of ready ok passed).accepted i)
latch_is_one true true passed i = rw (zero_at i) (omega arith)
latch_is_one true false passed i = rw (zero_at i) (omega arith)
latch_is_one false ok passed i = rw (zero_at i) (omega arith)

-- [Ready.5] a pulse is accepted only where the unit is ready and the word is OK
pub accepted_is_ready : (ready ok : Bool) (passed : ℕ) → is_some (latch_of ready ok passed).accepted ≡ true
    → (ready && ok) ≡ true
accepted_is_ready true true passed h = refl
accepted_is_ready true false passed h = h
accepted_is_ready false ok passed h = h
