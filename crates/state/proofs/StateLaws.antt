-- Laws of the STATE register.
--     state_of_bytes          the code's four bytes are the word
--     state_shows_its_bits    every bit of the word is its test
--     fresh_state_reads       the word of a fresh record
--     reset_keeps_lem             RESET keeps what is kept of the latest tick
--     shows_tick              after a tick that runs STATE shows what was in force, and whether it latched a pattern
-- Assumes nothing.
use Rattle.std.proofs.Common.{◌≡◌, ℕ, ◌+◌, ◌*◌, Bool, true, false, ◌&&◌, ltb, List, sym, refl, ap, ◌∙◌, subst, arith, ltb-false}
use lib.ListN.{get_or-eq_default}
use Rattle.bits.specs.Bits.{bit_at, mask_of, every}
use Rattle.bits.proofs.BitsLaws.{mask_at, mask_joins, mask_same}
use Rattle.branches.specs.Readout.{module_branches, emptied_of, is_empty_of, has_room_of, is_quiet_of}
use Rattle.trigger.specs.declared.lines.Inputs.{Inputs}
use Rattle.module_core.specs.Core as core
use Rattle.supervisor.specs.Supervisor.{fresh_of, reset_of, is_active_of, core_step_of, joined_of, ran_of, in_force_of, is_held_of}
use Rattle.supervisor.specs.Supervisor.{ticked_of}
use Rattle.supervisor.specs.declared.Ticked.{Ticked}
use Rattle.supervisor.proofs.SupervisorLaws.{unheld_runs}
use Rattle.supervisor.specs.declared.Supervisor.{Supervisor}
use Rattle.state.specs.State.{state_bits_of, state_bit_at, state_of, state_byte_of, latest_tick_in, ShowsTick}

module _ (s : Supervisor) where
  -- the bits from place p on, as many as are asked for
  abbrev from : (p i : ℕ) → Bool
  from p i = state_bit_at s (p + i)

  -- a byte, and the bits above it
  split : (p n : ℕ) → mask_of (8 + n) (from p) ≡ mask_of 8 (from p) + 256 * mask_of n (from (p + 8))
  split p n =
      mask_joins 8 n (from p)
      ∙ ap (λ (m : ℕ). mask_of 8 (from p) + 256 * m)
      (mask_same n (λ i. from p (8 + i)) (from (p + 8)) (λ i h. ap (state_bit_at s) (omega arith)))

  pub state_of_bytes :
      state_byte_of 0 s + state_byte_of 1 s * 256 + state_byte_of 2 s * 65536 + state_byte_of 3 s * 16777216 ≡ state_of s
  unfolding state_of state_byte_of
  state_of_bytes =
      let whole = mask_same 32 (from 0) (state_bit_at s) (λ i h. ap (state_bit_at s) (omega arith)) in
      omega (arith, split 0 24, split 8 16, split 16 8, whole)

  -- [State.2] past bit 31 there is none
  pub state_shows_its_bits : (i : ℕ) → bit_at (state_of s) i ≡ state_bit_at s i
  unfolding state_of state_bits_of
  state_shows_its_bits i = mask_at 32 (state_bit_at s) i ∙ go (ltb i 32) refl
    where
      go : (t : Bool) → ltb i 32 ≡ t → (t && state_bit_at s i) ≡ state_bit_at s i
      go true e = refl
      go false e = sym (get_or-eq_default (state_bits_of s) false (ltb-false i 32 e))

-- ---- power-up, RESET and a tick

-- [State.7] TS BUSY, BUFFERS EMPTY, and the AND of every branch, since no controller is enabled
pub fresh_state_reads : state_of (fresh_of module_branches) ≡ 0x49242000
unfolding state_of state_bits_of fresh_of core.fresh_of mask_of every is_active_of is_empty_of has_room_of is_quiet_of
fresh_state_reads = refl

-- [State.3]
pub reset_keeps_lem : (s : Supervisor) → latest_tick_in (reset_of s) ≡ latest_tick_in s
unfolding reset_of core.reset_of emptied_of
reset_keeps_lem s = refl

-- [State.3] [State.6] [State.7]
ran_shows : (memory : List ℕ) (x : Inputs) (s : Supervisor)
    → ShowsTick x (ran_of memory x s).answer.masks (ran_of memory x s).next
unfolding ran_of joined_of core_step_of core.step_of core.settled_of state_bits_of
ran_shows memory x s =
    let bit = state_shows_its_bits (ran_of memory x s).next in
    record {
      pass2 = bit 2;
      fail2 = bit 3;
      pass3 = bit 6;
      fail3 = bit 7;
      front_busy = bit 10;
      inhibit = bit 11;
      latched = bit 12;
    }

-- [Test.7b] the lines in force in it
pub shows_tick : (memory : List ℕ) (x : Inputs) (s : Supervisor) → is_held_of s ≡ false
    → ShowsTick (in_force_of x s) (ticked_of memory x s).answer.masks (ticked_of memory x s).next
shows_tick memory x s runs =
    subst (λ (t : Ticked). ShowsTick (in_force_of x s) t.answer.masks t.next) (sym (unheld_runs memory x s runs))
    (ran_shows memory (in_force_of x s) s)
