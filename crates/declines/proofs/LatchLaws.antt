-- The latches of the scalers: what a read of a scaler gives and leaves, and how long a latch stands.
--     read_leaves_rest      no register read changes anything but a latch
--     partial_read_is_cut   of any other register a part is its bytes in the plain read
--     scaler_read_latches   a read with BYTE(3) gives the scaler's bytes and latches it
--     scaler_read_by_latch  one without it gives the latch's bytes and leaves the record
--     scaler_write_leaves   a scaler written without BYTE(3)
--     initialize_zeroes_latch
--     latch_stands          until a read of that scaler with BYTE(3), or INITIALIZE
-- Assumes nothing.
use Rattle.std.proofs.Common.{◌≡◌, ℕ, zero, suc, ◌<◌, Bool, true, false, not, eqb, List, [], ◌∷◌, Result, sym, refl, ◌∙◌, arith, eqb-true}
use borrow.Author.Tests.{eqb-false}
use Rattle.bits.proofs.TestLaws.{and_left, and_right, and_fails, by_cond}
use Rattle.run.specs.Run.{whole, is_run_of, has_byte3, overlaid_of, cut_of}
use Rattle.run.specs.declared.Run.{Run}
use Rattle.run.proofs.RunLaws.{whole_is_run}
use Rattle.registers.specs.Csr as csr
use Rattle.registers.specs.Registers.{numbered_of, facts_of}
use Rattle.registers.specs.declared.csr.CsrWrite.{CsrWrite}
use Rattle.registers.specs.declared.csr.Request.{Request}
use Rattle.registers.specs.declared.csr.Request.TheVariants.{Nothing, Reset, Initialize}
use Rattle.registers.specs.declared.register.Setting.{Setting}
use Rattle.registers.specs.declared.register.Setting.TheVariants.{Control, Factor, RocEnable, Interval, Timer}
use Rattle.registers.specs.declared.register.Register.{Register}
use Rattle.registers.specs.declared.register.Register.TheVariants.{Csr, Scaler, Assign, State, Test, Absent}
use Rattle.registers.specs.declared.register.Register.TheVariants as register
use Rattle.registers.proofs.RegistersLaws.{InRange, numbered_is_in_range}
use Rattle.scalers.specs.Scalers as scalers
use Rattle.scalers.specs.Scalers.{latch_of, latched_of, zeroed_of}
use Rattle.scalers.specs.declared.Scalers.{Scalers}
use Rattle.module_core.specs.Core as core
use Rattle.supervisor.specs.Supervisor.{fresh_of, reset_of, initialized_of, is_active_of, is_spoiled_of, ran_of, joined_of}
use Rattle.supervisor.specs.Supervisor.{core_step_of}
use Rattle.supervisor.specs.declared.Supervisor.{Supervisor}
use Rattle.access.specs.Access.{after_csr_of, csr_written_of, setting_written_of, written_of, base_of, merged_of}
use Rattle.access.specs.Access.{requested_by, after_read_of, shown_of}
use Rattle.declines.specs.declared.BytesDecline.{BytesDecline}
use Rattle.declines.specs.declared.Done.{Done}
use Rattle.declines.specs.Answers.{Reply, done, value}
use Rattle.declines.specs.Calls.{marked_of, write_run_of, read_run_of, write_bytes_of, read_bytes_of}
use Rattle.declines.specs.Runs.{Ask, write_register, read_register, plain_read, ask_of, call_of, every_ask}
use Rattle.declines.specs.Latches.{cut_reply, is_scaler, latch_at, scaler_at, with_latched, without_latches, scaler_number}
use Rattle.declines.specs.Latches.{is_initialize, write_leaves_latch, read_leaves_latch, leaves_latch, LatchStands}
use Rattle.declines.proofs.CallEnds.{End, refused, refused_active, wrote, read, gave, stored, filled, ran, held}
use Rattle.declines.proofs.CallEnds.{call_ends}

-- ---- what a read leaves and gives

module _ (s : Supervisor) where
  -- [Bytes.5a] and nothing else
  latched_leaves_rest : (n : ℕ) → without_latches (with_latched n s) ≡ without_latches s
  latched_leaves_rest n = go (eqb n 0) refl
    where
      go : (t : Bool) → eqb n 0 ≡ t → without_latches (with_latched n s) ≡ without_latches s
      go true e = rw e
      go false e = rw e

  after_read_leaves_rest : (r : Register) (latches : Bool) → without_latches (after_read_of r latches s) ≡ without_latches s
  unfolding after_read_of
  after_read_leaves_rest Csr latches = refl
  after_read_leaves_rest (register.Setting r) latches = refl
  after_read_leaves_rest (Scaler n) true = latched_leaves_rest n
  after_read_leaves_rest (Scaler n) false = refl
  after_read_leaves_rest Assign latches = refl
  after_read_leaves_rest State latches = refl
  after_read_leaves_rest Test latches = refl
  after_read_leaves_rest Absent latches = refl

  -- [Declines.3b] as amended by [Bytes.5a]
  pub read_leaves_rest : (number : ℕ) (run : Run) (memory : List ℕ)
      → without_latches (ask_of (read_register number run) memory s).next ≡ without_latches s
  unfolding read_bytes_of read_run_of
  read_leaves_rest number run memory =
      by_cond Rest (is_spoiled_of s) (λ e. refl)
      (λ e. by_cond Rest (not (facts_of (numbered_of number)).readable) (λ e. refl)
      (λ e. by_cond Rest (not (is_run_of run)) (λ e. refl)
      (λ e. after_read_leaves_rest (numbered_of number) (has_byte3 run))))
    where
      Rest : Done (Result ℕ BytesDecline) → Type 0
      Rest r = without_latches r.next ≡ without_latches s

  -- [Bytes.5a] a register that is no scaler
  other_read_leaves : (r : Register) → is_scaler r ≡ false → (latches : Bool) → after_read_of r latches s ≡ s
  unfolding after_read_of
  other_read_leaves Csr h latches = refl
  other_read_leaves (register.Setting r) h latches = refl
  other_read_leaves (Scaler n) h latches = cc
  other_read_leaves Assign h latches = refl
  other_read_leaves State h latches = refl
  other_read_leaves Test h latches = refl
  other_read_leaves Absent h latches = refl

  -- [Bytes.7] a part of such a register is its bytes in the plain read, declined ones too
  pub partial_read_is_cut : (number : ℕ) (run : Run) (memory : List ℕ) → is_run_of run ≡ true
      → is_scaler (numbered_of number) ≡ false
      → (ask_of (read_register number run) memory s).reply ≡ cut_reply run (ask_of (plain_read number) memory s).reply
  unfolding read_bytes_of read_run_of overlaid_of
  partial_read_is_cut number run memory one other =
      go (is_spoiled_of s) refl (facts_of (numbered_of number)).readable refl
    where
      stays : (latches : Bool) → after_read_of (numbered_of number) latches s ≡ s
      stays = other_read_leaves (numbered_of number) other

      go : (t : Bool) → is_spoiled_of s ≡ t → (u : Bool) → (facts_of (numbered_of number)).readable ≡ u
          → (ask_of (read_register number run) memory s).reply ≡ cut_reply run (ask_of (plain_read number) memory s).reply
      go true e u f = rw e
      go false e false f = rw (e, f)
      go false e true f = rw (e, f, one, whole_is_run, stays (has_byte3 run), stays (has_byte3 whole))

  -- [CSRWrite.1] [Bytes.5b]
  pub initialize_zeroes_latch : (n : ℕ) → latch_at n (initialized_of s) ≡ 0
  unfolding initialized_of fresh_of core.fresh_of
  initialize_zeroes_latch n = by_cond (λ (v : ℕ). v ≡ 0) (eqb n 0) (λ e. refl) (λ e. refl)

  module _ (memory : List ℕ) (clean : is_spoiled_of s ≡ false) (run : Run) (one : is_run_of run ≡ true) where
    -- [Bytes.5a]
    pub scaler_read_latches : has_byte3 run ≡ true → (n : ℕ) → n < 2
        → ask_of (read_register (scaler_number n) run) memory s
        ≡ record { reply = value (cut_of run (scaler_at n s)); next = with_latched n s }
    unfolding read_bytes_of read_run_of numbered_of after_read_of shown_of
    scaler_read_latches loads zero below = rw (clean, one, loads)
    scaler_read_latches loads (suc zero) below = rw (clean, one, loads)
    scaler_read_latches loads (suc (suc n)) below = absurd (omega arith)

    -- [Bytes.6]
    pub scaler_write_leaves : has_byte3 run ≡ false → (n : ℕ) → n < 2 → (v : ℕ)
        → ask_of (write_register (scaler_number n) run v) memory s ≡ record { reply = done; next = s }
    unfolding write_bytes_of write_run_of numbered_of written_of
    scaler_write_leaves lacks zero below v = rw (clean, one, and_fails (is_active_of s) refl, lacks)
    scaler_write_leaves lacks (suc zero) below v = rw (clean, one, and_fails (is_active_of s) refl, lacks)
    scaler_write_leaves lacks (suc (suc n)) below v = absurd (omega arith)

    -- [Bytes.5b]
    pub scaler_read_by_latch : has_byte3 run ≡ false → (n : ℕ) → n < 2
        → ask_of (read_register (scaler_number n) run) memory s ≡ record { reply = value (cut_of run (latch_at n s)); next = s }
    unfolding read_bytes_of read_run_of numbered_of after_read_of shown_of
    scaler_read_by_latch lacks zero below = rw (clean, one, lacks)
    scaler_read_by_latch lacks (suc zero) below = rw (clean, one, lacks)
    scaler_read_by_latch lacks (suc (suc n)) below = absurd (omega arith)

-- ---- how long a latch stands

-- [Bytes.5a] the latch of the other scaler is left
latched_leaves_other : (n m : ℕ) → n < 2 → m < 2 → eqb m n ≡ false → (x : Scalers)
    → latch_of n (latched_of m x) ≡ latch_of n x
latched_leaves_other n m hn hm other x = go (eqb n 0) refl (eqb m 0) refl
  where
    apart : (m ≡ n → ⊥)
    apart = eqb-false m n other

    go : (t : Bool) → eqb n 0 ≡ t → (u : Bool) → eqb m 0 ≡ u → latch_of n (latched_of m x) ≡ latch_of n x
    go true e true f = absurd (apart (eqb-true m 0 f ∙ sym (eqb-true n 0 e)))
    go true e false f = rw (e, f)
    go false e true f = rw (e, f)
    go false e false f =
        let n_is : (n ≡ 0 → ⊥) = eqb-false n 0 e in
        let m_is : (m ≡ 0 → ⊥) = eqb-false m 0 f in
        absurd (apart (omega arith))

zeroed_leaves_latch : (n m : ℕ) (x : Scalers) → latch_of n (zeroed_of m x) ≡ latch_of n x
zeroed_leaves_latch n m x = by_cond (λ (y : Scalers). latch_of n y ≡ latch_of n x) (eqb m 0) (λ e. refl) (λ e. refl)

module _ (n : ℕ) (below : n < 2) (s : Supervisor) where
  -- a change leaves the latch
  abbrev Leaves : Supervisor → Type 0
  Leaves next = latch_at n next ≡ latch_at n s

  -- [CSRWrite.2d] [Bytes.5b] RESET keeps it
  request_leaves : (r : Request) → not (is_initialize r) ≡ true → (w : CsrWrite) → Leaves (after_csr_of r w s)
  unfolding reset_of core.reset_of
  request_leaves Initialize h w = cc
  request_leaves Reset h w = refl
  request_leaves Nothing h w = refl

  setting_leaves : (r : Setting) (loads : Bool) (v : ℕ) → Leaves (setting_written_of r loads v s)
  unfolding setting_written_of
  setting_leaves Control loads v = refl
  setting_leaves (Factor input) loads v = refl
  setting_leaves RocEnable loads v = refl
  setting_leaves Interval loads v = refl
  setting_leaves (Timer k) loads v = refl

  write_leaves : (r : Register) (run : Run) (v : ℕ) → write_leaves_latch r run v ≡ true
      → Leaves (written_of r (has_byte3 run) (merged_of r run v s) s)
  unfolding written_of base_of csr_written_of csr.written_of
  write_leaves Csr run v h = request_leaves (requested_by run v) h _
  write_leaves (register.Setting r) run v h = setting_leaves r (has_byte3 run) _
  write_leaves (Scaler m) run v h =
      by_cond Leaves (has_byte3 run) (λ e. zeroed_leaves_latch n m s.core.scalers) (λ e. refl)
  write_leaves Assign run v h = refl
  write_leaves State run v h = refl
  write_leaves Test run v h = refl
  write_leaves Absent run v h = refl

  read_leaves : (r : Register) → InRange r → (run : Run) → read_leaves_latch n r run ≡ true
      → Leaves (after_read_of r (has_byte3 run) s)
  unfolding after_read_of
  read_leaves Csr range run h = refl
  read_leaves (register.Setting r) range run h = refl
  read_leaves (Scaler m) range run h = by_cond Leaves (has_byte3 run) (λ e. go (eqb m n) refl e) (λ e. refl)
    where
      go : (t : Bool) → eqb m n ≡ t → has_byte3 run ≡ true → latch_of n (latched_of m s.core.scalers) ≡ latch_at n s
      go true e l = let z : false ≡ true = rw (e, l) at h in cc
      go false e l = latched_leaves_other n m below (omega (arith, range.most)) e s.core.scalers
  read_leaves Assign range run h = refl
  read_leaves State range run h = refl
  read_leaves Test range run h = refl
  read_leaves Absent range run h = refl

  end_leaves : {memory : List ℕ} {a : Ask} {reply : Reply} {next : Supervisor} → leaves_latch n a ≡ true
      → End memory s a reply next → Leaves next
  unfolding marked_of ran_of joined_of core_step_of core.step_of core.settled_of scalers.counted_of
  end_leaves h (refused a k g) = refl
  end_leaves h (refused_active a) = refl
  end_leaves h (wrote number run v valid) = write_leaves (numbered_of number) run v h
  end_leaves h (read number run v) = read_leaves (numbered_of number) (numbered_is_in_range number) run h
  end_leaves h (gave place v) = refl
  end_leaves h (stored place word) = refl
  end_leaves h (filled words taken) = refl
  end_leaves h (ran x clean runs) = refl
  end_leaves h (held x stands) = refl

-- [Bytes.5a] [Bytes.5b]
pub latch_stands : LatchStands
latch_stands n below [] s h = refl
latch_stands n below (c ∷ cs) s h =
    latch_stands n below cs (call_of c s).next (and_right (leaves_latch n c.ask) (every_ask (leaves_latch n) cs) h)
    ∙ end_leaves n below s (and_left (leaves_latch n c.ask) (every_ask (leaves_latch n) cs) h)
    (call_ends c.memory s c.ask)
