-- A write of a setting or of a memory place, beside another that sets something else: each is tested alike before and after
-- the other, and they give the same session in both orders.
--     Apart            two writes that do not set the same; apart-back: the other way round
--     carried_commute  both are carried out
--     number_stands    the number of a write's first failing test, after the other has ended in any way
--     ended_commute    both end, each in any way
-- Assumes nothing.
use Rattle.std.proofs.Common.{◌≡◌, ℕ, Bool, true, false, eqb, length, sym, refl, ap, ◌∙◌, lit<, length-set, eqb-true}
use lib.Seq.{set_comm}
use Rattle.run.specs.Run.{has_byte3, overlaid_of}
use Rattle.run.specs.declared.Run.{Run}
use Rattle.registers.specs.Csr as csr
use Rattle.registers.proofs.CsrLaws.{marked_keeps_low}
use Rattle.registers.specs.Registers.{numbered_of}
use Rattle.registers.proofs.RegistersLaws.{SettingAt, setting_number}
use Rattle.supervisor.specs.Supervisor.{is_active_of, is_spoiled_of}
use Rattle.supervisor.specs.declared.Supervisor.{Supervisor}
use Rattle.access.specs.Access.{setting_of, written_of, base_of}
use Rattle.declines.specs.Calls.{marked_of}
use Rattle.declines.specs.Runs.{Ask, write_register, write_memory, Session, session, after}
use Rattle.reach.proofs.Sound.{unspoiled_from_test, unspoiled_to_test}
use Rattle.reach.proofs.WriteSound.{marked_keeps_unspoiled, write_keeps_unspoiled}
use Rattle.order.proofs.SettingLaws.{Other, other_setting, written_keeps_active, written_keeps_csr}
use Rattle.order.proofs.SettingLaws.{marked_keeps_setting, marked_keeps_written}
use Rattle.order.proofs.WriteEnds.{Write, setting, place, Kind, carries, marks, refuses, kind_by, kind_of, number, merged}
use Rattle.order.proofs.WriteEnds.{carried_out, marked, ended, Takes, write_ends}

-- two writes that do not set the same
pub data Apart : Ask → Ask → Type 0 where
  settings : (n m : ℕ) (q r : Run) (v w : ℕ) → SettingAt n → SettingAt m → (n ≡ m → ⊥)
      → Apart (write_register n q v) (write_register m r w)
  places : (p q v w : ℕ) → (p ≡ q → ⊥) → Apart (write_memory p v) (write_memory q w)
  setting_and_place : (n : ℕ) (q : Run) (v p w : ℕ) → SettingAt n → Apart (write_register n q v) (write_memory p w)
  place_and_setting : (p v n : ℕ) (r : Run) (w : ℕ) → SettingAt n → Apart (write_memory p v) (write_register n r w)

pub apart_back : {a b : Ask} → Apart a b → Apart b a
apart_back (settings n m q r v w at bt h) = settings m n r q w v bt at (λ e. h (sym e))
apart_back (places p q v w h) = places q p w v (λ e. h (sym e))
apart_back (setting_and_place n q v p w at) = place_and_setting p w n q v at
apart_back (place_and_setting p v n r w bt) = setting_and_place n r w p v bt

pub first_writes : {a b : Ask} → Apart a b → Write a
first_writes (settings n m q r v w at bt h) = setting n q v at
first_writes (places p q v w h) = place p v
first_writes (setting_and_place n q v p w at) = setting n q v at
first_writes (place_and_setting p v n r w bt) = place p v

-- numbers that differ name settings that differ
other_settings : (n m : ℕ) (at : SettingAt n) (bt : SettingAt m) → (n ≡ m → ⊥) → at.setting ≡ bt.setting → ⊥
other_settings n m at bt h e = h (sym at.number ∙ ap setting_number e ∙ bt.number)

-- ---- the tests of a write, over two sessions

-- all that a write tests but for the bytes that it lacks
pub record Alike (z y : Session) : Type 0 where
  pub spoiled : is_spoiled_of y.supervisor ≡ is_spoiled_of z.supervisor
  pub active : is_active_of y.supervisor ≡ is_active_of z.supervisor
  pub mode : csr.is_test_mode y.supervisor.core.csr ≡ csr.is_test_mode z.supervisor.core.csr
  pub length : length y.memory ≡ length z.memory

module _ {z y : Session} (alike : Alike z y) where
  setting_number_lem : (n : ℕ) (run : Run) (v : ℕ) (at : SettingAt n)
      → setting_of at.setting y.supervisor ≡ setting_of at.setting z.supervisor
      → number (write_register n run v) y ≡ number (write_register n run v) z
  unfolding base_of
  setting_number_lem n run v at base = rw (at.named, alike.spoiled, alike.active, alike.mode, base)

  place_number : (p word : ℕ) → number (write_memory p word) y ≡ number (write_memory p word) z
  place_number p word = rw (alike.spoiled, alike.length, alike.active)

-- ---- a status bit set before a write

module _ (z : Session) where
  abbrev s : Supervisor
  s = z.supervisor

  marked_keeps_active : is_active_of (marked_of csr.write_error s) ≡ is_active_of s
  unfolding is_active_of marked_of
  marked_keeps_active =
      rw (
        marked_keeps_low 0 (lit< tt) csr.write_error s.core.csr,
        marked_keeps_low 2 (lit< tt) csr.write_error s.core.csr,
        marked_keeps_low 3 (lit< tt) csr.write_error s.core.csr,
        marked_keeps_low 4 (lit< tt) csr.write_error s.core.csr,
      )

  marked_is_alike : is_spoiled_of s ≡ false → Alike z (marked z)
  unfolding marked_of
  marked_is_alike clean =
      record {
        spoiled =
            unspoiled_to_test (marked_of csr.write_error s)
            (marked_keeps_unspoiled s (unspoiled_from_test s clean) csr.write_error)
            ∙ sym clean;
        active = marked_keeps_active;
        mode = marked_keeps_low 13 (lit< tt) csr.write_error s.core.csr;
        length = refl;
      }

  marked_number : {a : Ask} → Write a → is_spoiled_of s ≡ false → number a (marked z) ≡ number a z
  marked_number (setting n run v at) clean =
      setting_number_lem (marked_is_alike clean) n run v at (marked_keeps_setting csr.write_error s at.setting)
  marked_number (place p word) clean = place_number (marked_is_alike clean) p word

  marked_commute : {a : Ask} → Write a → carried_out a (marked z) ≡ marked (carried_out a z)
  unfolding written_of base_of
  marked_commute (setting n run v at) =
      rw (at.named, marked_keeps_setting csr.write_error s at.setting)
      (ap (λ (x : Supervisor). session x z.memory) (marked_keeps_written (has_byte3 run) _ s csr.write_error at.setting))
  marked_commute (place p word) = refl

  -- ---- another write carried out before a write

  carried_is_alike : {b : Ask} → Write b → is_spoiled_of s ≡ false → Takes b z → Alike z (carried_out b z)
  unfolding written_of base_of
  carried_is_alike (setting n run v at) clean takes =
      record {
        spoiled =
            unspoiled_to_test (carried_out (write_register n run v) z).supervisor
            (write_keeps_unspoiled s (unspoiled_from_test s clean) (numbered_of n) (has_byte3 run) (merged n run v s) takes)
            ∙ sym clean;
        active = rw at.named (written_keeps_active (has_byte3 run) _ s at.setting);
        mode = rw (at.named, written_keeps_csr (has_byte3 run) _ s at.setting);
        length = refl;
      }
  carried_is_alike (place p word) clean takes =
      record { spoiled = refl; active = refl; mode = refl; length = length-set z.memory p word }

  module _ (n m : ℕ) (q r : Run) (v w : ℕ) (at : SettingAt n) (bt : SettingAt m) (h : n ≡ m → ⊥) where
    abbrev a_value : ℕ
    a_value = overlaid_of q (setting_of at.setting s) v

    abbrev b_value : ℕ
    b_value = overlaid_of r (setting_of bt.setting s) w

    other : Other s (has_byte3 q) (has_byte3 r) a_value b_value at.setting bt.setting
    other =
        other_setting s (has_byte3 q) (has_byte3 r) a_value b_value at.setting bt.setting at.range bt.range
        (other_settings n m at bt h)

  carried_number : {a b : Ask} → Apart a b → is_spoiled_of s ≡ false → Takes b z → number a (carried_out b z) ≡ number a z
  unfolding written_of base_of
  carried_number (settings n m q r v w at bt h) clean takes =
      setting_number_lem (carried_is_alike (setting m r w bt) clean takes) n q v at
      (rw bt.named (other n m q r v w at bt h).stored)
  carried_number (places p q v w h) clean takes = place_number (carried_is_alike (place q w) clean takes) p v
  carried_number (setting_and_place n q v p w at) clean takes =
      setting_number_lem (carried_is_alike (place p w) clean takes) n q v at refl
  carried_number (place_and_setting p v n r w bt) clean takes =
      place_number (carried_is_alike (setting n r w bt) clean takes) p v

  carried_commute : {a b : Ask} → Apart a b → carried_out a (carried_out b z) ≡ carried_out b (carried_out a z)
  unfolding written_of base_of
  carried_commute (settings n m q r v w at bt h) =
      rw (at.named, bt.named, (other n m q r v w at bt h).stored, (other m n r q w v bt at (λ e. h (sym e))).stored)
      (ap (λ (x : Supervisor). session x z.memory) (other n m q r v w at bt h).commute)
  carried_commute (places p q v w h) =
      ap (session s) (sym (set_comm z.memory p q v w h))
  carried_commute (setting_and_place n q v p w at) = refl
  carried_commute (place_and_setting p v n r w bt) = refl

  -- ---- each in any way

  spoiled_number : {b : Ask} → Write b → is_spoiled_of s ≡ true → number b z ≡ 1
  spoiled_number (setting n run v at) e = rw e
  spoiled_number (place p word) e = rw e

  module _ {a b : Ask} (apart : Apart a b) where
    writes_b : Write b
    writes_b = first_writes (apart_back apart)

    by_kind : is_spoiled_of s ≡ false → (t u : Bool) → eqb (number b z) 0 ≡ t → eqb (number b z) 4 ≡ u
        → number a (ended (kind_by t u) b z) ≡ number a z
    by_kind clean true u e f =
        carried_number apart clean ((write_ends z writes_b).takes (eqb-true (number b z) 0 e))
    by_kind clean false true e f = marked_number (first_writes apart) clean
    by_kind clean false false e f = refl

    pub number_stands : number a (after b z) ≡ number a z
    number_stands = ap (number a) (write_ends z writes_b).next ∙ go (is_spoiled_of s) refl
      where
        go : (t : Bool) → is_spoiled_of s ≡ t → number a (ended (kind_of (number b z)) b z) ≡ number a z
        go true e = rw (spoiled_number writes_b e)
        go false e = by_kind e (eqb (number b z) 0) (eqb (number b z) 4) refl refl

    pub ended_commute : (j k : Kind) → ended j a (ended k b z) ≡ ended k b (ended j a z)
    ended_commute carries carries = carried_commute apart
    ended_commute carries marks = marked_commute (first_writes apart)
    ended_commute carries refuses = refl
    ended_commute marks carries = sym (marked_commute writes_b)
    ended_commute marks marks = refl
    ended_commute marks refuses = refl
    ended_commute refuses k = refl
