-- Two writes that do not set the same, and two scripts of such writes, in either order.
--     writes_in_either_order      two writes that are apart, over any session
--     settings_in_either_order, places_in_either_order   by the numbers of the settings and of the places
--     scripts_in_either_order     by induction over both scripts
-- Assumes nothing.
use Rattle.std.proofs.Common.{◌≡◌, ℕ, true, not, eqb, List, [], ◌∷◌, ◌++◌, sym, refl, ap, ◌∙◌, ap₂}
use mathlib.Core.Bool.{false≢true}
use borrow.Author.Tests.{not-true, eqb-false}
use Rattle.bits.proofs.TestLaws.{and_left, and_right, by_cond}
use Rattle.run.specs.declared.Run.{Run}
use Rattle.registers.proofs.RegistersLaws.{SettingAt, protected_is_setting}
use Rattle.declines.specs.Answers.{Reply}
use Rattle.declines.specs.Runs.{Ask, write_register, read_register, write_memory, read_memory, fill_memory, tick, Session, reply_to, after}
use Rattle.order.specs.EitherOrder.{after_all, replies_from, EitherOrder, is_setting_number}
use Rattle.order.specs.EitherOrder.{Target, setting, place, none, target_of, are_apart, is_apart_from, scripts_are_apart}
use Rattle.order.proofs.WriteEnds.{kind_of, reply_of, number, ended, write_ends}
use Rattle.order.proofs.WriteLaws.{Apart, settings, places, setting_and_place, place_and_setting, apart_back}
use Rattle.order.proofs.WriteLaws.{first_writes, number_stands, ended_commute}

-- ---- two writes

module _ {a b : Ask} (apart : Apart a b) (z : Session) where
  ends_after : after b (after a z) ≡ ended (kind_of (number b z)) b (ended (kind_of (number a z)) a z)
  ends_after =
      (write_ends (after a z) (first_writes (apart_back apart))).next
      ∙ ap₂ (λ (n : ℕ) (y : Session). ended (kind_of n) b y) (number_stands z (apart_back apart))
      (write_ends z (first_writes apart)).next

  reply_stands : reply_to a (after b z) ≡ reply_to a z
  reply_stands =
      (write_ends (after b z) (first_writes apart)).reply
      ∙ ap reply_of (number_stands z apart)
      ∙ sym (write_ends z (first_writes apart)).reply

writes_commute : {a b : Ask} → Apart a b → (z : Session) → after b (after a z) ≡ after a (after b z)
writes_commute {a = a} {b = b} apart z =
    ends_after apart z
    ∙ sym (ended_commute z apart (kind_of (number a z)) (kind_of (number b z)))
    ∙ sym (ends_after (apart_back apart) z)

pub writes_in_either_order : {a b : Ask} → Apart a b → (z : Session) → EitherOrder (a ∷ []) (b ∷ []) z
writes_in_either_order apart z =
    record {
      same = writes_commute apart z;
      first = ap (λ (r : Reply). r ∷ []) (reply_stands apart z);
      second = ap (λ (r : Reply). r ∷ []) (reply_stands (apart_back apart) z);
    }

-- [Order.2] [Order.3]
pub settings_in_either_order : (m n : ℕ) (q r : Run) (v w : ℕ) (z : Session) → is_setting_number m ≡ true
    → is_setting_number n ≡ true → (m ≡ n → ⊥) → EitherOrder (write_register m q v ∷ []) (write_register n r w ∷ []) z
settings_in_either_order m n q r v w z first second other =
    writes_in_either_order (settings m n q r v w (protected_is_setting m first) (protected_is_setting n second) other) z

-- [Order.2]
pub places_in_either_order : (p q v w : ℕ) (z : Session) → (p ≡ q → ⊥)
    → EitherOrder (write_memory p v ∷ []) (write_memory q w ∷ []) z
places_in_either_order p q v w z other = writes_in_either_order (places p q v w other) z

-- ---- what an ask sets, and two asks that do not set the same

data Sets : Ask → Target → Type 0 where
  a_setting : (n : ℕ) (run : Run) (v : ℕ) → SettingAt n → Sets (write_register n run v) (setting n)
  a_place : (p word : ℕ) → Sets (write_memory p word) (place p)
  nothing : (a : Ask) → Sets a none

sets : (a : Ask) → Sets a (target_of a)
sets (write_register n run v) =
    by_cond (Sets (write_register n run v)) (is_setting_number n) (λ e. a_setting n run v (protected_is_setting n e))
    (λ e. nothing (write_register n run v))
sets (read_register n run) = nothing (read_register n run)
sets (write_memory p word) = a_place p word
sets (read_memory p) = nothing (read_memory p)
sets (fill_memory words) = nothing (fill_memory words)
sets (tick x) = nothing (tick x)

differ : (m n : ℕ) → not (eqb m n) ≡ true → m ≡ n → ⊥
differ m n h = eqb-false m n (not-true (eqb m n) h)

are_apart_lem : {a b : Ask} {t u : Target} → Sets a t → Sets b u → are_apart t u ≡ true → Apart a b
are_apart_lem (a_setting m q v at) (a_setting n r w bt) h = settings m n q r v w at bt (differ m n h)
are_apart_lem (a_setting m q v at) (a_place p w) h = setting_and_place m q v p w at
are_apart_lem (a_setting m q v at) (nothing b) h = absurd (false≢true h)
are_apart_lem (a_place p v) (a_setting n r w bt) h = place_and_setting p v n r w bt
are_apart_lem (a_place p v) (a_place q w) h = places p q v w (differ p q h)
are_apart_lem (a_place p v) (nothing b) h = absurd (false≢true h)
are_apart_lem (nothing a) other h = absurd (false≢true h)

-- ---- two scripts

turned : {a b : List Ask} {z : Session} → EitherOrder a b z → EitherOrder b a z
turned o = record { same = sym o.same; first = o.second; second = o.first }

-- an ask more at the head of one script
joined : (a : Ask) (rest b : List Ask) (z : Session) → EitherOrder (a ∷ []) b z → EitherOrder rest b (after a z)
    → EitherOrder (a ∷ rest) b z
joined a rest b z one others =
    record {
      same = others.same ∙ ap (after_all rest) one.same;
      first =
          ap₂ (λ (x : List Reply) (y : Session). x ++ replies_from rest y) one.first (sym one.same)
          ∙ ap (λ (x : List Reply). reply_to a z ∷ x) others.first;
      second = others.second ∙ one.second;
    }

one_and_script : (a : Ask) (bs : List Ask) (z : Session) → is_apart_from a bs ≡ true → EitherOrder (a ∷ []) bs z
one_and_script a [] z h = record { same = refl; first = refl; second = refl }
one_and_script a (b ∷ bs) z h =
    let pair = and_left (are_apart (target_of a) (target_of b)) (is_apart_from a bs) h in
    let rest = and_right (are_apart (target_of a) (target_of b)) (is_apart_from a bs) h in
    turned
    (joined b bs (a ∷ []) z (turned (writes_in_either_order (are_apart_lem (sets a) (sets b) pair) z))
    (turned (one_and_script a bs (after b z) rest)))

-- [Order.1]
pub scripts_in_either_order : (a b : List Ask) (z : Session) → scripts_are_apart a b ≡ true → EitherOrder a b z
scripts_in_either_order [] bs z h = record { same = refl; first = refl; second = refl }
scripts_in_either_order (a ∷ rest) bs z h =
    joined a rest bs z (one_and_script a bs z (and_left (is_apart_from a bs) (scripts_are_apart rest bs) h))
    (scripts_in_either_order rest bs (after a z) (and_right (is_apart_from a bs) (scripts_are_apart rest bs) h))
