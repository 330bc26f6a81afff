-- Two scripts in either order: which of two teams loads its settings first does not matter, if none is in both scripts.
--     document 02       N6
--     EitherOrder       two scripts over one session, in both orders: the same record and memory after them, and the replies
--                       to each as they are alone
--     is_setting_number   a number that names a protected register, by the register's facts
--     Target, target_of  what an ask sets: a setting, a memory place
--     scripts_are_apart   every ask of two scripts sets something, and none of one what an ask of the other sets
-- A session is any record, spoiled, active and unreachable ones among them, over a memory of any length. A register is
-- written by a run of bytes, which may be none of the ten; a plain write is that of the whole run ([Bytes.2]).
-- Own rules of 02 used here: none. Decisions: O1. Left out: what does depend on the order, in OrderExamples.
-- Assumes nothing.
use Rattle.std.specs.Prelude.{◌≡◌, ℕ, Bool, true, false, not, ◌&&◌, List, [], ◌∷◌, ◌==◌, if◌then◌else◌}
use Rattle.registers.specs.Registers.{numbered_of, facts_of}
use Rattle.declines.specs.Answers.{Reply}
use Rattle.declines.specs.Runs.{Ask, write_register, read_register, write_memory, read_memory, fill_memory, tick}
use Rattle.declines.specs.Runs.{Session, reply_to, after}

-- ---- a script: each ask is made of the session that the one before left

abbrev pub after_all : List Ask → Session → Session
after_all [] z = z
after_all (a ∷ rest) z = after_all rest (after a z)

abbrev pub replies_from : List Ask → Session → List Reply
replies_from [] z = []
replies_from (a ∷ rest) z = reply_to a z ∷ replies_from rest (after a z)

-- ---- in either order

-- [Order.2]
pub record EitherOrder (a b : List Ask) (z : Session) : Type 0 where
  -- the record and the memory
  pub same : after_all b (after_all a z) ≡ after_all a (after_all b z)
  -- the replies of each, declined ones included
  pub first : replies_from a (after_all b z) ≡ replies_from a z
  pub second : replies_from b (after_all a z) ≡ replies_from b z

-- ---- what a write sets

-- [Order.2] [Declines.2c] registers 1–16
abbrev pub is_setting_number : ℕ → Bool
is_setting_number n = (facts_of (numbered_of n)).protected

-- a setting by its number, a memory place; no other ask sets one of these
pub data Target : Type 0 where
  setting place : (number : ℕ) → Target
  none : Target

-- [Order.2] [Order.3] a register write by any run of bytes
abbrev pub target_of : Ask → Target
target_of (write_register number run v) = if is_setting_number number then setting number else none
target_of (read_register number run) = none
target_of (write_memory p word) = place p
target_of (read_memory p) = none
target_of (fill_memory words) = none
target_of (tick x) = none

-- [Order.2] different registers, different places
abbrev pub are_apart : Target → Target → Bool
are_apart (setting m) (setting n) = not (m == n)
are_apart (setting m) (place q) = true
are_apart (setting m) none = false
are_apart (place p) (setting n) = true
are_apart (place p) (place q) = not (p == q)
are_apart (place p) none = false
are_apart none t = false

-- [Order.1] every ask of one script from every ask of the other
abbrev pub is_apart_from : Ask → List Ask → Bool
is_apart_from a [] = true
is_apart_from a (b ∷ bs) = are_apart (target_of a) (target_of b) && is_apart_from a bs

abbrev pub scripts_are_apart : List Ask → List Ask → Bool
scripts_are_apart [] bs = true
scripts_are_apart (a ∷ rest) bs = is_apart_from a bs && scripts_are_apart rest bs
