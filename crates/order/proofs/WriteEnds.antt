-- How a write of a register or of a memory place ends: by the number of its first failing test, which is all that its reply
-- says and all that decides what it does to a session.
--     Write          the asks that are writes of a setting or of a memory place
--     number         the number of the first test that fails, 0 where none does
--     Kind, kind_of   what a number comes to: carried out, a status bit set, nothing
--     ended          the session after a write that comes to this
--     EndsBy, write_ends   every such write ends so
-- Assumes nothing.
use Rattle.std.specs.Prelude.{if◌then◌else◌}
use Rattle.std.proofs.Common.{◌≡◌, ℕ, Bool, true, false, cond, not, ◌&&◌, eqb, leb, length, set, Result, refl, arith}
use borrow.Author.Tests.{not-false}
use Rattle.run.specs.Run.{is_run_of, has_byte3}
use Rattle.run.specs.declared.Run.{Run}
use Rattle.registers.specs.Csr.{write_error}
use Rattle.registers.specs.Registers.{numbered_of, facts_of, is_valid_value}
use Rattle.registers.proofs.RegistersLaws.{SettingAt}
use Rattle.supervisor.specs.Supervisor.{is_active_of, is_spoiled_of}
use Rattle.supervisor.specs.declared.Supervisor.{Supervisor}
use Rattle.access.specs.Access.{merged_of, written_of}
use Rattle.declines.specs.Answers.{Reply, declined, done, verdict_reply, bytes_verdict_reply}
use Rattle.declines.specs.declared.Decline.{Decline}
use Rattle.declines.specs.declared.BytesDecline.{BytesDecline}
use Rattle.declines.specs.declared.Done.{Done}
use Rattle.declines.specs.Calls.{memory_places, marked_of, is_guarded_of, by_bytes_of, unless_declined}
use Rattle.declines.specs.Calls.{write_run_of, write_bytes_of, write_memory_of, memory_after_of}
use Rattle.declines.specs.Refusals.{refusals_of, first_of}
use Rattle.declines.specs.Runs.{Ask, write_register, read_register, write_memory, read_memory, fill_memory, tick}
use Rattle.declines.specs.Runs.{Session, session, reply_to, after}

pub data Write : Ask → Type 0 where
  setting : (n : ℕ) (run : Run) (v : ℕ) → SettingAt n → Write (write_register n run v)
  place : (p word : ℕ) → Write (write_memory p word)

-- ---- what a write comes to

pub data Kind : Type 0 where
  carries marks refuses : Kind

-- [Declines.1b] 4 sets a status bit, any other decline changes nothing
abbrev pub kind_by : (is_zero isFour : Bool) → Kind
kind_by is_zero isFour = if is_zero then carries else if isFour then marks else refuses

abbrev pub kind_of : (number : ℕ) → Kind
kind_of n = kind_by (eqb n 0) (eqb n 4)

abbrev pub reply_of : (number : ℕ) → Reply
reply_of n = if eqb n 0 then done else declined n

abbrev pub number : Ask → Session → ℕ
number a z = first_of (refusals_of a z.memory z.supervisor)

-- what is written, with the bytes that the write lacks
abbrev pub merged : (n : ℕ) → Run → (v : ℕ) → Supervisor → ℕ
merged n run v s = merged_of (numbered_of n) run v s

-- a write that is carried out; no other ask is one
abbrev pub carried_out : Ask → Session → Session
carried_out (write_register n run v) z =
    session (written_of (numbered_of n) (has_byte3 run) (merged n run v z.supervisor) z.supervisor) z.memory
carried_out (read_register n run) z = z
carried_out (write_memory p word) z = session z.supervisor (set z.memory p word)
carried_out (read_memory p) z = z
carried_out (fill_memory words) z = z
carried_out (tick x) z = z

-- [Declines.2c] [Declines.4d]
abbrev pub marked : Session → Session
marked z = session (marked_of write_error z.supervisor) z.memory

abbrev pub ended : Kind → Ask → Session → Session
ended carries a z = carried_out a z
ended marks a z = marked z
ended refuses a z = z

-- [Declines.2d] the value of a register write is one that its register takes
abbrev pub Takes : Ask → Session → Type 0
Takes (write_register n run v) z = is_valid_value (numbered_of n) (merged n run v z.supervisor) ≡ true
Takes (read_register n run) z = Unit {0}
Takes (write_memory p word) z = Unit {0}
Takes (read_memory p) z = Unit {0}
Takes (fill_memory words) z = Unit {0}
Takes (tick x) z = Unit {0}

-- ---- every write ends so

pub record EndsBy (a : Ask) (z : Session) (r : Reply) (y : Session) (n : ℕ) : Type 0 where
  pub reply : r ≡ reply_of n
  pub next : y ≡ ended (kind_of n) a z
  -- needed where a write is carried out
  pub takes : n ≡ 0 → Takes a z

-- a choice, and the number that goes with it, by one test
by_test : {A : Type 0} (P : A → ℕ → Type 0) (t : Bool) {a b : A} {n m : ℕ} → P a n → (t ≡ false → P b m)
    → P (cond t a b) (cond t n m)
by_test P true f g = f
by_test P false f g = g refl

module _ (z : Session) where
  abbrev s : Supervisor
  s = z.supervisor

  -- a test that fails has a number above 0
  declines : {a : Ask} {r : Reply} {y : Session} (n : ℕ) → (n ≡ 0 → ⊥) → r ≡ reply_of n → y ≡ ended (kind_of n) a z
      → EndsBy a z r y n
  declines n above reply next = record { reply = reply; next = next; takes = λ e. absurd (above e) }

  register_ends : (n : ℕ) (run : Run) (v : ℕ)
      → EndsBy (write_register n run v) z (reply_to (write_register n run v) z) (after (write_register n run v) z)
      (number (write_register n run v) z)
  unfolding write_bytes_of write_run_of
  register_ends n run v =
      by_test Ends (is_spoiled_of s) (declines 1 (λ e. omega arith) refl refl)
      (λ e. by_test Ends (not (facts_of (numbered_of n)).writable) (declines 3 (λ e. omega arith) refl refl)
      (λ e. by_test Ends (not (is_run_of run)) (declines 7 (λ e. omega arith) refl refl)
      (λ e. by_test Rest (is_active_of s && is_guarded_of (numbered_of n) s) (declines 4 (λ e. omega arith) refl refl)
      (λ e. by_test Rest (not valid) (declines 5 (λ e. omega arith) refl refl)
      (λ e. record { reply = refl; next = refl; takes = λ h. not-false valid e })))))
    where
      valid : Bool
      valid = is_valid_value (numbered_of n) (merged n run v s)

      Ends : Done (Result Unit BytesDecline) → ℕ → Type 0
      Ends r k = EndsBy (write_register n run v) z (bytes_verdict_reply r.answer) (session r.next z.memory) k

      Rest : Done (Result Unit Decline) → ℕ → Type 0
      Rest r k = Ends (by_bytes_of r) k

  memory_ends : (p word : ℕ)
      → EndsBy (write_memory p word) z (reply_to (write_memory p word) z) (after (write_memory p word) z)
      (number (write_memory p word) z)
  unfolding write_memory_of memory_after_of
  memory_ends p word =
      by_test Ends (is_spoiled_of s) (declines 1 (λ e. omega arith) refl refl)
      (λ e. by_test Ends (not (eqb (length z.memory) memory_places)) (declines 2 (λ e. omega arith) refl refl)
      (λ e. by_test Ends (leb memory_places p) (declines 3 (λ e. omega arith) refl refl)
      (λ e. by_test Ends (is_active_of s) (declines 4 (λ e. omega arith) refl refl)
      (λ e. record { reply = refl; next = refl; takes = λ h. tt }))))
    where
      Ends : Done (Result Unit Decline) → ℕ → Type 0
      Ends r k =
          EndsBy (write_memory p word) z (verdict_reply r.answer)
          (session r.next (unless_declined r.answer z.memory (set z.memory p word))) k

  pub write_ends : {a : Ask} → Write a → EndsBy a z (reply_to a z) (after a z) (number a z)
  write_ends (setting n run v at) = register_ends n run v
  write_ends (place p word) = memory_ends p word
