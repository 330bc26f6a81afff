-- The register calls by the whole run of bytes are the plain calls.
--     plain_write_is_whole, plain_read_is_whole   the same reply and the same next record; ..-reply, ..-next: each by itself
-- Assumes nothing.
use Rattle.std.proofs.Common.{◌≡◌, ℕ, not, List, [], Result, Ok, Err, refl, ap, ◌∙◌}
use mathlib.Core.Bool.{Bool, true, false, cond}
use Rattle.run.specs.Run.{whole, is_run_of}
use Rattle.run.proofs.RunLaws.{whole_is_run}
use Rattle.registers.specs.Registers.{numbered_of, facts_of}
use Rattle.supervisor.specs.Supervisor.{is_spoiled_of}
use Rattle.supervisor.specs.declared.Supervisor.{Supervisor}
use Rattle.declines.specs.declared.Decline.{Decline}
use Rattle.declines.specs.declared.BytesDecline.{BytesDecline}
use Rattle.declines.specs.declared.Done.{Done}
use Rattle.declines.specs.Answers.{Reply, declined, done, value, either, decline_number, bytes_decline_number, bytes_answer_of}
use Rattle.declines.specs.Answers.{verdict_reply, reading_reply, bytes_verdict_reply, bytes_reading_reply}
use Rattle.declines.specs.Calls.{by_bytes_of}
use Rattle.declines.specs.Calls.{refuse, write_run_of, read_run_of}
use Rattle.declines.specs.Calls.{write_register_of, read_register_of, write_bytes_of, read_bytes_of}
use Rattle.declines.specs.declared.Decline.TheVariants.{Spoiled, Place}
use Rattle.declines.specs.Runs.{plain_write, plain_read, ask_of}
use Rattle.declines.specs.Runs as runs

abbrev result : Reply → Supervisor → runs.Result
result reply next = record { reply = reply; next = next }

-- where a plain call ends, a call by the whole run ends; the test between them never fails
by_plain : {A B : Type 0} (f : A → B) (t u w : Bool) (a b c : A) (bad : B) → w ≡ true
    → cond t (f a) (cond u (f b) (cond (not w) bad (f c))) ≡ f (cond t a (cond u b c))
by_plain f true u w a b c bad h = refl
by_plain f false true w a b c bad h = refl
by_plain f false false w a b c bad h = rw h

module _ (number : ℕ) (s : Supervisor) where
  whole_write : (v : ℕ) → write_bytes_of number whole v s ≡ by_bytes_of (write_register_of number v s)
  unfolding write_bytes_of write_register_of
  whole_write v =
      by_plain by_bytes_of (is_spoiled_of s) (not (facts_of (numbered_of number)).writable) (is_run_of whole)
      (refuse Spoiled s) (refuse Place s) (write_run_of (numbered_of number) whole v s) _ whole_is_run

  whole_read : read_bytes_of number whole s ≡ by_bytes_of (read_register_of number s)
  unfolding read_bytes_of read_register_of
  whole_read =
      by_plain by_bytes_of (is_spoiled_of s) (not (facts_of (numbered_of number)).readable) (is_run_of whole)
      (refuse Spoiled s) (refuse Place s) (read_run_of (numbered_of number) whole s) _ whole_is_run

-- a plain answer stands for the same reply
same_reply : {A : Type 0} (reply : A → Reply) (r : Result A Decline)
    → either reply (λ d. declined (bytes_decline_number d)) (bytes_answer_of r) ≡ either reply (λ d. declined (decline_number d)) r
same_reply reply (Ok a) = refl
same_reply reply (Err d) = refl

-- [Bytes.2]
pub plain_write_is_whole : (number v : ℕ) (memory : List ℕ) (s : Supervisor)
    → ask_of (plain_write number v) memory s
    ≡ record { reply = verdict_reply (write_register_of number v s).answer; next = (write_register_of number v s).next }
plain_write_is_whole number v memory s =
    ap (λ (r : Done (Result Unit BytesDecline)). result (bytes_verdict_reply r.answer) r.next) (whole_write number s v)
    ∙ ap (λ (y : Reply). result y (write_register_of number v s).next) (same_reply (λ u. done) (write_register_of number v s).answer)

-- [Bytes.2] [Bytes.5a]
pub plain_read_is_whole : (number : ℕ) (memory : List ℕ) (s : Supervisor)
    → ask_of (plain_read number) memory s
    ≡ record { reply = reading_reply (read_register_of number s).answer; next = (read_register_of number s).next }
plain_read_is_whole number memory s =
    ap (λ (r : Done (Result ℕ BytesDecline)). result (bytes_reading_reply r.answer) r.next) (whole_read number s)
    ∙ ap (λ (y : Reply). result y (read_register_of number s).next) (same_reply value (read_register_of number s).answer)

-- the reply and the next record by themselves
pub plain_write_reply : (number v : ℕ) (s : Supervisor)
    → bytes_verdict_reply (write_bytes_of number whole v s).answer ≡ verdict_reply (write_register_of number v s).answer
plain_write_reply number v s = ap (λ (r : runs.Result). r.reply) (plain_write_is_whole number v [] s)

pub plain_write_next : (number v : ℕ) (s : Supervisor)
    → (write_bytes_of number whole v s).next ≡ (write_register_of number v s).next
plain_write_next number v s = ap (λ (r : runs.Result). r.next) (plain_write_is_whole number v [] s)

pub plain_read_reply : (number : ℕ) (s : Supervisor)
    → bytes_reading_reply (read_bytes_of number whole s).answer ≡ reading_reply (read_register_of number s).answer
plain_read_reply number s = ap (λ (r : runs.Result). r.reply) (plain_read_is_whole number [] s)

pub plain_read_next : (number : ℕ) (s : Supervisor)
    → (read_bytes_of number whole s).next ≡ (read_register_of number s).next
plain_read_next number s = ap (λ (r : runs.Result). r.next) (plain_read_is_whole number [] s)
