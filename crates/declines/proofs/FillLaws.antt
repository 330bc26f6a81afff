-- Laws of a fill of the memory: what it leaves follows from its answer.
--     refused_fills_nothing    a fill that is declined leaves every word
--     done_fills               one that is carried out leaves the table of its words
--     done_fill                .. and the record, and its words are taken
--     bad_word_declined        8, where no decline of a memory write applies
-- Assumes nothing.
use Rattle.std.proofs.Common.{◌≡◌, ℕ, true, false, not, eqb, List, length, Result, Ok, refl, ap, eq-eqb}
use borrow.Author.Tests.{not-false}
use Rattle.bits.proofs.TestLaws.{by_cond}
use Rattle.table.specs.Table.{are_taken, table_of}
use Rattle.supervisor.specs.Supervisor.{is_active_of, is_spoiled_of}
use Rattle.supervisor.specs.declared.Supervisor.{Supervisor}
use Rattle.declines.specs.declared.Decline.TheVariants.{Spoiled, Length, Active}
use Rattle.declines.specs.declared.FillDecline.{FillDecline}
use Rattle.declines.specs.declared.FillDecline.TheVariants.{Plain, BadWord}
use Rattle.declines.specs.declared.Done.{Done}
use Rattle.declines.specs.Answers.{declined, done, fill_reply}
use Rattle.declines.specs.Calls.{memory_places, refuse, unless_declined}
use Rattle.declines.specs.Fill.{fill_memory_of, memory_filled_of}
use Rattle.declines.specs.Runs.{fill_memory, ask_of, Session, session, reply_to, after}

-- two ends that are the same leave the same
by_end : (memory after : List ℕ) {r t : Done (Result Unit FillDecline)} → r ≡ t
    → unless_declined r.answer memory after ≡ unless_declined t.answer memory after
by_end memory after e = ap (λ (r : Done (Result Unit FillDecline)). unless_declined r.answer memory after) e

module _ (memory words : List ℕ) (s : Supervisor) where
  -- [Declines.1b]
  pub refused_fills_nothing : (d : FillDecline) (next : Supervisor) → refuse d next ≡ fill_memory_of memory words s
      → memory ≡ memory_filled_of memory words s
  unfolding memory_filled_of
  refused_fills_nothing d next e = by_end memory _ e

  -- [Table.4]
  pub done_fills : (next : Supervisor) → record { next = next; answer = Ok tt } ≡ fill_memory_of memory words s
      → table_of memory_places words ≡ memory_filled_of memory words s
  unfolding memory_filled_of
  done_fills next e = by_end memory (table_of memory_places words) e

-- ---- a fill that is carried out, in a session

pub record CarriedOut (words : List ℕ) (z y : Session) : Type 0 where
  -- [Table.8b]
  pub taken : are_taken words ≡ true
  -- [Table.4] all places, and nothing of the record
  pub left : y ≡ session z.supervisor (table_of memory_places words)

-- [Table.8a] [Table.8b] what is not declined
pub done_fill : (words : List ℕ) (z : Session) → reply_to (fill_memory words) z ≡ done
    → CarriedOut words z (after (fill_memory words) z)
unfolding fill_memory_of memory_filled_of
done_fill words z =
    by_cond Ends (is_spoiled_of z.supervisor) (λ e. refusal (Plain Spoiled) _)
    (λ e. by_cond Ends (not (eqb (length z.memory) memory_places)) (λ e. refusal (Plain Length) _)
    (λ e. by_cond Ends (is_active_of z.supervisor) (λ e. refusal (Plain Active) _)
    (λ e. by_cond Ends (not (are_taken words)) (λ e. refusal BadWord _)
    (λ e h. record { taken = not-false (are_taken words) e; left = refl }))))
  where
    Ends : Done (Result Unit FillDecline) → Type 0
    Ends r =
        fill_reply r.answer ≡ done
        → CarriedOut words z
        (session r.next (unless_declined r.answer z.memory (table_of memory_places words)))

    refusal : (d : FillDecline) (next : Supervisor) → Ends (refuse d next)
    refusal d next h = cc

-- [Table.8b]
pub bad_word_declined : (words memory : List ℕ) (s : Supervisor) → is_spoiled_of s ≡ false → length memory ≡ memory_places
    → is_active_of s ≡ false → are_taken words ≡ false
    → ask_of (fill_memory words) memory s ≡ record { reply = declined 8; next = s }
unfolding fill_memory_of
bad_word_declined words memory s sound long idle bad = rw (sound, eq-eqb (length memory) memory_places long, idle, bad)
