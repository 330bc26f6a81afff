-- A memory that a fill has left: level 1 OK and a class at every place but 0, so that no tick over it rejects a pattern.
--     done_accepts          the word at every place but 0
--     ok_rejects_nothing    a memory of such words, whatever the record and the tick
--     done_rejects_nothing  so a memory that a fill has left
-- Assumes nothing.
use Rattle.std.proofs.Common.{◌≡◌, ℕ, ◌<◌, Bool, true, false, cond, not, ◌&&◌, eqb, List, length, get_or, Result, IfOk, refl, ap, ◌∙◌, eqb-true}
use borrow.Author.Tests.{eqb-false}
use Rattle.bits.proofs.TestLaws.{by_cond}
use Rattle.bits.proofs.BitsLaws.{mask_lt}
use Rattle.registers.specs.Control.{inputs}
use Rattle.prescaler.specs.Prescaler as prescaler
use Rattle.sequencer.specs.MemoryWord.{is_ok_word}
use Rattle.table.specs.Table.{are_taken, table_of}
use Rattle.table.proofs.TableLaws.{table_at, taken_words_accept}
use Rattle.trigger.specs.declared.lines.Inputs.{Inputs}
use Rattle.testing.specs.InForce as testing
use Rattle.module_core.specs.Core as core
use Rattle.module_core.specs.declared.Core.{Core}
use Rattle.supervisor.specs.Supervisor.{is_spoiled_of, is_held_of, in_force_of, held_of, core_step_of, joined_of, ran_of, ticked_of}
use Rattle.supervisor.specs.declared.Supervisor.{Supervisor}
use Rattle.supervisor.specs.declared.Ticked.{Ticked}
use Rattle.supervisor.specs.declared.Answer.{Answer}
use Rattle.declines.specs.declared.Decline.{Decline}
use Rattle.declines.specs.declared.Done.{Done}
use Rattle.declines.specs.Answers.{done}
use Rattle.declines.specs.Calls.{memory_places, is_out_of_range, tick_of}
use Rattle.declines.specs.Runs.{fill_memory, Session, reply_to, after}
use Rattle.declines.proofs.FillLaws.{done_fill}

-- of a tick that is carried out; a declined one has no answer
abbrev RejectsNothing : Result Answer Decline → Type 0
RejectsNothing r = IfOk r (λ y. y.masks.rejected ≡ 0)

-- [Memory.2] [Memory.3] at every place but 0
pub record AcceptsAll (memory : List ℕ) : Type 0 where
  pub accepts : (place : ℕ) → (place ≡ 0 → ⊥) → place < memory_places → is_ok_word (get_or memory place 0) ≡ true

taken_accepts_all : (words : List ℕ) → are_taken words ≡ true → AcceptsAll (table_of memory_places words)
taken_accepts_all words taken =
    record {
      accepts = λ place other below.
          ap is_ok_word (table_at memory_places words place below) ∙ taken_words_accept words taken place other below;
    }

pub done_accepts : (words : List ℕ) (z : Session) → reply_to (fill_memory words) z ≡ done
    → AcceptsAll (after (fill_memory words) z).memory
done_accepts words z e =
    let carried = done_fill words z e in
    rw (ap (λ (y : Session). y.memory) carried.left) (taken_accepts_all words carried.taken)

-- ---- a tick over such a memory

module _ (memory : List ℕ) (ok : AcceptsAll memory) where
  -- [Ready.4] all are rejected only where the word is not OK, and there are none where none passed
  rejects_none : (ready : Bool) (passed : ℕ) → passed < memory_places
      → cond (ready && not (is_ok_word (get_or memory passed 0))) passed 0 ≡ 0
  rejects_none ready passed below = go (eqb passed 0) refl
    where
      same : (t : Bool) {n : ℕ} → n ≡ 0 → cond t n 0 ≡ 0
      same true e = e
      same false e = refl

      refuses : (r : Bool) {t : Bool} → t ≡ true → cond (r && not t) passed 0 ≡ 0
      refuses true e = rw e
      refuses false e = refl

      go : (t : Bool) → eqb passed 0 ≡ t → cond (ready && not (is_ok_word (get_or memory passed 0))) passed 0 ≡ 0
      go true e = same (ready && not (is_ok_word (get_or memory passed 0))) (eqb-true passed 0 e)
      go false e = refuses ready (ok.accepts passed (eqb-false passed 0 e) below)

  passed_below : (x : Inputs) (c : Core) → (core.pulsed_of x c).passed < memory_places
  unfolding core.pulsed_of prescaler.step_of
  passed_below x c = mask_lt inputs _

  step_rejects_none : (room empty : Bool) (x : Inputs) (c : Core) → (core.step_of room empty x memory c).masks.rejected ≡ 0
  unfolding core.step_of core.settled_of
  step_rejects_none room empty x c =
      rejects_none (core.is_ready_of x.lines c) (core.pulsed_of x c).passed (passed_below x c)

  ticked_rejects_none : (x : Inputs) (s : Supervisor) → (ticked_of memory x s).answer.masks.rejected ≡ 0
  unfolding ticked_of held_of testing.held_masks_of ran_of joined_of core_step_of
  ticked_rejects_none x s =
      by_cond (λ (t : Ticked). t.answer.masks.rejected ≡ 0) (is_held_of s) (λ e. refl)
      (λ e. step_rejects_none _ _ (in_force_of x s) s.core)

  pub ok_rejects_nothing : (x : Inputs) (s : Supervisor) → RejectsNothing (tick_of memory x s).answer
  unfolding tick_of
  ok_rejects_nothing x s =
      by_cond None (is_spoiled_of s) (λ e. tt)
      (λ e. by_cond None (not (eqb (length memory) memory_places)) (λ e. tt)
      (λ e. by_cond None (is_out_of_range x) (λ e. tt) (λ e. ticked_rejects_none x s)))
    where
      None : Done (Result Answer Decline) → Type 0
      None r = RejectsNothing r.answer

pub done_rejects_nothing : (words : List ℕ) (z : Session) → reply_to (fill_memory words) z ≡ done
    → (x : Inputs) (s : Supervisor) → RejectsNothing (tick_of (after (fill_memory words) z).memory x s).answer
done_rejects_nothing words z e = ok_rejects_nothing (after (fill_memory words) z).memory (done_accepts words z e)
