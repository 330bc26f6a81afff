-- The order of the declines: the number of a call is that of its first failing test, whatever is asked.
--     declines_in_order   the tests of a call, one after the other, are those of the table in Refusals
-- Assumes nothing.
use Rattle.std.proofs.Common.{◌≡◌, ℕ, Bool, cond, not, ◌&&◌, eqb, leb, List, length, Result, refl}
use Rattle.run.specs.Run.{is_run_of}
use Rattle.run.specs.declared.Run.{Run}
use Rattle.registers.specs.Registers.{numbered_of, facts_of, is_valid_value}
use Rattle.registers.specs.declared.register.Register.{Register}
use Rattle.trigger.specs.declared.lines.Inputs.{Inputs}
use Rattle.table.specs.Table.{are_taken}
use Rattle.supervisor.specs.Supervisor.{is_active_of, is_spoiled_of}
use Rattle.supervisor.specs.declared.Supervisor.{Supervisor}
use Rattle.supervisor.specs.declared.Answer.{Answer}
use Rattle.declines.specs.declared.Decline.{Decline}
use Rattle.declines.specs.declared.BytesDecline.{BytesDecline}
use Rattle.declines.specs.declared.FillDecline.{FillDecline}
use Rattle.declines.specs.declared.Done.{Done}
use Rattle.declines.specs.Answers.{verdict_reply, reading_reply, tick_reply, bytes_verdict_reply, bytes_reading_reply}
use Rattle.declines.specs.Answers.{fill_reply, decline_or_zero}
use Rattle.access.specs.Access.{merged_of}
use Rattle.declines.specs.Calls.{memory_places, is_guarded_of, by_bytes_of, is_out_of_range, tick_of}
use Rattle.declines.specs.Calls.{write_run_of, read_run_of, write_bytes_of, read_bytes_of, write_memory_of, read_memory_of}
use Rattle.declines.specs.Fill.{fill_memory_of}
use Rattle.declines.specs.Runs.{Ask, write_register, read_register, write_memory, read_memory, fill_memory, tick, ask_of}
use Rattle.declines.specs.Refusals.{refusals_of, first_of}
use Rattle.declines.proofs.ChoiceLaws.{same_choice}

-- ---- which number, and in what order

-- the number of a result, by the test that chose it
number_by : {A : Type 0} (f : A → ℕ) (t : Bool) {a b : A} {n m : ℕ} → f a ≡ n → f b ≡ m → f (cond t a b) ≡ cond t n m
number_by f t h k = same_choice f (λ n. n) t h k

module _ (memory : List ℕ) (s : Supervisor) where
  abbrev other_length : Bool
  other_length = not (eqb (length memory) memory_places)

  write_register_number : (number : ℕ) (run : Run) (v : ℕ)
      → decline_or_zero (ask_of (write_register number run v) memory s).reply ≡ first_of (refusals_of (write_register number run v) memory s)
  unfolding write_bytes_of write_run_of
  write_register_number number run v =
      number_by ended (is_spoiled_of s) refl
      (number_by ended (not (facts_of register).writable) refl
      (number_by ended (not (is_run_of run)) refl
      (number_by ended_plainly (is_active_of s && is_guarded_of register s) refl
      (number_by ended_plainly (not (is_valid_value register (merged_of register run v s))) refl refl))))
    where
      register : Register
      register = numbered_of number

      ended : Done (Result Unit BytesDecline) → ℕ
      ended r = decline_or_zero (bytes_verdict_reply r.answer)

      ended_plainly : Done (Result Unit Decline) → ℕ
      ended_plainly r = ended (by_bytes_of r)

  read_register_number : (number : ℕ) (run : Run)
      → decline_or_zero (ask_of (read_register number run) memory s).reply ≡ first_of (refusals_of (read_register number run) memory s)
  unfolding read_bytes_of read_run_of
  read_register_number number run =
      number_by ended (is_spoiled_of s) refl
      (number_by ended (not (facts_of (numbered_of number)).readable) refl
      (number_by ended (not (is_run_of run)) refl refl))
    where
      ended : Done (Result ℕ BytesDecline) → ℕ
      ended r = decline_or_zero (bytes_reading_reply r.answer)

  write_memory_number : (place word : ℕ)
      → decline_or_zero (ask_of (write_memory place word) memory s).reply ≡ first_of (refusals_of (write_memory place word) memory s)
  unfolding write_memory_of
  write_memory_number place word =
      number_by ended (is_spoiled_of s) refl
      (number_by ended other_length refl
      (number_by ended (leb memory_places place) refl
      (number_by ended (is_active_of s) refl refl)))
    where
      ended : Done (Result Unit Decline) → ℕ
      ended r = decline_or_zero (verdict_reply r.answer)

  read_memory_number : (place : ℕ)
      → decline_or_zero (ask_of (read_memory place) memory s).reply ≡ first_of (refusals_of (read_memory place) memory s)
  unfolding read_memory_of
  read_memory_number place =
      number_by ended (is_spoiled_of s) refl
      (number_by ended other_length refl
      (number_by ended (leb memory_places place) refl
      (number_by ended (is_active_of s) refl refl)))
    where
      ended : Done (Result ℕ Decline) → ℕ
      ended r = decline_or_zero (reading_reply r.answer)

  fill_memory_number : (words : List ℕ)
      → decline_or_zero (ask_of (fill_memory words) memory s).reply ≡ first_of (refusals_of (fill_memory words) memory s)
  unfolding fill_memory_of
  fill_memory_number words =
      number_by ended (is_spoiled_of s) refl
      (number_by ended other_length refl
      (number_by ended (is_active_of s) refl
      (number_by ended (not (are_taken words)) refl refl)))
    where
      ended : Done (Result Unit FillDecline) → ℕ
      ended r = decline_or_zero (fill_reply r.answer)

  ticks_number : (x : Inputs)
      → decline_or_zero (ask_of (tick x) memory s).reply ≡ first_of (refusals_of (tick x) memory s)
  unfolding tick_of
  ticks_number x =
      number_by ended (is_spoiled_of s) refl
      (number_by ended other_length refl
      (number_by ended (is_out_of_range x) refl refl))
    where
      ended : Done (Result Answer Decline) → ℕ
      ended r = decline_or_zero (tick_reply r.answer)

-- [Declines.1a] the tests of a call, one after the other, are those of the table
pub declines_in_order : (a : Ask) (memory : List ℕ) (s : Supervisor)
    → decline_or_zero (ask_of a memory s).reply ≡ first_of (refusals_of a memory s)
declines_in_order (write_register number run v) memory s = write_register_number memory s number run v
declines_in_order (read_register number run) memory s = read_register_number memory s number run
declines_in_order (write_memory place word) memory s = write_memory_number memory s place word
declines_in_order (read_memory place) memory s = read_memory_number memory s place
declines_in_order (fill_memory words) memory s = fill_memory_number memory s words
declines_in_order (tick x) memory s = ticks_number memory s x
