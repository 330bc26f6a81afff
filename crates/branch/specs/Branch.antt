-- One branch: its queue of words, its handshake with the readout controllers, and what of it spoils a record.
--     document 01      "The tick", Branches; "When a call is declined", Spoiled
--     held             the words held, first to last: all that other crates see of the queue
--     move_in           the sentence of 01 that acts in a tick, from the phase and the tests of the tick
--     after_move        the branch after it
--     step_of           a tick of the branch: the move (moved_of), then the load (appended_of)
--     is_well_formed_of   nothing in this branch spoils the record; WellFormedBranch says the same as facts
-- Own rules of 01 used here: none. Decisions: B1–B3, B5. Left out: the depth of 1 by CSR bits 9 and 10, in branches.
-- Assumes nothing.
use Rattle.std.specs.Prelude.{ℕ, ◌+◌, ◌-◌, ◌*◌, ◌/◌, ◌%◌, ◌^◌, ◌<◌, ◌≤◌, ◌≡◌, Bool, true, false, not, ◌&&◌, ◌||◌, List, eqb, leb, ltb, if◌then◌else◌}
use Rattle.std.specs.Int.Bits.{bit_and, bit_or}
use Rattle.bits.specs.Notation.{◌▷◌}
use Rattle.bits.specs.Bytes.{bytes, all_of}
use Rattle.branch.specs.BranchFields.{with_words, with_len, with_phase}
use Rattle.branch.specs.Slots.{words_in}
use Rattle.branch.specs.declared.Phase.{Phase}
use Rattle.branch.specs.declared.Phase.TheVariants.{Rest, Strobe, Drop}
use Rattle.branch.specs.Slots.{Slot}
use Rattle.std.specs.Prelude.{None, Some}
use Rattle.branch.specs.declared.Branch.{Branch}
use Rattle.branch.specs.declared.BranchStep.{BranchStep}

-- ---- constants of document 01

-- [Main.13] the depth of a branch's queue, where no ROC lock makes it 1
abbrev pub queue_depth : ℕ
queue_depth = 8

-- [Spoiled.1f] the largest word: six bits, 3Fh
abbrev pub word_limit : ℕ
word_limit = 63

-- ---- the queue: place j is byte j of a number, the first word the lowest

-- [Account.16] the words held, first to last
abbrev pub held : Branch → List ℕ
held b = bytes b.len b.words

abbrev pub first : Branch → ℕ
first b = b.words % 256

abbrev pub remove_first : Branch → Branch
remove_first b = b ▷ with_words (b.words / 256) ▷ with_len (b.len - 1)

abbrev pub append_word : ℕ → Branch → Branch
append_word w b = b ▷ with_words (bit_or b.words (w * 256 ^ b.len)) ▷ with_len (b.len + 1)

-- [Registers.4] no word, at rest
abbrev pub fresh_of : Branch
fresh_of = record { words = 0; len = 0; phase = Rest }

-- ---- the tests of a tick, each on the branch at its start

abbrev pub is_rest_of : Phase → Bool
is_rest_of Rest = true
is_rest_of Strobe = false
is_rest_of Drop = false

abbrev pub is_strobe_of : Phase → Bool
is_strobe_of Rest = false
is_strobe_of Strobe = true
is_strobe_of Drop = false

abbrev pub has_word : Branch → Bool
has_word b = ltb 0 b.len

-- [Branches.2] [Branches.4] every enabled acknowledge is high; the others are not asked
abbrev pub all_high : (acks enabled : ℕ) → Bool
all_high acks enabled = eqb (bit_and acks enabled) enabled

-- [Branches.3] [Branches.4] every enabled acknowledge is low
abbrev pub all_low : (acks enabled : ℕ) → Bool
all_low acks enabled = eqb (bit_and acks enabled) 0

-- [Active.1] a branch that holds a word or is not at Rest keeps the record active; a quiet one does neither
abbrev pub is_quiet_of : Branch → Bool
is_quiet_of b = is_rest_of b.phase && not (has_word b)

-- ---- the moves, one for each sentence

pub data Move : Type 0 where
  stays strobes finishes rests : Move

-- [Branches.1] [Branches.2] [Branches.3] what each phase waits for: a word, all high, all low
abbrev pub move_in : Phase → (some high low : Bool) → Move
move_in Rest some high low = if some then strobes else stays
move_in Strobe some high low = if high then finishes else stays
move_in Drop some high low = if low then rests else stays

-- what each move changes; the rest stays
abbrev pub after_move : Move → Branch → Branch
after_move stays b = b
after_move strobes b = b ▷ with_phase Strobe
after_move finishes b = b ▷ remove_first ▷ with_phase Drop
after_move rests b = b ▷ with_phase Rest

abbrev pub finished_by : Move → Branch → Slot
finished_by stays b = None
finished_by strobes b = None
finished_by finishes b = Some (first b)
finished_by rests b = None

-- [Branches.1] DECISIONS B1: the first word is shown in every answer after which the branch stands at Strobe
abbrev pub shown_in : Phase → Branch → Slot
shown_in Rest b = None
shown_in Strobe b = Some (first b)
shown_in Drop b = None

-- ---- the step

abbrev pub moved_by : Move → Branch → BranchStep
moved_by m b =
    record {
      next = after_move m b;
      finished = finished_by m b;
      shown = shown_in (after_move m b).phase (after_move m b);
    }

unfoldable pub moved_of : (acks enabled : ℕ) → Branch → BranchStep
moved_of acks enabled b =
    moved_by (move_in b.phase (has_word b) (all_high acks enabled) (all_low acks enabled)) b

-- [Spoiled.1f] a queue that is not above 7 has a place free for a word
abbrev pub has_free_place_of : Branch → Bool
has_free_place_of b = ltb b.len queue_depth

-- DECISIONS B2: a full queue takes no load; no call meets this, since a record in which it could is spoiled
unfoldable pub appended_of : Slot → Branch → Branch
appended_of None b = b
appended_of (Some w) b = if has_free_place_of b then b ▷ append_word w else b

-- [Branches.5] the move first, then the load: a word loaded into an empty branch waits for the next tick
unfoldable pub step_of : (acks enabled : ℕ) → Slot → Branch → BranchStep
step_of acks enabled load b =
    record {
      next = appended_of load (moved_of acks enabled b).next;
      finished = (moved_of acks enabled b).finished;
      shown = (moved_of acks enabled b).shown;
    }

-- ---- what of a branch spoils a record

-- [Spoiled.1f] not above 8 words
abbrev pub is_within_depth : Branch → Bool
is_within_depth b = leb b.len queue_depth

-- [Spoiled.1g] every place that is not used is 0
abbrev pub all_unused_zero : Branch → Bool
all_unused_zero b = ltb b.words (256 ^ b.len)

-- [Spoiled.1f] a word is not over 3Fh
abbrev pub is_six_bit : ℕ → Bool
is_six_bit w = leb w word_limit

-- all eight places may be asked, since those not used are 0
abbrev pub all_six_bit : Branch → Bool
all_six_bit b = all_of is_six_bit (bytes queue_depth b.words)

-- [Spoiled.1d] at Strobe there is a word
abbrev pub has_word_at_strobe : Branch → Bool
has_word_at_strobe b = not (is_strobe_of b.phase) || has_word b

unfoldable pub is_well_formed_of : Branch → Bool
is_well_formed_of b = is_within_depth b && (all_unused_zero b && (all_six_bit b && has_word_at_strobe b))

-- ---- facts and statements

-- is_well_formed_of, as facts
pub record WellFormedBranch (b : Branch) : Type 0 where
  pub depth : b.len ≤ queue_depth
  -- needed by the load: its place is 0 so far
  pub unused : b.words < 256 ^ b.len
  pub six_bits : all_of is_six_bit (held b) ≡ true
  -- needed by the move that finishes a word
  pub strobe : is_strobe_of b.phase ≡ true → 0 < b.len

-- [Main.9] a load has no bit above the late bit, bit 5
abbrev pub is_six_bit_load : Slot → Bool
is_six_bit_load load = all_of is_six_bit (words_in load)

-- a load has a free place, and no load needs none
abbrev pub has_place_for : Slot → Branch → Bool
has_place_for None b = true
has_place_for (Some w) b = has_free_place_of b

-- what a tick gives of a branch that it leaves as b, with nothing finished and nothing shown
abbrev pub silent : Branch → BranchStep
silent b = record { next = b; finished = None; shown = None }
