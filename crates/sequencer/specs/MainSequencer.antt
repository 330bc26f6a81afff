-- The main sequencer: which sentence of document 01 acts in a tick, and what it changes.
--     document 01    "The tick", Ready (the accept) and Main
--     aged_of         the sequencer with its age risen, on which the tests of the tick are made
--     accepted_of     the sequencer that accepts a pattern, from the memory's word
--     move_of         the sentence that acts, from the state and the tests of the tick
--     step_by         what each move changes and reports; step_of: the whole step
--     idle_of         the sequencer at Idle, where every move to Idle and RESET lead
-- Own rules of 01 used here: fail beats pass; a level fail is reported where a wait acts on it. Decisions: M1–M7, A5, F4.
-- Left out: the word's way to the branches, in branches; the CSR bits that a step sets and clears, in trigger.
-- Assumes nothing.
use Rattle.std.specs.Prelude.{ℕ, ◌+◌, ◌-◌, ◌*◌, ◌%◌, ◌^◌, ◌≤◌, ◌≡◌, Bool, true, false, not, ◌&&◌, ◌||◌, [], ◌∷◌, eqb, ltb, leb, if◌then◌else◌}
use Rattle.bits.specs.Notation.{◌▷◌}
use Rattle.bits.specs.Bits.{bit_at, one_if_of, set_of, all_true}
use Rattle.sequencer.specs.MemoryWord.{class_in_of, code_in, accept_in}
use Rattle.sequencer.specs.MainFields.{with_age, with_state, with_clear, with_class, with_code, with_accept}
use Rattle.sequencer.specs.MainFields.{with_raised, with_late, quiet, with_outcome, with_late_fail, with_sync}
use Rattle.sequencer.specs.MainFields.{with_ended, with_failed2, with_failed3}
use Rattle.sequencer.specs.States.{is_idle, is_wait2}
use Rattle.sequencer.specs.declared.states.State.{State}
use Rattle.sequencer.specs.declared.states.State.TheVariants.{Idle, Delay, Wait2, Wait3}
use Rattle.sequencer.specs.declared.states.State.TheVariants.{Front, Space, SyncHold, Clear}
use Rattle.sequencer.specs.declared.states.Outcome.TheVariants.{Cleared, Event}
use Rattle.sequencer.specs.declared.main_sequencer.MainSequencer.{MainSequencer}
use Rattle.sequencer.specs.declared.main_sequencer.Tests.{Tests}
use Rattle.sequencer.specs.declared.main_sequencer.MainStep.{MainStep}

-- ---- constants of document 01

-- [Main.1] in ticks
abbrev pub age_limit : ℕ
age_limit = 131070

-- [Spoiled.1b] Fh
abbrev pub code_limit : ℕ
code_limit = 15

-- [Answer.1] the lines that main raises, by their bit
abbrev pub ok_line : ℕ
ok_line = 0

abbrev pub start2_line : ℕ
start2_line = 1

abbrev pub accept2_line : ℕ
accept2_line = 2

abbrev pub start3_line : ℕ
start3_line = 3

abbrev pub accept3_line : ℕ
accept3_line = 4

-- ---- the lines, and the sequencer at Idle

abbrev pub is_raised : (line : ℕ) → MainSequencer → Bool
is_raised line m = bit_at m.raised line

abbrev pub raise : (line : ℕ) → MainSequencer → MainSequencer
raise line m = m ▷ with_raised (set_of (2 ^ line) m.raised)

abbrev pub raise_if : Bool → (line : ℕ) → MainSequencer → MainSequencer
raise_if t line m = m ▷ with_raised (if t then set_of (2 ^ line) m.raised else m.raised)

-- [Registers.4] [Main.17] no line raised, and age, c, class, code, accept pattern and late mark 0
abbrev pub idle_of : MainSequencer
idle_of = record { age = 0; state = Idle; clear = 0; class = 0; code = 0; accept = 0; raised = 0; late = false }

-- ---- before the move: the age, and the accept of a pattern

-- [Main.1] in a cycle one tick older, up to the limit
unfoldable pub aged_of : MainSequencer → MainSequencer
aged_of m = if not (is_idle m.state) && ltb m.age age_limit then m ▷ with_age (m.age + 1) else m

-- [Main.2] class 1 enters Delay; the others raise level 2 start and enter Wait 2
abbrev pub enter_by : (class : ℕ) → MainSequencer → MainSequencer
enter_by class m =
    if eqb class 1 then m ▷ raise ok_line ▷ with_state Delay
    else m ▷ raise ok_line ▷ raise start2_line ▷ with_state Wait2

-- [Ready.5] [Memory.2] DECISIONS M1: what no sentence names stays, a late mark and c among it
unfoldable pub accepted_of : (word : ℕ) → MainSequencer → MainSequencer
accepted_of word m =
    m ▷ with_age 0 ▷ with_class (class_in_of word) ▷ with_code (code_in word) ▷ with_accept (accept_in word)
    ▷ enter_by (class_in_of word)

-- ---- the moves, one for each sentence

-- the level whose fail main acts on
pub data Level : Type 0 where
  level2 level3 : Level

pub data Move : Type 0 where
  stays waits_in_delay ends_delay passes2_to_delay passes2_to_wait3 passes3 : Move
  loads leaves_space ends_sync_hold counts_clear ends_clear : Move
  fails_late fails_and_clears : Level → Move

-- [Main.3] [Main.4] [Main.6] a fail wins over a pass; a late one keeps the event
abbrev pub move_in_wait2 : (fail late pass class2 : Bool) → Move
move_in_wait2 fail late pass class2 =
    if fail && late then fails_late level2
    else if fail then fails_and_clears level2
    else if pass && class2 then passes2_to_delay
    else if pass then passes2_to_wait3
    else stays

-- [Main.5] [Main.6] DECISIONS M2: a fail wins here too
abbrev pub move_in_wait3 : (fail late pass : Bool) → Move
move_in_wait3 fail late pass =
    if fail && late then fails_late level3
    else if fail then fails_and_clears level3
    else if pass then passes3
    else stays

-- [Main.7] both accept lines are up, one that is raised in this tick included
abbrev pub both_accepts : Tests → MainSequencer → Bool
both_accepts t m = (is_raised accept2_line m || t.due2) && (is_raised accept3_line m || t.due3)

-- [Main.15] c falls while it is above 0; only a tick that starts with c = 0 can leave
abbrev pub move_in_clear : (counting front : Bool) → Move
move_in_clear counting front = if counting then counts_clear else if front then ends_clear else stays

-- [Main.8] [Main.13] [Main.14] what Front, Space and Sync hold wait for
abbrev pub move_in : State → Tests → MainSequencer → Move
move_in Idle t m = stays
move_in Delay t m = if both_accepts t m then ends_delay else waits_in_delay
move_in Wait2 t m = move_in_wait2 t.fail2 t.late t.pass2 (eqb m.class 2)
move_in Wait3 t m = move_in_wait3 t.fail3 t.late t.pass3
move_in Front t m = if t.front then loads else stays
move_in Space t m = if t.room then leaves_space else stays
move_in SyncHold t m = if t.empty then ends_sync_hold else stays
move_in Clear t m = move_in_clear (ltb 0 m.clear) t.front

abbrev pub move_of : Tests → MainSequencer → Move
move_of t m = move_in m.state t m

-- ---- what each move changes and reports; the rest stays

-- [Main.9] code, sync, late
abbrev pub word_of : (sync : Bool) → MainSequencer → ℕ
word_of sync m = m.code % 16 + 16 * one_if_of sync + 32 * one_if_of m.late

-- [Main.7] each accept line at its own time
abbrev pub raise_due : Tests → MainSequencer → MainSequencer
raise_due t m = m ▷ raise_if t.due2 accept2_line ▷ raise_if t.due3 accept3_line

-- [Main.12]
abbrev pub after_load : (sync : Bool) → State
after_load sync = if sync then SyncHold else Space

-- [Assign.2] whose fail it was
abbrev pub failed_at : Level → MainStep → MainStep
failed_at level2 s = s ▷ with_failed2 true
failed_at level3 s = s ▷ with_failed3 true

-- [Main.6] the event is marked late and goes on to Front
abbrev pub late_step : MainSequencer → MainStep
late_step m = quiet (m ▷ with_late true ▷ with_state Front) ▷ with_late_fail true

-- [Main.6] [Main.15] the event is cleared; Clear starts with c
abbrev pub cleared_step : (c : ℕ) → MainSequencer → MainStep
cleared_step c m = quiet (m ▷ with_clear c ▷ with_state Clear) ▷ with_outcome Cleared

-- the two kinds of fail, before the level is named: for the code, which chooses the kind first; SequencerChoices proves that
-- it is step_by
abbrev pub fail_step : Tests → MainSequencer → MainStep
fail_step t m = if t.late then late_step m else cleared_step t.clear m

-- [Main.4] [Main.5] [Main.6] [Main.7] [Main.8] [Main.12] [Main.13] [Main.14] [Main.15] [Main.17] a line for each move
abbrev pub step_by : Move → Tests → MainSequencer → MainStep
step_by stays t m = quiet m
step_by waits_in_delay t m = quiet (m ▷ raise_due t)
step_by ends_delay t m = quiet (m ▷ raise_due t ▷ with_state Front)
step_by passes2_to_delay t m = quiet (m ▷ raise accept2_line ▷ with_state Delay)
step_by passes2_to_wait3 t m = quiet (m ▷ raise accept2_line ▷ raise start3_line ▷ with_state Wait3)
step_by passes3 t m = quiet (m ▷ raise accept3_line ▷ with_state Front)
step_by (fails_late l) t m = late_step m ▷ failed_at l
step_by (fails_and_clears l) t m = cleared_step t.clear m ▷ failed_at l
step_by loads t m =
    quiet (m ▷ with_state (after_load t.sync)) ▷ with_outcome (Event (word_of t.sync m)) ▷ with_sync t.sync
step_by leaves_space t m = quiet idle_of
step_by ends_sync_hold t m = quiet idle_of ▷ with_ended true
step_by counts_clear t m = quiet (m ▷ with_clear (m.clear - 1))
step_by ends_clear t m = quiet idle_of

-- ---- the step of a sequencer whose age has risen

unfoldable pub step_of : Tests → MainSequencer → MainStep
step_of t m = step_by (move_of t m) t m

-- [Main.16] the clear line is high while c is above 0
abbrev pub is_clearing : MainSequencer → Bool
is_clearing m = ltb 0 m.clear

-- ---- what of main spoils a record

-- [Spoiled.1c]
abbrev pub is_class_of_wait2 : ℕ → Bool
is_class_of_wait2 class = eqb class 2 || eqb class 3

-- [Spoiled.1b] [Spoiled.1c] [Spoiled.1i] in this order; [Spoiled.1j] c is a byte, so it is never over 255
unfoldable pub is_well_formed_of : MainSequencer → Bool
is_well_formed_of m =
    all_true (
    leb m.code code_limit
    ∷ (not (is_wait2 m.state) || is_class_of_wait2 m.class)
    ∷ leb m.age age_limit
    ∷ [])

-- the same as facts
pub record WellFormedMain (m : MainSequencer) : Type 0 where
  -- [Spoiled.1b]
  pub code : m.code ≤ code_limit
  -- [Spoiled.1c]
  pub class : is_wait2 m.state ≡ true → is_class_of_wait2 m.class ≡ true
  -- [Spoiled.1i]
  pub age : m.age ≤ age_limit
