-- Document 01's bench examples P1–P9, as document 02 amends them, as a table.
--     document 01   "Bench examples P1–P9"; document 02, N1
--     Example       a row: given these asks, ask those, look at this in each reply to those, see these numbers
--     p1 .. p9_declined   the rows, one for each thing that a sentence says, by the number of its example
--     examples      the table; all_right: each row sees what it says
-- Where a row has pulses they are of input 1: a mask is then 1 or 0. The n-th tick after an accept is made at age n ([Main.1]).
-- Own rules of 01 used here: fail beats pass; the lowest class bit decides, and no class is not OK. Decisions: none.
-- Left out: the misreadings, in proofs/Misreadings.
-- Assumes nothing.
use Rattle.std.specs.Prelude.{ℕ, ◌+◌, Bool, true, ◌&&◌, List, [], ◌∷◌, ◌++◌, length, take, drop, replicate, ◌==◌}
use Rattle.bits.specs.Bytes.{is_same_of}
use Rattle.declines.specs.Answers.{Reply, decline_or_zero}
use Rattle.declines.specs.Runs.{Ask}
use Rattle.bench.specs.Asks.{csr, control, factor, roc_enable, interval, t1, enable, open_prescales}
use Rattle.bench.specs.Asks.{go, enable_sync, use_t1, late_fail, first_controller, pass2, fail2}
use Rattle.bench.specs.Asks.{write, read, store, pulse, lines, acknowledge, ticks, times}
use Rattle.bench.specs.Asks.{event, in_event, class1, class2}
use Rattle.bench.specs.Sessions.{replies_to, lost, rejected, passed, cleared, loaded, finished1}
use Rattle.bench.specs.Sessions.{read_out, decline}

-- ---- a row

pub record Example : Type 0 where
  -- asks that are all carried out; nothing is looked at in their replies
  pub first : List Ask
  pub later : List Ask
  pub view : Reply → List ℕ
  -- what the view gives of the replies to the later asks, in order
  pub seen : List ℕ

infixr 3 given◌ask◌look◌see◌
abbrev pub given◌ask◌look◌see◌ : (first later : List Ask) → (Reply → List ℕ) → List ℕ → Example
given f ask l look v see n = record { first = f; later = l; view = v; seen = n }

-- ---- the rows

-- input 1 counts, and GO is set, with other bits of the CSR
abbrev pub running_with : (bits : ℕ) → List Ask
running_with bits = write control (enable 1) ∷ write csr (go + bits) ∷ []

abbrev pub running : List Ask
running = running_with 0

-- [Bench.1] factor 0: every pulse passes
abbrev pub p1 : Example
p1 = given write (factor 1) 0 ∷ running ask times 4 (pulse 1 ∷ []) look passed see 1 ∷ 1 ∷ 1 ∷ 1 ∷ []

-- [Bench.2] factor 2: of six pulses the 3rd and the 6th
abbrev pub p2 : Example
p2 =
    given write (factor 1) 2 ∷ running
    ask times 6 (pulse 1 ∷ [])
    look passed see 0 ∷ 0 ∷ 1 ∷ 0 ∷ 0 ∷ 1 ∷ []

-- [Bench.3] GO clear, OPEN PRESCALES set, factor 0: lost
abbrev pub p3 : Example
p3 =
    given write (factor 1) 0 ∷ write control (enable 1 + open_prescales) ∷ []
    ask times 2 (pulse 1 ∷ [])
    look lost see 1 ∷ 1 ∷ []

-- [Bench.4] [Memory.3] memory 0001h: OK without a class; and 0002h: a class without OK
abbrev pub p4_no_class : Example
p4_no_class = given store 0x0001 ∷ running ask pulse 1 ∷ [] look rejected see 1 ∷ []

abbrev pub p4_not_ok : Example
p4_not_ok = given store 0x0002 ∷ running ask pulse 1 ∷ [] look rejected see 1 ∷ []

-- [Blind.5] a pulse in each of the next two ticks is lost; a fourth is rejected again
abbrev pub p4_rejected : Example
p4_rejected = given store 0x0001 ∷ running ask times 4 (pulse 1 ∷ []) look rejected see 1 ∷ 0 ∷ 0 ∷ 1 ∷ []

abbrev pub p4_lost : Example
p4_lost = given store 0x0001 ∷ running ask times 4 (pulse 1 ∷ []) look lost see 0 ∷ 1 ∷ 1 ∷ 0 ∷ []

-- [Bench.5] class 2: a pass together with a fail clears the event
abbrev pub p5 : Example
p5 =
    given store class2 ∷ running ++ pulse 1 ∷ []
    ask lines (pass2 + fail2) ∷ []
    look cleared see 1 ∷ []

-- an event of class 2, n ticks old, with T1 = 3 in use
abbrev pub aged : (n : ℕ) → List Ask
aged n = store class2 ∷ write t1 3 ∷ running_with use_t1 ++ pulse 1 ∷ ticks n

-- the same, with a fail in the next tick, at age n + 1
abbrev pub failed : (n : ℕ) → List Ask
failed n = aged n ++ lines fail2 ∷ []

-- [Bench.6] a fail at age 5 clears the event, and status 17 stays clear
abbrev pub p6_clears : Example
p6_clears = given aged 4 ask lines fail2 ∷ [] look cleared see 1 ∷ []

abbrev pub p6_no_status : Example
p6_no_status = given failed 4 ask read csr ∷ [] look read_out see (go + use_t1) ∷ []

-- [Bench.6] at age 6 it is late: status 17 is set, and the word that is loaded next has bit 5
abbrev pub p6_is_late : Example
p6_is_late = given aged 5 ask lines fail2 ∷ [] look cleared see 0 ∷ []

abbrev pub p6_status : Example
p6_status = given failed 5 ask read csr ∷ [] look read_out see (go + use_t1 + late_fail) ∷ []

abbrev pub p6_late_word : Example
p6_late_word = given failed 5 ask ticks 1 look loaded see 0x25 ∷ []

-- [Bench.7] interval 1 with CSR bit 4: each event has the sync bit
abbrev pub p7 : Example
p7 =
    given store class1 ∷ write interval 1 ∷ running_with enable_sync
    ask event 1 ++ ticks 8 ++ event 1
    look loaded see in_event 0x15 ++ replicate 8 0 ++ in_event 0x15

-- one controller is enabled, which will not acknowledge by itself; then eight events
abbrev pub one_controller : List Ask
one_controller = store class1 ∷ write roc_enable first_controller ∷ running

abbrev pub eight_held : List Ask
eight_held = one_controller ++ times 8 (event 1)

-- [Bench.8] eight words are loaded, none is finished, and a ninth pulse is lost
abbrev pub p8_loaded : Example
p8_loaded = given one_controller ask times 8 (event 1) look loaded see times 8 (in_event 5)

abbrev pub p8_finished : Example
p8_finished = given one_controller ask times 8 (event 1) look finished1 see replicate 32 0

abbrev pub p8_lost : Example
p8_lost = given eight_held ask pulse 1 ∷ [] look lost see 1 ∷ []

-- [Bench.8] so eight words are held: of nine acknowledges after the lost pulse, each with two ticks to strobe again, eight
-- finish a word
abbrev pub p8_held : Example
p8_held =
    given eight_held ++ pulse 1 ∷ []
    ask times 9 (acknowledge first_controller ∷ ticks 2)
    look finished1 see times 8 (5 ∷ 0 ∷ 0 ∷ []) ++ 0 ∷ 0 ∷ 0 ∷ []

-- [Bench.9] the factor of input 8: 3FFFh is taken, 4000h is declined with 5
abbrev pub p9_taken : Example
p9_taken = given [] ask write (factor 8) 0x3FFF ∷ [] look decline see 0 ∷ []

abbrev pub p9_declined : Example
p9_declined = given [] ask write (factor 8) 0x4000 ∷ [] look decline see 5 ∷ []

-- ---- the table

abbrev pub examples : List Example
examples =
    p1
    ∷ p2
    ∷ p3
    ∷ p4_no_class
    ∷ p4_not_ok
    ∷ p4_rejected
    ∷ p4_lost
    ∷ p5
    ∷ p6_clears
    ∷ p6_no_status
    ∷ p6_is_late
    ∷ p6_status
    ∷ p6_late_word
    ∷ p7
    ∷ p8_loaded
    ∷ p8_finished
    ∷ p8_lost
    ∷ p8_held
    ∷ p9_taken
    ∷ p9_declined
    ∷ []

-- ---- a row is right

-- what the view gives of all replies, in order
abbrev pub viewed : (Reply → List ℕ) → List Reply → List ℕ
viewed view [] = []
viewed view (r ∷ rs) = view r ++ viewed view rs

abbrev all_carried_out : List Reply → Bool
all_carried_out [] = true
all_carried_out (r ∷ rs) = decline_or_zero r == 0 && all_carried_out rs

abbrev pub is_right : Example → Bool
is_right e =
    let replies = replies_to (e.first ++ e.later) in
    all_carried_out (take (length e.first) replies)
    && is_same_of (viewed e.view (drop (length e.first) replies)) e.seen

abbrev pub all_right : List Example → Bool
all_right [] = true
all_right (e ∷ es) = is_right e && all_right es
