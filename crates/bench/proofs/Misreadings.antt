-- The misreadings that document 01 lists, each refused by an example whose value it would change.
--     first_pulse_is_scaled    a misreading lets the first pulse after a factor write pass
--     strobe_comes_next_tick   a misreading raises Strobe in the tick that loads an empty branch
--     tag_is_not_counted       a misreading counts a tag by scaler 0; event_is_counted: what it does count
--     eight_is_full            a misreading takes "more than 8 is full": Space would be left with eight words
-- Assumes nothing.
use Rattle.std.proofs.Common.{◌≡◌, ℕ, ◌+◌, List, [], ◌∷◌, ◌++◌, replicate, refl}
use Rattle.declines.specs.Answers.{Reply}
use Rattle.bench.specs.Asks.{csr, factor, scaler0, force_sync, enable_sync, first_controller}
use Rattle.bench.specs.Asks.{write, read, store, pulse, acknowledge, ticks, event, in_event, class1}
use Rattle.bench.specs.Sessions.{replies_to, lost, passed, loaded, shown1, read_out}
use Rattle.bench.specs.Bench.{running, eight_held, viewed}
use Rattle.bench.proofs.Opened.{machine}

-- [Bench.10] factor 1: the misreading would see 1 ∷ 0
pub first_pulse_is_scaled : viewed passed (replies_to (write (factor 1) 1 ∷ running ++ pulse 1 ∷ pulse 1 ∷ [])) ≡ 0 ∷ 1 ∷ []
unfolding machine
first_pulse_is_scaled = refl

-- [Bench.10] the event is loaded in the second tick after its pulse and shown in the third, and no controller is enabled,
-- so that it is finished in the fourth: the misreading would see 0 ∷ 0 ∷ 5 ∷ 0
pub strobe_comes_next_tick : viewed shown1 (replies_to (store class1 ∷ running ++ pulse 1 ∷ ticks 3)) ≡ 0 ∷ 0 ∷ 0 ∷ 5 ∷ []
unfolding machine
strobe_comes_next_tick = refl

-- the word that a tick loads, and what a read gives
abbrev loaded_and_read : Reply → List ℕ
loaded_and_read r = loaded r ++ read_out r

-- [Bench.10] [Assign.4] a user sync loads the tag 10h, and scaler 0 reads 0: the misreading would read 1
pub tag_is_not_counted
    : viewed loaded_and_read (replies_to (write csr (force_sync + enable_sync) ∷ ticks 1 ++ read scaler0 ∷ [])) ≡ 0x10 ∷ 0 ∷ []
unfolding machine
tag_is_not_counted = refl

pub event_is_counted
    : viewed loaded_and_read (replies_to (store class1 ∷ running ++ event 1 ++ read scaler0 ∷ [])) ≡ in_event 5 ++ 1 ∷ []
unfolding machine
event_is_counted = refl

-- [Bench.10] [Main.13] no pulse is lost till eight words are held; then one is, until one tick after a word is finished. The
-- misreading would see no 1, or miss ticks, since its record would be spoiled
pub eight_is_full
    : viewed lost (replies_to (eight_held ++ pulse 1 ∷ acknowledge first_controller ∷ pulse 1 ∷ pulse 1 ∷ []))
    ≡ replicate 32 0 ++ 1 ∷ 0 ∷ 1 ∷ 0 ∷ []
unfolding machine
eight_is_full = refl
