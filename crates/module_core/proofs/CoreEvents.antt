-- What a tick of the core is to an event: it accepts one, loads a tag, or lets main go on. CoreLaws proves that every
-- tick is one of the three.
--     EventStep              the three, by main's state before and after
--     event_step_balances    accepted events are cleared, loaded or undecided
--     undecided_follows      the account's rule of the undecided event follows main's state
-- Assumes nothing.
use Rattle.std.specs.Prelude.{◌≡◌, ℕ, ◌+◌, Bool, true, false, not, ◌&&◌, ◌||◌}
use mathlib.Core.Path.{refl, sym}
use mathlib.Core.Bool.{true≢false}
use native.Mathlib.Omega.{arith}
use Rattle.bits.specs.Bits.{one_if_of}
use Rattle.sequencer.specs.States.{is_undecided, is_cleared, is_event, is_tag}
use Rattle.sequencer.specs.declared.states.State.{State}
use Rattle.sequencer.specs.declared.states.State.TheVariants.{Idle}
use Rattle.sequencer.specs.declared.states.Outcome.{Outcome}
use Rattle.sequencer.specs.declared.states.Outcome.TheVariants.{Nothing, Cleared, Event, Tag}

-- g and g' are main's state before and after, accepted says that the mask is not 0
pub data EventStep : (g g' : State) (accepted : Bool) → Outcome → Type 0 where
  accepts : {g g' : State} → g ≡ Idle → is_undecided g' ≡ true → EventStep g g' true Nothing
  tags : {g g' : State} {w : ℕ} → g ≡ Idle → g' ≡ Idle → EventStep g g' false (Tag w)
  goes_on : {g g' : State} {o : Outcome} → is_tag o ≡ false
      → one_if_of (is_undecided g) ≡ one_if_of (is_cleared o) + one_if_of (is_event o) + one_if_of (is_undecided g')
      → EventStep g g' false o

-- [Account.13] [Account.14] accepted events are cleared, loaded or undecided
pub event_step_balances : {g g' : State} {accepted : Bool} {o : Outcome} → EventStep g g' accepted o
    → one_if_of (is_undecided g) + one_if_of accepted
    ≡ one_if_of (is_cleared o) + one_if_of (is_event o) + one_if_of (is_undecided g')
event_step_balances (accepts e u) = rw (e, u)
event_step_balances (tags e e') = rw (e, e')
event_step_balances (goes_on t d) = omega arith

goes_on_lem : (o : Outcome) (before after : Bool) → is_tag o ≡ false
    → one_if_of before ≡ one_if_of (is_cleared o) + one_if_of (is_event o) + one_if_of after
    → (not (is_cleared o || (is_event o || is_tag o)) && before) ≡ after
goes_on_lem Nothing true true t d = refl
goes_on_lem Nothing true false t d = absurd (omega arith)
goes_on_lem Nothing false true t d = absurd (omega arith)
goes_on_lem Nothing false false t d = refl
goes_on_lem Cleared true true t d = absurd (omega arith)
goes_on_lem Cleared before false t d = refl
goes_on_lem Cleared false true t d = absurd (omega arith)
goes_on_lem (Event w) true true t d = absurd (omega arith)
goes_on_lem (Event w) before false t d = refl
goes_on_lem (Event w) false true t d = absurd (omega arith)
goes_on_lem (Tag w) before after t d = absurd (true≢false t)

-- [Account.13] [Account.14] [Account.18] nothing is undecided after cleared, event or tag; else what was or is accepted
pub undecided_follows : {g g' : State} {accepted : Bool} {o : Outcome} → EventStep g g' accepted o
    → (not (is_cleared o || (is_event o || is_tag o)) && (accepted || is_undecided g)) ≡ is_undecided g'
undecided_follows (accepts e u) = sym u
undecided_follows (tags e e') = rw e'
undecided_follows {g} {g'} {accepted} {o} (goes_on t d) = goes_on_lem o (is_undecided g) (is_undecided g') t d
