-- Laws of the scalers.
--     nothing_counts    a tick that brings nothing is counted by no code
--     counted_nothing   and leaves both scalers
--     counted_none      so do signals that the code finds to be none
-- Assumes nothing.
use Rattle.std.proofs.Common.{◌≡◌, ℕ, ◌-◌, ◌^◌, ◌<◌, Bool, true, false, cond, not, ◌&&◌, ◌||◌, eqb, ltb, leb, sym, refl, ◌∙◌, arith, eqb-true}
use mathlib.Core.Bool.{false≢true}
use Rattle.bits.proofs.BitsLaws.{zero_at}
use Rattle.bits.proofs.TestLaws.{and_left, and_right, by_cond}
use Rattle.scalers.specs.Scalers.{is_none_of, counts_of, add_of, counted_of}
use Rattle.scalers.specs.declared.Scalers.{Scalers}
use Rattle.scalers.specs.declared.Signals.{Signals}

abbrev pub no_signals : Signals
no_signals =
    record {
      passed = 0;
      rejected = 0;
      accepted = 0;
      event = false;
      failed2 = false;
      failed3 = false;
      late = false;
      sync = false;
    }

both_false : (t : Bool) {p q : Bool} → p ≡ false → q ≡ false → cond t p q ≡ false
both_false t hp hq = by_cond (λ (r : Bool). r ≡ false) t (λ e. hp) (λ e. hq)

pub nothing_counts : (code : ℕ) → counts_of no_signals code ≡ false
unfolding counts_of
nothing_counts code =
    both_false (eqb code 0) refl
    (both_false (leb code 12) (zero_at (code - 1))
    (both_false (eqb code 13) refl
    (both_false (eqb code 14) refl
    (both_false (eqb code 15) refl
    (both_false (ltb code 32) refl (both_false (ltb code 48) refl (both_false (ltb code 64) refl refl)))))))

stays : (n : ℕ) → n < 2 ^ 32 → add_of false n ≡ n
stays n h = omega arith

pub counted_nothing : (s : Scalers) → s.scaler0 < 2 ^ 32 → s.scaler1 < 2 ^ 32 → counted_of no_signals s ≡ s
unfolding counted_of
counted_nothing s h0 h1 = rw (nothing_counts s.assign, stays s.scaler0 h0, stays s.scaler1 h1)

-- ---- what the code asks

no_moves : (event failed2 failed3 late sync : Bool) → not (event || (failed2 || (failed3 || (late || sync)))) ≡ true
    → record { passed = 0; rejected = 0; accepted = 0; event = event; failed2 = failed2; failed3 = failed3; late = late; sync = sync }
    ≡ no_signals
no_moves false false false false false h = refl
no_moves true failed2 failed3 late sync h = absurd (false≢true h)
no_moves false true failed3 late sync h = absurd (false≢true h)
no_moves false false true late sync h = absurd (false≢true h)
no_moves false false false true sync h = absurd (false≢true h)
no_moves false false false false true h = absurd (false≢true h)

none_is_no_signals : (x : Signals) → is_none_of x ≡ true → x ≡ no_signals
none_is_no_signals x h =
    let pulses = and_left (eqb x.passed 0 && (eqb x.rejected 0 && eqb x.accepted 0)) _ h in
    let others = and_right (eqb x.passed 0) _ pulses in
    let passed = eqb-true _ 0 (and_left (eqb x.passed 0) _ pulses) in
    let rejected = eqb-true _ 0 (and_left (eqb x.rejected 0) _ others) in
    let accepted = eqb-true _ 0 (and_right (eqb x.rejected 0) _ others) in
    (λ j.
    record {
      passed = passed j;
      rejected = rejected j;
      accepted = accepted j;
      event = x.event;
      failed2 = x.failed2;
      failed3 = x.failed3;
      late = x.late;
      sync = x.sync;
    })
    ∙ no_moves x.event x.failed2 x.failed3 x.late x.sync
    (and_right (eqb x.passed 0 && (eqb x.rejected 0 && eqb x.accepted 0)) _ h)

pub counted_none : (x : Signals) (s : Scalers) → is_none_of x ≡ true → s.scaler0 < 2 ^ 32 → s.scaler1 < 2 ^ 32
    → s ≡ counted_of x s
counted_none x s h h0 h1 = rw (none_is_no_signals x h) (sym (counted_nothing s h0 h1))
