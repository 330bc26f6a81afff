-- Laws of the scheduled sync and of the user sync.
--     after_load_keeps_limit    a load keeps the count at most 65,534, for any interval of 16 bits
--     sync_load_keeps_count     a load that is a sync event leaves the counter as it is
--     interval_one_is_due       with interval 1 each event is a sync event
--     user_step_by_choices      what the code computes is the move's step
--     user_tag_exactly, user_ends_exactly, user_waits_exactly   when a tag is loaded, a wait ends, one waits on
-- Assumes nothing.
use Rattle.std.specs.Prelude.{if◌then◌else◌}
use Prim.Native.Nat.{ℕ, ◌+◌, ◌<◌, ◌≤◌}
use mathlib.Core.Path.{◌≡◌, refl, sym, ap}
use mathlib.Core.Bool.{Bool, true, false, not, ◌&&◌, ◌||◌, false≢true}
use native.Mathlib.Omega.{arith}
use borrow.Author.Tests.{leb-false, le-leb}
use Rattle.bits.specs.Notation.{◌▷◌}
use Rattle.sync.specs.SyncCounter.{count_limit, with_count, is_counting, reaches_interval, is_due, after_load_of}
use Rattle.sync.specs.UserSync.{move_of, step_by, step_of}
use Rattle.sync.specs.declared.counter.SyncCounter.{SyncCounter}
use Rattle.sync.specs.declared.user.UserSync.{UserSync}
use Rattle.sync.specs.declared.user.UserStep.{UserStep}

-- ---- the scheduled sync

pub after_load_keeps_limit : (enabled : Bool) (c : SyncCounter) → c.interval < 65536 → c.count ≤ count_limit
    → (after_load_of enabled c).count ≤ count_limit
unfolding after_load_of
after_load_keeps_limit enabled c h k = go (reaches_interval c) (is_counting enabled c) refl
  where
    go : (reaches counting : Bool) → reaches_interval c ≡ reaches
        → (if not reaches && counting then c ▷ with_count (c.count + 1) else c).count ≤ count_limit
    go true counting e = k
    go false true e = omega (arith, leb-false c.interval (c.count + 1) e)
    go false false e = k

-- [Main.10] DECISIONS S1
pub sync_load_keeps_count : (enabled : Bool) (c : SyncCounter) → is_due enabled c ≡ true → after_load_of enabled c ≡ c
unfolding after_load_of
sync_load_keeps_count enabled c h = go (is_counting enabled c) (reaches_interval c) h
  where
    go : (counting reaches : Bool) → (counting && reaches) ≡ true
        → (if not reaches && counting then c ▷ with_count (c.count + 1) else c) ≡ c
    go true true e = refl
    go true false e = absurd (false≢true e)
    go false reaches e = absurd (false≢true e)

-- [Bench.7]
pub interval_one_is_due : (count : ℕ) → is_due true (record { interval = 1; count = count }) ≡ true
interval_one_is_due count = le-leb 1 (count + 1) (omega arith)

-- ---- the user sync: the three bools of the code are its moves

abbrev chosen : (wanted idle empty waiting : Bool) → UserStep
chosen wanted idle empty waiting =
    record {
      next = record { waiting = (not waiting && (wanted && idle)) || (waiting && not empty) };
      tag = not waiting && (wanted && idle);
      ended = waiting && empty;
    }

pub user_step_by_choices : (wanted idle empty waiting : Bool)
    → chosen wanted idle empty waiting
    ≡ step_by (move_of wanted idle empty waiting) (record { waiting = waiting })
user_step_by_choices wanted idle true true = refl
user_step_by_choices wanted idle false true = refl
user_step_by_choices true true empty false = refl
user_step_by_choices true false empty false = refl
user_step_by_choices false idle empty false = refl

module _ (wanted idle empty : Bool) (u : UserSync) where
  as_bools : step_of wanted idle empty u ≡ chosen wanted idle empty u.waiting
  unfolding step_of
  as_bools = sym (user_step_by_choices wanted idle empty u.waiting)

  -- [Usersync.1] a tag is loaded exactly where one is wanted, main is Idle and none waits
  pub user_tag_exactly : (step_of wanted idle empty u).tag ≡ (not u.waiting && (wanted && idle))
  user_tag_exactly = ap (λ (s : UserStep). s.tag) as_bools

  -- [Usersync.2] a wait ends exactly where every branch is empty
  pub user_ends_exactly : (step_of wanted idle empty u).ended ≡ (u.waiting && empty)
  user_ends_exactly = ap (λ (s : UserStep). s.ended) as_bools

  pub user_waits_exactly : (step_of wanted idle empty u).next.waiting
      ≡ ((not u.waiting && (wanted && idle)) || (u.waiting && not empty))
  user_waits_exactly = ap (λ (s : UserStep). s.next.waiting) as_bools
