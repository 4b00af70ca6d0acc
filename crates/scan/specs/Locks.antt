-- All locks, with as many waiters as there are.
use Rattle.std.specs.Prelude.{◌≡◌, refl, Bool, IsTrue, ◌↔◌, Option, Some, None, ℕ, zero, suc, ◌+◌, ◌-◌, ◌≤◌, ◌<◌, eqb, length}
use Rattle.std.specs.Option.{option_eq}
use Rattle.std.proofs.lemmas.Bool.{false≢true}
use Rattle.std.proofs.Common.{sym, ◌∙◌, eq-eqb, eqb-true, subst, ⊎_elim, not-suc-le-zero, le_of_suc-le-suc, eq-or-lt_of_le, add-one, arith, below_more}
use Rattle.machine.specs.Machine as machine
use Rattle.layout.specs.Memory.{Memory}
use Rattle.state.specs.Abs.{waiter_list}
use Rattle.state.specs.Places.{sizes_in}
use Rattle.state.specs.declared.Sizes.{Sizes}
use Rattle.rules.specs.Facts.{sum_below, LockOk}
use Rattle.scan.specs.Queues.{LockWalked}

abbrev pub waiters : machine.Sizes → Memory → ℕ → ℕ
waiters z m q = length (waiter_list z m q)

-- Each lock is right, and so many wait in all.
pub record LocksOk (z : machine.Sizes) (m : Memory) (total : ℕ) : Type 0 where
  pub each : (q : ℕ) → q < z.locks → LockOk z m q
  pub sum : sum_below z.locks (waiters z m) ≡ total

sum_rises : (f : ℕ → ℕ) (i n : ℕ) → i ≤ n → sum_below i f ≤ sum_below n f
unfolding sum_below
sum_rises f i zero l = let e : i ≡ 0 = omega arith in rw e (omega arith)
sum_rises f i (suc n) l =
    ⊎_elim (λ e. rw e (omega arith)) (λ k. step (sum_rises f i n (le_of_suc-le-suc k))) (eq-or-lt_of_le l)
  where
    step : sum_below i f ≤ sum_below n f → sum_below i f ≤ sum_below n f + f n
    step h = omega arith

-- The locks below q are right, and `left` of the total are not yet met.
pub record Locking (z : Sizes) (m : Memory) (total left q : ℕ) : Type 0 where
  pub within : q ≤ z.locks
  pub each : (j : ℕ) → j < q → LockOk (sizes_in z) m j
  pub sum : sum_below q (waiters (sizes_in z) m) + left ≡ total

pub locking_start : {z : Sizes} {m : Memory} {total : ℕ} → Locking z m total total 0
unfolding sum_below
locking_start = record { within = omega arith; each = λ j l. absurd (not-suc-le-zero l); sum = omega arith }

-- the sum with one lock more
sum_more : (f : ℕ → ℕ) (q : ℕ) → sum_below (suc q) f ≡ sum_below q f + f q
unfolding sum_below
sum_more f q = refl

pub locking_more
    : {z : Sizes} {m : Memory} {total left q count : ℕ}
    → Locking z m total left q
    → q < z.locks
    → LockWalked z m q left (Some count)
    → Locking z m total (left - count) (q + 1)
locking_more {z} {m} {total} {left} {q} {count} p h k =
    record {
      within = omega arith;
      each = below_more (LockOk (sizes_in z) m) q p.each k.0.lock;
      sum = rw (add-one q) (omega (arith, p.sum, sum_more (waiters (sizes_in z) m) q, k.0.few, k.1));
    }

pub locking_bad
    : {z : Sizes} {m : Memory} {total left q : ℕ}
    → Locking z m total left q
    → q < z.locks
    → LockWalked z m q left None
    → LocksOk (sizes_in z) m total
    → ⊥
locking_bad {z} {m} {total} {left} {q} p h k o =
    k
    (record {
      lock = o.each q h;
      few = omega (arith, p.sum, o.sum, sum_more (waiters (sizes_in z) m) q, sum_rises (waiters (sizes_in z) m) (suc q) z.locks h);
    })

-- What the loop over all locks answers: how many of the total it did not meet, where each lock is right.
abbrev pub Unmet : Sizes → Memory → ℕ → Option ℕ → Type 0
Unmet z m total None = LocksOk (sizes_in z) m total → ⊥
Unmet z m total (Some left) = Locking z m total left z.locks

pub locking_end
    : {z : Sizes} {m : Memory} {total left q : ℕ}
    → Locking z m total left q
    → z.locks ≤ q
    → Unmet z m total (Some left)
locking_end {z} {m} {total} {left} {q} p l = subst (λ (x : ℕ). Locking z m total left x) (omega (arith, p.within)) p

-- The locks are right, and so many wait in all, exactly where none is left.
pub unmet_none
    : {z : Sizes} {m : Memory} {total : ℕ} (r : Option ℕ) (b : Bool)
    → Unmet z m total r
    → b ≡ option_eq eqb r (Some 0)
    → IsTrue b ↔ LocksOk (sizes_in z) m total
unmet_none None b w e = (λ t. absurd (false≢true (sym e ∙ t)), λ o. absurd (w o))
unmet_none (Some left) b w e = (
  λ t. let d : left ≡ 0 = eqb-true left 0 (sym e ∙ t) in record { each = w.each; sum = omega (arith, w.sum, d) },
  λ o. e ∙ eq-eqb left 0 (omega (arith, w.sum, o.sum)),
)
