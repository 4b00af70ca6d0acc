-- The run queue, and a lock's queue: what the walk of it decides.
use Rattle.std.specs.Prelude.{◌≡◌, Option, Some, None, ℕ, ◌≤◌, length}
use Rattle.std.proofs.Common.{subst}
use Rattle.layout.specs.Memory.{Memory}
use Rattle.chain.specs.Lists.{distinct-fits}
use Rattle.chain.specs.Links.{walk}
use Rattle.state.specs.Fields as fields
use Rattle.state.specs.Abs.{run_list, waiter_list}
use Rattle.state.specs.Places.{sizes_in}
use Rattle.state.specs.declared.Sizes.{Sizes}
use Rattle.rules.specs.Facts.{RunOk, LockOk}
use Rattle.scan.specs.declared.Line.TheVariants.{Run, Lock}
use Rattle.scan.specs.Lines.{Lined, LineWalked}

-- The run queue: how many stand in it, where it is right.
abbrev pub RunWalked : Sizes → Memory → Option ℕ → Type 0
RunWalked z m None = RunOk (sizes_in z) m → ⊥
RunWalked z m (Some k) = RunOk (sizes_in z) m × (length (run_list (sizes_in z) m) ≡ k)

lined_run : (z : Sizes) (m : Memory) → Lined z.processes m Run z.processes (m fields.run_head 0) (m fields.run_tail 0) → RunOk (sizes_in z) m
unfolding run_list
lined_run z m l = record { queue = l.queue; ready = l.each }

run_lined : (z : Sizes) (m : Memory) → RunOk (sizes_in z) m → Lined z.processes m Run z.processes (m fields.run_head 0) (m fields.run_tail 0)
unfolding run_list
run_lined z m r =
    record {
      queue = r.queue;
      each = r.ready;
      few =
          distinct-fits z.processes (walk z.processes (m fields.next) (m fields.run_head 0)) r.queue.chain.distinct
          r.queue.chain.below;
    }

pub run_walked
    : (z : Sizes) (m : Memory) (h t : ℕ) (r : Option ℕ)
    → h ≡ m fields.run_head 0
    → t ≡ m fields.run_tail 0
    → LineWalked z.processes m Run z.processes h t r
    → RunWalked z m r
unfolding run_list
run_walked z m h t r a b w =
    go r
    (subst (λ (x : ℕ). LineWalked z.processes m Run z.processes (m fields.run_head 0) x r) b
    (subst (λ (x : ℕ). LineWalked z.processes m Run z.processes x t r) a w))
  where
    go : (r : Option ℕ) → LineWalked z.processes m Run z.processes (m fields.run_head 0) (m fields.run_tail 0) r → RunWalked z m r
    go None w = λ o. w (run_lined z m o)
    go (Some k) w = (lined_run z m w.0, w.1)

-- A lock: with waiters it is held; and it is right with at most so many.
pub record HeldOk (m : Memory) (q : ℕ) : Type 0 where
  pub held : m fields.held q ≡ 0 → m fields.lock_head q ≡ 0

pub record LockFits (z : Sizes) (m : Memory) (q left : ℕ) : Type 0 where
  pub lock : LockOk (sizes_in z) m q
  pub few : length (waiter_list (sizes_in z) m q) ≤ left

-- How many wait for it, where it is.
abbrev pub LockWalked : Sizes → Memory → ℕ → ℕ → Option ℕ → Type 0
LockWalked z m q left None = LockFits z m q left → ⊥
LockWalked z m q left (Some k) = LockFits z m q left × (length (waiter_list (sizes_in z) m q) ≡ k)

pub lock-unheld : {z : Sizes} {m : Memory} {q left : ℕ} → (HeldOk m q → ⊥) → LockFits z m q left → ⊥
lock-unheld k l = k (record { held = l.lock.held })

lined_lock
    : (z : Sizes) (m : Memory) (q left : ℕ)
    → HeldOk m q
    → Lined z.processes m (Lock q) left (m fields.lock_head q) (m fields.lock_tail q)
    → LockFits z m q left
unfolding waiter_list
lined_lock z m q left h l = record { lock = record { queue = l.queue; waiting = l.each; held = h.held }; few = l.few }

lock_lined
    : (z : Sizes) (m : Memory) (q left : ℕ)
    → LockFits z m q left
    → Lined z.processes m (Lock q) left (m fields.lock_head q) (m fields.lock_tail q)
unfolding waiter_list
lock_lined z m q left l = record { queue = l.lock.queue; each = l.lock.waiting; few = l.few }

pub lock_walked
    : (z : Sizes) (m : Memory) (q left h t : ℕ) (r : Option ℕ)
    → HeldOk m q
    → h ≡ m fields.lock_head q
    → t ≡ m fields.lock_tail q
    → LineWalked z.processes m (Lock q) left h t r
    → LockWalked z m q left r
unfolding waiter_list
lock_walked z m q left h t r k a b w =
    go r
    (subst (λ (x : ℕ). LineWalked z.processes m (Lock q) left (m fields.lock_head q) x r) b
    (subst (λ (x : ℕ). LineWalked z.processes m (Lock q) left x t r) a w))
  where
    go : (r : Option ℕ) → LineWalked z.processes m (Lock q) left (m fields.lock_head q) (m fields.lock_tail q) r → LockWalked z m q left r
    go None w = λ o. w (lock_lined z m q left o)
    go (Some c) w = (lined_lock z m q left k w.0, w.1)
