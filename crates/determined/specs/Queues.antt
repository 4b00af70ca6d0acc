-- The queues of processes and of timers in two memories of one machine.
use Rattle.std.specs.Prelude.{◌≡◌, refl, Bool, true, false, ◌&&◌, map, ℕ, ◌≤◌, ◌<◌, eqb}
use Rattle.std.proofs.Common.{sym, ap₂, ◌∙◌, ⊎_elim, arith, eqb-true}
use Rattle.std.proofs.Math.Path.{ap}
use Rattle.machine.specs.Basics.{count}
use Rattle.machine.specs.Machine.{Sizes, Machine, Queued}
use Rattle.layout.specs.Memory.{Memory}
use Rattle.state.specs.Fields as fields
use Rattle.state.specs.Abs.{run_list, waiter_list, timer_list, machine_of}
use Rattle.state.specs.WellFormed.{Used, is_linked}
use Rattle.exact.proofs.FactsGood.{queued_at, timers-back}
use Rattle.exact.specs.Resumes.{or_true}
use Rattle.exact.specs.Sums.{sum-some}
use Rattle.lists.specs.Lists.{bit, each-count}
use Rattle.determined.specs.Chains.{LinksSame, same-chain, same-last, map_same}
use Rattle.determined.specs.Twins.{Twins, Same, formed-spots}
use Rattle.determined.specs.Plain.{same-run, same-waiters}
use Rattle.determined.specs.Records.{same-call, same-state}

module _ {z : Sizes} {m m' : Memory} (w : Twins z m m') where
  -- The run queue, and the queue of lock q.
  pub run-links : LinksSame (m fields.next) (m' fields.next) (m fields.run_head 0) (m' fields.run_head 0) (run_list z m)
  run-links = same-chain (same-run w) w.one.keeps.placed.run.queue.chain w.two.keeps.placed.run.queue.chain

  pub same-run_tail : m' fields.run_tail 0 ≡ m fields.run_tail 0
  same-run_tail = same-last (same-run w) w.one.keeps.placed.run.queue w.two.keeps.placed.run.queue

  pub lock-links : (q : ℕ) → LinksSame (m fields.next) (m' fields.next) (m fields.lock_head q) (m' fields.lock_head q) (waiter_list z m q)
  lock-links q = same-chain (same-waiters w q) (w.one.keeps.placed.locks q).chain (w.two.keeps.placed.locks q).chain

  pub same-lock_tail : Same m m' fields.lock_tail
  same-lock_tail q = same-last (same-waiters w q) (w.one.keeps.placed.locks q) (w.two.keeps.placed.locks q)

  -- The link of who is ready, of who waits for a lock, and of anyone else.
  next_ready : (i : ℕ) → m fields.state_of i ≡ 2 → m' fields.next i ≡ m fields.next i
  next_ready i e = run-links.member i (omega (arith, (formed-spots w.one).ready i, ap (λ (s : ℕ). bit (eqb s 2)) e))

  next-waiting : (i : ℕ) → (eqb (m fields.state_of i) 3 && eqb (m fields.resume_kind i) 3) ≡ true → m' fields.next i ≡ m fields.next i
  next-waiting i e =
      let q : (q : ℕ) × (q < z.locks) × (1 ≤ count i (waiter_list z m q)) =
      sum-some z.locks (λ (q : ℕ). count i (waiter_list z m q)) (omega (arith, (formed-spots w.one).queueing i, ap bit e))
      in
      (lock-links q.0).member i q.2

  -- Together: the link of a record in use.
  pub same_next : (i : ℕ) → Used m i → m' fields.next i ≡ m fields.next i
  same_next i u = go (is_linked (m fields.state_of i) (m fields.resume_kind i)) refl
    where
      go : (b : Bool) → is_linked (m fields.state_of i) (m fields.resume_kind i) ≡ b → m' fields.next i ≡ m fields.next i
      go true e =
          ⊎_elim (λ d. next_ready i (eqb-true (m fields.state_of i) 2 d)) (next-waiting i)
          (or_true (eqb (m fields.state_of i) 2) (eqb (m fields.state_of i) 3 && eqb (m fields.resume_kind i) 3) e)
      go false e =
          (w.two.keeps.placed.unlinked i).zero (ap₂ is_linked (same-state w i) (same-call w i u).kind ∙ e)
          ∙ sym ((w.one.keeps.placed.unlinked i).zero e)

  -- The timer queue: its timers, their deadlines, and its links.
  queued-same : map (queued_at m') (timer_list z m') ≡ map (queued_at m) (timer_list z m)
  unfolding machine_of
  queued-same = ap (λ (x : Machine). x.queued) w.machine

  pub same-timers : timer_list z m' ≡ timer_list z m
  same-timers =
      sym (timers-back m' (timer_list z m')) ∙ ap (map (λ (x : Queued). x.timer)) queued-same ∙ timers-back m (timer_list z m)

  pub timer_links_lem : LinksSame (m fields.timer_next) (m' fields.timer_next) (m fields.timer_head 0) (m' fields.timer_head 0) (timer_list z m)
  timer_links_lem = same-chain same-timers w.one.keeps.timed.chain w.two.keeps.timed.chain

  -- A timer's flag says whether it stands there.
  pub same-queued : Same m m' fields.is_queued
  same-queued t = w.two.keeps.timed.queued t ∙ ap (count t) same-timers ∙ sym (w.one.keeps.timed.queued t)

  -- A queued timer stands in the queue.
  stands : (t : ℕ) → 0 < m fields.is_queued t → 1 ≤ count t (timer_list z m)
  stands t u = omega (arith, w.one.keeps.timed.queued t)

  -- Its link, and its deadline.
  pub same-timer_next : (t : ℕ) → 0 < m fields.is_queued t → m' fields.timer_next t ≡ m fields.timer_next t
  same-timer_next t u = timer_links_lem.member t (stands t u)

  pub same-deadline : (t : ℕ) → 0 < m fields.is_queued t → m' fields.deadline t ≡ m fields.deadline t
  same-deadline t u =
      ap (λ (x : Queued). x.deadline)
      (each-count (λ t. queued_at m' t ≡ queued_at m t) (timer_list z m)
      (map_same (queued_at m) (queued_at m') (timer_list z m) (ap (map (queued_at m')) (sym same-timers) ∙ queued-same)) t (stands t u))
