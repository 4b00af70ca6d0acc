-- A lock in the memory of a state: a process is queued for it, the first waiter is taken off, and it is held or freed.
use Rattle.std.specs.Prelude.{◌≡◌, List, [], ◌∷◌, ◌++◌, ℕ, suc, ◌+◌, ◌<◌}
use Rattle.std.proofs.Math.Path.{refl, ap}
use Rattle.std.proofs.Common.{sym, subst, ◌∙◌, ⊎_elim, arith}
use Rattle.std.proofs.Math.ListN.{length}
use Rattle.machine.specs.Machine.{Sizes, Lock, lock, asleep}
use Rattle.machine.specs.Good.{Each}
use Rattle.machine.specs.Update.{with_lock}
use Rattle.layout.specs.Memory.{Memory, alter, set_field}
use Rattle.lists.specs.Lists.{each_append}
use Rattle.chain.specs.Lists.{Absent, all_map, all_both}
use Rattle.chain.specs.Links.{Queue, push_links, push_first, pop_last, queue-push, queue-pop, chain-walk, alter-same, alter-other}
use Rattle.state.specs.Fields as fields
use Rattle.state.specs.Abs.{link_to, run_list, waiter_list, timer_list, exit_list, waits_on, exit_at, process_at, machine_of}
use Rattle.state.specs.Tables.{table-length}
use Rattle.state.specs.WellFormed.{Used}
use Rattle.state.specs.Blanks.{is_linked-waits}
use Rattle.rules.specs.Facts.{SleepsHere, WaitsHere}
use Rattle.exact.specs.Bounds.{InBounds, inside}
use Rattle.exact.specs.Parts.{lock_of}
use Rattle.queue.specs.Other.{Apart, LinkAbsent, absent_by, apart_by, final-absent, after_push, queue-alter}
use Rattle.holds.specs.Holds.{Placed}
use Rattle.holds.specs.Parts.{table_same, table-set, asleep-lock}
use Rattle.places.specs.Nowhere.{Nowhere, unlinked-state, unlinked-pop, unlinked-push, each-alter, at_or_other, waits-call, waits_alike, not-running, not-ready, state-used, waiting-state}
use Rattle.places.specs.Machines.{record_with, lock_with}

-- The call of i is a `qlock` of lock q.
pub record CallsLock (m : Memory) (q i : ℕ) : Type 0 where
  pub kind : m fields.resume_kind i ≡ 3
  pub object : m fields.resume_object i ≡ q

-- Those who wait for q, by their calls.
waiting_for : {z : Sizes} {m : Memory} {n : ℕ} → Placed z m n → (q : ℕ) → Each (λ i. m fields.resume_object i ≡ q) (waiter_list z m q)
waiting_for {z} {m} p q = all_map (λ i w. w.object) (waiter_list z m q) (p.waiting q)

-- The link to the last of a queue names nobody of a list that is apart from it.
tail-absent : (t : ℕ) {g : ℕ → ℕ} {c h : ℕ} {xs : List ℕ} (ys : List ℕ) → Queue c g h t xs → Apart xs ys → LinkAbsent t ys
tail-absent t {xs = xs} ys q a =
    subst (λ (k : ℕ). LinkAbsent k ys) (sym q.ends) (final-absent 0 xs ys (λ j e. absurd (omega (arith, e))) a)

-- The memory once i has state 3 and stands last in the queue of lock q.
abbrev pub enqueue_mem : Memory → ℕ → ℕ → Memory
enqueue_mem m q i =
    set_field
    (set_field
    (set_field (set_field m fields.next (push_links (m fields.next) (m fields.lock_tail q) i))
    fields.lock_head (alter (m fields.lock_head) q (push_first (m fields.lock_head q) (m fields.lock_tail q) i)))
    fields.lock_tail (alter (m fields.lock_tail) q (suc i)))
    fields.state_of (alter (m fields.state_of) i 3)

module _ {z : Sizes} {m : Memory} {n q i : ℕ} (b : InBounds z m) (p : Placed z m (suc n)) (w : Nowhere z m i) (c : CallsLock m q i) (l : i < z.processes) (h : q < z.locks) where
  queue_after_lem : Queue z.processes (enqueue_mem m q i fields.next) (push_first (m fields.lock_head q) (m fields.lock_tail q) i) (suc i) (waiter_list z m q ++ i ∷ [])
  queue_after_lem = queue-push i l (w.locks q) (p.locks q)

  run-kept : Queue z.processes (enqueue_mem m q i fields.next) (m fields.run_head 0) (m fields.run_tail 0) (run_list z m)
  run-kept =
      after_push (m fields.lock_tail q) i
      (tail-absent (m fields.lock_tail q) (run_list z m) (p.locks q)
      (apart_by (m fields.state_of) 3 2 (λ e. omega (arith, e)) (waiter_list z m q) (run_list z m) (waiting-state p q) p.run.ready))
      w.run p.run.queue

  pub enqueue-run : run_list z (enqueue_mem m q i) ≡ run_list z m
  unfolding run_list
  enqueue-run = chain-walk run-kept.chain

  abbrev head_then : ℕ → ℕ
  head_then k = alter (m fields.lock_head) q (push_first (m fields.lock_head q) (m fields.lock_tail q) i) k

  abbrev tail_then : ℕ → ℕ
  tail_then k = alter (m fields.lock_tail) q (suc i) k

  -- who waits for each lock then
  abbrev LockThen : ℕ → List ℕ → Type 0
  LockThen k xs = Queue z.processes (enqueue_mem m q i fields.next) (head_then k) (tail_then k) xs

  this_lock : LockThen q (waiter_list z m q ++ i ∷ [])
  this_lock =
      rw (alter-same (m fields.lock_head) q (push_first (m fields.lock_head q) (m fields.lock_tail q) i), alter-same (m fields.lock_tail) q (suc i)) queue_after_lem

  other-lock : (k : ℕ) → (q ≡ k → ⊥) → LockThen k (waiter_list z m k)
  other-lock k ne =
      rw (alter-other (m fields.lock_head) q (push_first (m fields.lock_head q) (m fields.lock_tail q) i) k ne, alter-other (m fields.lock_tail) q (suc i) k ne)
      (after_push (m fields.lock_tail q) i
      (tail-absent (m fields.lock_tail q) (waiter_list z m k) (p.locks q)
      (apart_by (m fields.resume_object) q k ne (waiter_list z m q) (waiter_list z m k) (waiting_for p q) (waiting_for p k)))
      (w.locks k) (p.locks k))

  pub enqueue_this : waiter_list z (enqueue_mem m q i) q ≡ waiter_list z m q ++ i ∷ []
  unfolding waiter_list
  enqueue_this = chain-walk this_lock.chain

  pub enqueue-other : (k : ℕ) → (q ≡ k → ⊥) → waiter_list z (enqueue_mem m q i) k ≡ waiter_list z m k
  unfolding waiter_list
  enqueue-other k ne = chain-walk (other-lock k ne).chain

  enqueue-waits : (k : ℕ) → waits_on (enqueue_mem m q i) k ≡ waits_on m k
  enqueue-waits =
      at_or_other (λ (k : ℕ). waits_on (enqueue_mem m q i) k ≡ waits_on m k) i
      (waits-call (enqueue_mem m q i) i (λ e. omega (arith, e, c.kind)) ∙ sym w.waitr)
      (λ j ne. waits_alike m (enqueue_mem m q i) j (alter-other (m fields.state_of) i 3 j ne) refl)

  pub enqueue-machine : machine_of z (enqueue_mem m q i) ≡ with_lock q (lock_with (m fields.held q) (waiter_list z m q ++ i ∷ [])) (machine_of z m)
  unfolding machine_of with_lock timer_list process_at exit_list exit_at
  enqueue-machine =
      λ j. record {
        sizes = z;
        next_pid = m fields.next_pid 0;
        ticks = m fields.ticks 0;
        last_now = m fields.last_now 0;
        up = link_to (m fields.up 0);
        run = enqueue-run j;
        processes = table_same z.processes (process_at m) (process_at (enqueue_mem m q i)) (λ k _. ap (record_with m k) (enqueue-waits k)) j;
        sleepers = (machine_of z m).sleepers;
        locks =
            table-set z.locks (λ k. lock_with (m fields.held k) (waiter_list z m k)) (λ k. lock_with (m fields.held k) (waiter_list z (enqueue_mem m q i) k)) q
            (lock_with (m fields.held q) (waiter_list z m q ++ i ∷ []))
            (ap (lock_with (m fields.held q)) enqueue_this)
            (λ k _ ne. ap (lock_with (m fields.held k)) (enqueue-other k ne)) j;
        settings = (machine_of z m).settings;
        queued = (machine_of z m).queued;
        conditions = (machine_of z m).conditions;
      }

  enqueue-asleep : asleep (machine_of z (enqueue_mem m q i)) ≡ suc (asleep (machine_of z m))
  unfolding machine_of
  enqueue-asleep =
      let v : Lock = lock_with (m fields.held q) (waiter_list z m q ++ i ∷ []) in
      let s : asleep (with_lock q v (machine_of z m)) + length (lock (machine_of z m) q).waiters ≡ asleep (machine_of z m) + length (waiter_list z m q ++ i ∷ []) =
      asleep-lock (machine_of z m) q v (omega (arith, table-length z.locks (λ k. lock_with (m fields.held k) (waiter_list z m k))))
      in
      let u : length (lock (machine_of z m) q).waiters ≡ length (waiter_list z m q) = ap (λ (x : Lock). length x.waiters) (lock_of b q) in
      ap asleep enqueue-machine ∙ omega (arith, s, u, length-end (waiter_list z m q) i)
    where
      length-end : (xs : List ℕ) (x : ℕ) → length (xs ++ x ∷ []) ≡ suc (length xs)
      length-end [] x = refl
      length-end (y ∷ xs) x = ap suc (length-end xs x)

  pub enqueue-placed : Placed z (enqueue_mem m q i) n
  enqueue-placed =
      record {
        free = λ j d. alter-other (m fields.state_of) i 3 j (λ x. omega (arith, w.used, ap (m fields.pid) x, d)) ∙ p.free j d;
        used =
            at_or_other (λ (j : ℕ). Used m j → 0 < alter (m fields.state_of) i 3 j) i
            (λ u. omega (arith, alter-same (m fields.state_of) i 3))
            (λ j ne u. omega (arith, alter-other (m fields.state_of) i 3 j ne, p.used j u));
        running = λ j d. alter-other (m fields.state_of) i 3 j (λ x. w.up (d ∙ ap suc (sym x))) ∙ p.running j d;
        run =
            record {
              queue =
                  subst (λ (xs : List ℕ). Queue z.processes (enqueue_mem m q i fields.next) (m fields.run_head 0) (m fields.run_tail 0) xs)
                  (sym enqueue-run) run-kept;
              ready =
                  subst (λ (xs : List ℕ). Each (λ j. alter (m fields.state_of) i 3 j ≡ 2) xs) (sym enqueue-run)
                  (each-alter (m fields.state_of) i 3 2 (run_list z m) w.run p.run.ready);
            };
        rendez = λ r j d. sleeps r j d;
        locks =
            at_or_other (λ (k : ℕ). LockThen k (waiter_list z (enqueue_mem m q i) k)) q
            (subst (LockThen q) (sym enqueue_this) this_lock)
            (λ k ne. subst (LockThen k) (sym (enqueue-other k ne)) (other-lock k ne));
        waiting =
            at_or_other (λ (k : ℕ). Each (WaitsHere (enqueue_mem m q i) k) (waiter_list z (enqueue_mem m q i) k)) q
            (subst (λ (xs : List ℕ). Each (WaitsHere (enqueue_mem m q i) q) xs) (sym enqueue_this)
            (each_append (WaitsHere (enqueue_mem m q i) q) (waiter_list z m q) (i ∷ []) (others q)
            (record { state = alter-same (m fields.state_of) i 3; kind = c.kind; object = c.object }, tt)))
            (λ k ne. subst (λ (xs : List ℕ). Each (WaitsHere (enqueue_mem m q i) k) xs) (sym (enqueue-other k ne)) (others k));
        asleep = p.asleep ∙ omega (arith, enqueue-asleep);
        unlinked =
            unlinked-push (m fields.lock_tail q) i (waiter_list z m q) (p.locks q).ends
            (all_map (λ j s. is_linked-waits (alter (m fields.state_of) i 3 j) (m fields.resume_kind j) s.state s.kind) (waiter_list z m q) (others q))
            (is_linked-waits (alter (m fields.state_of) i 3 i) (m fields.resume_kind i) (alter-same (m fields.state_of) i 3) c.kind)
            (unlinked-state i 3 w.next p.unlinked);
        blanks = p.blanks;
      }
    where
      sleeps : (r j : ℕ) → m fields.sleeper_of r ≡ suc j → SleepsHere (enqueue_mem m q i) r j
      sleeps r j d =
          let s : SleepsHere m r j = p.rendez r j d in
          record { state = alter-other (m fields.state_of) i 3 j (λ x. w.rendez r (d ∙ ap suc (sym x))) ∙ s.state; kind = s.kind; object = s.object }

      others : (k : ℕ) → Each (WaitsHere (enqueue_mem m q i) k) (waiter_list z m k)
      others k =
          all_both (λ j ne s. record { state = alter-other (m fields.state_of) i 3 j ne ∙ s.state; kind = s.kind; object = s.object })
          (waiter_list z m k) (w.locks k) (p.waiting k)

-- The memory once the first waiter of lock q, i, is taken off.
abbrev pub dequeue_mem : Memory → ℕ → ℕ → Memory
dequeue_mem m q i =
    set_field
    (set_field (set_field m fields.next (alter (m fields.next) i 0)) fields.lock_head (alter (m fields.lock_head) q (m fields.next i)))
    fields.lock_tail (alter (m fields.lock_tail) q (pop_last (m fields.next i) (m fields.lock_tail q)))

module _ {z : Sizes} {m : Memory} {n i : ℕ} (b : InBounds z m) (p : Placed z m n) (q : ℕ) (xs : List ℕ) (x : waiter_list z m q ≡ i ∷ xs) where
  first-waits : WaitsHere m q i
  first-waits = (subst (λ (ys : List ℕ). Each (WaitsHere m q) ys) x (p.waiting q)).0

  queue-before : Queue z.processes (m fields.next) (m fields.lock_head q) (m fields.lock_tail q) (i ∷ xs)
  queue-before = subst (λ (ys : List ℕ). Queue z.processes (m fields.next) (m fields.lock_head q) (m fields.lock_tail q) ys) x (p.locks q)

  lock-low : q < z.locks
  lock-low = inside b fields.lock_head q (omega (arith, queue-before.chain.links.0))

  abbrev head_left : ℕ → ℕ
  head_left k = alter (m fields.lock_head) q (m fields.next i) k

  abbrev tail_left : ℕ → ℕ
  tail_left k = alter (m fields.lock_tail) q (pop_last (m fields.next i) (m fields.lock_tail q)) k

  abbrev LockLeft : ℕ → List ℕ → Type 0
  LockLeft k ys = Queue z.processes (dequeue_mem m q i fields.next) (head_left k) (tail_left k) ys

  this_left : LockLeft q xs
  this_left =
      rw (alter-same (m fields.lock_head) q (m fields.next i), alter-same (m fields.lock_tail) q (pop_last (m fields.next i) (m fields.lock_tail q)))
      (queue-pop queue-before)

  absent-other : (k : ℕ) → (q ≡ k → ⊥) → Absent i (waiter_list z m k)
  absent-other k ne = absent_by (m fields.resume_object) q k ne i first-waits.object (waiter_list z m k) (waiting_for p k)

  other-left : (k : ℕ) → (q ≡ k → ⊥) → LockLeft k (waiter_list z m k)
  other-left k ne =
      rw (alter-other (m fields.lock_head) q (m fields.next i) k ne, alter-other (m fields.lock_tail) q (pop_last (m fields.next i) (m fields.lock_tail q)) k ne)
      (queue-alter i 0 (absent-other k ne) (p.locks k))

  absent-run : Absent i (run_list z m)
  absent-run = not-ready p i 3 first-waits.state (λ e. omega (arith, e))

  run-left : Queue z.processes (dequeue_mem m q i fields.next) (m fields.run_head 0) (m fields.run_tail 0) (run_list z m)
  run-left = queue-alter i 0 absent-run p.run.queue

  pub dequeue-run : run_list z (dequeue_mem m q i) ≡ run_list z m
  unfolding run_list
  dequeue-run = chain-walk run-left.chain

  pub dequeue_this : waiter_list z (dequeue_mem m q i) q ≡ xs
  unfolding waiter_list
  dequeue_this = chain-walk this_left.chain

  pub dequeue-other : (k : ℕ) → (q ≡ k → ⊥) → waiter_list z (dequeue_mem m q i) k ≡ waiter_list z m k
  unfolding waiter_list
  dequeue-other k ne = chain-walk (other-left k ne).chain

  pub dequeue-machine : machine_of z (dequeue_mem m q i) ≡ with_lock q (lock_with (m fields.held q) xs) (machine_of z m)
  unfolding machine_of with_lock timer_list process_at exit_list exit_at waits_on
  dequeue-machine =
      λ j. record {
        sizes = z;
        next_pid = m fields.next_pid 0;
        ticks = m fields.ticks 0;
        last_now = m fields.last_now 0;
        up = link_to (m fields.up 0);
        run = dequeue-run j;
        processes = (machine_of z m).processes;
        sleepers = (machine_of z m).sleepers;
        locks =
            table-set z.locks (λ k. lock_with (m fields.held k) (waiter_list z m k)) (λ k. lock_with (m fields.held k) (waiter_list z (dequeue_mem m q i) k)) q
            (lock_with (m fields.held q) xs)
            (ap (lock_with (m fields.held q)) dequeue_this)
            (λ k _ ne. ap (lock_with (m fields.held k)) (dequeue-other k ne)) j;
        settings = (machine_of z m).settings;
        queued = (machine_of z m).queued;
        conditions = (machine_of z m).conditions;
      }

  dequeue-asleep : suc (asleep (machine_of z (dequeue_mem m q i))) ≡ asleep (machine_of z m)
  unfolding machine_of
  dequeue-asleep =
      let v : Lock = lock_with (m fields.held q) xs in
      let s : asleep (with_lock q v (machine_of z m)) + length (lock (machine_of z m) q).waiters ≡ asleep (machine_of z m) + length xs =
      asleep-lock (machine_of z m) q v (omega (arith, lock-low, table-length z.locks (λ k. lock_with (m fields.held k) (waiter_list z m k))))
      in
      let u : length (lock (machine_of z m) q).waiters ≡ suc (length xs) =
      ap (λ (y : Lock). length y.waiters) (lock_of b q) ∙ ap length x
      in
      omega (arith, s, u, ap asleep dequeue-machine)

  pub dequeue-placed : Placed z (dequeue_mem m q i) (suc n)
  dequeue-placed =
      record {
        free = p.free;
        used = p.used;
        running = p.running;
        run =
            record {
              queue =
                  subst (λ (ys : List ℕ). Queue z.processes (dequeue_mem m q i fields.next) (m fields.run_head 0) (m fields.run_tail 0) ys)
                  (sym dequeue-run) run-left;
              ready = subst (λ (ys : List ℕ). Each (λ j. m fields.state_of j ≡ 2) ys) (sym dequeue-run) p.run.ready;
            };
        rendez = λ r j d. let s : SleepsHere m r j = p.rendez r j d in record { state = s.state; kind = s.kind; object = s.object };
        locks =
            at_or_other (λ (k : ℕ). LockLeft k (waiter_list z (dequeue_mem m q i) k)) q
            (subst (LockLeft q) (sym dequeue_this) this_left)
            (λ k ne. subst (LockLeft k) (sym (dequeue-other k ne)) (other-left k ne));
        waiting =
            at_or_other (λ (k : ℕ). Each (WaitsHere (dequeue_mem m q i) k) (waiter_list z (dequeue_mem m q i) k)) q
            (subst (λ (ys : List ℕ). Each (WaitsHere (dequeue_mem m q i) q) ys) (sym dequeue_this)
            (same q xs (subst (λ (ys : List ℕ). Each (WaitsHere m q) ys) x (p.waiting q)).1))
            (λ k ne. subst (λ (ys : List ℕ). Each (WaitsHere (dequeue_mem m q i) k) ys) (sym (dequeue-other k ne)) (same k (waiter_list z m k) (p.waiting k)));
        asleep = p.asleep ∙ omega (arith, dequeue-asleep);
        unlinked = unlinked-pop i p.unlinked;
        blanks = p.blanks;
      }
    where
      same : (k : ℕ) (ys : List ℕ) → Each (WaitsHere m k) ys → Each (WaitsHere (dequeue_mem m q i) k) ys
      same k ys h = all_map (λ j s. record { state = s.state; kind = s.kind; object = s.object }) ys h

  -- Whoever is taken off is nowhere then.
  pub dequeue-nowhere : Nowhere z (dequeue_mem m q i) i
  dequeue-nowhere =
      record {
        used = state-used p i (omega (arith, first-waits.state));
        up = not-running p i 3 first-waits.state (λ e. omega (arith, e));
        run = subst (λ (ys : List ℕ). Absent i ys) (sym dequeue-run) absent-run;
        rendez = λ r d.
            ⊎_elim (λ a. omega (arith, a, first-waits.kind)) (λ a. omega (arith, a, first-waits.kind)) (p.rendez r i d).kind;
        locks =
            at_or_other (λ (k : ℕ). Absent i (waiter_list z (dequeue_mem m q i) k)) q
            (subst (λ (ys : List ℕ). Absent i ys) (sym dequeue_this) queue-before.chain.distinct.0)
            (λ k ne. subst (λ (ys : List ℕ). Absent i ys) (sym (dequeue-other k ne)) (absent-other k ne));
        waitr = waits-call (dequeue_mem m q i) i (λ e. omega (arith, e, first-waits.kind));
        next = alter-same (m fields.next) i 0;
      }

-- The memory once lock q is held, or not.
abbrev pub held_mem : Memory → ℕ → ℕ → Memory
held_mem m q v = set_field m fields.held (alter (m fields.held) q v)

module _ {z : Sizes} {m : Memory} {n : ℕ} (p : Placed z m n) (q v : ℕ) where
  pub held-machine : machine_of z (held_mem m q v) ≡ with_lock q (lock_with v (waiter_list z m q)) (machine_of z m)
  unfolding machine_of with_lock run_list waiter_list timer_list process_at exit_list exit_at waits_on
  held-machine =
      λ j. record {
        sizes = z;
        next_pid = m fields.next_pid 0;
        ticks = m fields.ticks 0;
        last_now = m fields.last_now 0;
        up = link_to (m fields.up 0);
        run = (machine_of z m).run;
        processes = (machine_of z m).processes;
        sleepers = (machine_of z m).sleepers;
        locks =
            table-set z.locks (λ k. lock_with (m fields.held k) (waiter_list z m k)) (λ k. lock_with (alter (m fields.held) q v k) (waiter_list z m k)) q
            (lock_with v (waiter_list z m q))
            (ap (λ (a : ℕ). lock_with a (waiter_list z m q)) (alter-same (m fields.held) q v))
            (λ k _ ne. ap (λ (a : ℕ). lock_with a (waiter_list z m k)) (alter-other (m fields.held) q v k ne)) j;
        settings = (machine_of z m).settings;
        queued = (machine_of z m).queued;
        conditions = (machine_of z m).conditions;
      }

module _ {z : Sizes} {m : Memory} {n q : ℕ} (b : InBounds z m) (p : Placed z m n) (l : q < z.locks) (v : ℕ) where
  pub held-placed : Placed z (held_mem m q v) n
  unfolding machine_of run_list waiter_list
  held-placed =
      let s : asleep (with_lock q (lock_with v (waiter_list z m q)) (machine_of z m)) + length (lock (machine_of z m) q).waiters ≡ asleep (machine_of z m) + length (waiter_list z m q) =
      asleep-lock (machine_of z m) q (lock_with v (waiter_list z m q)) (omega (arith, table-length z.locks (λ k. lock_with (m fields.held k) (waiter_list z m k))))
      in
      let u : length (lock (machine_of z m) q).waiters ≡ length (waiter_list z m q) = ap (λ (x : Lock). length x.waiters) (lock_of b q) in
      record {
        free = p.free;
        used = p.used;
        running = p.running;
        run = record { queue = p.run.queue; ready = p.run.ready };
        rendez = λ r j d. let h : SleepsHere m r j = p.rendez r j d in record { state = h.state; kind = h.kind; object = h.object };
        locks = p.locks;
        waiting = λ k. all_map (λ j h. record { state = h.state; kind = h.kind; object = h.object }) (waiter_list z m k) (p.waiting k);
        asleep = p.asleep ∙ omega (arith, s, u, ap asleep (held-machine p q v));
        unlinked = p.unlinked;
        blanks = p.blanks;
      }
