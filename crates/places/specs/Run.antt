-- The run queue in the memory of a state: a process is readied, and the first is taken off.
use Rattle.std.specs.Prelude.{◌≡◌, refl, List, [], ◌∷◌, ◌++◌, ℕ, suc, ◌+◌, ◌<◌}
use Rattle.std.proofs.Common.{sym, ◌∙◌, arith}
use Rattle.std.proofs.Math.Path.{ap, subst}
use Rattle.machine.specs.Machine.{Sizes, Machine, asleep, asleep_on}
use Rattle.machine.specs.Good.{Each}
use Rattle.machine.specs.Update.{with_run}
use Rattle.machine.specs.Places.{ready}
use Rattle.layout.specs.Memory.{Memory, alter, set_field}
use Rattle.lists.specs.Lists.{each_append}
use Rattle.chain.specs.Lists.{Absent, Distinct, all_map, all_both}
use Rattle.chain.specs.Links.{Queue, push_links, push_first, pop_last, queue-push, queue-pop, chain-walk, alter-same, alter-other}
use Rattle.state.specs.Fields as fields
use Rattle.state.specs.Abs.{table, link_to, run_list, waiter_list, timer_list, exit_list, waits_on, exit_at, process_at, machine_of}
use Rattle.state.specs.WellFormed.{Used}
use Rattle.state.specs.Blanks.{is_linked-ready}
use Rattle.rules.specs.Facts.{SleepsHere, WaitsHere}
use Rattle.queue.specs.Other.{Apart, LinkAbsent, apart_by, final-absent, after_push, queue-alter}
use Rattle.holds.specs.Holds.{Placed}
use Rattle.holds.specs.Parts.{table_same}
use Rattle.places.specs.Nowhere.{Nowhere, unlinked-state, unlinked-pop, unlinked-push, each-alter, at_or_other, waits-state, waits_alike, waiting-state, not-running, not-asleep, not-waiting, state-used}
use Rattle.places.specs.Machines.{record_with, locks-same}

-- The memory once i has state 2 and stands last in the run queue.
abbrev pub ready_mem : Memory → ℕ → Memory
ready_mem m i =
    set_field
    (set_field
    (set_field (set_field m fields.next (push_links (m fields.next) (m fields.run_tail 0) i))
    fields.run_head (alter (m fields.run_head) 0 (push_first (m fields.run_head 0) (m fields.run_tail 0) i)))
    fields.run_tail (alter (m fields.run_tail) 0 (suc i)))
    fields.state_of (alter (m fields.state_of) i 2)

module _ {z : Sizes} {m : Memory} {n i : ℕ} (p : Placed z m n) (w : Nowhere z m i) (l : i < z.processes) where
  run-after : Queue z.processes (ready_mem m i fields.next) (ready_mem m i fields.run_head 0) (ready_mem m i fields.run_tail 0) (run_list z m ++ i ∷ [])
  run-after = queue-push i l w.run p.run.queue

  pub ready-run : run_list z (ready_mem m i) ≡ run_list z m ++ i ∷ []
  unfolding run_list
  ready-run = chain-walk run-after.chain

  -- the other queues are apart from it
  lock-after : (q : ℕ) → Queue z.processes (ready_mem m i fields.next) (m fields.lock_head q) (m fields.lock_tail q) (waiter_list z m q)
  lock-after q =
      let ys : List ℕ = waiter_list z m q in
      let a : Apart (run_list z m) ys =
      apart_by (m fields.state_of) 2 3 (λ e. omega (arith, e)) (run_list z m) ys p.run.ready (waiting-state p q)
      in
      let u : LinkAbsent (m fields.run_tail 0) ys =
      subst (λ (k : ℕ). LinkAbsent k ys) (sym p.run.queue.ends) (final-absent 0 (run_list z m) ys (λ j e. absurd (omega (arith, e))) a)
      in
      after_push (m fields.run_tail 0) i u (w.locks q) (p.locks q)

  pub ready-waiters : (q : ℕ) → waiter_list z (ready_mem m i) q ≡ waiter_list z m q
  unfolding waiter_list
  ready-waiters q = chain-walk (lock-after q).chain

  ready-waits : (k : ℕ) → waits_on (ready_mem m i) k ≡ waits_on m k
  ready-waits =
      at_or_other (λ (k : ℕ). waits_on (ready_mem m i) k ≡ waits_on m k) i
      (waits-state (ready_mem m i) i (λ e. omega (arith, alter-same (m fields.state_of) i 2, e)) ∙ sym w.waitr)
      (λ j ne. waits_alike m (ready_mem m i) j (alter-other (m fields.state_of) i 2 j ne) refl)

  pub ready-machine : machine_of z (ready_mem m i) ≡ ready i (machine_of z m)
  unfolding machine_of ready with_run process_at timer_list exit_list exit_at
  ready-machine =
      λ j. record {
        sizes = z;
        next_pid = m fields.next_pid 0;
        ticks = m fields.ticks 0;
        last_now = m fields.last_now 0;
        up = link_to (m fields.up 0);
        run = ready-run j;
        processes = table_same z.processes (process_at m) (process_at (ready_mem m i)) (λ k l. ap (record_with m k) (ready-waits k)) j;
        sleepers = table z.rendez (λ r. link_to (m fields.sleeper_of r));
        locks = locks-same z.locks (m fields.held) (waiter_list z m) (waiter_list z (ready_mem m i)) ready-waiters j;
        settings = (machine_of z m).settings;
        queued = (machine_of z m).queued;
        conditions = (machine_of z m).conditions;
      }

  pub ready-placed : Placed z (ready_mem m i) n
  unfolding ready with_run asleep asleep_on
  ready-placed =
      record {
        free = λ j e. alter-other (m fields.state_of) i 2 j (λ d. dead j e d) ∙ p.free j e;
        used =
            at_or_other (λ (j : ℕ). Used m j → 0 < alter (m fields.state_of) i 2 j) i
            (λ u. omega (arith, alter-same (m fields.state_of) i 2))
            (λ j ne u. omega (arith, alter-other (m fields.state_of) i 2 j ne, p.used j u));
        running = λ j e. alter-other (m fields.state_of) i 2 j (λ d. w.up (e ∙ ap suc (sym d))) ∙ p.running j e;
        run =
            record {
              queue =
                  subst (λ (xs : List ℕ). Queue z.processes (ready_mem m i fields.next) (ready_mem m i fields.run_head 0) (suc i) xs)
                  (sym ready-run) run-after;
              ready =
                  subst (λ (xs : List ℕ). Each (λ j. alter (m fields.state_of) i 2 j ≡ 2) xs) (sym ready-run)
                  (each_append (λ (j : ℕ). alter (m fields.state_of) i 2 j ≡ 2) (run_list z m) (i ∷ [])
                  (each-alter (m fields.state_of) i 2 2 (run_list z m) w.run p.run.ready)
                  (alter-same (m fields.state_of) i 2, tt));
            };
        rendez = λ r j e. sleeps r j e;
        locks = λ q.
            subst (λ (xs : List ℕ). Queue z.processes (ready_mem m i fields.next) (m fields.lock_head q) (m fields.lock_tail q) xs)
            (sym (ready-waiters q)) (lock-after q);
        waiting = λ q.
            subst (λ (xs : List ℕ). Each (WaitsHere (ready_mem m i) q) xs) (sym (ready-waiters q))
            (all_both (λ j ne h. waits j q ne h) (waiter_list z m q) (w.locks q) (p.waiting q));
        asleep = p.asleep ∙ ap (λ (k : Machine). n + asleep k) (sym ready-machine);
        unlinked =
            unlinked-push (m fields.run_tail 0) i (run_list z m) p.run.queue.ends
            (all_map (λ j e. is_linked-ready (alter (m fields.state_of) i 2 j) (m fields.resume_kind j) e) (run_list z m)
            (each-alter (m fields.state_of) i 2 2 (run_list z m) w.run p.run.ready))
            (is_linked-ready (alter (m fields.state_of) i 2 i) (m fields.resume_kind i) (alter-same (m fields.state_of) i 2))
            (unlinked-state i 2 w.next p.unlinked);
        blanks = p.blanks;
      }
    where
      dead : (j : ℕ) → m fields.pid j ≡ 0 → i ≡ j → ⊥
      dead j e d = omega (arith, w.used, ap (m fields.pid) d, e)

      sleeps : (r j : ℕ) → m fields.sleeper_of r ≡ suc j → SleepsHere (ready_mem m i) r j
      sleeps r j e =
          let h : SleepsHere m r j = p.rendez r j e in
          record { state = alter-other (m fields.state_of) i 2 j (λ d. w.rendez r (e ∙ ap suc (sym d))) ∙ h.state; kind = h.kind; object = h.object }

      waits : (j q : ℕ) → (i ≡ j → ⊥) → WaitsHere m q j → WaitsHere (ready_mem m i) q j
      waits j q ne h = record { state = alter-other (m fields.state_of) i 2 j ne ∙ h.state; kind = h.kind; object = h.object }

-- The memory once the first of the run queue, i, is taken off.
abbrev pub next_mem : Memory → ℕ → Memory
next_mem m i =
    set_field
    (set_field (set_field m fields.next (alter (m fields.next) i 0)) fields.run_head (alter (m fields.run_head) 0 (m fields.next i)))
    fields.run_tail (alter (m fields.run_tail) 0 (pop_last (m fields.next i) (m fields.run_tail 0)))

module _ {z : Sizes} {m : Memory} {n i : ℕ} (p : Placed z m n) (xs : List ℕ) (x : run_list z m ≡ i ∷ xs) where
  state-before : m fields.state_of i ≡ 2
  state-before = (subst (λ (ys : List ℕ). Each (λ j. m fields.state_of j ≡ 2) ys) x p.run.ready).0

  run-rest : Queue z.processes (next_mem m i fields.next) (next_mem m i fields.run_head 0) (next_mem m i fields.run_tail 0) xs
  run-rest =
      queue-pop (subst (λ (ys : List ℕ). Queue z.processes (m fields.next) (m fields.run_head 0) (m fields.run_tail 0) ys) x p.run.queue)

  pub next-run : run_list z (next_mem m i) ≡ xs
  unfolding run_list
  next-run = chain-walk run-rest.chain

  absent-lock : (q : ℕ) → Absent i (waiter_list z m q)
  absent-lock q = not-waiting p i 2 state-before (λ e. omega (arith, e)) q

  lock-rest : (q : ℕ) → Queue z.processes (next_mem m i fields.next) (m fields.lock_head q) (m fields.lock_tail q) (waiter_list z m q)
  lock-rest q = queue-alter i 0 (absent-lock q) (p.locks q)

  pub next-waiters : (q : ℕ) → waiter_list z (next_mem m i) q ≡ waiter_list z m q
  unfolding waiter_list
  next-waiters q = chain-walk (lock-rest q).chain

  pub next-machine : machine_of z (next_mem m i) ≡ with_run xs (machine_of z m)
  unfolding machine_of with_run process_at timer_list exit_list exit_at waits_on
  next-machine =
      λ j. record {
        sizes = z;
        next_pid = m fields.next_pid 0;
        ticks = m fields.ticks 0;
        last_now = m fields.last_now 0;
        up = link_to (m fields.up 0);
        run = next-run j;
        processes = (machine_of z m).processes;
        sleepers = (machine_of z m).sleepers;
        locks = locks-same z.locks (m fields.held) (waiter_list z m) (waiter_list z (next_mem m i)) next-waiters j;
        settings = (machine_of z m).settings;
        queued = (machine_of z m).queued;
        conditions = (machine_of z m).conditions;
      }

  pub next-placed : Placed z (next_mem m i) n
  unfolding with_run asleep asleep_on
  next-placed =
      record {
        free = p.free;
        used = p.used;
        running = p.running;
        run =
            record {
              queue =
                  subst
                  (λ (ys : List ℕ). Queue z.processes (next_mem m i fields.next) (next_mem m i fields.run_head 0) (next_mem m i fields.run_tail 0) ys)
                  (sym next-run) run-rest;
              ready =
                  subst (λ (ys : List ℕ). Each (λ j. m fields.state_of j ≡ 2) ys) (sym next-run)
                  (subst (λ (ys : List ℕ). Each (λ j. m fields.state_of j ≡ 2) ys) x p.run.ready).1;
            };
        rendez = λ r j e. let h : SleepsHere m r j = p.rendez r j e in record { state = h.state; kind = h.kind; object = h.object };
        locks = λ q.
            subst (λ (ys : List ℕ). Queue z.processes (next_mem m i fields.next) (m fields.lock_head q) (m fields.lock_tail q) ys)
            (sym (next-waiters q)) (lock-rest q);
        waiting = λ q.
            subst (λ (ys : List ℕ). Each (WaitsHere (next_mem m i) q) ys) (sym (next-waiters q))
            (all_map (λ j h. record { state = h.state; kind = h.kind; object = h.object }) (waiter_list z m q) (p.waiting q));
        asleep = p.asleep ∙ ap (λ (k : Machine). n + asleep k) (sym next-machine);
        unlinked = unlinked-pop i p.unlinked;
        blanks = p.blanks;
      }

  -- Whoever is taken off is nowhere then.
  pub next-nowhere : Nowhere z (next_mem m i) i
  next-nowhere =
      record {
        used = state-used p i (omega (arith, state-before));
        up = not-running p i 2 state-before (λ e. omega (arith, e));
        run =
            subst (λ (ys : List ℕ). Absent i ys) (sym next-run)
            (subst (λ (ys : List ℕ). Distinct ys) x p.run.queue.chain.distinct).0;
        rendez = not-asleep p i 2 state-before (λ e. omega (arith, e));
        locks = λ q. subst (λ (ys : List ℕ). Absent i ys) (sym (next-waiters q)) (absent-lock q);
        waitr = waits-state (next_mem m i) i (λ e. omega (arith, e, state-before));
        next = alter-same (m fields.next) i 0;
      }
