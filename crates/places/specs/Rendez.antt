-- A Rendez in the memory of a state: a process goes asleep there, and the sleeper is taken off.
use Rattle.std.specs.Prelude.{◌≡◌, ◌⊎◌, ℕ, suc, ◌+◌, ◌<◌}
use Rattle.std.proofs.Math.Path.{refl, ap, subst}
use Rattle.std.proofs.Common.{sym, ◌∙◌, ⊎_elim, arith}
use Rattle.std.proofs.Math.Option.{Option, none, some}
use Rattle.std.proofs.Math.ListN.{length}
use Rattle.machine.specs.Machine.{Sizes, sleeper, asleep}
use Rattle.machine.specs.Good.{running_in}
use Rattle.machine.specs.Update.{with_sleeper}
use Rattle.layout.specs.Memory.{Memory, alter, set_field}
use Rattle.chain.specs.Lists.{all_map, all_both}
use Rattle.chain.specs.Links.{alter-same, alter-other}
use Rattle.state.specs.Fields as fields
use Rattle.state.specs.Abs.{link_to, run_list, waiter_list, timer_list, exit_list, waits_on, exit_at, process_at, machine_of}
use Rattle.state.specs.Tables.{table-length}
use Rattle.state.specs.WellFormed.{Used}
use Rattle.state.specs.Blanks.{no-wait}
use Rattle.rules.specs.Facts.{SleepsHere, WaitsHere}
use Rattle.exact.specs.Bounds.{InBounds, inside}
use Rattle.exact.specs.Parts.{sleeper_of_lem}
use Rattle.queue.specs.Other.{absent_by}
use Rattle.holds.specs.Holds.{Placed}
use Rattle.holds.specs.Parts.{table_same, table-set, asleep-sleeper}
use Rattle.places.specs.Nowhere.{Nowhere, unlinked-state, each-alter, at_or_other, waits-call, waits_alike, not-running, not-ready, state-used}
use Rattle.places.specs.Machines.{record_with}

-- The call of i is a `sleep` or a `tsleep` on Rendez r.
pub record CallsRendez (m : Memory) (r i : ℕ) : Type 0 where
  pub kind : (m fields.resume_kind i ≡ 1) ⊎ (m fields.resume_kind i ≡ 2)
  pub object : m fields.resume_object i ≡ r

not-wait : (k : ℕ) → (k ≡ 1) ⊎ (k ≡ 2) → k ≡ 4 → ⊥
not-wait k h e = ⊎_elim (λ a. omega (arith, a, e)) (λ a. omega (arith, a, e)) h

not-qlock : (k : ℕ) → (k ≡ 1) ⊎ (k ≡ 2) → k ≡ 3 → ⊥
not-qlock k h e = ⊎_elim (λ a. omega (arith, a, e)) (λ a. omega (arith, a, e)) h

-- The memory once i has state 3 and Rendez r names it.
abbrev pub sleep_mem : Memory → ℕ → ℕ → Memory
sleep_mem m i r =
    set_field (set_field m fields.sleeper_of (alter (m fields.sleeper_of) r (suc i))) fields.state_of (alter (m fields.state_of) i 3)

module _ {z : Sizes} {m : Memory} {n i r : ℕ} (b : InBounds z m) (p : Placed z m (suc n)) (w : Nowhere z m i) (c : CallsRendez m r i) (l : r < z.rendez) (e : m fields.sleeper_of r ≡ 0) where
  sleep-waits : (k : ℕ) → waits_on (sleep_mem m i r) k ≡ waits_on m k
  sleep-waits =
      at_or_other (λ (k : ℕ). waits_on (sleep_mem m i r) k ≡ waits_on m k) i
      (waits-call (sleep_mem m i r) i (not-wait (m fields.resume_kind i) c.kind) ∙ sym w.waitr)
      (λ j ne. waits_alike m (sleep_mem m i r) j (alter-other (m fields.state_of) i 3 j ne) refl)

  pub sleep-machine : machine_of z (sleep_mem m i r) ≡ with_sleeper r (some i) (machine_of z m)
  unfolding machine_of with_sleeper run_list waiter_list timer_list process_at exit_list exit_at
  sleep-machine =
      λ j. record {
        sizes = z;
        next_pid = m fields.next_pid 0;
        ticks = m fields.ticks 0;
        last_now = m fields.last_now 0;
        up = link_to (m fields.up 0);
        run = (machine_of z m).run;
        processes = table_same z.processes (process_at m) (process_at (sleep_mem m i r)) (λ k h. ap (record_with m k) (sleep-waits k)) j;
        sleepers =
            table-set z.rendez (λ k. link_to (m fields.sleeper_of k)) (λ k. link_to (alter (m fields.sleeper_of) r (suc i) k)) r (some i)
            (ap link_to (alter-same (m fields.sleeper_of) r (suc i)))
            (λ k h ne. ap link_to (alter-other (m fields.sleeper_of) r (suc i) k ne)) j;
        locks = (machine_of z m).locks;
        settings = (machine_of z m).settings;
        queued = (machine_of z m).queued;
        conditions = (machine_of z m).conditions;
      }

  -- one more is asleep
  sleep-asleep : asleep (machine_of z (sleep_mem m i r)) ≡ suc (asleep (machine_of z m))
  unfolding machine_of running_in
  sleep-asleep =
      let s : asleep (with_sleeper r (some i) (machine_of z m)) + length (running_in (sleeper (machine_of z m) r)) ≡ asleep (machine_of z m) + 1 =
      asleep-sleeper (machine_of z m) r (some i) (omega (arith, table-length z.rendez (λ k. link_to (m fields.sleeper_of k))))
      in
      let o : sleeper (machine_of z m) r ≡ none = sleeper_of_lem b r ∙ ap link_to e in
      let u : length (running_in (sleeper (machine_of z m) r)) ≡ 0 = ap (λ (x : Option ℕ). length (running_in x)) o in
      ap asleep sleep-machine ∙ omega (arith, s, u)

  pub sleep-placed : Placed z (sleep_mem m i r) n
  unfolding run_list waiter_list
  sleep-placed =
      record {
        free = λ j d. alter-other (m fields.state_of) i 3 j (λ x. omega (arith, w.used, ap (m fields.pid) x, d)) ∙ p.free j d;
        used =
            at_or_other (λ (j : ℕ). Used m j → 0 < alter (m fields.state_of) i 3 j) i
            (λ u. omega (arith, alter-same (m fields.state_of) i 3))
            (λ j ne u. omega (arith, alter-other (m fields.state_of) i 3 j ne, p.used j u));
        running = λ j d. alter-other (m fields.state_of) i 3 j (λ x. w.up (d ∙ ap suc (sym x))) ∙ p.running j d;
        run = record { queue = p.run.queue; ready = each-alter (m fields.state_of) i 3 2 (run_list z m) w.run p.run.ready };
        rendez = at_or_other (λ (k : ℕ). (j : ℕ) → alter (m fields.sleeper_of) r (suc i) k ≡ suc j → SleepsHere (sleep_mem m i r) k j) r here others;
        locks = p.locks;
        waiting = λ q. all_both (λ j ne h. waits j q ne h) (waiter_list z m q) (w.locks q) (p.waiting q);
        asleep = p.asleep ∙ omega (arith, sleep-asleep);
        unlinked = unlinked-state i 3 w.next p.unlinked;
        blanks = p.blanks;
      }
    where
      here : (j : ℕ) → alter (m fields.sleeper_of) r (suc i) r ≡ suc j → SleepsHere (sleep_mem m i r) r j
      here j d =
          let x : i ≡ j = omega (arith, alter-same (m fields.sleeper_of) r (suc i), d) in
          subst (λ (k : ℕ). SleepsHere (sleep_mem m i r) r k) x
          (record { state = alter-same (m fields.state_of) i 3; kind = c.kind; object = c.object })

      others : (k : ℕ) → (r ≡ k → ⊥) → (j : ℕ) → alter (m fields.sleeper_of) r (suc i) k ≡ suc j → SleepsHere (sleep_mem m i r) k j
      others k ne j d =
          let f : m fields.sleeper_of k ≡ suc j = sym (alter-other (m fields.sleeper_of) r (suc i) k ne) ∙ d in
          let h : SleepsHere m k j = p.rendez k j f in
          record { state = alter-other (m fields.state_of) i 3 j (λ x. w.rendez k (f ∙ ap suc (sym x))) ∙ h.state; kind = h.kind; object = h.object }

      waits : (j q : ℕ) → (i ≡ j → ⊥) → WaitsHere m q j → WaitsHere (sleep_mem m i r) q j
      waits j q ne h = record { state = alter-other (m fields.state_of) i 3 j ne ∙ h.state; kind = h.kind; object = h.object }

-- The memory once Rendez r names nobody.
abbrev pub woken_mem : Memory → ℕ → Memory
woken_mem m r = set_field m fields.sleeper_of (alter (m fields.sleeper_of) r 0)

module _ {z : Sizes} {m : Memory} {n i r : ℕ} (b : InBounds z m) (p : Placed z m n) (e : m fields.sleeper_of r ≡ suc i) where
  woken-call : SleepsHere m r i
  woken-call = p.rendez r i e

  woken-low : r < z.rendez
  woken-low = inside b fields.sleeper_of r (omega (arith, e))

  pub woken-machine : machine_of z (woken_mem m r) ≡ with_sleeper r none (machine_of z m)
  unfolding machine_of with_sleeper run_list waiter_list timer_list process_at exit_list exit_at waits_on
  woken-machine =
      λ j. record {
        sizes = z;
        next_pid = m fields.next_pid 0;
        ticks = m fields.ticks 0;
        last_now = m fields.last_now 0;
        up = link_to (m fields.up 0);
        run = (machine_of z m).run;
        processes = (machine_of z m).processes;
        sleepers =
            table-set z.rendez (λ k. link_to (m fields.sleeper_of k)) (λ k. link_to (alter (m fields.sleeper_of) r 0 k)) r none
            (ap link_to (alter-same (m fields.sleeper_of) r 0))
            (λ k h ne. ap link_to (alter-other (m fields.sleeper_of) r 0 k ne)) j;
        locks = (machine_of z m).locks;
        settings = (machine_of z m).settings;
        queued = (machine_of z m).queued;
        conditions = (machine_of z m).conditions;
      }

  -- one less is asleep
  woken-asleep : suc (asleep (machine_of z (woken_mem m r))) ≡ asleep (machine_of z m)
  unfolding machine_of running_in
  woken-asleep =
      let s : asleep (with_sleeper r none (machine_of z m)) + length (running_in (sleeper (machine_of z m) r)) ≡ asleep (machine_of z m) + 0 =
      asleep-sleeper (machine_of z m) r none (omega (arith, woken-low, table-length z.rendez (λ k. link_to (m fields.sleeper_of k))))
      in
      let o : sleeper (machine_of z m) r ≡ some i = sleeper_of_lem b r ∙ ap link_to e in
      let u : length (running_in (sleeper (machine_of z m) r)) ≡ 1 = ap (λ (x : Option ℕ). length (running_in x)) o in
      omega (arith, s, u, ap asleep woken-machine)

  -- a Rendez that names somebody then named it before, and is another
  named-before : (k j : ℕ) → woken_mem m r fields.sleeper_of k ≡ suc j → (m fields.sleeper_of k ≡ suc j) × (r ≡ k → ⊥)
  named-before k j =
      at_or_other (λ (k : ℕ). alter (m fields.sleeper_of) r 0 k ≡ suc j → (m fields.sleeper_of k ≡ suc j) × (r ≡ k → ⊥)) r
      (λ d. absurd (omega (arith, alter-same (m fields.sleeper_of) r 0, d)))
      (λ k ne d. (sym (alter-other (m fields.sleeper_of) r 0 k ne) ∙ d, ne))
      k

  pub woken-placed : Placed z (woken_mem m r) (suc n)
  unfolding run_list waiter_list
  woken-placed =
      record {
        free = p.free;
        used = p.used;
        running = p.running;
        run = record { queue = p.run.queue; ready = p.run.ready };
        rendez = λ k j d. let h : SleepsHere m k j = p.rendez k j (named-before k j d).0 in record { state = h.state; kind = h.kind; object = h.object };
        locks = p.locks;
        waiting = λ q. all_map (λ j h. record { state = h.state; kind = h.kind; object = h.object }) (waiter_list z m q) (p.waiting q);
        asleep = p.asleep ∙ omega (arith, woken-asleep);
        unlinked = p.unlinked;
        blanks = p.blanks;
      }

  -- Whoever is taken off is nowhere then.
  pub woken-nowhere : Nowhere z (woken_mem m r) i
  unfolding run_list waiter_list
  woken-nowhere =
      record {
        used = state-used p i (omega (arith, woken-call.state));
        up = not-running p i 3 woken-call.state (λ x. omega (arith, x));
        run = not-ready p i 3 woken-call.state (λ x. omega (arith, x));
        rendez = λ k d.
            let h : (m fields.sleeper_of k ≡ suc i) × (r ≡ k → ⊥) = named-before k i d in
            h.1 (sym woken-call.object ∙ (p.rendez k i h.0).object);
        locks = λ q.
            absent_by (m fields.resume_kind) (m fields.resume_kind i) 3 (not-qlock (m fields.resume_kind i) woken-call.kind) i refl (waiter_list z m q)
            (all_map (λ j h. h.kind) (waiter_list z m q) (p.waiting q));
        waitr = waits-call (woken_mem m r) i (not-wait (m fields.resume_kind i) woken-call.kind);
        next = no-wait woken-call.state (not-qlock (m fields.resume_kind i) woken-call.kind) (p.unlinked i);
      }
