-- Who runs, who sleeps on the own waitr, where a call goes on, and how many are asleep, in the memory of a state.
use Rattle.std.specs.Prelude.{◌≡◌, ◌⊎◌, ℕ, suc, ◌+◌, ◌<◌}
use Rattle.std.proofs.Math.Path.{refl, ap, subst}
use Rattle.std.proofs.Common.{sym, ◌∙◌, arith}
use Rattle.std.proofs.Math.Option.{none, some}
use Rattle.lists.specs.Lists.{bit}
use Rattle.machine.specs.Machine.{Sizes, Machine, Process, process, asleep, asleep_on}
use Rattle.machine.specs.Good.{Each}
use Rattle.machine.specs.Update.{with_up, with_process, with_resume}
use Rattle.layout.specs.Memory.{Memory, alter, set_field}
use Rattle.chain.specs.Lists.{all_map, all_both}
use Rattle.chain.specs.Links.{alter-same, alter-other}
use Rattle.state.specs.Fields as fields
use Rattle.state.specs.Abs.{link_to, resume_of, run_list, waiter_list, timer_list, exit_list, waits_on, exit_at, process_at, machine_of}
use Rattle.state.specs.Tables.{table-length}
use Rattle.state.specs.WellFormed.{Used, Blank}
use Rattle.state.specs.Blanks.{no-link}
use Rattle.rules.specs.Facts.{SleepsHere, WaitsHere}
use Rattle.exact.specs.Bounds.{InBounds, inside}
use Rattle.exact.specs.Parts.{used_at, used_at_lem, used_of}
use Rattle.holds.specs.Holds.{Placed}
use Rattle.holds.specs.Parts.{table_same, table-set, asleep-process}
use Rattle.places.specs.Nowhere.{Nowhere, unlinked-state, unlinked-call, blanks-call, each-alter, at_or_other, waits-state, waits_alike, not-ready, not-asleep, not-waiting, state-used}
use Rattle.places.specs.Machines.{record_with}

-- asleep is stored anew: one more, or one less, is owed.
abbrev pub asleep_mem : Memory → ℕ → Memory
asleep_mem m v = set_field m fields.asleep_count (alter (m fields.asleep_count) 0 v)

module _ {z : Sizes} {m : Memory} {n : ℕ} (p : Placed z m n) (v k : ℕ) where
  pub asleep-machine : machine_of z (asleep_mem m v) ≡ machine_of z m
  unfolding machine_of run_list waiter_list timer_list process_at exit_list exit_at waits_on
  asleep-machine = refl

  pub asleep-placed : v + n ≡ m fields.asleep_count 0 + k → Placed z (asleep_mem m v) k
  unfolding run_list waiter_list
  asleep-placed e =
      record {
        free = p.free;
        used = p.used;
        running = p.running;
        run = record { queue = p.run.queue; ready = p.run.ready };
        rendez = λ r j d. let h : SleepsHere m r j = p.rendez r j d in record { state = h.state; kind = h.kind; object = h.object };
        locks = p.locks;
        waiting = λ q. all_map (λ j h. record { state = h.state; kind = h.kind; object = h.object }) (waiter_list z m q) (p.waiting q);
        asleep = omega (arith, e, p.asleep, ap asleep asleep-machine);
        unlinked = p.unlinked;
        blanks = p.blanks;
      }

pub asleep-nowhere : {z : Sizes} {m : Memory} {i : ℕ} (v : ℕ) → Nowhere z m i → Nowhere z (asleep_mem m v) i
unfolding run_list waiter_list waits_on
asleep-nowhere v w = record { used = w.used; up = w.up; run = w.run; rendez = w.rendez; locks = w.locks; waitr = w.waitr; next = w.next }

-- Nobody runs.
abbrev pub stop_mem : Memory → Memory
stop_mem m = set_field m fields.up (alter (m fields.up) 0 0)

module _ {z : Sizes} {m : Memory} {n : ℕ} (p : Placed z m n) where
  pub stop-machine : machine_of z (stop_mem m) ≡ with_up none (machine_of z m)
  unfolding machine_of with_up run_list waiter_list timer_list process_at exit_list exit_at waits_on
  stop-machine = refl

  pub stop-placed : Placed z (stop_mem m) n
  unfolding run_list waiter_list with_up asleep asleep_on
  stop-placed =
      record {
        free = p.free;
        used = p.used;
        running = λ i e. absurd (omega (arith, e));
        run = record { queue = p.run.queue; ready = p.run.ready };
        rendez = λ r j d. let h : SleepsHere m r j = p.rendez r j d in record { state = h.state; kind = h.kind; object = h.object };
        locks = p.locks;
        waiting = λ q. all_map (λ j h. record { state = h.state; kind = h.kind; object = h.object }) (waiter_list z m q) (p.waiting q);
        asleep = p.asleep ∙ ap (λ (k : Machine). n + asleep k) (sym stop-machine);
        unlinked = p.unlinked;
        blanks = p.blanks;
      }

  -- Whoever ran is nowhere then.
  pub stop-nowhere : (i : ℕ) → m fields.up 0 ≡ suc i → Nowhere z (stop_mem m) i
  unfolding run_list waiter_list waits_on
  stop-nowhere i u =
      let e : m fields.state_of i ≡ 1 = p.running i u in
      record {
        used = state-used p i (omega (arith, e));
        up = λ d. omega (arith, d);
        run = not-ready p i 1 e (λ d. omega (arith, d));
        rendez = not-asleep p i 1 e (λ d. omega (arith, d));
        locks = not-waiting p i 1 e (λ d. omega (arith, d));
        waitr = waits-state m i (λ d. omega (arith, d, e));
        next = no-link (λ d. omega (arith, d, e)) (λ d. omega (arith, d, e)) (p.unlinked i);
      }

-- A state stored at i, for all who are elsewhere: what the steps into a place share.
module _ {z : Sizes} {m : Memory} {n i : ℕ} (p : Placed z m n) (w : Nowhere z m i) (v : ℕ) where
  abbrev stated : Memory
  stated = set_field m fields.state_of (alter (m fields.state_of) i v)

  pub stated_free : (j : ℕ) → m fields.pid j ≡ 0 → alter (m fields.state_of) i v j ≡ 0
  stated_free j e = alter-other (m fields.state_of) i v j (λ d. omega (arith, w.used, ap (m fields.pid) d, e)) ∙ p.free j e

  pub stated_used : 0 < v → (j : ℕ) → Used m j → 0 < alter (m fields.state_of) i v j
  stated_used h =
      at_or_other (λ (j : ℕ). Used m j → 0 < alter (m fields.state_of) i v j) i
      (λ u. omega (arith, h, alter-same (m fields.state_of) i v))
      (λ j ne u. omega (arith, alter-other (m fields.state_of) i v j ne, p.used j u))

  pub stated_running : (j : ℕ) → m fields.up 0 ≡ suc j → alter (m fields.state_of) i v j ≡ 1
  stated_running j e = alter-other (m fields.state_of) i v j (λ d. w.up (e ∙ ap suc (sym d))) ∙ p.running j e

  pub stated_sleeps : (r j : ℕ) → m fields.sleeper_of r ≡ suc j → SleepsHere stated r j
  stated_sleeps r j e =
      let h : SleepsHere m r j = p.rendez r j e in
      record { state = alter-other (m fields.state_of) i v j (λ d. w.rendez r (e ∙ ap suc (sym d))) ∙ h.state; kind = h.kind; object = h.object }

  pub stated_waits : (q : ℕ) → Each (WaitsHere stated q) (waiter_list z m q)
  stated_waits q =
      all_both (λ j ne h. record { state = alter-other (m fields.state_of) i v j ne ∙ h.state; kind = h.kind; object = h.object })
      (waiter_list z m q) (w.locks q) (p.waiting q)

-- The process i runs.
abbrev pub run_mem : Memory → ℕ → Memory
run_mem m i = set_field (set_field m fields.up (alter (m fields.up) 0 (suc i))) fields.state_of (alter (m fields.state_of) i 1)

module _ {z : Sizes} {m : Memory} {n i : ℕ} (p : Placed z m n) (w : Nowhere z m i) where
  run-waits : (k : ℕ) → waits_on (run_mem m i) k ≡ waits_on m k
  run-waits =
      at_or_other (λ (k : ℕ). waits_on (run_mem m i) k ≡ waits_on m k) i
      (waits-state (run_mem m i) i (λ e. omega (arith, alter-same (m fields.state_of) i 1, e)) ∙ sym w.waitr)
      (λ j ne. waits_alike m (run_mem m i) j (alter-other (m fields.state_of) i 1 j ne) refl)

  pub run-machine : machine_of z (run_mem m i) ≡ with_up (some i) (machine_of z m)
  unfolding machine_of with_up run_list waiter_list timer_list process_at exit_list exit_at
  run-machine =
      λ j. record {
        sizes = z;
        next_pid = m fields.next_pid 0;
        ticks = m fields.ticks 0;
        last_now = m fields.last_now 0;
        up = some i;
        run = (machine_of z m).run;
        processes = table_same z.processes (process_at m) (process_at (run_mem m i)) (λ k h. ap (record_with m k) (run-waits k)) j;
        sleepers = (machine_of z m).sleepers;
        locks = (machine_of z m).locks;
        settings = (machine_of z m).settings;
        queued = (machine_of z m).queued;
        conditions = (machine_of z m).conditions;
      }

  pub run-placed : Placed z (run_mem m i) n
  unfolding run_list waiter_list with_up asleep asleep_on
  run-placed =
      record {
        free = stated_free p w 1;
        used = stated_used p w 1 (omega arith);
        running = λ j e. subst (λ (k : ℕ). alter (m fields.state_of) i 1 k ≡ 1) (omega (arith, e)) (alter-same (m fields.state_of) i 1);
        run = record { queue = p.run.queue; ready = each-alter (m fields.state_of) i 1 2 (run_list z m) w.run p.run.ready };
        rendez = λ r j e. let h = stated_sleeps p w 1 r j e in record { state = h.state; kind = h.kind; object = h.object };
        locks = p.locks;
        waiting = λ q. all_map (λ j h. record { state = h.state; kind = h.kind; object = h.object }) (waiter_list z m q) (stated_waits p w 1 q);
        asleep = p.asleep ∙ ap (λ (k : Machine). n + asleep k) (sym run-machine);
        unlinked = unlinked-state i 1 w.next p.unlinked;
        blanks = p.blanks;
      }

-- The call of i is stored anew.
abbrev pub call_mem : Memory → ℕ → ℕ → ℕ → ℕ → Memory
call_mem m i kind object condition =
    set_field
    (set_field (set_field m fields.resume_kind (alter (m fields.resume_kind) i kind)) fields.resume_object (alter (m fields.resume_object) i object))
    fields.resume_condition (alter (m fields.resume_condition) i condition)

module _ {z : Sizes} {m : Memory} {n i : ℕ} (b : InBounds z m) (p : Placed z m n) (w : Nowhere z m i) (awake : m fields.state_of i ≡ 3 → ⊥) (k o c : ℕ) where
  call-waits : (j : ℕ) → waits_on (call_mem m i k o c) j ≡ waits_on m j
  call-waits =
      at_or_other (λ (j : ℕ). waits_on (call_mem m i k o c) j ≡ waits_on m j) i
      (waits-state (call_mem m i k o c) i awake ∙ sym (waits-state m i awake))
      (λ j ne. waits_alike m (call_mem m i k o c) j refl (alter-other (m fields.resume_kind) i k j ne))

  call-process : process_at (call_mem m i k o c) i ≡ with_resume (resume_of k o c) (process (machine_of z m) i)
  unfolding with_resume timer_list exit_list exit_at
  call-process =
      used_at_lem (call_mem m i k o c) i w.used
      ∙ (λ j. record {
        pid = m fields.pid i;
        name = (used_at m i).name;
        parent = m fields.parent i;
        nchild = m fields.nchild i;
        exits = (used_at m i).exits;
        quantum_end = m fields.quantum_end i;
        resume =
            resume_of (alter-same (m fields.resume_kind) i k j) (alter-same (m fields.resume_object) i o j) (alter-same (m fields.resume_condition) i c j);
        on_waitr = call-waits i j;
      })
      ∙ ap (with_resume (resume_of k o c)) (sym (used_of b i w.used))

  call-others : (j : ℕ) → (i ≡ j → ⊥) → process_at (call_mem m i k o c) j ≡ process_at m j
  unfolding process_at exit_list exit_at
  call-others j ne =
      rw (call-waits j, alter-other (m fields.resume_kind) i k j ne, alter-other (m fields.resume_object) i o j ne, alter-other (m fields.resume_condition) i c j ne)

  pub call-machine : machine_of z (call_mem m i k o c) ≡ with_process i (with_resume (resume_of k o c) (process (machine_of z m) i)) (machine_of z m)
  unfolding machine_of with_process run_list waiter_list timer_list
  call-machine =
      λ j. record {
        sizes = z;
        next_pid = m fields.next_pid 0;
        ticks = m fields.ticks 0;
        last_now = m fields.last_now 0;
        up = link_to (m fields.up 0);
        run = (machine_of z m).run;
        processes =
            table-set z.processes (process_at m) (process_at (call_mem m i k o c)) i (with_resume (resume_of k o c) (process (machine_of z m) i))
            call-process (λ x h ne. call-others x ne) j;
        sleepers = (machine_of z m).sleepers;
        locks = (machine_of z m).locks;
        settings = (machine_of z m).settings;
        queued = (machine_of z m).queued;
        conditions = (machine_of z m).conditions;
      }

  call-low : i < z.processes
  call-low = inside b fields.pid i w.used

  call-asleep : asleep (machine_of z (call_mem m i k o c)) ≡ asleep (machine_of z m)
  unfolding machine_of with_resume
  call-asleep =
      let v : Process = with_resume (resume_of k o c) (process (machine_of z m) i) in
      let s : asleep (with_process i v (machine_of z m)) + bit (process (machine_of z m) i).on_waitr ≡ asleep (machine_of z m) + bit (process (machine_of z m) i).on_waitr =
      asleep-process (machine_of z m) i v (omega (arith, call-low, table-length z.processes (process_at m)))
      in
      ap asleep call-machine ∙ omega (arith, s)

  pub call-placed : Blank k o c → Placed z (call_mem m i k o c) n
  unfolding run_list waiter_list
  call-placed f =
      record {
        free = p.free;
        used = p.used;
        running = p.running;
        run = record { queue = p.run.queue; ready = p.run.ready };
        rendez = λ r j e. sleeps r j e;
        locks = p.locks;
        waiting = λ q. all_both (λ j ne h. waits q j ne h) (waiter_list z m q) (w.locks q) (p.waiting q);
        asleep = p.asleep ∙ omega (arith, call-asleep);
        unlinked = unlinked-call i k w.next p.unlinked;
        blanks = blanks-call i k o c f p.blanks;
      }
    where
      sleeps : (r j : ℕ) → m fields.sleeper_of r ≡ suc j → SleepsHere (call_mem m i k o c) r j
      sleeps r j e =
          let ne : i ≡ j → ⊥ = λ d. w.rendez r (e ∙ ap suc (sym d)) in
          let h : SleepsHere m r j = p.rendez r j e in
          record {
            state = h.state;
            kind = subst (λ (x : ℕ). (x ≡ 1) ⊎ (x ≡ 2)) (sym (alter-other (m fields.resume_kind) i k j ne)) h.kind;
            object = alter-other (m fields.resume_object) i o j ne ∙ h.object;
          }

      waits : (q j : ℕ) → (i ≡ j → ⊥) → WaitsHere m q j → WaitsHere (call_mem m i k o c) q j
      waits q j ne h =
          record {
            state = h.state;
            kind = alter-other (m fields.resume_kind) i k j ne ∙ h.kind;
            object = alter-other (m fields.resume_object) i o j ne ∙ h.object;
          }

  pub call-nowhere : Nowhere z (call_mem m i k o c) i
  unfolding run_list waiter_list
  call-nowhere = record { used = w.used; up = w.up; run = w.run; rendez = w.rendez; locks = w.locks; waitr = call-waits i ∙ w.waitr; next = w.next }
