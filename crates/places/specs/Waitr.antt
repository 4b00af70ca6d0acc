-- The own waitr of a process in the memory of a state: it goes asleep there, and is taken off.
use Rattle.std.specs.Prelude.{◌≡◌, refl, Bool, eqb, ℕ, suc, ◌+◌, ◌<◌}
use Rattle.std.proofs.Common.{sym, ◌∙◌, ⊎_elim, arith, eq-eqb, eqb-true}
use Rattle.std.proofs.Math.Path.{ap}
use Rattle.std.proofs.Math.Bool.{true, false}
use Rattle.lists.specs.Lists.{bit}
use Rattle.machine.specs.Machine.{Sizes, Process, process, asleep}
use Rattle.machine.specs.Update.{with_process, with_on_waitr}
use Rattle.layout.specs.Memory.{Memory, alter, set_field}
use Rattle.chain.specs.Lists.{Absent, all_map, all_both}
use Rattle.chain.specs.Links.{alter-same, alter-other}
use Rattle.state.specs.Fields as fields
use Rattle.state.specs.Abs.{link_to, run_list, waiter_list, timer_list, exit_list, waits_on, exit_at, process_at, machine_of}
use Rattle.state.specs.Tables.{table-length}
use Rattle.state.specs.WellFormed.{Used}
use Rattle.state.specs.Blanks.{no-wait}
use Rattle.rules.specs.Facts.{SleepsHere}
use Rattle.exact.specs.Bounds.{InBounds, inside}
use Rattle.exact.specs.Parts.{used_at, used_at_lem, used_of}
use Rattle.queue.specs.Other.{absent_by}
use Rattle.holds.specs.Holds.{Placed}
use Rattle.holds.specs.Parts.{table-set, asleep-process}
use Rattle.places.specs.Nowhere.{Nowhere, unlinked-state, each-alter, at_or_other, waits-state, waits_alike, not-running, not-ready, state-used}
use Rattle.places.specs.Own.{stated_free, stated_used, stated_running, stated_sleeps, stated_waits}

-- The state of i is stored anew.
abbrev pub state_mem : Memory → ℕ → ℕ → Memory
state_mem m i v = set_field m fields.state_of (alter (m fields.state_of) i v)

-- Then whether i sleeps on its waitr may change, and nothing else of the machine.
module _ {z : Sizes} {m : Memory} {i : ℕ} (b : InBounds z m) (u : Used m i) (v : ℕ) (t : Bool) (e : waits_on (state_mem m i v) i ≡ t) where
  state-process : process_at (state_mem m i v) i ≡ with_on_waitr t (process (machine_of z m) i)
  unfolding with_on_waitr exit_list exit_at
  state-process =
      used_at_lem (state_mem m i v) i u
      ∙ ap
      (λ (x : Bool). record {
        pid = m fields.pid i;
        name = (used_at m i).name;
        parent = m fields.parent i;
        nchild = m fields.nchild i;
        exits = (used_at m i).exits;
        quantum_end = m fields.quantum_end i;
        resume = (used_at m i).resume;
        on_waitr = x;
      })
      e
      ∙ ap (with_on_waitr t) (sym (used_of b i u))

  state-others : (j : ℕ) → (i ≡ j → ⊥) → process_at (state_mem m i v) j ≡ process_at m j
  unfolding process_at exit_list exit_at
  state-others j ne = rw (waits_alike m (state_mem m i v) j (alter-other (m fields.state_of) i v j ne) refl)

  pub state-machine : machine_of z (state_mem m i v) ≡ with_process i (with_on_waitr t (process (machine_of z m) i)) (machine_of z m)
  unfolding machine_of with_process run_list waiter_list timer_list
  state-machine =
      λ j. record {
        sizes = z;
        next_pid = m fields.next_pid 0;
        ticks = m fields.ticks 0;
        last_now = m fields.last_now 0;
        up = link_to (m fields.up 0);
        run = (machine_of z m).run;
        processes =
            table-set z.processes (process_at m) (process_at (state_mem m i v)) i (with_on_waitr t (process (machine_of z m) i))
            state-process (λ x h ne. state-others x ne) j;
        sleepers = (machine_of z m).sleepers;
        locks = (machine_of z m).locks;
        settings = (machine_of z m).settings;
        queued = (machine_of z m).queued;
        conditions = (machine_of z m).conditions;
      }

  pub state-asleep : asleep (machine_of z (state_mem m i v)) + bit (waits_on m i) ≡ asleep (machine_of z m) + bit t
  unfolding machine_of with_on_waitr
  state-asleep =
      let q : Process = with_on_waitr t (process (machine_of z m) i) in
      let s : asleep (with_process i q (machine_of z m)) + bit (process (machine_of z m) i).on_waitr ≡ asleep (machine_of z m) + bit t =
      asleep-process (machine_of z m) i q (omega (arith, inside b fields.pid i u, table-length z.processes (process_at m)))
      in
      omega (arith, s, ap asleep state-machine, ap (λ (x : Process). bit x.on_waitr) (used_of b i u))

both_four : (m : Memory) (i : ℕ) → m fields.state_of i ≡ 3 → m fields.resume_kind i ≡ 4 → waits_on m i ≡ true
unfolding waits_on
both_four m i e d = rw (eq-eqb (m fields.state_of i) 3 e, eq-eqb (m fields.resume_kind i) 4 d)

-- Of one whose state is 3, the call says it.
pub waits-asleep : (m : Memory) (i : ℕ) → m fields.state_of i ≡ 3 → waits_on m i ≡ eqb (m fields.resume_kind i) 4
unfolding waits_on
waits-asleep m i e = rw (eq-eqb (m fields.state_of i) 3 e)

-- i goes asleep on its waitr: it has state 3 then.
module _ {z : Sizes} {m : Memory} {n i : ℕ} (b : InBounds z m) (p : Placed z m (suc n)) (w : Nowhere z m i) (c : m fields.resume_kind i ≡ 4) where
  wait-true : waits_on (state_mem m i 3) i ≡ true
  wait-true = both_four (state_mem m i 3) i (alter-same (m fields.state_of) i 3) c

  pub wait-machine : machine_of z (state_mem m i 3) ≡ with_process i (with_on_waitr true (process (machine_of z m) i)) (machine_of z m)
  wait-machine = state-machine b w.used 3 true wait-true

  pub wait-placed : Placed z (state_mem m i 3) n
  unfolding run_list waiter_list
  wait-placed =
      record {
        free = stated_free p w 3;
        used = stated_used p w 3 (omega arith);
        running = stated_running p w 3;
        run = record { queue = p.run.queue; ready = each-alter (m fields.state_of) i 3 2 (run_list z m) w.run p.run.ready };
        rendez = stated_sleeps p w 3;
        locks = p.locks;
        waiting = stated_waits p w 3;
        asleep = p.asleep ∙ omega (arith, state-asleep b w.used 3 true wait-true, ap bit w.waitr);
        unlinked = unlinked-state i 3 w.next p.unlinked;
        blanks = p.blanks;
      }

-- What waiting on the own waitr says of state and call.
pub waits-both : (m : Memory) (i : ℕ) → waits_on m i ≡ true → (m fields.state_of i ≡ 3) × (m fields.resume_kind i ≡ 4)
unfolding waits_on
waits-both m i e = go (eqb (m fields.state_of i) 3) refl (eqb (m fields.resume_kind i) 4) refl
  where
    go
        : (a : Bool)
        → eqb (m fields.state_of i) 3 ≡ a
        → (k : Bool)
        → eqb (m fields.resume_kind i) 4 ≡ k
        → (m fields.state_of i ≡ 3) × (m fields.resume_kind i ≡ 4)
    go true x true y = (eqb-true (m fields.state_of i) 3 x, eqb-true (m fields.resume_kind i) 4 y)
    go true x false y = absurd (let d : false ≡ true = rw (x, y) at e in let f : ◌≡◌ {A = ℕ} 0 1 = cc in omega arith)
    go false x k y = absurd (let d : false ≡ true = rw x at e in let f : ◌≡◌ {A = ℕ} 0 1 = cc in omega arith)

-- i is taken off its waitr: it has state 2 then.
module _ {z : Sizes} {m : Memory} {n : ℕ} (b : InBounds z m) (p : Placed z m n) (i : ℕ) (h : waits_on m i ≡ true) where
  own-state : m fields.state_of i ≡ 3
  own-state = (waits-both m i h).0

  own-call : m fields.resume_kind i ≡ 4
  own-call = (waits-both m i h).1

  own-next : m fields.next i ≡ 0
  own-next = no-wait own-state (λ e. omega (arith, e, own-call)) (p.unlinked i)

  own-used : Used m i
  own-used = state-used p i (omega (arith, own-state))

  unwait_false : waits_on (state_mem m i 2) i ≡ false
  unwait_false = waits-state (state_mem m i 2) i (λ e. omega (arith, e, alter-same (m fields.state_of) i 2))

  pub unwait_machine : machine_of z (state_mem m i 2) ≡ with_process i (with_on_waitr false (process (machine_of z m) i)) (machine_of z m)
  unwait_machine = state-machine b own-used 2 false unwait_false

  -- i is in no other place
  not_on : (r : ℕ) → m fields.sleeper_of r ≡ suc i → ⊥
  not_on r e = ⊎_elim (λ a. omega (arith, a, own-call)) (λ a. omega (arith, a, own-call)) (p.rendez r i e).kind

  not_in : (q : ℕ) → Absent i (waiter_list z m q)
  not_in q =
      absent_by (m fields.resume_kind) 4 3 (λ e. omega (arith, e)) i own-call (waiter_list z m q)
      (all_map (λ j x. x.kind) (waiter_list z m q) (p.waiting q))

  not-up : m fields.up 0 ≡ suc i → ⊥
  not-up = not-running p i 3 own-state (λ e. omega (arith, e))

  not-run : Absent i (run_list z m)
  not-run = not-ready p i 3 own-state (λ e. omega (arith, e))

  pub unwait_nowhere : Nowhere z (state_mem m i 2) i
  unfolding run_list waiter_list
  unwait_nowhere = record { used = own-used; up = not-up; run = not-run; rendez = not_on; locks = not_in; waitr = unwait_false; next = own-next }

  pub unwait_placed : Placed z (state_mem m i 2) (suc n)
  unfolding run_list waiter_list
  unwait_placed =
      record {
        free = λ j e. alter-other (m fields.state_of) i 2 j (λ d. omega (arith, own-used, ap (m fields.pid) d, e)) ∙ p.free j e;
        used =
            at_or_other (λ (j : ℕ). Used m j → 0 < alter (m fields.state_of) i 2 j) i
            (λ x. omega (arith, alter-same (m fields.state_of) i 2))
            (λ j ne x. omega (arith, alter-other (m fields.state_of) i 2 j ne, p.used j x));
        running = λ j e. alter-other (m fields.state_of) i 2 j (λ d. not-up (e ∙ ap suc (sym d))) ∙ p.running j e;
        run = record { queue = p.run.queue; ready = each-alter (m fields.state_of) i 2 2 (run_list z m) not-run p.run.ready };
        rendez = λ r j e.
            let s : SleepsHere m r j = p.rendez r j e in
            record { state = alter-other (m fields.state_of) i 2 j (λ d. not_on r (e ∙ ap suc (sym d))) ∙ s.state; kind = s.kind; object = s.object };
        locks = p.locks;
        waiting = λ q.
            all_both (λ j ne s. record { state = alter-other (m fields.state_of) i 2 j ne ∙ s.state; kind = s.kind; object = s.object })
            (waiter_list z m q) (not_in q) (p.waiting q);
        asleep = p.asleep ∙ omega (arith, state-asleep b own-used 2 false unwait_false, ap bit h);
        unlinked = unlinked-state i 2 own-next p.unlinked;
        blanks = p.blanks;
      }
