-- What a well-formed state says puts each record in the place that its state and call name.
use Rattle.std.specs.Prelude.{◌≡◌, ◌&&◌, ℕ, suc, ◌+◌, ◌≤◌, ◌<◌}
use Rattle.std.proofs.Math.Path.{sym, ap}
use Rattle.std.proofs.Common.{subst, ◌∙◌, arith, eq-eqb}
use Rattle.std.proofs.Math.Bool.{true}
use Rattle.std.proofs.Math.Dec.{eqb}
use Rattle.machine.specs.Basics.{count}
use Rattle.machine.specs.Machine.{Sizes, Lock, in_qlock, process}
use Rattle.machine.specs.Good.{Each, running_in, SleepsOn, Good}
use Rattle.layout.specs.Memory.{Memory}
use Rattle.state.specs.Fields as fields
use Rattle.state.specs.Abs.{link_to, is_set, run_list, waiter_list, waits_on, machine_of}
use Rattle.state.specs.WellFormed.{Used, Tagged}
use Rattle.rules.specs.Facts.{is_ready, is_queueing, SleepsHere, WaitsHere}
use Rattle.lists.specs.Lists.{bit-small}
use Rattle.exact.specs.Sums.{bit-most, sum-some}
use Rattle.exact.specs.Tables.{count-link, link-some}
use Rattle.exact.specs.Bounds.{InBounds, at_most}
use Rattle.exact.specs.Resumes.{Sleeps, in_sleeps, five, five-most, five-kind, sleeps-resume, lock-resume, sleeps_test, both_test}
use Rattle.exact.specs.Parts.{resume_at, resume_of_lem, sleeper_of_lem, lock_of, living_of}
use Rattle.exact.specs.Spots.{on_rendez, in_locks, Tags, Spots, tags-used, tags-set, place-count}
use Rattle.lists.specs.Lists.{bit, each-count, count-each}

module _ {z : Sizes} {m : Memory} (b : InBounds z m) (t : Tagged z m) (g : Good (machine_of z m)) where
  pub well-tags : Tags m
  well-tags = record { free = t.free; used = t.used }

  -- Who sleeps on a Rendez, and who waits for a lock, has the call for it.
  pub well-sleeps : (r i : ℕ) → m fields.sleeper_of r ≡ suc i → SleepsHere m r i
  well-sleeps r i e =
      let s : m fields.state_of i ≡ 3 = t.sleeping r i e in
      let u : Used m i = tags-used well-tags i (omega arith) in
      let h : SleepsOn r (resume_at m i) = subst (SleepsOn r) (resume_of_lem b i u) (g.calls_fit.sleeper r i (sleeper_of_lem b r ∙ link-some (m fields.sleeper_of r) i e)) in
      let p : Sleeps (m fields.resume_kind i) × (m fields.resume_object i ≡ r) =
      sleeps-resume (m fields.resume_kind i) (m fields.resume_object i) (m fields.resume_condition i) r (at_most b fields.resume_kind i) h
      in
      record { state = s; kind = p.0; object = p.1 }

  pub well-waits : (q : ℕ) → Each (WaitsHere m q) (waiter_list z m q)
  well-waits q = count-each (WaitsHere m q) (waiter_list z m q) at
    where
      at : (i : ℕ) → 1 ≤ count i (waiter_list z m q) → WaitsHere m q i
      at i h =
          let s : m fields.state_of i ≡ 3 = each-count (λ i. m fields.state_of i ≡ 3) (waiter_list z m q) (t.queueing q) i h in
          let u : Used m i = tags-used well-tags i (omega arith) in
          let c : Each (λ i. (process (machine_of z m) i).resume ≡ in_qlock q) (waiter_list z m q) =
          subst (λ (l : Lock). Each (λ i. (process (machine_of z m) i).resume ≡ in_qlock q) l.waiters) (lock_of b q) (g.calls_fit.queuer q)
          in
          let p : (m fields.resume_kind i ≡ 3) × (m fields.resume_object i ≡ q) =
          lock-resume (m fields.resume_kind i) (m fields.resume_object i) (m fields.resume_condition i) q (at_most b fields.resume_kind i)
          (sym (resume_of_lem b i u) ∙ each-count (λ i. (process (machine_of z m) i).resume ≡ in_qlock q) (waiter_list z m q) c i h)
          in
          record { state = s; kind = p.0; object = p.1 }

  -- The five counts of record i.
  record At (i : ℕ) : Type 0 where
    running : count i (running_in (link_to (m fields.up 0))) ≡ bit (eqb (m fields.state_of i) 1)
    ready : count i (run_list z m) ≡ bit (is_ready m i)
    sleeping : on_rendez z m i ≡ bit (in_sleeps (m fields.state_of i) (m fields.resume_kind i))
    queueing : in_locks z m i ≡ bit (is_queueing m i)
    five : five (m fields.state_of i) (m fields.resume_kind i) ≡ bit (is_set (m fields.state_of i))

  well-at : (i : ℕ) → At i
  unfolding waits_on
  well-at i =
      let one : bit (is_set (m fields.state_of i)) ≤ 1 = bit-small (is_set (m fields.state_of i)) in
      let all
      : count i (running_in (link_to (m fields.up 0)))
      + (count i (run_list z m) + (on_rendez z m i + (bit (eqb (m fields.state_of i) 3 && eqb (m fields.resume_kind i) 4) + in_locks z m i)))
      ≡ bit (is_set (m fields.state_of i)) =
      sym (place-count b well-tags i) ∙ g.in_one_place i ∙ ap bit (living_of b i) ∙ tags-set well-tags i
      in
      let a : count i (running_in (link_to (m fields.up 0))) ≤ bit (eqb (m fields.state_of i) 1) =
      bit-most (count i (running_in (link_to (m fields.up 0)))) (eqb (m fields.state_of i) 1) (omega arith)
      (λ h. eq-eqb (m fields.state_of i) 1 (t.running i (count-link (m fields.up 0) i h)))
      in
      let r : count i (run_list z m) ≤ bit (is_ready m i) =
      bit-most (count i (run_list z m)) (is_ready m i) (omega arith)
      (λ h. eq-eqb (m fields.state_of i) 2 (each-count (λ i. m fields.state_of i ≡ 2) (run_list z m) t.ready i h))
      in
      let s : on_rendez z m i ≤ bit (in_sleeps (m fields.state_of i) (m fields.resume_kind i)) =
      bit-most (on_rendez z m i) (in_sleeps (m fields.state_of i) (m fields.resume_kind i)) (omega arith) (asleep i)
      in
      let q : in_locks z m i ≤ bit (is_queueing m i) = bit-most (in_locks z m i) (is_queueing m i) (omega arith) (queues i) in
      let n : five (m fields.state_of i) (m fields.resume_kind i) ≤ bit (is_set (m fields.state_of i)) =
      five-most (m fields.state_of i) (m fields.resume_kind i) (at_most b fields.state_of i) (at_most b fields.resume_kind i)
      in
      record { running = omega arith; ready = omega arith; sleeping = omega arith; queueing = omega arith; five = omega arith }
    where
      asleep : (i : ℕ) → 1 ≤ on_rendez z m i → in_sleeps (m fields.state_of i) (m fields.resume_kind i) ≡ true
      asleep i h =
          let r : (r : ℕ) × (r < z.rendez) × (1 ≤ count i (running_in (link_to (m fields.sleeper_of r)))) =
          sum-some z.rendez (λ r. count i (running_in (link_to (m fields.sleeper_of r)))) h
          in
          let w : SleepsHere m r.0 i = well-sleeps r.0 i (count-link (m fields.sleeper_of r.0) i r.2) in
          sleeps_test (m fields.state_of i) (m fields.resume_kind i) w.state w.kind

      queues : (i : ℕ) → 1 ≤ in_locks z m i → is_queueing m i ≡ true
      queues i h =
          let q : (q : ℕ) × (q < z.locks) × (1 ≤ count i (waiter_list z m q)) = sum-some z.locks (λ q. count i (waiter_list z m q)) h in
          let w : WaitsHere m q.0 i = each-count (WaitsHere m q.0) (waiter_list z m q.0) (well-waits q.0) i q.2 in
          both_test (m fields.state_of i) (m fields.resume_kind i) 3 w.state w.kind

  pub well-spots : Spots z m
  well-spots =
      record {
        tags = well-tags;
        running = λ i. (well-at i).running;
        ready = λ i. (well-at i).ready;
        sleeping = λ i. (well-at i).sleeping;
        queueing = λ i. (well-at i).queueing;
        call = λ i. five-kind (m fields.state_of i) (m fields.resume_kind i) (at_most b fields.state_of i) (well-at i).five;
      }
