-- The facts put each record in the place that its state and call name.
use Rattle.std.specs.Prelude.{◌≡◌, refl, Bool, true, false, ◌&&◌, ℕ, ◌≤◌, ◌<◌, eqb, ltb}
use Rattle.std.proofs.Common.{ap, arith, eqb-true, eq-eqb, ne_eqb, ltb-true, ltb-false}
use Rattle.machine.specs.Basics.{count}
use Rattle.machine.specs.Machine.{Sizes}
use Rattle.machine.specs.Good.{running_in}
use Rattle.layout.specs.Memory.{Memory}
use Rattle.chain.specs.Lists.{all_map}
use Rattle.state.specs.Fields as fields
use Rattle.state.specs.Abs.{link_to, run_list, waiter_list}
use Rattle.rules.specs.Facts.{Facts, CallOk, is_ready, is_queueing}
use Rattle.exact.specs.Sums.{bit_of_lem, all_met_past, Family, sum_part}
use Rattle.exact.proofs.Sums.{family-most, family_met_past}
use Rattle.exact.specs.Tables.{link-count, count-link, each-link, distinct-link}
use Rattle.exact.specs.Bounds.{InBounds, inside, at_most}
use Rattle.exact.specs.Resumes.{Sleeps, in_sleeps, sleeps_test, test_sleeps, both_test}
use Rattle.exact.specs.Spots.{on_rendez, in_locks, Tags, Spots, tags-used}
use Rattle.lists.specs.Lists.{bit}

module _ {z : Sizes} {m : Memory} (b : InBounds z m) (f : Facts z m) where
  pub facts-tags : Tags m
  facts-tags = record { free = free; used = λ i u. ((f.records i (inside b fields.pid i u)).used u).state }
    where
      free : (i : ℕ) → m fields.pid i ≡ 0 → m fields.state_of i ≡ 0
      free i e = go (ltb i z.processes) refl
        where
          go : (c : Bool) → ltb i z.processes ≡ c → m fields.state_of i ≡ 0
          go true q = (f.records i (ltb-true i z.processes q)).free e
          go false q = b.past fields.state_of i (ltb-false i z.processes q)

  -- What is known of the call of whoever has a state.
  pub facts-call : (i : ℕ) → 0 < m fields.state_of i → CallOk z m i
  facts-call i h = ((f.records i (inside b fields.state_of i h)).used (tags-used facts-tags i h)).call

  facts-running : (i : ℕ) → count i (running_in (link_to (m fields.up 0))) ≡ bit (eqb (m fields.state_of i) 1)
  facts-running i =
      bit_of_lem (count i (running_in (link_to (m fields.up 0)))) (eqb (m fields.state_of i) 1) there back
    where
      there : eqb (m fields.state_of i) 1 ≡ true → count i (running_in (link_to (m fields.up 0))) ≡ 1
      there e =
          let s : m fields.state_of i ≡ 1 = eqb-true (m fields.state_of i) 1 e in
          link-count (m fields.up 0) i ((facts-call i (omega arith)).running s).1

      back : 1 ≤ count i (running_in (link_to (m fields.up 0))) → eqb (m fields.state_of i) 1 ≡ true
      back h = eq-eqb (m fields.state_of i) 1 (f.up i (count-link (m fields.up 0) i h))

  facts-ready : (i : ℕ) → count i (run_list z m) ≡ bit (is_ready m i)
  facts-ready =
      all_met_past z.processes (run_list z m) (is_ready m)
      f.run.queue.chain.distinct
      f.run.queue.chain.below
      (all_map (λ i e. eq-eqb (m fields.state_of i) 2 e) (run_list z m) f.run.ready)
      (λ i l. ne_eqb (m fields.state_of i) 2 (λ e. omega (arith, b.past fields.state_of i l)))
      f.all_ready

  sleepers : Family z.processes z.rendez (λ r. running_in (link_to (m fields.sleeper_of r))) (m fields.resume_object) (λ i. in_sleeps (m fields.state_of i) (m fields.resume_kind i))
  sleepers =
      record {
        distinct = λ r l. distinct-link (m fields.sleeper_of r);
        below = λ r l. each-link (λ i. i < z.processes) (m fields.sleeper_of r) (λ i e. omega (arith, at_most b fields.sleeper_of r));
        passing = λ r l.
            each-link (λ i. in_sleeps (m fields.state_of i) (m fields.resume_kind i) ≡ true) (m fields.sleeper_of r)
            (λ i e. sleeps_test (m fields.state_of i) (m fields.resume_kind i) (f.rendez r l i e).state (f.rendez r l i e).kind);
        named = λ r l. each-link (λ i. m fields.resume_object i ≡ r) (m fields.sleeper_of r) (λ i e. (f.rendez r l i e).object);
      }

  facts-sleeping : (i : ℕ) → on_rendez z m i ≡ bit (in_sleeps (m fields.state_of i) (m fields.resume_kind i))
  facts-sleeping i = go (in_sleeps (m fields.state_of i) (m fields.resume_kind i)) refl (family-most sleepers i)
    where
      go : (c : Bool) → in_sleeps (m fields.state_of i) (m fields.resume_kind i) ≡ c → on_rendez z m i ≤ bit (in_sleeps (m fields.state_of i) (m fields.resume_kind i)) → on_rendez z m i ≡ bit c
      go true e h =
          let p : (m fields.state_of i ≡ 3) × Sleeps (m fields.resume_kind i) = test_sleeps (m fields.state_of i) (m fields.resume_kind i) e in
          let s : 0 < m fields.state_of i = omega (arith, p.0) in
          let r : ℕ = m fields.resume_object i in
          let c : CallOk z m i = facts-call i s in
          let q : count i (running_in (link_to (m fields.sleeper_of r))) ≤ on_rendez z m i =
          sum_part z.rendez (λ r. count i (running_in (link_to (m fields.sleeper_of r)))) r (c.rendez p.1)
          in
          omega (arith, ap bit e, link-count (m fields.sleeper_of r) i (c.sleeping p.0 p.1))
      go false e h = omega (arith, ap bit e)

  facts-queueing : (i : ℕ) → in_locks z m i ≡ bit (is_queueing m i)
  facts-queueing =
      family_met_past queues
      (λ i l. ap (λ (s : ℕ). eqb s 3 && eqb (m fields.resume_kind i) 3) (b.past fields.state_of i l))
      f.all_queueing
    where
      queues : Family z.processes z.locks (waiter_list z m) (m fields.resume_object) (is_queueing m)
      queues =
          record {
            distinct = λ q l. (f.locks q l).queue.chain.distinct;
            below = λ q l. (f.locks q l).queue.chain.below;
            passing = λ q l.
                all_map (λ i w. both_test (m fields.state_of i) (m fields.resume_kind i) 3 w.state w.kind) (waiter_list z m q) (f.locks q l).waiting;
            named = λ q l. all_map (λ i w. w.object) (waiter_list z m q) (f.locks q l).waiting;
          }

  pub facts-spots : Spots z m
  facts-spots =
      record {
        tags = facts-tags;
        running = facts-running;
        ready = facts-ready;
        sleeping = facts-sleeping;
        queueing = facts-queueing;
        call = λ i e. (facts-call i (omega arith)).asleep e;
      }
