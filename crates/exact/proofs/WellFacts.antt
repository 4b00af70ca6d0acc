-- From what a well-formed state says: the facts that the check decides.
use Rattle.std.specs.Prelude.{◌≡◌, refl, Bool, true, false, List, [], ◌∷◌, map, ◌⊎◌, eqb, ℕ, zero, suc, ◌+◌, ◌-◌, ◌≤◌, ◌<◌}
use Rattle.std.proofs.Common.{sym, ◌∙◌, arith, eqb-true, eq-eqb}
use Rattle.std.proofs.Math.Path.{ap, subst}
use Rattle.std.proofs.Math.Logic.{inl, inr, ⊎_elim}
use Rattle.std.proofs.lemmas.Bool.{eqb-false}
use Rattle.clock.specs.Counts.{counts_of}
use Rattle.machine.specs.Basics.{count}
use Rattle.machine.specs.Machine.{Sizes, Process, Lock, Setting, Queued, free, process, lock}
use Rattle.machine.specs.Timers.{own_timer}
use Rattle.machine.specs.Good.{running_in, ProcessInRange, ResumeInRange, SettingInRange, Lives, ByDeadline, children, IsTsleep, Good}
use Rattle.layout.specs.Memory.{Memory}
use Rattle.chain.specs.Links.{Links}
use Rattle.chain.specs.Ordered.{Sorted}
use Rattle.state.specs.Fields as fields
use Rattle.state.specs.Abs.{link_to, is_set, run_list, waiter_list, timer_list, exit_list, process_at, machine_of}
use Rattle.state.specs.WellFormed.{Used, Tagged, Queues, Cells, Ages, Index, age_list, Idle}
use Rattle.rules.specs.Facts.{sum_below, Facts, HeaderOk, RecordOk, UsedOk, CallOk, LockOk, TimerOk, TimersOk, AgesOk, is_ready, is_queueing}
use Rattle.exact.specs.Sums.{bit-true, sum_part, sum-some, met_all, met_family}
use Rattle.exact.proofs.Sums.{family-most}
use Rattle.exact.specs.Tables.{table-each, map_each, count-link, link-some}
use Rattle.exact.specs.Bounds.{InBounds, inside, at_most}
use Rattle.exact.specs.Resumes.{Sleeps, nothing-resume, tsleep-resume, range-rendez, range-lock, sleeps_test, set_test, unset_test, test_set}
use Rattle.exact.specs.Parts.{resume_at, free-at, used_at_lem, process_of, pid_of_lem, used_of, resume_of_lem, lock_of, setting_of_lem}
use Rattle.exact.specs.Spots.{Spots, spots-asleep}
use Rattle.exact.specs.WellSpots.{well-sleeps, well-waits, well-spots}
use Rattle.exact.proofs.CellLists.{exits_of, exits-used, Owning, owning_family, exits-counted}
use Rattle.exact.proofs.FactsRep.{bit-eqb}
use Rattle.exact.proofs.FactsGood.{queued_at, timers-back, children_of}
use Rattle.lists.specs.Lists.{bit, each-count, count-each}

deadlines : (m : Memory) (xs : List ℕ) → ByDeadline (map (queued_at m) xs) → Sorted (m fields.deadline) xs
deadlines m [] s = tt
deadlines m (x ∷ xs) s = (map_each (λ (y : Queued). m fields.deadline x ≤ y.deadline) (queued_at m) xs s.0, deadlines m xs s.1)

module _ {z : Sizes} {m : Memory} (b : InBounds z m) (qs : Queues z m) (t : Tagged z m) (cs : Cells z m) (ages : Ages z m) (g : Good (machine_of z m)) where
  spots : Spots z m
  spots = well-spots b t g

  lives : (i : ℕ) → Used m i → Lives (machine_of z m) i
  lives i u = omega (arith, pid_of_lem b i)

  well-header : HeaderOk m
  unfolding machine_of
  well-header = record { next_pid = g.in_range.next_pid.0; last_now = g.in_range.last_now; ticks = g.ticks }

  call-range : (i : ℕ) → Used m i → ResumeInRange z (resume_at m i)
  unfolding machine_of
  call-range i u =
      let p : ProcessInRange z (process_at m i) = table-each (ProcessInRange z) z.processes (process_at m) g.in_range.each i (inside b fields.pid i u) in
      subst (λ (x : Process). ResumeInRange z x.resume) (used_at_lem m i u) p.resume

  well-call : (i : ℕ) → Used m i → CallOk z m i
  unfolding machine_of
  well-call i u =
      record {
        rendez = range-rendez z (m fields.resume_kind i) (m fields.resume_object i) (m fields.resume_condition i) (call-range i u);
        lock = range-lock z (m fields.resume_kind i) (m fields.resume_object i) (m fields.resume_condition i) (call-range i u);
        running = running;
        asleep = spots.call i;
        sleeping = sleeping;
      }
    where
      running : m fields.state_of i ≡ 1 → (m fields.resume_kind i ≡ 0) × (m fields.up 0 ≡ suc i)
      running e =
          let d : m fields.up 0 ≡ suc i =
          count-link (m fields.up 0) i (omega (arith, spots.running i, ap bit (eq-eqb (m fields.state_of i) 1 e)))
          in (
            nothing-resume (m fields.resume_kind i) (m fields.resume_object i) (m fields.resume_condition i) (at_most b fields.resume_kind i)
                (sym (resume_of_lem b i u) ∙ g.calls_fit.runner i (link-some (m fields.up 0) i d)),
            d,
          )

      sleeping : m fields.state_of i ≡ 3 → Sleeps (m fields.resume_kind i) → m fields.sleeper_of (m fields.resume_object i) ≡ suc i
      sleeping e k =
          let r : (r : ℕ) × (r < z.rendez) × (1 ≤ count i (running_in (link_to (m fields.sleeper_of r)))) =
          sum-some z.rendez (λ r. count i (running_in (link_to (m fields.sleeper_of r))))
          (omega (arith, spots.sleeping i, ap bit (sleeps_test (m fields.state_of i) (m fields.resume_kind i) e k)))
          in
          let d : m fields.sleeper_of r.0 ≡ suc i = count-link (m fields.sleeper_of r.0) i r.2 in
          subst (λ (x : ℕ). m fields.sleeper_of x ≡ suc i) (sym (well-sleeps b t g r.0 i d).object) d

  well_record : (i : ℕ) → i < z.processes → RecordOk z m i
  unfolding machine_of
  well_record i l = record { free = t.free i; unlinked = t.unlinked i; used = used }
    where
      used : Used m i → UsedOk z m i
      used u =
          record {
            state = t.used i u;
            below = omega (arith, pid_of_lem b i, g.below i);
            parent = omega (arith, pid_of_lem b i, ap (λ (p : Process). p.parent) (used_of b i u), g.parent i (lives i u));
            quantum = omega (arith, ap (λ (p : Process). p.quantum_end) (used_of b i u), g.quantum i);
            call = well-call i u;
            blank = t.blanks i u;
            orphan = ages.orphan i u;
          }

  well-lock : (q : ℕ) → q < z.locks → LockOk z m q
  well-lock q l = record { queue = qs.locks q l; waiting = well-waits b t g q; held = held }
    where
      held : m fields.held q ≡ 0 → m fields.lock_head q ≡ 0
      held e =
          let h : (lock (machine_of z m) q).held ≡ false = ap (λ (x : Lock). x.held) (lock_of b q) ∙ unset_test (m fields.held q) e in
          let w : waiter_list z m q ≡ [] = sym (ap (λ (x : Lock). x.waiters) (lock_of b q)) ∙ g.held q h in
          subst (λ (xs : List ℕ). Links (m fields.next) (m fields.lock_head q) xs) w (qs.locks q l).chain.links

  well-timer : (x : ℕ) → x < z.timers + z.processes → TimerOk z m x
  unfolding machine_of own_timer free
  well-timer x l = record { period = period; tick = tick; ticks = ticks; own = own }
    where
      period : x < z.timers → (m fields.period x ≡ 0) ⊎ (counts_of z.hz 0 100000 ≤ m fields.period x)
      period k =
          let s : SettingInRange z (record { period = m fields.period x; rendez = m fields.timer_rendez x }) =
          table-each (SettingInRange z) z.timers (λ t. record { period = m fields.period t; rendez = m fields.timer_rendez t }) g.in_range.settings x k
          in
          ⊎_elim {C = (m fields.period x ≡ 0) ⊎ (counts_of z.hz 0 100000 ≤ m fields.period x)} (λ e. inl e) (λ p. inr p.0) s.period

      tick : x ≡ 0 → m fields.period x ≡ counts_of z.hz 0 10000000
      tick e =
          ap (m fields.period) e ∙ sym (ap (λ (s : Setting). s.period) (setting_of_lem b 0 b.sizes.timers.0)) ∙ g.in_range.hzclock

      ticks : x ≡ 0 → m fields.is_queued x ≡ 1 → m fields.ticks 0 < m fields.deadline x
      ticks e q =
          each-count (λ y. y ≡ 0 → m fields.ticks 0 < m fields.deadline y) (timer_list z m)
          (map_each (λ (y : Queued). y.timer ≡ 0 → m fields.ticks 0 < y.deadline) (queued_at m) (timer_list z m) g.tick)
          x (omega (arith, qs.queued x)) e

      own : z.timers ≤ x → m fields.is_queued x ≡ 1 → Used m (x - z.timers) × (m fields.resume_kind (x - z.timers) ≡ 2)
      own k q = go (eqb (m fields.pid i) 0) refl
        where
          i : ℕ
          i = x - z.timers

          asks : IsTsleep (process (machine_of z m) i).resume
          asks =
              g.tsleeping i
              (subst (λ (xs : List ℕ). 1 ≤ count (z.timers + i) xs) (sym (timers-back m (timer_list z m)))
              (subst (λ (y : ℕ). 1 ≤ count y (timer_list z m)) (omega arith) (there)))
            where
              there : 1 ≤ count x (timer_list z m)
              there = omega (arith, qs.queued x)

          go : (c : Bool) → eqb (m fields.pid i) 0 ≡ c → Used m i × (m fields.resume_kind i ≡ 2)
          go true e = absurd (subst (λ (p : Process). IsTsleep p.resume) (process_of b i ∙ free-at m i (eqb-true (m fields.pid i) 0 e)) asks)
          go false e =
              let u : 0 < m fields.pid i = omega (arith, eqb-false (m fields.pid i) 0 e) in (
                u,
                tsleep-resume (m fields.resume_kind i) (m fields.resume_object i) (m fields.resume_condition i) (at_most b fields.resume_kind i)
                    (subst IsTsleep (resume_of_lem b i u) asks),
              )

  well-timers : TimersOk z m
  unfolding machine_of
  well-timers =
      record {
        chain = qs.timers;
        queued = count-each (λ x. m fields.is_queued x ≡ 1) (timer_list z m) (λ x h. omega (arith, qs.queued x, at_most b fields.is_queued x));
        sorted = deadlines m (timer_list z m) g.by_deadline;
      }

  owning : Owning z m
  owning = record { chain = cs.chain; owned = cs.owned }

  -- Each cell with an owner is in one list.
  owned_at : (c : ℕ) → sum_below z.processes (λ i. count c (exits_of m i)) ≡ bit (is_set (m fields.owner c))
  owned_at c = go (m fields.owner c) refl (family-most (owning_family owning) c)
    where
      go
          : (o : ℕ)
          → m fields.owner c ≡ o
          → sum_below z.processes (λ i. count c (exits_of m i)) ≤ bit (is_set (m fields.owner c))
          → sum_below z.processes (λ i. count c (exits_of m i)) ≡ bit (is_set (m fields.owner c))
      go zero e h = omega (arith, ap bit (unset_test (m fields.owner c) e))
      go (suc i) e h =
          let p : Used m i × (1 ≤ count c (exit_list m i)) = cs.owner c i e in
          let s : count c (exits_of m i) ≤ sum_below z.processes (λ i. count c (exits_of m i)) =
          sum_part z.processes (λ i. count c (exits_of m i)) i (inside b fields.pid i p.0)
          in
          omega (arith, p.1, ap (count c) (exits-used m i p.0), ap bit (set_test (m fields.owner c) (omega arith)))

  well-ages : AgesOk z m
  well-ages =
      record {
        younger = ages.younger;
        older = ages.older;
        rising = ages.rising;
        used =
            count-each (Used m) (age_list z m)
            (λ i h. test_set (m fields.pid i) (bit-true (is_set (m fields.pid i)) (omega (arith, ages.living i))));
      }

  well-nchild : (j : ℕ) → Used m j → m fields.nchild j ≡ children (machine_of z m) (m fields.pid j)
  well-nchild j u = sym (ap (λ (p : Process). p.nchild) (used_of b j u)) ∙ g.nchild j (lives j u) ∙ ap (children (machine_of z m)) (pid_of_lem b j)

  well-all : Index z m → Idle m → Facts z m
  well-all index idle =
      record {
        header = well-header;
        records = well_record;
        rendez = λ r l. well-sleeps b t g r;
        up = t.running;
        run = record { queue = qs.run; ready = t.ready };
        all_ready = met_all z.processes (run_list z m) (is_ready m) qs.run.chain.below (λ i l. spots.ready i);
        locks = well-lock;
        all_queueing =
            met_family z.processes z.locks (waiter_list z m) (is_queueing m) (λ q l. (qs.locks q l).chain.below) (λ i l. spots.queueing i);
        asleep = qs.asleep ∙ spots-asleep b spots;
        timers = well-timer;
        timer_queue = well-timers;
        all_queued =
            met_all (z.timers + z.processes) (timer_list z m) (λ x. eqb (m fields.is_queued x) 1) qs.timers.below
            (λ x l. omega (arith, qs.queued x, bit-eqb (m fields.is_queued x) (at_most b fields.is_queued x)));
        exits = λ i l u. record { chain = cs.chain i u; counted = cs.counted i u; owned = cs.owned i u };
        all_owned =
            sym (exits-counted z m cs.counted)
            ∙ met_family z.cells z.processes (exits_of m) (λ c. is_set (m fields.owner c)) (owning_family owning).below (λ c l. owned_at c);
        ages = well-ages;
        all_living = met_all z.processes (age_list z m) (λ i. is_set (m fields.pid i)) ages.younger.chain.below (λ i l. ages.living i);
        kin = λ i l u j k v. ages.parent_at i j u v;
        nchild = λ j l u. well-nchild j u ∙ children_of z m (m fields.pid j);
        index = index;
        idle = record { records = λ i l. idle.records i; cells = λ c l. idle.cells c; timers = λ x l. idle.timers x };
      }

-- What a well-formed state says has the facts hold.
pub well-facts : {z : Sizes} {m : Memory} → InBounds z m → Queues z m → Tagged z m → Cells z m → Ages z m → Index z m → Idle m → Good (machine_of z m) → Facts z m
well-facts b qs t cs ages index idle g = well-all b qs t cs ages g index idle
