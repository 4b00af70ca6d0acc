-- From the facts: the machine that a memory holds keeps the rules of docs/MACHINE.md, "Well-formed states".
use Rattle.std.specs.Prelude.{◌≡◌, refl, Bool, true, false, ◌&&◌, ◌⊎◌, ℕ, zero, suc, ◌+◌, ◌-◌, ◌*◌, ◌^◌, ◌≤◌, ◌<◌, eqb, ltb, replicate, List, [], ◌∷◌, map}
use Rattle.std.proofs.Math.Path.{sym, ap, subst}
use Rattle.std.proofs.Common.{◌∙◌, inl, inr, ⊎_elim, arith, eqb-true, eq-eqb, ltb-true, ltb-false}
use Rattle.std.proofs.Math.Option.{some}
use Rattle.std.proofs.Math.ListN.{length}
use Rattle.clock.specs.Counts.{counts_of}
use Rattle.machine.specs.Basics.{count}
use Rattle.machine.specs.Machine.{Sizes, Process, Lock, Setting, Queued, nothing, in_wait, in_qlock, free, process, sleeper, lock, pid_of, living}
use Rattle.machine.specs.Timers.{own_timer}
use Rattle.machine.specs.Good.{Each, Byte, ExitInRange, ProcessInRange, SettingInRange, QueuedInRange, InRange, Lives, SleepsOn, CallsFit, ByDeadline, children, IsTsleep, Good}
use Rattle.layout.specs.Memory.{Memory}
use Rattle.chain.specs.Lists.{all_map, all_both}
use Rattle.chain.specs.Ordered.{Sorted}
use Rattle.state.specs.Fields as fields
use Rattle.state.specs.Abs.{link_to, is_set, waiter_list, timer_list, exit_list, waits_on, exit_at, process_at, machine_of}
use Rattle.state.specs.WellFormed.{Used, Rising, age_list}
use Rattle.rules.specs.Facts.{count_below, Facts, UsedOk, SleepsHere, WaitsHere, is_child_of}
use Rattle.exact.specs.Sums.{count-distinct, sum_same, count-sum}
use Rattle.exact.specs.Tables.{each-table, each_map, map_back, count_that-table, some-link}
use Rattle.exact.specs.Bounds.{InBounds, inside, at_most}
use Rattle.exact.specs.Resumes.{resume-nothing, resume-sleeps, resume-lock, resume-wait, resume-tsleep, resume-range, test_both, set_test, test_unset}
use Rattle.exact.specs.Parts.{walk_none, used_at, free-at, either-at, process_of, pid_of_lem, used_of, resume_of_lem, sleeper_of_lem, lock_of, setting_of_lem, waitr_of}
use Rattle.exact.specs.Spots.{tags-used, spots-places}
use Rattle.exact.proofs.FactsSpots.{facts-tags, facts-call, facts-spots}
use Rattle.exact.proofs.CellLists.{cells-once}
use Rattle.exact.proofs.FactsRep.{facts-waiting, facts-counted, facts_owning, facts-ages}
use Rattle.lists.specs.Lists.{bit, each-count}
use Rattle.state.specs.Tables.{table-length}

-- Lists of records made of numbers.
map-length : {A B : Type 0} (f : A → B) (xs : List A) → length (map f xs) ≡ length xs
map-length f [] = refl
map-length f (x ∷ xs) = ap suc (map-length f xs)

each-replicate : {A : Type 0} (P : A → Type 0) (n : ℕ) (x : A) → P x → Each P (replicate n x)
each-replicate P zero x p = tt
each-replicate P (suc n) x p = (p, each-replicate P n x p)

-- A timer and its deadline; the timers again.
abbrev pub queued_at : Memory → ℕ → Queued
queued_at m t = record { timer = t; deadline = m fields.deadline t }

pub timers-back : (m : Memory) (xs : List ℕ) → map (λ (x : Queued). x.timer) (map (queued_at m) xs) ≡ xs
timers-back m xs = map_back (queued_at m) (λ (x : Queued). x.timer) (λ t. refl) xs

by_deadline_lem : (m : Memory) (xs : List ℕ) → Sorted (m fields.deadline) xs → ByDeadline (map (queued_at m) xs)
by_deadline_lem m [] s = tt
by_deadline_lem m (x ∷ xs) s = (each_map (λ (y : Queued). m fields.deadline x ≤ y.deadline) (queued_at m) xs s.0, by_deadline_lem m xs s.1)

-- Keys that rise are apart.
pub rising-apart : (key : ℕ → ℕ) (xs : List ℕ) → Rising key xs → (i j : ℕ) → 1 ≤ count i xs → 1 ≤ count j xs → key i ≡ key j → i ≡ j
unfolding count
rising-apart key [] r i j a c e = absurd (omega arith)
rising-apart key (x ∷ xs) r i j a c e = go (eqb i x) refl (eqb j x) refl (λ k l. rising-apart key xs r.1 i j k l e)
  where
    later : (k : ℕ) → 1 ≤ count k xs → key x < key k
    later = each-count (λ y. key x < key y) xs r.0

    go : (p : Bool) → eqb i x ≡ p → (q : Bool) → eqb j x ≡ q → (1 ≤ count i xs → 1 ≤ count j xs → i ≡ j) → i ≡ j
    go true p true q rec = eqb-true i x p ∙ sym (eqb-true j x q)
    go true p false q rec = absurd (omega (arith, ap key (eqb-true i x p), later j (omega (arith, ap bit q))))
    go false p true q rec = absurd (omega (arith, ap key (eqb-true j x q), later i (omega (arith, ap bit p))))
    go false p false q rec = rec (omega (arith, ap bit p)) (omega (arith, ap bit q))

-- The children of a pid, counted in the memory.
child-at : (m : Memory) (p i : ℕ) → (living (process_at m i) && eqb (process_at m i).parent p) ≡ is_child_of m p i
unfolding living free
child-at m p i =
    either-at (λ (x : Process). (living x && eqb x.parent p) ≡ is_child_of m p i) m i (λ e. rw (eq-eqb (m fields.pid i) 0 e)) (λ u. refl)

pub children_of : (z : Sizes) (m : Memory) (p : ℕ) → children (machine_of z m) p ≡ count_below z.processes (is_child_of m p)
unfolding children machine_of
children_of z m p =
    count_that-table (λ (x : Process). living x && eqb x.parent p) z.processes (process_at m)
    ∙ count-sum z.processes (λ i. living (process_at m i) && eqb (process_at m i).parent p)
    ∙ sum_same z.processes (λ i. bit (living (process_at m i) && eqb (process_at m i).parent p)) (λ i. bit (is_child_of m p i)) (λ i l. ap bit (child-at m p i))
    ∙ sym (count-sum z.processes (is_child_of m p))

free-range : (z : Sizes) → ProcessInRange z free
unfolding free
free-range z = record { name = refl; bytes = each-replicate Byte 28 0 (omega arith); exits = omega arith; each = tt; resume = tt }

module _ {z : Sizes} {m : Memory} (b : InBounds z m) (f : Facts z m) where
  used : (i : ℕ) → Used m i → UsedOk z m i
  used i u = (f.records i (inside b fields.pid i u)).used u

  exit-range : (c : ℕ) → c < z.cells → ExitInRange z (exit_at m c)
  unfolding exit_at
  exit-range c l =
      record {
        cell = l;
        pid = omega (arith, at_most b fields.exit_pid c);
        length = omega (arith, at_most b fields.message_length c, table-length (m fields.message_length c) (λ j. m fields.message_byte (127 * c + j)));
        bytes =
            each-table Byte (m fields.message_length c) (λ j. m fields.message_byte (127 * c + j))
            (λ j k. omega (arith, at_most b fields.message_byte (127 * c + j)));
      }

  used-range : (i : ℕ) → Used m i → ProcessInRange z (used_at m i)
  used-range i u =
      record {
        name = table-length 28 (λ j. m fields.name_byte (28 * i + j));
        bytes = each-table Byte 28 (λ j. m fields.name_byte (28 * i + j)) (λ j k. omega (arith, at_most b fields.name_byte (28 * i + j)));
        exits = omega (arith, map-length (exit_at m) (exit_list m i), facts-counted b f i u, at_most b fields.nexits i);
        each = each_map (ExitInRange z) (exit_at m) (exit_list m i) (all_map exit-range (exit_list m i) ((facts_owning b f).chain i u).below);
        resume =
            resume-range z (m fields.resume_kind i) (m fields.resume_object i) (m fields.resume_condition i)
            (at_most b fields.resume_kind i)
            (omega (arith, at_most b fields.resume_condition i))
            (used i u).call.rendez
            (used i u).call.lock;
      }

  setting-range : (t : ℕ) → t < z.timers → SettingInRange z (record { period = m fields.period t; rendez = m fields.timer_rendez t })
  setting-range t l =
      record {
        period =
            ⊎_elim {C = (m fields.period t ≡ 0) ⊎ ((counts_of z.hz 0 100000 ≤ m fields.period t) × (m fields.period t ≤ 2 ^ 63 - 1))}
            (λ e. inl e) (λ h. inr (h, most)) ((f.timers t (omega arith)).period l);
        rendez = omega (arith, at_most b fields.timer_rendez t, b.sizes.rendez.0);
      }
    where
      most : m fields.period t ≤ 2 ^ 63 - 1
      most = omega (arith, at_most b fields.period t)

  facts-range : InRange (machine_of z m)
  unfolding machine_of
  facts-range =
      record {
        sizes = b.sizes;
        processes = table-length z.processes (process_at m);
        rendez = table-length z.rendez (λ r. link_to (m fields.sleeper_of r));
        locks = table-length z.locks (λ q. record { held = is_set (m fields.held q); waiters = waiter_list z m q });
        timers = table-length z.timers (λ t. record { period = m fields.period t; rendez = m fields.timer_rendez t });
        conditions = table-length 256 (λ c. is_set (m fields.condition_bit c));
        each = each-table (ProcessInRange z) z.processes (process_at m) (λ i l. either-at (ProcessInRange z) m i (λ e. free-range z) (used-range i));
        settings = each-table (SettingInRange z) z.timers (λ t. record { period = m fields.period t; rendez = m fields.timer_rendez t }) setting-range;
        hzclock =
            ap (λ (s : Setting). s.period) (setting_of_lem b 0 b.sizes.timers.0) ∙ (f.timers 0 (omega (arith, b.sizes.timers.0))).tick refl;
        queued =
            each_map (QueuedInRange z) (queued_at m) (timer_list z m)
            (all_map (λ t l. record { timer = l; deadline = omega (arith, at_most b fields.deadline t) }) (timer_list z m) f.timer_queue.chain.below);
        next_pid = (f.header.next_pid, omega (arith, at_most b fields.next_pid 0));
        last_now = f.header.last_now;
        freed = λ i e. process_of b i ∙ free-at m i (sym (pid_of_lem b i) ∙ e);
      }

  facts_fit : CallsFit (machine_of z m)
  unfolding machine_of waits_on
  facts_fit = record { runner = runner; sleeper = sleeping; waiter = waiter; queuer = queuer }
    where
      lives : (i : ℕ) → 0 < m fields.state_of i → Used m i
      lives i h = tags-used (facts-tags b f) i h

      runner : (i : ℕ) → link_to (m fields.up 0) ≡ some i → (process (machine_of z m) i).resume ≡ nothing
      runner i e =
          let s : m fields.state_of i ≡ 1 = f.up i (some-link (m fields.up 0) i e) in
          resume_of_lem b i (lives i (omega arith))
          ∙ resume-nothing (m fields.resume_kind i) (m fields.resume_object i) (m fields.resume_condition i) ((facts-call b f i (omega arith)).running s).0

      sleeping : (r i : ℕ) → sleeper (machine_of z m) r ≡ some i → SleepsOn r (process (machine_of z m) i).resume
      sleeping r i e =
          let d : m fields.sleeper_of r ≡ suc i = some-link (m fields.sleeper_of r) i (sym (sleeper_of_lem b r) ∙ e) in
          let h : SleepsHere m r i = f.rendez r (inside b fields.sleeper_of r (omega arith)) i d in
          subst (SleepsOn r) (sym (resume_of_lem b i (lives i (omega (arith, h.state)))))
          (resume-sleeps (m fields.resume_kind i) (m fields.resume_object i) (m fields.resume_condition i) r h.kind h.object)

      waiter : (i : ℕ) → (process (machine_of z m) i).on_waitr ≡ true → (process (machine_of z m) i).resume ≡ in_wait
      waiter i e =
          let p : (m fields.state_of i ≡ 3) × (m fields.resume_kind i ≡ 4) =
          test_both (m fields.state_of i) (m fields.resume_kind i) 4 (sym (waitr_of b i ((facts-tags b f).free i)) ∙ e)
          in
          resume_of_lem b i (lives i (omega (arith, p.0)))
          ∙ resume-wait (m fields.resume_kind i) (m fields.resume_object i) (m fields.resume_condition i) p.1

      waits : (q i : ℕ) → WaitsHere m q i → (process (machine_of z m) i).resume ≡ in_qlock q
      waits q i h =
          resume_of_lem b i (lives i (omega (arith, h.state)))
          ∙ resume-lock (m fields.resume_kind i) (m fields.resume_object i) (m fields.resume_condition i) q h.kind h.object

      queuer : (q : ℕ) → Each (λ i. (process (machine_of z m) i).resume ≡ in_qlock q) (lock (machine_of z m) q).waiters
      queuer q =
          subst (λ (l : Lock). Each (λ i. (process (machine_of z m) i).resume ≡ in_qlock q) l.waiters) (sym (lock_of b q))
          (all_map (waits q) (waiter_list z m q) (facts-waiting b f q))

  -- A queued timer is one of the machine's, and queued by its field.
  timer_in : (t : ℕ) → 1 ≤ count t (timer_list z m) → (t < z.timers + z.processes) × (m fields.is_queued t ≡ 1)
  timer_in t h = (
    each-count (λ t. t < z.timers + z.processes) (timer_list z m) f.timer_queue.chain.below t h,
    each-count (λ t. m fields.is_queued t ≡ 1) (timer_list z m) f.timer_queue.queued t h,
  )

  facts-tsleeping
      : (i : ℕ)
      → 1 ≤ count (own_timer i (machine_of z m)) (map (λ (x : Queued). x.timer) (machine_of z m).queued)
      → IsTsleep (process (machine_of z m) i).resume
  unfolding machine_of own_timer
  facts-tsleeping i h =
      let k : 1 ≤ count (z.timers + i) (timer_list z m) = subst (λ (xs : List ℕ). 1 ≤ count (z.timers + i) xs) (timers-back m (timer_list z m)) h in
      let p : (z.timers + i < z.timers + z.processes) × (m fields.is_queued (z.timers + i) ≡ 1) = timer_in (z.timers + i) k in
      let o : Used m i × (m fields.resume_kind i ≡ 2) =
      subst (λ (j : ℕ). Used m j × (m fields.resume_kind j ≡ 2)) (omega arith) ((f.timers (z.timers + i) p.0).own (omega arith) p.1)
      in
      subst IsTsleep (sym (resume_of_lem b i o.0)) (resume-tsleep (m fields.resume_kind i) (m fields.resume_object i) (m fields.resume_condition i) o.1)

  facts-held : (q : ℕ) → (lock (machine_of z m) q).held ≡ false → (lock (machine_of z m) q).waiters ≡ []
  unfolding waiter_list
  facts-held q e =
      ap (λ (l : Lock). l.waiters) (lock_of b q) ∙ walk_none z.processes (m fields.next) (m fields.lock_head q) (head (ltb q z.locks) refl)
    where
      open' : m fields.held q ≡ 0
      open' = test_unset (m fields.held q) (sym (ap (λ (l : Lock). l.held) (lock_of b q)) ∙ e)

      head : (c : Bool) → ltb q z.locks ≡ c → m fields.lock_head q ≡ 0
      head true k = (f.locks q (ltb-true q z.locks k)).held open'
      head false k = b.past fields.lock_head q (ltb-false q z.locks k)

  lives-used : (i : ℕ) → Lives (machine_of z m) i → Used m i
  lives-used i h = omega (arith, pid_of_lem b i)

  facts-apart : (i j : ℕ) → Lives (machine_of z m) i → pid_of (machine_of z m) i ≡ pid_of (machine_of z m) j → i ≡ j
  facts-apart i j h e =
      let u : Used m i = lives-used i h in
      let d : m fields.pid i ≡ m fields.pid j = sym (pid_of_lem b i) ∙ e ∙ pid_of_lem b j in
      let v : Used m j = omega arith in
      rising-apart (m fields.pid) (age_list z m) f.ages.rising i j
      (omega (arith, (facts-ages b f).living i, ap bit (set_test (m fields.pid i) u)))
      (omega (arith, (facts-ages b f).living j, ap bit (set_test (m fields.pid j) v)))
      d

  facts_below : (i : ℕ) → pid_of (machine_of z m) i < m fields.next_pid 0
  facts_below i = go (ltb 0 (m fields.pid i)) refl
    where
      go : (c : Bool) → ltb 0 (m fields.pid i) ≡ c → pid_of (machine_of z m) i < m fields.next_pid 0
      go true e = omega (arith, pid_of_lem b i, (used i (ltb-true 0 (m fields.pid i) e)).below)
      go false e = omega (arith, pid_of_lem b i, ltb-false 0 (m fields.pid i) e, f.header.next_pid)

  -- The facts say that the machine is good.
  pub facts-good : Good (machine_of z m)
  unfolding machine_of free
  facts-good =
      record {
        in_range = facts-range;
        in_one_place = spots-places b (facts-spots b f);
        calls_fit = facts_fit;
        by_deadline = by_deadline_lem m (timer_list z m) f.timer_queue.sorted;
        queued_once = λ t.
            subst (λ (xs : List ℕ). count t xs ≤ 1) (sym (timers-back m (timer_list z m))) (count-distinct (timer_list z m) t f.timer_queue.chain.distinct);
        nchild = λ i h.
            let u : Used m i = lives-used i h in
            ap (λ (p : Process). p.nchild) (used_of b i u)
            ∙ f.nchild i (inside b fields.pid i u) u
            ∙ sym (children_of z m (m fields.pid i))
            ∙ ap (children (machine_of z m)) (sym (pid_of_lem b i));
        cells = cells-once (facts_owning b f);
        apart = facts-apart;
        below = facts_below;
        parent = λ i h.
            let u : Used m i = lives-used i h in
            omega (arith, ap (λ (p : Process). p.parent) (used_of b i u), pid_of_lem b i, (used i u).parent);
        tsleeping = facts-tsleeping;
        held = facts-held;
        ticks = f.header.ticks;
        tick =
            each_map (λ (x : Queued). x.timer ≡ 0 → m fields.ticks 0 < x.deadline) (queued_at m) (timer_list z m)
            (all_both (λ t l q e. (f.timers t l).ticks e q) (timer_list z m) f.timer_queue.chain.below f.timer_queue.queued);
        quantum = λ i.
            subst (λ (p : Process). p.quantum_end ≤ m fields.ticks 0 + 10) (sym (process_of b i))
            (either-at (λ (p : Process). p.quantum_end ≤ m fields.ticks 0 + 10) m i (λ e. omega arith) (λ u. (used i u).quantum));
      }
