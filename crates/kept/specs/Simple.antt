-- The steps that move nobody, and those of locks and Rendez that move one.
use Rattle.std.specs.Prelude.{if◌then◌else◌, ◌≡◌, refl, Bool, true, false, ◌&&◌, ◌||◌, List, [], ◌∷◌, ◌++◌, ◌⊎◌, ℕ, ◌+◌, ◌-◌, ◌^◌, ◌≤◌, ◌<◌, eqb, leb, ltb, length, replicate}
use Rattle.std.proofs.Common.{sym, inl, inr, arith, ltb-true, ltb-false, leb-true, length-append}
use Rattle.std.proofs.Math.Option.{Option, none, some}
use Rattle.std.proofs.lemmas.List.{length-replicate}
use Rattle.clock.specs.Counts.{counts_of, nanos_of, shorter, zero_duration}
use Rattle.clock.specs.Laws.{counts_mono}
use Rattle.machine.specs.Basics.{elem, all}
use Rattle.machine.specs.Machine.{Sizes, Machine, Setting, Queued, free, process, sleeper, lock}
use Rattle.machine.specs.Update.{with_last_now, with_setting, with_name, with_up, with_sleeper, with_lock}
use Rattle.machine.specs.Step.{name, yield, wakeup, canqlock, qunlock, cond, clock, tadd, tdel, due, open_step}
use Rattle.machine.specs.Outcome.{open_outcome}
use Rattle.machine.specs.Places.{wake, hand_over}
use Rattle.machine.specs.Timers.{insert, remove, add, delete}
use Rattle.machine.specs.Table.{refusal, in_range, bad_now, open_table}
use Rattle.machine.specs.Perform.{perform, current, name_of, yield_of, wakeup_of, canqlock_of, qunlock_of, cond_of, clock_of, tadd_of, tdel_of, due_of}
use Rattle.machine.specs.Good.{Each, Byte, ProcessInRange, SettingInRange, IsTsleep}
use Rattle.lists.specs.Lists.{each-get, each_append}
use Rattle.kept.specs.Fine.{at, Fine}
use Rattle.kept.specs.Fresh.{each-replicate, ten_small, ten_positive}
use Rattle.kept.specs.SpotsLaws.{pid-low}
use Rattle.kept.specs.ClockLaws.{clock-insert, clock-remove, clock_now, clock-setting, count-removed, own-insert, own-remove}
use Rattle.kept.specs.FineLaws.{fine-condition, fine-queued, fine_now, fine-setting, fine-body}
use Rattle.kept.specs.Moves.{up-lives, leave-up, leave-sleeper, leave-lock, enter_run, set-lock}
use Rattle.kept.specs.Allowed.{and_left, and_right, or_left, allowed, step, in_range_lem, runner, now_fits}

-- Who runs is the current one.
pub current-is : (m : Machine) (i : ℕ) → m.up ≡ some i → current m ≡ i
unfolding current
current-is m i e = rw e

-- What holds of a living process's record.
pub record_range : {o : Option ℕ} {w : List ℕ} (m : Machine) → Fine o w m → (i : ℕ) → 0 < (at m.processes i).pid → ProcessInRange m.sizes (at m.processes i)
record_range m f i l = each-get (ProcessInRange m.sizes) m.processes i free f.records.each (pid-low m.processes i l)

-- A list whose every element is tested.
pub all_bytes_lem : (bs : List ℕ) → all (λ b. ltb b 256) bs ≡ true → Each Byte bs
unfolding all
all_bytes_lem [] e = tt
all_bytes_lem (b ∷ bs) e = (ltb-true b 256 (and_left (ltb b 256) (all (λ b. ltb b 256) bs) e), all_bytes_lem bs (and_right (ltb b 256) (all (λ b. ltb b 256) bs) e))

-- A timer is added, with a deadline in range; and one is removed.
pub fine-add : {o : Option ℕ} {w : List ℕ} (m : Machine) → Fine o w m → (t d : ℕ)
    → t < m.sizes.timers + m.sizes.processes
    → d < 2 ^ 64
    → (t ≡ 0 → m.ticks < d)
    → ((k : ℕ) → m.sizes.timers + k ≡ t → IsTsleep (at m.processes k).resume)
    → Fine o w (add t d m)
unfolding add
fine-add m f t d a b c h =
    let x : Queued = record { timer = t; deadline = d } in
    fine-queued m f (insert x (remove t m.queued))
    (clock-insert (clock-remove f.clockwork t) x (count-removed t m.queued) (record { timer = a; deadline = b }) c)
    (own-insert m.sizes m.processes (remove t m.queued) x (own-remove m.sizes m.processes m.queued t f.tsleeping) h)

-- A timer is removed.
pub fine-delete : {o : Option ℕ} {w : List ℕ} (m : Machine) → Fine o w m → (t : ℕ) → Fine o w (delete t m)
unfolding delete
fine-delete m f t =
    fine-queued m f (remove t m.queued) (clock-remove f.clockwork t) (own-remove m.sizes m.processes m.queued t f.tsleeping)

-- NOW is accepted.
pub fine-accepted : {o : Option ℕ} {w : List ℕ} (m : Machine) → Fine o w m → (now : ℕ) → (m.last_now ≤ now) × (now ≤ 2 ^ 51 - 1) → Fine o w (with_last_now now m)
fine-accepted m f now h = fine_now m f now (clock_now f.clockwork now h.0 h.1)

-- The one who sleeps on a Rendez is woken; a lock is handed over.
pub fine-wake : {w : List ℕ} (m : Machine) → Fine none w m → (r : ℕ) → Fine none w (wake r m).machine
unfolding wake
fine-wake {w} m f r = go (sleeper m r) refl
  where
    go : (o : Option ℕ) → sleeper m r ≡ o → Fine none w (wake r m).machine
    go none e = rw (e, wake) f
    go (some i) e = rw (e, wake) (enter_run (with_sleeper r none m) (leave-sleeper m f r i e))

-- The first waiter gets the lock and is ready; without one it is free.
fine_hand : (m : Machine) → Fine none [] m → (q : ℕ) → q < m.sizes.locks → Fine none [] (hand_over q m).machine
unfolding hand_over
fine_hand m f q l = go (lock m q).waiters refl
  where
    go : (ws : List ℕ) → (lock m q).waiters ≡ ws → Fine none [] (hand_over q m).machine
    go [] e = rw (e, hand_over) (set-lock m f q (record { held = false; waiters = [] }) l (sym e) (λ n. refl))
    go (i ∷ rest) e = rw (e, hand_over) (enter_run (with_lock q (record { held = true; waiters = rest }) m) (leave-lock m f q i rest e))

-- A lock is taken.
pub fine-taken : (m : Machine) → Fine none [] m → (q : ℕ) → q < m.sizes.locks → Fine none [] (with_lock q (record { held = true; waiters = (lock m q).waiters }) m)
fine-taken m f q l = set-lock m f q (record { held = true; waiters = (lock m q).waiters }) l refl (λ n. let x : ◌≡◌ {A = ℕ} 0 1 = cc in absurd (omega arith))

-- The steps, where they are not refused.
pub kept-cond : (m : Machine) (C v : ℕ) → Fine none [] m → Fine none [] (perform (cond C v) m).after
unfolding perform cond_of open_outcome
kept-cond m C v f = fine-condition m f C (eqb v 1)

-- `due` only looks.
pub kept-due : (m : Machine) → Fine none [] m → Fine none [] (perform due m).after
unfolding perform due_of open_outcome
kept-due m f = f

-- `tdel` removes a timer.
pub kept-tdel : (m : Machine) (T : ℕ) → Fine none [] m → Fine none [] (perform (tdel T) m).after
unfolding perform tdel_of open_outcome
kept-tdel m T f = fine-delete m f T

-- `wakeup` moves a sleeper to the run queue.
pub kept-wakeup : (m : Machine) (R : ℕ) → Fine none [] m → Fine none [] (perform (wakeup R) m).after
unfolding perform wakeup_of open_outcome
kept-wakeup m R f = fine-wake m f R

-- `qunlock` hands a lock over.
pub kept-qunlock : (m : Machine) (k : Bool) (Q : ℕ) → refusal m (step k (qunlock Q)) ≡ none → Fine none [] m → Fine none [] (perform (qunlock Q) m).after
unfolding perform qunlock_of open_outcome open_table open_step elem
kept-qunlock m k Q e f = fine_hand m f Q (ltb-true Q m.sizes.locks (in_range_lem m k (qunlock Q) e refl))

-- `canqlock` takes a lock that is free.
pub kept-canqlock : (m : Machine) (k : Bool) (Q : ℕ) → refusal m (step k (canqlock Q)) ≡ none → Fine none [] m → Fine none [] (perform (canqlock Q) m).after
unfolding perform canqlock_of open_outcome open_table open_step elem
kept-canqlock m k Q e f = go (lock m Q).held refl
  where
    go : (b : Bool) → (lock m Q).held ≡ b → Fine none [] (canqlock_of Q m).after
    go true h = rw (h, canqlock_of) f
    go false h = rw (h, canqlock_of) (fine-taken m f Q (ltb-true Q m.sizes.locks (in_range_lem m k (canqlock Q) e refl)))

-- `yield` moves the runner to the run queue.
pub kept-yield : (m : Machine) (k : Bool) → refusal m (step k yield) ≡ none → Fine none [] m → Fine none [] (perform yield m).after
unfolding perform yield_of open_outcome open_table open_step elem
kept-yield m k e f =
    let u : (i : ℕ) × (m.up ≡ some i) = runner m k yield e refl refl in
    rw (current-is m u.0 u.1) (enter_run (with_up none m) (leave-up m f u.0 u.1))

-- `name`: the bytes and the zeros after them are twenty-eight.
pub kept-name : (m : Machine) (k : Bool) (bs : List ℕ) → refusal m (step k (name bs)) ≡ none → Fine none [] m → Fine none [] (perform (name bs) m).after
unfolding perform name_of with_name process open_outcome open_table open_step elem
kept-name m k bs e f =
    let u : (i : ℕ) × (m.up ≡ some i) = runner m k (name bs) e refl refl in
    let i : ℕ = u.0 in
    let a : 0 < (at m.processes i).pid = up-lives m f i u.1 in
    let r : ProcessInRange m.sizes (at m.processes i) = record_range m f i a in
    let h : in_range m.sizes (name bs) ≡ true = in_range_lem m k (name bs) e refl in
    let l : length bs ≤ 28 = leb-true (length bs) 28 (and_left (leb (length bs) 28) (all (λ b. ltb b 256) bs) h) in
    rw (current-is m i u.1)
    (fine-body m f [] i (with_name (bs ++ replicate (28 - length bs) 0) (process m i)) a refl refl refl refl
    (record {
      name = omega (arith, length-append bs (replicate (28 - length bs) 0), length-replicate {A = ℕ} (28 - length bs) 0);
      bytes = each_append Byte bs (replicate (28 - length bs) 0) (all_bytes_lem bs (and_right (leb (length bs) 28) (all (λ b. ltb b 256) bs) h)) (each-replicate Byte (28 - length bs) 0 (omega arith));
      exits = r.exits;
      each = r.each;
      resume = r.resume;
    })
    (f.records.quantum i)
    (λ c. omega (arith, f.records.cells c))
    refl
    (λ k d z. refl))

-- `clock`: ten milliseconds later is in range, and after every tick so far.
pub kept-clock : (m : Machine) (k : Bool) (NOW : ℕ) → refusal m (step k (clock NOW)) ≡ none → Fine none [] m → Fine none [] (perform (clock NOW) m).after
unfolding perform clock_of with_last_now open_outcome open_table open_step elem
kept-clock m k NOW e f =
    let b : (m.last_now ≤ NOW) × (NOW ≤ 2 ^ 51 - 1) = now_fits m NOW (or_left (bad_now m NOW) false (or_left (bad_now m NOW || false) false (allowed m (step k (clock NOW)) e 8 refl))) in
    let s : counts_of m.sizes.hz 0 10000000 ≤ 2 ^ 63 - 1 = ten_small m.sizes.hz f.sizes.hz.1 in
    let p : 0 < counts_of m.sizes.hz 0 10000000 = ten_positive m.sizes.hz f.sizes.hz.0 in
    fine-add (with_last_now NOW m) (fine-accepted m f NOW b) 0 (NOW + counts_of m.sizes.hz 0 10000000)
    (omega (arith, f.sizes.timers)) (omega arith) (λ z. omega (arith, f.clockwork.passed))
    (λ n z. absurd (omega (arith, f.sizes.timers)))

-- `tadd`: a period no shorter than 100 µs has no fewer counts.
pub kept-tadd : (m : Machine) (k : Bool) (T KIND S N R NOW : ℕ) → refusal m (step k (tadd T KIND S N R NOW)) ≡ none → Fine none [] m → Fine none [] (perform (tadd T KIND S N R NOW) m).after
unfolding perform tadd_of shorter with_last_now with_setting open_outcome open_table open_step elem
kept-tadd m k T KIND S N R NOW e f =
    let z : Sizes = m.sizes in
    let n : ℕ = counts_of z.hz S N in
    let h : leb 1 T && ltb T z.timers && leb KIND 1 && ltb S (2 ^ 64) && ltb N 1000000000 && ltb R z.rendez && ltb NOW (2 ^ 64) ≡ true = in_range_lem m k (tadd T KIND S N R NOW) e refl in
    let a : 1 ≤ T = leb-true 1 T (search (and_left, and_right)) in
    let b : T < z.timers = ltb-true T z.timers (search (and_left, and_right)) in
    let c : R < z.rendez = ltb-true R z.rendez (search (and_left, and_right)) in
    let d : (m.last_now ≤ NOW) × (NOW ≤ 2 ^ 51 - 1) = now_fits m NOW (or_left (bad_now m NOW) false (allowed m (step k (tadd T KIND S N R NOW)) e 8 refl)) in
    let l : n ≤ 2 ^ 63 - 1 = ltb-false (2 ^ 63 - 1) n (allowed m (step k (tadd T KIND S N R NOW)) e 9 refl) in
    let v : Setting = record { period = if eqb KIND 0 then 0 else n; rendez = R } in
    let r : SettingInRange z v = record { period = periodic (eqb KIND 0) (allowed m (step k (tadd T KIND S N R NOW)) e 7 refl) l; rendez = c } in
    fine-add (with_setting T v (with_last_now NOW m)) (fine-setting (with_last_now NOW m) (fine-accepted m f NOW d) T v (clock-setting (fine-accepted m f NOW d).clockwork T v a r)) T (NOW + n)
    (omega arith) (omega arith) (λ y. absurd (omega arith))
    (λ j y. absurd (omega arith))
  where
    periodic : (b : Bool)
        → (if b then zero_duration S N else shorter S N 0 100000) ≡ false
        → counts_of m.sizes.hz S N ≤ 2 ^ 63 - 1
        → ((if b then 0 else counts_of m.sizes.hz S N) ≡ 0) ⊎ ((counts_of m.sizes.hz 0 100000 ≤ (if b then 0 else counts_of m.sizes.hz S N)) × ((if b then 0 else counts_of m.sizes.hz S N) ≤ 2 ^ 63 - 1))
    periodic true h l = inl refl
    periodic false h l = inr (counts_mono m.sizes.hz 0 100000 S N (ltb-false (nanos_of S N) (nanos_of 0 100000) h), l)
