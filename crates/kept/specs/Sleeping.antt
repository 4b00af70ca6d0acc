-- The steps by which a process goes asleep: qlock, sleep, tsleep and wait.
use Rattle.std.specs.Prelude.{◌≡◌, refl, Bool, true, false, not, ◌&&◌, ◌||◌, List, [], ◌∷◌, map, ℕ, ◌+◌, ◌-◌, ◌^◌, ◌≤◌, ◌<◌, ltb, length, set}
use Rattle.std.proofs.Common.{sym, subst, arith, ltb-true, ltb-false, get_or-set_same}
use Rattle.std.proofs.Math.Path.{ap}
use Rattle.std.proofs.Math.Option.{Option, none, some}
use Rattle.clock.specs.Counts.{counts_of}
use Rattle.machine.specs.Basics.{is_some, is_empty, elem, count}
use Rattle.machine.specs.Machine.{Resume, in_sleep, in_tsleep, in_qlock, in_wait, Exit, Machine, Process, free, process, sleeper, lock, condition}
use Rattle.machine.specs.Update.{with_last_now, with_process, with_up, with_sleeper, with_resume, with_exits, open_update, with_queued}
use Rattle.machine.specs.Step.{Step, qlock, sleep, tsleep, wait, open_step}
use Rattle.machine.specs.Outcome.{open_outcome}
use Rattle.machine.specs.Places.{sleep_on, sleep_on_waitr, queue_on}
use Rattle.machine.specs.Timers.{add, own_timer}
use Rattle.machine.specs.Table.{refusal, bad_now, long_counts, taken, open_table}
use Rattle.machine.specs.Perform.{perform, current, qlock_of, sleep_of, tsleep_of, wait_of, take_exit}
use Rattle.machine.specs.Good.{Each, ProcessInRange, ResumeInRange, SleepsOn, IsTsleep, ExitInRange}
use Rattle.kept.specs.Fine.{at, timers_of, Fine, option_in}
use Rattle.kept.specs.SpotsLaws.{pid-low}
use Rattle.kept.specs.FineLaws.{fine-body}
use Rattle.kept.specs.Moves.{up-lives, leave-up, limbo-lives, enter_sleeper, enter_lock, enter_waitr, change_call}
use Rattle.kept.specs.Allowed.{and_left, and_right, and_off, or_left, not_there, allowed, step, in_range_lem, runner, now_fits}
use Rattle.kept.specs.Simple.{current-is, record_range, fine-add, fine-delete, fine-accepted, fine-taken}

-- Who runs has no timer of its own queued.
pub runner-own : {w : List ℕ} (m : Machine) → Fine none w m → (i : ℕ) → m.up ≡ some i → 1 ≤ count (m.sizes.timers + i) (timers_of m.queued) → ⊥
runner-own m f i e c = subst (λ (r : Resume). IsTsleep r) (f.spots.runner i (option_in m.up i e)) (f.tsleeping i c)

-- From limbo, while nobody runs: onto a Rendez, into a lock's queue, onto the own waitr.
module _ {w : List ℕ} {i : ℕ} (m : Machine) (f : Fine (some i) w (with_up none m)) where
  -- onto a Rendez where nobody sleeps
  pub to-rendez : (r : ℕ) (call : Resume)
      → r < m.sizes.rendez
      → sleeper m r ≡ none
      → SleepsOn r call
      → ResumeInRange m.sizes call
      → (1 ≤ count (m.sizes.timers + i) (timers_of m.queued) → IsTsleep call)
      → Fine none w (sleep_on i r call m)
  unfolding sleep_on open_update process sleeper
  to-rendez r call l e s h own =
      let m1 : Machine = with_up none m in
      let m2 : Machine = with_process i (with_resume call (process m1 i)) m1 in
      let is : (process m2 i).resume ≡ call = ap {B = Resume} (λ p. p.resume) (get_or-set_same m.processes i (with_resume call (process m i)) free (pid-low m.processes i (limbo-lives m1 f))) in
      enter_sleeper m2 (change_call m1 f call h own) r l e (subst (λ (x : Resume). SleepsOn r x) (sym is) s)

  -- into a lock's queue
  pub to-lock : (q : ℕ) → q < m.sizes.locks → (1 ≤ count (m.sizes.timers + i) (timers_of m.queued) → ⊥) → Fine none w (queue_on i q (in_qlock q) m)
  unfolding queue_on open_update process lock
  to-lock q l own =
      let m1 : Machine = with_up none m in
      let m2 : Machine = with_process i (with_resume (in_qlock q) (process m1 i)) m1 in
      let is : (process m2 i).resume ≡ in_qlock q = ap {B = Resume} (λ p. p.resume) (get_or-set_same m.processes i (with_resume (in_qlock q) (process m i)) free (pid-low m.processes i (limbo-lives m1 f))) in
      enter_lock m2 (change_call m1 f (in_qlock q) l own) q l is

  -- onto the own waitr
  pub to-waitr : (1 ≤ count (m.sizes.timers + i) (timers_of m.queued) → ⊥) → Fine none w (sleep_on_waitr i in_wait m)
  unfolding sleep_on_waitr open_update process
  to-waitr own = enter_waitr (with_up none m) f own

-- The newest exit is taken: its cell is free again.
pub fine-take : {o : Option ℕ} {w : List ℕ} (m : Machine) → Fine o w m → (i : ℕ) → 0 < (at m.processes i).pid → Fine o w (with_process i (take_exit (process m i)) m)
unfolding take_exit with_exits process count
fine-take {o} {w} m f i a = go (process m i).exits refl
  where
    r : ProcessInRange m.sizes (at m.processes i)
    r = record_range m f i a

    go : (es : List Exit) → (process m i).exits ≡ es → Fine o w (with_process i (take_exit (process m i)) m)
    go [] e = rw (e, take_exit) (fine-body m f w i (process m i) a refl refl refl refl r (f.records.quantum i) (λ c. omega (arith, f.records.cells c)) refl (λ k d z. refl))
    go (x ∷ rest) e =
        rw (e, take_exit)
        (fine-body m f w i (with_exits rest (process m i)) a refl refl refl refl
        (record { name = r.name; bytes = r.bytes; exits = omega (arith, r.exits, ap length e); each = (subst (λ (es : List Exit). Each (ExitInRange m.sizes) es) e r.each).1; resume = r.resume })
        (f.records.quantum i)
        (λ c. omega (arith, f.records.cells c, ap {B = ℕ} (λ es. count c (map (λ y. y.cell) es)) e))
        refl
        (λ k d z. refl))

-- `qlock` of a held lock queues the runner; a free one is taken.
pub kept-qlock : (m : Machine) (k : Bool) (Q : ℕ) → refusal m (step k (qlock Q)) ≡ none → Fine none [] m → Fine none [] (perform (qlock Q) m).after
unfolding perform qlock_of open_outcome open_table open_step elem
kept-qlock m k Q e f = go (lock m Q).held refl
  where
    q : Q < m.sizes.locks
    q = ltb-true Q m.sizes.locks (in_range_lem m k (qlock Q) e refl)

    go : (b : Bool) → (lock m Q).held ≡ b → Fine none [] (qlock_of Q m).after
    go true h =
        let u : (i : ℕ) × (m.up ≡ some i) = runner m k (qlock Q) e refl (rw h) in
        rw (h, qlock_of, current-is m u.0 u.1) (to-lock m (leave-up m f u.0 u.1) Q q (runner-own m f u.0 u.1))
    go false h = rw (h, qlock_of) (fine-taken m f Q q)

-- `sleep` on a false condition: 5 was tested, so nobody else is there.
pub kept-sleep : (m : Machine) (k : Bool) (R C : ℕ) → refusal m (step k (sleep R C)) ≡ none → Fine none [] m → Fine none [] (perform (sleep R C) m).after
unfolding perform sleep_of open_outcome open_table open_step elem
kept-sleep m k R C e f = go (condition m C) refl
  where
    h : ltb R m.sizes.rendez && ltb C 256 ≡ true
    h = in_range_lem m k (sleep R C) e refl

    go : (b : Bool) → condition m C ≡ b → Fine none [] (sleep_of R C m).after
    go true c = rw (c, sleep_of) f
    go false c =
        let u : (i : ℕ) × (m.up ≡ some i) = runner m k (sleep R C) e refl (rw c) in
        let n : taken m R C ≡ false = or_left (taken m R C) false (or_left (taken m R C || false) false (allowed m (step k (sleep R C)) e 5 refl)) in
        let r : R < m.sizes.rendez = ltb-true R m.sizes.rendez (and_left (ltb R m.sizes.rendez) (ltb C 256) h) in
        rw (c, sleep_of, current-is m u.0 u.1)
        (to-rendez m (leave-up m f u.0 u.1) R (in_sleep R C) r (not_there (sleeper m R) (rw (c, taken) at n)) refl (r, ltb-true C 256 (and_right (ltb R m.sizes.rendez) (ltb C 256) h)) (λ l. runner-own m f u.0 u.1 l))

-- `wait` takes the newest exit, or sleeps on the own waitr.
pub kept-wait : (m : Machine) (k : Bool) → refusal m (step k wait) ≡ none → Fine none [] m → Fine none [] (perform wait m).after
unfolding perform wait_of open_outcome open_table open_step elem
kept-wait m k e f = go (is_empty (process m (current m)).exits) refl
  where
    u : (i : ℕ) × (m.up ≡ some i)
    u = runner m k wait e refl refl

    go : (b : Bool) → is_empty (process m (current m)).exits ≡ b → Fine none [] (wait_of m).after
    go true h = rw (h, wait_of, current-is m u.0 u.1) (to-waitr m (leave-up m f u.0 u.1) (runner-own m f u.0 u.1))
    go false h = rw (h, wait_of, current-is m u.0 u.1) (fine-take m f u.0 (up-lives m f u.0 u.1))

-- `tsleep`: it goes asleep, and then its timer is added.
pub kept-tsleep : (m : Machine) (k : Bool) (R C S N NOW : ℕ) → refusal m (step k (tsleep R C S N NOW)) ≡ none → Fine none [] m → Fine none [] (perform (tsleep R C S N NOW) m).after
unfolding perform tsleep_of own_timer sleep_on add with_sleeper with_up with_process with_resume with_last_now with_queued process sleeper open_outcome open_table open_step elem
kept-tsleep m k R C S N NOW e f = go (condition m C) refl
  where
    s : Step
    s = step k (tsleep R C S N NOW)

    u : (i : ℕ) × (m.up ≡ some i)
    u = runner m k (tsleep R C S N NOW) e refl refl

    n : Machine
    n = with_last_now NOW m

    g : Fine none [] n
    g = fine-accepted m f NOW (now_fits m NOW (or_left (bad_now m NOW) false (or_left (bad_now m NOW || false) false (or_left (bad_now m NOW || false || false) false (allowed m s e 8 refl)))))

    h : ltb R m.sizes.rendez && ltb C 256 && ltb S (2 ^ 64) && ltb N 1000000000 && ltb NOW (2 ^ 64) ≡ true
    h = in_range_lem m k (tsleep R C S N NOW) e refl

    r : R < m.sizes.rendez
    r = ltb-true R m.sizes.rendez (search (and_left, and_right, h))

    c : C < 256
    c = ltb-true C 256 (search (and_left, and_right, h))

    asleep : sleeper m R ≡ none → Fine none [] (sleep_on u.0 R (in_tsleep R C) n)
    asleep a = to-rendez n (leave-up n g u.0 u.1) R (in_tsleep R C) r a refl (r, c) (λ l. tt)

    l : u.0 < length m.processes
    l = pid-low m.processes u.0 (up-lives m f u.0 u.1)

    timed : sleeper m R ≡ none → Fine none [] (add (m.sizes.timers + u.0) (NOW + counts_of m.sizes.hz S N) (sleep_on u.0 R (in_tsleep R C) n))
    timed a =
        fine-add (sleep_on u.0 R (in_tsleep R C) n) (asleep a) (m.sizes.timers + u.0) (NOW + counts_of m.sizes.hz S N)
        (omega (arith, l, f.records.size))
        (omega (arith, g.clockwork.last_now, ltb-false (2 ^ 63 - 1) (counts_of m.sizes.hz S N) (or_left (long_counts m S N) false (allowed m s e 9 refl))))
        (λ z. absurd (omega (arith, f.sizes.timers)))
        (λ j z. subst (λ (x : ℕ). IsTsleep (at (set m.processes u.0 (with_resume (in_tsleep R C) (process m u.0))) x).resume) (omega arith)
        (subst (λ (p : Process). IsTsleep p.resume) (sym (get_or-set_same m.processes u.0 (with_resume (in_tsleep R C) (process m u.0)) free l)) tt))

    go : (b : Bool) → condition m C ≡ b → Fine none [] (tsleep_of R C S N NOW m).after
    go true a = rw (a, tsleep_of) (fine-delete n g (m.sizes.timers + current m))
    go false a = rw (a, tsleep_of, current-is m u.0 u.1) (timed (not_there (sleeper m R) (and_off (not (condition m C)) (is_some (sleeper m R)) (or_left (taken m R C) false (allowed m s e 5 refl)) (rw a))))
