-- `sched`: the first of the run queue is dispatched, and runs or goes asleep again.
use Rattle.std.specs.Prelude.{if◌then◌else◌, ◌≡◌, refl, Bool, true, false, not, ◌&&◌, List, [], ◌∷◌, ℕ, ◌+◌, ◌≤◌, ◌<◌, length}
use Rattle.std.proofs.Common.{ap, subst, arith, eq-eqb, length-set, get_or-set_same}
use Rattle.std.proofs.Math.Option.{Option, none, some}
use Rattle.machine.specs.Basics.{is_some, is_empty, elem, count}
use Rattle.machine.specs.Machine.{Resume, nothing, in_sleep, in_tsleep, in_qlock, in_wait, Machine, Process, free, process, sleeper, condition, pid_of}
use Rattle.machine.specs.Update.{with_process, with_run, with_up, with_resume, with_quantum_end, open_update, with_queued}
use Rattle.machine.specs.Step.{sched, open_step}
use Rattle.machine.specs.Outcome.{Answer, open_outcome}
use Rattle.machine.specs.Places.{sleep_on}
use Rattle.machine.specs.Timers.{delete, own_timer, is_queued}
use Rattle.machine.specs.Table.{refusal, taken, taken_again, head_taken, open_table}
use Rattle.machine.specs.Perform.{perform, sched_of, resumes, runs, checks_again, tsleep_checks, wait_checks, take_exit, newest}
use Rattle.machine.specs.Good.{ProcessInRange, ResumeInRange, SleepsOn, IsTsleep, running_in}
use Rattle.lists.specs.Lists.{bit}
use Rattle.kept.specs.Fine.{at, timers_of, Fine}
use Rattle.kept.specs.SpotsLaws.{pid-low, spots-run}
use Rattle.kept.specs.ClockLaws.{count-removed}
use Rattle.kept.specs.FineLaws.{fine_up, fine-body, counted-lives}
use Rattle.kept.specs.Moves.{count_none, leave-run, limbo-lives, limbo-range, enter_up, change_call}
use Rattle.kept.specs.Allowed.{and_off, not_there, allowed, step}
use Rattle.kept.specs.Simple.{record_range, fine-delete}
use Rattle.kept.specs.Sleeping.{to-rendez, to-waitr, fine-take}

-- From limbo, while nobody runs, to running, with no timer queued.
module _ {w : List ℕ} {i : ℕ} (m : Machine) (f : Fine (some i) w m) (idle : m.up ≡ none) where
  -- Nobody runs, as before.
  pub nobody : Fine (some i) w (with_up none m)
  nobody = fine_up m f (some i) none (spots-run f.spots (some i) none m.run (λ k. omega (arith, ap {B = ℕ} (λ o. count k (running_in o)) idle)) (λ k l. absurd (omega (arith, count_none k))))

  -- It runs.
  pub to-run : (a : Answer) → (1 ≤ count (m.sizes.timers + i) (timers_of m.queued) → ⊥) → Fine none w (runs i a m).after
  unfolding runs open_outcome open_update process
  to-run a own =
      enter_up (with_process i (with_resume nothing (process m i)) m) (change_call m f nothing tt own) idle
      (ap {B = Resume} (λ p. p.resume) (get_or-set_same m.processes i (with_resume nothing (process m i)) free (pid-low m.processes i (limbo-lives m f))))

  -- It sleeps again where it slept.
  pub to-sleep : (r : ℕ) → sleeper m r ≡ none → r < m.sizes.rendez → SleepsOn r (process m i).resume → Fine none w (sleep_on i r (process m i).resume m)
  unfolding with_up process
  to-sleep r e l s = to-rendez m nobody r (process m i).resume l e s (limbo-range m f).resume (f.tsleeping i)

-- No other call than a `tsleep` has a timer.
own-none : {o : Option ℕ} {w : List ℕ} (m : Machine) → Fine o w m → (i : ℕ) (call : Resume) → (process m i).resume ≡ call → (IsTsleep call → ⊥) → 1 ≤ count (m.sizes.timers + i) (timers_of m.queued) → ⊥
unfolding process
own-none m f i call e h l = h (subst (λ (r : Resume). IsTsleep r) e (f.tsleeping i l))

-- Where the process in limbo goes on.
goes_on : {i : ℕ} (m : Machine) → Fine (some i) [] m → m.up ≡ none → (call : Resume) → (process m i).resume ≡ call → taken_again m i call ≡ false → Fine none [] (resumes call i m).after
unfolding process own_timer delete with_queued with_process resumes taken_again taken checks_again wait_checks tsleep_checks open_outcome
goes_on {i} m f idle nothing e t = to-run m f idle (Answer.run (pid_of m i)) (own-none m f i nothing e (λ x. x))
goes_on {i} m f idle (in_sleep r c) e t = go (condition m c) refl
  where
    h : (r < m.sizes.rendez) × (c < 256)
    h = subst (λ (x : Resume). ResumeInRange m.sizes x) e (limbo-range m f).resume

    go : (b : Bool) → condition m c ≡ b → Fine none [] (checks_again (condition m c) i r m).after
    go true d = rw d (to-run m f idle (Answer.run (pid_of m i)) (own-none m f i (in_sleep r c) e (λ x. x)))
    go false d = rw d (to-sleep m f idle r (not_there (sleeper m r) (and_off (not (condition m c)) (is_some (sleeper m r)) t (rw d))) h.0 (rw e refl))
goes_on {i} m f idle (in_tsleep r c) e t = go (is_queued (own_timer i m) m) refl (condition m c) refl
  where
    own : ℕ
    own = own_timer i m

    h : (r < m.sizes.rendez) × (c < 256)
    h = subst (λ (x : Resume). ResumeInRange m.sizes x) e (limbo-range m f).resume

    returns : Fine none [] (runs i (Answer.run (pid_of (delete own m) i)) (delete own m)).after
    returns = to-run (delete own m) (fine-delete m f own) idle (Answer.run (pid_of (delete own m) i)) (λ l. omega (arith, count-removed own m.queued))

    go : (q : Bool) → is_queued own m ≡ q → (b : Bool) → condition m c ≡ b → Fine none [] (tsleep_checks (if is_queued own m then condition m c else true) i r m).after
    go false p b d = rw p returns
    go true p true d = rw (p, d) returns
    go true p false d =
        rw (p, d)
        (to-sleep m f idle r (not_there (sleeper m r) (and_off (not (condition m c)) (is_some (sleeper m r)) (and_off (is_queued own m) (not (condition m c) && is_some (sleeper m r)) t p) (rw d))) h.0 (rw e refl))
goes_on {i} m f idle (in_qlock q) e t = to-run m f idle (Answer.run (pid_of m i)) (own-none m f i (in_qlock q) e (λ x. x))
goes_on {i} m f idle in_wait e t = go (is_empty (process m i).exits) refl
  where
    n : Machine
    n = with_process i (take_exit (process m i)) m

    go : (b : Bool) → is_empty (process m i).exits ≡ b → Fine none [] (wait_checks i m).after
    go true d = rw (d, wait_checks) (to-waitr m (nobody m f idle) (own-none m f i in_wait e (λ x. x)))
    go false d =
        rw (d, wait_checks)
        (to-run n (fine-take m f i (limbo-lives m f)) idle (Answer.run_child (pid_of m i) (newest (process m i)).pid (newest (process m i)).message) (own-none m f i in_wait e (λ x. x)))

-- The head of the run queue, with its quantum set and off the queue.
dispatched : (m : Machine) → Fine none [] m → (i : ℕ) (rest : List ℕ) → m.run ≡ i ∷ rest → Fine (some i) [] (with_process i (with_quantum_end (m.ticks + 10) (process m i)) (with_run rest m))
unfolding with_process with_quantum_end with_run process count
dispatched m f i rest e =
    let a : 0 < (at m.processes i).pid = counted-lives m f i (omega (arith, ap (count i) e, ap bit (eq-eqb i i refl))) in
    let r : ProcessInRange m.sizes (at m.processes i) = record_range m f i a in
    leave-run (with_process i (with_quantum_end (m.ticks + 10) (process m i)) m)
    (fine-body m f [] i (with_quantum_end (m.ticks + 10) (process m i)) a refl refl refl refl
    (record { name = r.name; bytes = r.bytes; exits = r.exits; each = r.each; resume = r.resume })
    (omega arith) (λ c. omega (arith, f.records.cells c)) refl (λ k d z. refl))
    i rest e

-- That it is taken off and its quantum set changes no Rendez, condition or timer.
still : (m : Machine) (i : ℕ) (v : Process) (rest : List ℕ) (call : Resume) → taken_again m i call ≡ false → taken_again (with_process i v (with_run rest m)) i call ≡ false
unfolding taken_again taken is_queued own_timer condition sleeper with_process with_run
still m i v rest nothing t = t
still m i v rest (in_sleep r c) t = t
still m i v rest (in_tsleep r c) t = t
still m i v rest (in_qlock q) t = t
still m i v rest in_wait t = t

-- `sched`: 17 was tested, so nobody runs, and 5, so the head finds its Rendez free.
pub kept-sched : (m : Machine) (k : Bool) → refusal m (step k sched) ≡ none → Fine none [] m → Fine none [] (perform sched m).after
unfolding perform sched_of open_outcome open_table open_step elem with_process with_run with_quantum_end process
kept-sched m k e f = go m.run refl
  where
    idle : m.up ≡ none
    idle = not_there m.up (allowed m (step k sched) e 17 refl)

    free-head : head_taken m ≡ false
    free-head = allowed m (step k sched) e 5 refl

    go : (run : List ℕ) → m.run ≡ run → Fine none [] (sched_of m).after
    go [] r = rw (r, sched_of) f
    go (i ∷ rest) r =
        let n : Machine = with_process i (with_quantum_end (m.ticks + 10) (process m i)) (with_run rest m) in
        let v : Process = with_quantum_end (m.ticks + 10) (process m i) in
        let g : Fine (some i) [] n = dispatched m f i rest r in
        let l : i < length m.processes = omega (arith, pid-low n.processes i (limbo-lives n g), length-set m.processes i v) in
        rw (r, sched_of)
        (goes_on n g idle (process m i).resume (ap {B = Resume} (λ p. p.resume) (get_or-set_same m.processes i v free l))
        (still m i v rest (process m i).resume (rw (r, head_taken) at free-head)))
