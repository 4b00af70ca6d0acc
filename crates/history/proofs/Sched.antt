-- `sched`: the head of the run queue is dispatched, and runs or sleeps again.
use Rattle.std.proofs.Math.Path.{◌≡◌, refl, ap, subst}
use Rattle.std.proofs.Common.{sym, ◌∙◌, arith, length-set}
use Rattle.std.specs.Prelude.{if◌then◌else◌, Bool, ◌&&◌, ℕ, ◌+◌, ◌<◌, eqb, List, [], ◌∷◌}
use Rattle.std.proofs.Math.Bool.{true, false}
use Rattle.std.proofs.Math.Option.{Option, none, some}
use Rattle.std.proofs.Math.ListN.{length}
use Rattle.machine.specs.Basics.{is_some, is_empty, elem}
use Rattle.machine.specs.Machine.{Machine, Process, Exit, Resume, nothing, in_sleep, in_tsleep, in_qlock, in_wait, free, process, sleeper, condition, pid_of, asleep, open_machine}
use Rattle.machine.specs.Update.{with_process, with_run, with_up, with_quantum_end, with_resume, with_exits, open_update}
use Rattle.machine.specs.Step.{sched, open_step}
use Rattle.machine.specs.Outcome.{Answer, Outcome, answer, open_outcome}
use Rattle.machine.specs.Places.{sleep_on, sleep_on_waitr, open_places}
use Rattle.machine.specs.Timers.{is_queued, own_timer, delete, open_timers}
use Rattle.machine.specs.Table.{refusal, taken, taken_again, head_taken, open_table}
use Rattle.machine.specs.Perform.{take_exit, newest, runs, checks_again, tsleep_checks, wait_checks, resumes, sched_of, open_perform}
use Rattle.machine.specs.Good.{SleepsOn}
use Rattle.kept.specs.Allowed.{allowed}
use Rattle.history.proofs.Sound.{CallFits, Sound}
use Rattle.history.specs.History.{Says, silent, says_answer, says_of, at, open_history}
use Rattle.history.proofs.Lists.{get_or-set, get_or-set_kept}
use Rattle.history.proofs.View.{View, view, nobody, Change, wakes, dispatches, dozes, waits_on}
use Rattle.history.proofs.Facts.{lives_of, head-count, has_record}
use Rattle.history.proofs.Waking.{view_ext, view-kept}
use Rattle.history.proofs.Changes.{Changes, into, step}

-- taken off the run queue, with a new quantum
abbrev taken_v : (i : ℕ) → List ℕ → View → View
taken_v i rest v = record { up = v.up; run = rest; sleeper = v.sleeper; waiters = v.waiters; on_waitr = v.on_waitr; pid = v.pid; resume = v.resume; quantum_end = at i (v.ticks + 10) v.quantum_end; ticks = v.ticks; rendezs = v.rendezs; lock_count = v.lock_count; sizes = v.sizes; next_pid = v.next_pid }

abbrev off : (i : ℕ) → List ℕ → Machine → Machine
off i rest m = with_process i (with_quantum_end (m.ticks + 10) (process m i)) (with_run rest m)

off-view : (i : ℕ) (rest : List ℕ) (m : Machine) → i < length m.processes → view (off i rest m) ≡ taken_v i rest (view m)
unfolding open_machine open_update
off-view i rest m there =
    let p : Process = with_quantum_end (m.ticks + 10) (process m i) in
    view_ext refl refl (λ r. refl) (λ q. refl)
    (λ k. get_or-set_kept (λ (x : Process). x.on_waitr) m.processes i p free k refl)
    (λ k. get_or-set_kept (λ (x : Process). x.pid) m.processes i p free k refl)
    (λ k. get_or-set_kept (λ (x : Process). x.resume) m.processes i p free k refl)
    (λ k. get_or-set (λ (x : Process). x.quantum_end) m.processes i p free k there)
    refl refl refl refl refl

-- it runs
abbrev up_v : ℕ → View → View
up_v i v = record { up = some i; run = v.run; sleeper = v.sleeper; waiters = v.waiters; on_waitr = v.on_waitr; pid = v.pid; resume = at i nothing v.resume; quantum_end = v.quantum_end; ticks = v.ticks; rendezs = v.rendezs; lock_count = v.lock_count; sizes = v.sizes; next_pid = v.next_pid }

up-view : (i : ℕ) (m : Machine) → i < length m.processes → view (with_up (some i) (with_process i (with_resume nothing (process m i)) m)) ≡ up_v i (view m)
unfolding open_machine open_update
up-view i m there =
    let p : Process = with_resume nothing (process m i) in
    view_ext refl refl (λ r. refl) (λ q. refl)
    (λ k. get_or-set_kept (λ (x : Process). x.on_waitr) m.processes i p free k refl)
    (λ k. get_or-set_kept (λ (x : Process). x.pid) m.processes i p free k refl)
    (λ k. get_or-set (λ (x : Process). x.resume) m.processes i p free k there)
    (λ k. get_or-set_kept (λ (x : Process). x.quantum_end) m.processes i p free k refl)
    refl refl refl refl refl

-- it sleeps again
abbrev again_up_v : (i r : ℕ) → View → View
again_up_v i r v = record { up = none; run = v.run; sleeper = at r (some i) v.sleeper; waiters = v.waiters; on_waitr = v.on_waitr; pid = v.pid; resume = v.resume; quantum_end = v.quantum_end; ticks = v.ticks; rendezs = v.rendezs; lock_count = v.lock_count; sizes = v.sizes; next_pid = v.next_pid }

again-view : (i r : ℕ) (m : Machine) → r < length m.sleepers → view (sleep_on i r (process m i).resume m) ≡ again_up_v i r (view m)
unfolding open_machine open_update open_places
again-view i r m there =
    let p : Process = with_resume (process m i).resume (process m i) in
    view_ext refl refl (λ k. get_or-set (λ (x : Option ℕ). x) m.sleepers r (some i) none k there) (λ q. refl)
    (λ k. get_or-set_kept (λ (x : Process). x.on_waitr) m.processes i p free k refl)
    (λ k. get_or-set_kept (λ (x : Process). x.pid) m.processes i p free k refl)
    (λ k. get_or-set_kept (λ (x : Process). x.resume) m.processes i p free k refl)
    (λ k. get_or-set_kept (λ (x : Process). x.quantum_end) m.processes i p free k refl)
    refl (length-set m.sleepers r (some i)) refl refl refl

abbrev waitr_up_v : ℕ → View → View
waitr_up_v i v = record { up = none; run = v.run; sleeper = v.sleeper; waiters = v.waiters; on_waitr = at i true v.on_waitr; pid = v.pid; resume = v.resume; quantum_end = v.quantum_end; ticks = v.ticks; rendezs = v.rendezs; lock_count = v.lock_count; sizes = v.sizes; next_pid = v.next_pid }

waitr-view : (i : ℕ) (m : Machine) → i < length m.processes → (process m i).resume ≡ in_wait → view (sleep_on_waitr i in_wait m) ≡ waitr_up_v i (view m)
unfolding open_machine open_update open_places
waitr-view i m there e =
    let p : Process = record { pid = (process m i).pid; name = (process m i).name; parent = (process m i).parent; nchild = (process m i).nchild; exits = (process m i).exits; quantum_end = (process m i).quantum_end; resume = in_wait; on_waitr = true } in
    view_ext refl refl (λ r. refl) (λ q. refl)
    (λ k. get_or-set (λ (x : Process). x.on_waitr) m.processes i p free k there)
    (λ k. get_or-set_kept (λ (x : Process). x.pid) m.processes i p free k refl)
    (λ k. get_or-set_kept (λ (x : Process). x.resume) m.processes i p free k (sym e))
    (λ k. get_or-set_kept (λ (x : Process). x.quantum_end) m.processes i p free k refl)
    refl refl refl refl refl

-- the newest exit taken changes nothing that `Demand3` looks at
take-field : {A : Type 0} (f : Process → A) → ((l : List Exit) (p : Process) → f (with_exits l p) ≡ f p) → (p : Process) → f (take_exit p) ≡ f p
unfolding take_exit
take-field f same p = go p.exits
  where
    go : (l : List Exit) → f (elim l as (λ (x : List Exit). Process) [ [] ↦ p | e ∷ rest ↦ with_exits rest p ]) ≡ f p
    go [] = refl
    go (e ∷ rest) = same rest p

pub take-view : (i : ℕ) (m : Machine) → view (with_process i (take_exit (process m i)) m) ≡ view m
unfolding open_update
take-view i m =
    view-kept i (take_exit (process m i)) m
    (take-field (λ (x : Process). x.on_waitr) (λ l p. refl) (process m i))
    (take-field (λ (x : Process). x.pid) (λ l p. refl) (process m i))
    (take-field (λ (x : Process). x.resume) (λ l p. refl) (process m i))
    (take-field (λ (x : Process). x.quantum_end) (λ l p. refl) (process m i))

module _ (m : Machine) (g : Sound m) (k : Bool) (i : ℕ) (rest : List ℕ) (nobody-up : m.up ≡ none) (first : m.run ≡ i ∷ rest) where
  lives : 0 < pid_of m i
  lives = lives_of m i g.in_one_place (omega (arith, head-count m i rest first))

  there : i < length m.processes
  there = has_record m i lives

  -- n is the machine once the head is taken off, its timer or an exit removed
  module _ (n : Machine) (taken : view n ≡ taken_v i rest (view m)) where
    pid-same : pid_of n i ≡ pid_of m i
    pid-same = ap (λ (v : View). v.pid i) taken

    runs_changes : (a : Answer) → says_answer sched a ≡ Says.runs (pid_of n i) → Changes m (step k sched) (runs i a n)
    unfolding open_outcome runs says_of
    runs_changes a e =
        let n_there : i < length n.processes = has_record n i (subst (λ (x : ℕ). 0 < x) (sym pid-same) lives) in
        subst (λ (s : Says). Change (view m) s [] (pid_of n i ∷ []) 0 (view (with_up (some i) (with_process i (with_resume nothing (process n i)) n)))) (sym e)
        (subst (λ (x : ℕ). Change (view m) (Says.runs x) [] (x ∷ []) 0 (view (with_up (some i) (with_process i (with_resume nothing (process n i)) n)))) (sym pid-same)
        (into (up-view i n n_there ∙ ap (up_v i) taken) (dispatches i rest nobody-up first lives)))

    again_changes : (r : ℕ) → r < length n.sleepers → sleeper m r ≡ none → SleepsOn r (process m i).resume → Changes m (step k sched) (checks_again false i r n)
    unfolding open_outcome checks_again open_history
    again_changes r in_range_lem none-there fits =
        subst (λ (x : ℕ). Change (view m) Says.sleeps_again [] (x ∷ []) 0 (view (sleep_on i r (process n i).resume n))) (sym pid-same)
        (into (again-view i r n in_range_lem ∙ ap (again_up_v i r) taken) (dozes i rest r (subst (λ (v : View). r < v.rendezs) taken in_range_lem) nobody-up first lives none-there fits))

    waits_changes : (process n i).resume ≡ in_wait → (process m i).resume ≡ in_wait → Change (view m) Says.sleeps_again [] (pid_of n i ∷ []) 0 (view (sleep_on_waitr i in_wait n))
    waits_changes e e' =
        let n_there : i < length n.processes = has_record n i (subst (λ (x : ℕ). 0 < x) (sym pid-same) lives) in
        subst (λ (x : ℕ). Change (view m) Says.sleeps_again [] (x ∷ []) 0 (view (sleep_on_waitr i in_wait n))) (sym pid-same)
        (into (waitr-view i n n_there e ∙ ap (waitr_up_v i) taken) (waits_on i rest nobody-up first lives e'))

  -- the machine once the head is taken off
  next : Machine
  next = off i rest m

  next-view : view next ≡ taken_v i rest (view m)
  unfolding next
  next-view = off-view i rest m there

  -- the Rendez of a call that has not returned is one
  one-rendez : (call : Resume) → (process m i).resume ≡ call → CallFits (length m.sleepers) (length m.locks) call
  one-rendez call e = subst (CallFits (length m.sleepers) (length m.locks)) e (g.calls i)

  none-there : (r c : ℕ) → condition next c ≡ false → taken m r c ≡ false → sleeper m r ≡ none
  unfolding open_table open_machine open_update next
  none-there r c d h = go (sleeper m r) (rw d at h)
    where
      go : (o : Option ℕ) → is_some o ≡ false → o ≡ none
      go none e = refl
      go (some j) e = absurd (let z : ◌≡◌ {A = ℕ} 0 1 = cc in omega arith)

  checks_changes : (r : ℕ) (b : Bool) → r < length m.sleepers → SleepsOn r (process m i).resume → (b ≡ false → sleeper m r ≡ none) → Changes m (step k sched) (checks_again b i r next)
  unfolding open_history checks_again next open_update
  checks_changes r true in_range_lem fits free-there = runs_changes next next-view (Answer.run (pid_of next i)) refl
  checks_changes r false in_range_lem fits free-there =
      again_changes next next-view r in_range_lem (free-there refl) fits

  timed_changes : (r : ℕ) (b : Bool) → r < length m.sleepers → SleepsOn r (process m i).resume → (b ≡ false → sleeper m r ≡ none) → Changes m (step k sched) (tsleep_checks b i r next)
  unfolding open_history open_perform next open_update delete open_machine
  timed_changes r true in_range_lem fits free-there = runs_changes (delete (own_timer i next) next) next-view (Answer.run (pid_of (delete (own_timer i next) next) i)) refl
  timed_changes r false in_range_lem fits free-there = checks_changes r false in_range_lem fits free-there

  wait_changes : (process m i).resume ≡ in_wait → Changes m (step k sched) (wait_checks i next)
  unfolding open_history wait_checks open_outcome
  wait_changes e = go (is_empty (process next i).exits) refl
    where
      go : (b : Bool) → is_empty (process next i).exits ≡ b → Changes m (step k sched) (wait_checks i next)
      go true d = rw (d, wait_checks) (waits_changes next next-view (ap (λ (v : View). v.resume i) next-view ∙ e) e)
      go false d =
          rw (d, wait_checks)
          (runs_changes (with_process i (take_exit (process next i)) next) (take-view i next ∙ next-view)
          (Answer.run_child (pid_of next i) (newest (process next i)).pid (newest (process next i)).message)
          (ap Says.runs (sym (ap (λ (v : View). v.pid i) (take-view i next)))))

  timed-none : (r c : ℕ) → taken_again m i (in_tsleep r c) ≡ false → (if is_queued (own_timer i next) next then condition next c else true) ≡ false → sleeper m r ≡ none
  unfolding taken_again open_timers next open_update
  timed-none r c h d = go (is_queued (own_timer i m) m) (condition next c) refl h d
    where
      go : (a b : Bool) → condition next c ≡ b → (a && taken m r c) ≡ false → (if a then b else true) ≡ false → sleeper m r ≡ none
      go true true e h' d' = absurd (let z : ◌≡◌ {A = ℕ} 0 1 = cc in omega arith)
      go true false e h' d' = none-there r c e h'
      go false b e h' d' = absurd (let z : ◌≡◌ {A = ℕ} 0 1 = cc in omega arith)

  goes_on : (call : Resume) → (process m i).resume ≡ call → taken_again m i call ≡ false → Changes m (step k sched) (resumes call i next)
  unfolding open_history resumes taken_again
  goes_on nothing e h = runs_changes next next-view (Answer.run (pid_of next i)) refl
  goes_on (in_sleep r c) e h =
      checks_changes r (condition next c) (one-rendez (in_sleep r c) e) (subst (SleepsOn r) (sym e) refl) (λ d. none-there r c d h)
  goes_on (in_tsleep r c) e h =
      timed_changes r (if is_queued (own_timer i next) next then condition next c else true) (one-rendez (in_tsleep r c) e) (subst (SleepsOn r) (sym e) refl) (timed-none r c h)
  goes_on (in_qlock q) e h = runs_changes next next-view (Answer.run (pid_of next i)) refl
  goes_on in_wait e h = wait_changes e

none-up : (m : Machine) (k : Bool) → refusal m (step k sched) ≡ none → m.up ≡ none
unfolding open_table open_step elem
none-up m k h = go m.up (allowed m (step k sched) h 17 refl)
  where
    go : (o : Option ℕ) → is_some o ≡ false → o ≡ none
    go none e = refl
    go (some j) e = absurd (let z : ◌≡◌ {A = ℕ} 0 1 = cc in omega arith)

head-free : (m : Machine) (k : Bool) → refusal m (step k sched) ≡ none → (i : ℕ) (rest : List ℕ) → m.run ≡ i ∷ rest → taken_again m i (process m i).resume ≡ false
unfolding open_table open_step elem head_taken
head-free m k h i rest e = go m.run e (allowed m (step k sched) h 5 refl)
  where
    go : (l : List ℕ) → l ≡ i ∷ rest → (elim l as (λ (x : List ℕ). Bool) [ [] ↦ false | j ∷ more ↦ taken_again m j (process m j).resume ]) ≡ false → taken_again m i (process m i).resume ≡ false
    go [] d t = absurd (let z : ◌≡◌ {A = ℕ} 0 1 = cc in omega arith)
    go (j ∷ more) d t = let z : j ≡ i = cc in rw (← z) t

pub sched_changes : (m : Machine) → Sound m → (k : Bool) → refusal m (step k sched) ≡ none → Changes m (step k sched) (sched_of m)
unfolding sched_of open_history open_outcome next
sched_changes m g k h = go m.run refl
  where
    quiet : (b : Bool) → says_answer sched (if b then Answer.end else Answer.idle) ≡ silent
    quiet true = refl
    quiet false = refl

    go : (l : List ℕ) → m.run ≡ l
        → Changes m (step k sched)
        (elim l as (λ (x : List ℕ). Outcome) [
          | [] ↦ record { reply = answer (if eqb (asleep m) 0 then Answer.end else Answer.idle); after = m; readied = []; dispatched = []; fired = 0 }
          | i ∷ rest ↦ resumes (process m i).resume i (with_process i (with_quantum_end (m.ticks + 10) (process m i)) (with_run rest m))
        ])
    go [] e = subst (λ (s : Says). Change (view m) s [] [] 0 (view m)) (sym (quiet (eqb (asleep m) 0))) (wakes nobody)
    go (i ∷ rest) e = goes_on m g k i rest (none-up m k h) e (process m i).resume refl (head-free m k h i rest e)
