-- The locks, `intr`, `exit` and `wait`, and then each input, refused or done: what a machine gives is a change of `View.antt`.
use Rattle.std.specs.Prelude.{if◌then◌else◌, ◌≡◌, refl, Bool, true, false, not, ◌&&◌, List, [], ◌∷◌, ◌++◌, ℕ, suc, ◌<◌, eqb, ltb, length}
use Rattle.std.proofs.Common.{sym, subst, arith, ltb-true, length-set}
use Rattle.std.proofs.Math.Option.{Option, none, some}
use Rattle.machine.specs.Basics.{is_none, is_empty, elem}
use Rattle.machine.specs.Machine.{Machine, Process, Lock, in_qlock, in_wait, free, process, lock, pid_of, open_machine}
use Rattle.machine.specs.Update.{with_next_pid, with_resume, with_on_waitr, with_lock, with_last_now, open_update}
use Rattle.machine.specs.Step.{Step, Body, start, rfork, name, sched, yield, sleep, tsleep, wakeup, qlock, canqlock, qunlock, cond, clock, tadd, tdel, intr, due, exit, wait, open_step}
use Rattle.machine.specs.Outcome.{open_outcome}
use Rattle.machine.specs.Places.{Woken, sleep_on_waitr, queue_on, open_places}
use Rattle.machine.specs.Exits.{without, tell_parent}
use Rattle.machine.specs.Timers.{add, delete}
use Rattle.machine.specs.Table.{on, refusal, open_table}
use Rattle.machine.specs.Perform.{current, wakeup_of, qlock_of, canqlock_of, qunlock_of, cond_of, clock_of, tadd_of, tdel_of, intr_of, due_of, exit_of, wait_of, perform}
use Rattle.machine.specs.StepOf.{left_by, refusing, step_of, outcome_of}
use Rattle.kept.specs.Allowed.{allowed}
use Rattle.history.proofs.Sound.{Sound}
use Rattle.history.specs.History.{Input, gives, silent, says_of, open_history}
use Rattle.history.proofs.Lists.{get_or-set, get_or-set_kept, and_true}
use Rattle.history.proofs.View.{View, view, waits_v, queues_v, gone_v, Wakes, nobody, Change, wakes, waits, queues, leaves, spends}
use Rattle.history.proofs.Facts.{has_record}
use Rattle.history.proofs.Waking.{view_ext, wake-wakes, hand_over-wakes, tell_parent-wakes, interrupt-wakes}
use Rattle.history.proofs.Changes.{Changes, into, unseen, up-current, up-lives, up-not-queued, step, start_changes, rfork_changes}
use Rattle.history.proofs.Sched.{take-view, sched_changes}
use Rattle.history.proofs.Sleeping.{name_changes, yield_changes, sleep_changes, tsleep_changes}

wakeup_changes : (m : Machine) (k : Bool) (R : ℕ) → Changes m (step k (wakeup R)) (wakeup_of R m)
unfolding wakeup_of open_outcome open_history
wakeup_changes m k R = wakes (wake-wakes R m)

qunlock_changes : (m : Machine) (k : Bool) (Q : ℕ) → Changes m (step k (qunlock Q)) (qunlock_of Q m)
unfolding qunlock_of open_outcome open_history
qunlock_changes m k Q = wakes (hand_over-wakes Q m)

-- a lock taken, its queue as it was
taken-view : (Q : ℕ) (m : Machine) → view (with_lock Q (record { held = true; waiters = (lock m Q).waiters }) m) ≡ view m
unfolding open_machine open_update
taken-view Q m =
    view_ext refl refl (λ r. refl)
    (λ k. get_or-set_kept (λ (x : Lock). x.waiters) m.locks Q (record { held = true; waiters = (lock m Q).waiters }) (record { held = false; waiters = [] }) k refl)
    (λ j. refl) (λ j. refl) (λ j. refl) (λ j. refl) refl refl (length-set m.locks Q (record { held = true; waiters = (lock m Q).waiters })) refl refl

canqlock_changes : (m : Machine) (k : Bool) (Q : ℕ) → Changes m (step k (canqlock Q)) (canqlock_of Q m)
unfolding canqlock_of open_outcome open_history
canqlock_changes m k Q = go (lock m Q).held refl
  where
    go : (b : Bool) → (lock m Q).held ≡ b → Changes m (step k (canqlock Q)) (canqlock_of Q m)
    go true e = rw (e, canqlock_of) (wakes nobody)
    go false e = rw (e, canqlock_of) (unseen (taken-view Q m))

-- queued last on a lock
queue_on-view : (i q : ℕ) (m : Machine) → i < length m.processes → q < length m.locks → view (queue_on i q (in_qlock q) m) ≡ queues_v i q (view m)
unfolding open_machine open_update open_places
queue_on-view i q m there room =
    let p : Process = with_resume (in_qlock q) (process m i) in
    view_ext refl refl (λ r. refl)
    (λ k. get_or-set (λ (x : Lock). x.waiters) m.locks q (record { held = true; waiters = (lock m q).waiters ++ i ∷ [] }) (record { held = false; waiters = [] }) k room)
    (λ k. get_or-set_kept (λ (x : Process). x.on_waitr) m.processes i p free k refl)
    (λ k. get_or-set_kept (λ (x : Process). x.pid) m.processes i p free k refl)
    (λ k. get_or-set (λ (x : Process). x.resume) m.processes i p free k there)
    (λ k. get_or-set_kept (λ (x : Process). x.quantum_end) m.processes i p free k refl)
    refl refl (length-set m.locks q (record { held = true; waiters = (lock m q).waiters ++ i ∷ [] })) refl refl

qlock-facts : (m : Machine) (k : Bool) (Q : ℕ) → refusal m (step k (qlock Q)) ≡ none → (lock m Q).held ≡ true → (Q < m.sizes.locks) × (is_none m.up ≡ false)
unfolding open_table open_step elem
qlock-facts m k Q h e = (
  ltb-true Q m.sizes.locks (once (ltb Q m.sizes.locks) (allowed m (step k (qlock Q)) h 2 refl)),
  and_true (is_none m.up) (rw e at (allowed m (step k (qlock Q)) h 4 refl)),
)
  where
    once : (b : Bool) → not b ≡ false → b ≡ true
    once true t = refl
    once false t = sym t

qlock_changes : (m : Machine) → Sound m → (k : Bool) (Q : ℕ) → refusal m (step k (qlock Q)) ≡ none → Changes m (step k (qlock Q)) (qlock_of Q m)
unfolding qlock_of open_outcome open_history
qlock_changes m g k Q h = go (lock m Q).held refl
  where
    go : (b : Bool) → (lock m Q).held ≡ b → Changes m (step k (qlock Q)) (qlock_of Q m)
    go true e =
        let f : (Q < m.sizes.locks) × (is_none m.up ≡ false) = qlock-facts m k Q h e in
        let u : m.up ≡ some (current m) = up-current m f.1 in
        let l : 0 < pid_of m (current m) = up-lives m g (current m) u in
        rw (e, qlock_of) (into (queue_on-view (current m) Q m (has_record m (current m) l) (omega (arith, f.0, g.locks))) (queues (current m) Q (omega (arith, f.0, g.locks)) u l))
    go false e = rw (e, qlock_of) (unseen (taken-view Q m))

intr_changes : (m : Machine) (k : Bool) (NOW : ℕ) → Changes m (step k (intr NOW)) (intr_of NOW m)
unfolding intr_of open_history open_update open_machine
intr_changes m k NOW = wakes (interrupt-wakes NOW (with_last_now NOW m))

-- gone: its record is free, and it runs no more
gone-view : (i : ℕ) (m : Machine) → i < length m.processes → view (without i m) ≡ gone_v i (view m)
unfolding open_machine open_update without
gone-view i m there =
    view_ext refl refl (λ r. refl) (λ q. refl)
    (λ k. get_or-set (λ (x : Process). x.on_waitr) m.processes i free free k there)
    (λ k. get_or-set (λ (x : Process). x.pid) m.processes i free free k there)
    (λ k. get_or-set (λ (x : Process). x.resume) m.processes i free free k there)
    (λ k. get_or-set (λ (x : Process). x.quantum_end) m.processes i free free k there)
    refl refl refl refl refl

exit-up : (m : Machine) (k : Bool) (BYTES : List ℕ) → refusal m (step k (exit BYTES)) ≡ none → is_none m.up ≡ false
unfolding open_table open_step elem
exit-up m k BYTES h = and_true (is_none m.up) (allowed m (step k (exit BYTES)) h 4 refl)

exit_changes : (m : Machine) → Sound m → (k : Bool) (BYTES : List ℕ) → refusal m (step k (exit BYTES)) ≡ none → Changes m (step k (exit BYTES)) (exit_of BYTES m)
unfolding exit_of open_outcome open_history
exit_changes m g k BYTES h =
    let i : ℕ = current m in
    let u : m.up ≡ some i = up-current m (exit-up m k BYTES h) in
    let l : 0 < pid_of m i = up-lives m g i u in
    let w : Woken = tell_parent (process m i) BYTES (without i m) in
    leaves i u l (up-not-queued m g i u)
    (subst (λ (v : View). Wakes v w.readied 0 (view w.machine)) (gone-view i m (has_record m i l)) (tell_parent-wakes (process m i) BYTES (without i m)))

wait-up : (m : Machine) (k : Bool) → refusal m (step k wait) ≡ none → is_none m.up ≡ false
unfolding open_table open_step elem
wait-up m k h = and_true (is_none m.up) (allowed m (step k wait) h 4 refl)

waitr-view : (i : ℕ) (m : Machine) → i < length m.processes → view (sleep_on_waitr i in_wait m) ≡ waits_v i (view m)
unfolding open_machine open_update open_places
waitr-view i m there =
    let p : Process = with_on_waitr true (with_resume in_wait (process m i)) in
    view_ext refl refl (λ r. refl) (λ q. refl)
    (λ k. get_or-set (λ (x : Process). x.on_waitr) m.processes i p free k there)
    (λ k. get_or-set_kept (λ (x : Process). x.pid) m.processes i p free k refl)
    (λ k. get_or-set (λ (x : Process). x.resume) m.processes i p free k there)
    (λ k. get_or-set_kept (λ (x : Process). x.quantum_end) m.processes i p free k refl)
    refl refl refl refl refl

wait_changes : (m : Machine) → Sound m → (k : Bool) → refusal m (step k wait) ≡ none → Changes m (step k wait) (wait_of m)
unfolding wait_of open_outcome open_history
wait_changes m g k h = go (is_empty (process m (current m)).exits) refl
  where
    u : m.up ≡ some (current m)
    u = up-current m (wait-up m k h)

    go : (b : Bool) → is_empty (process m (current m)).exits ≡ b → Changes m (step k wait) (wait_of m)
    go true e = rw (e, wait_of) (into (waitr-view (current m) m (has_record m (current m) (up-lives m g (current m) u))) (waits (current m) u (up-lives m g (current m) u)))
    go false e = rw (e, wait_of) (unseen (take-view (current m) m))

perform_changes : (m : Machine) → Sound m → (k : Bool) (b : Body) → refusal m (step k b) ≡ none → Changes m (step k b) (perform b m)
unfolding perform cond_of clock_of tadd_of tdel_of due_of open_outcome open_history open_update open_machine add delete
perform_changes m g k (start M) h = start_changes m g k M h
perform_changes m g k (rfork F M) h = rfork_changes m g k F M h
perform_changes m g k (name BYTES) h = name_changes m k BYTES
perform_changes m g k sched h = sched_changes m g k h
perform_changes m g k yield h = yield_changes m g k h
perform_changes m g k (sleep R C) h = sleep_changes m g k R C h
perform_changes m g k (tsleep R C S N NOW) h = tsleep_changes m g k R C S N NOW h
perform_changes m g k (wakeup R) h = wakeup_changes m k R
perform_changes m g k (qlock Q) h = qlock_changes m g k Q h
perform_changes m g k (canqlock Q) h = canqlock_changes m k Q
perform_changes m g k (qunlock Q) h = qunlock_changes m k Q
perform_changes m g k (cond C v) h = wakes nobody
perform_changes m g k (clock NOW) h = wakes nobody
perform_changes m g k (tadd T KIND S N R NOW) h = wakes nobody
perform_changes m g k (tdel T) h = wakes nobody
perform_changes m g k (intr NOW) h = intr_changes m k NOW
perform_changes m g k due h = wakes nobody
perform_changes m g k (exit BYTES) h = exit_changes m g k BYTES h
perform_changes m g k wait h = wait_changes m g k h

left_changes : (number : ℕ) (b : Body) (m : Machine) → Change (view m) silent [] [] 0 (view (left_by number b m))
unfolding left_by open_update open_machine
left_changes number b m = go (eqb number 11 && on 2 "rfork" (λ F M. eqb M 3) b)
  where
    go : (c : Bool) → Change (view m) silent [] [] 0 (view (if c then with_next_pid (suc m.next_pid) m else m))
    go true = spends
    go false = wakes nobody

step_changes : (m : Machine) → Sound m → (s : Step) → Changes m s (step_of m s)
unfolding step_of refusing open_history
step_changes m g s = go (refusal m s) refl
  where
    go : (o : Option ℕ) → refusal m s ≡ o → Changes m s (step_of m s)
    go none e = rw (e, step_of) (perform_changes m g s.marked s.body e)
    go (some number) e = rw (e, step_of) (left_changes number s.body m)

-- Every input, refused or done.
pub gives_changes : (m : Machine) → Sound m → (x : Input)
    → Change (view m) (says_of x.step (gives m x).reply) (gives m x).readied (gives m x).dispatched (gives m x).fired (view (gives m x).after)
unfolding outcome_of refusing open_history
gives_changes m g x = go x.step
  where
    go : (o : Option Step) → Change (view m) (says_of o (outcome_of m o x.buffer).reply) (outcome_of m o x.buffer).readied (outcome_of m o x.buffer).dispatched (outcome_of m o x.buffer).fired (view (outcome_of m o x.buffer).after)
    go none = wakes nobody
    go (some s) = long (ltb x.buffer 127)
      where
        long : (b : Bool) → Changes m s (if b then refusing 2 m else step_of m s)
        long true = wakes nobody
        long false = step_changes m g s
