-- What each step does where the table does not refuse it.
use Rattle.std.specs.Prelude.{if◌then◌else◌, Bool, true, false, not, List, [], ◌∷◌, ◌++◌, ℕ, suc, ◌+◌, ◌-◌, ◌/◌, eqb, leb, length, replicate}
use Rattle.std.proofs.Math.Option.{none, some, get_or}
use Rattle.clock.specs.Counts.{counts_of}
use Rattle.machine.specs.Basics.{is_empty}
use Rattle.machine.specs.Machine.{Machine, Process, Exit, Resume, nothing, in_sleep, in_tsleep, in_qlock, in_wait, process, lock, condition, pid_of, asleep}
use Rattle.machine.specs.Update.{with_next_pid, with_last_now, with_up, with_run, with_process, with_lock, with_setting, with_condition, with_name, with_nchild, with_exits, with_quantum_end, with_resume}
use Rattle.machine.specs.Step.{Body, start, rfork, name, sched, yield, sleep, tsleep, wakeup, qlock, canqlock, qunlock, cond, clock, tadd, tdel, intr, due, exit, wait}
use Rattle.machine.specs.Outcome.{Answer, Outcome, answer, answered, readying, dispatching}
use Rattle.machine.specs.Flags.{has, RFPROC, RFNOWAIT}
use Rattle.machine.specs.Places.{Woken, ready, wake, sleep_on, sleep_on_waitr, queue_on, hand_over}
use Rattle.machine.specs.Exits.{free_record, without, tell_parent}
use Rattle.machine.specs.Timers.{add, delete, is_queued, own_timer, Firing, interrupt}

-- The record of the process that runs. A step that needs one is refused where none does.
unfoldable pub current : Machine → ℕ
current m = get_or m.up 0

-- A new process in the free record of the highest number takes the next pid and is ready.
unfoldable pub made : (text : List ℕ) (parent : ℕ) → Machine → Machine
made text parent m =
    let i : ℕ = get_or (free_record m) 0 in
    ready i
    (with_process i
    (record {
      pid = m.next_pid;
      name = text;
      parent = parent;
      nchild = 0;
      exits = [];
      quantum_end = 0;
      resume = nothing;
      on_waitr = false;
    })
    (with_next_pid (suc m.next_pid) m))

-- `start` is newproc and ready: a process with an empty name and no parent.
unfoldable pub start_of : Machine → Outcome
start_of m = readying (m.next_pid ∷ []) (Answer.pid m.next_pid) (made (replicate 28 0) 0 m)

-- fork(2): with RFPROC the parent gets the child's pid; without it 0 is returned. The child has its parent's name; with RFNOWAIT
-- it is dissociated, else it counts as one of its parent's living children.
unfoldable pub rfork_of : ℕ → Machine → Outcome
rfork_of F m =
    if not (has F RFPROC)
    then answered (Answer.pid 0) m
    else if has F RFNOWAIT
    then readying (m.next_pid ∷ []) (Answer.pid m.next_pid) (made parent.name 0 m)
    else readying (m.next_pid ∷ []) (Answer.pid m.next_pid)
    (made parent.name parent.pid (with_process (current m) (with_nchild (suc parent.nchild) parent) m))
  where
    parent : Process
    parent = process m (current m)

-- `name`: twenty-eight bytes, zero-filled.
unfoldable pub name_of : List ℕ → Machine → Outcome
name_of bytes m =
    answered Answer.done (with_process (current m) (with_name (bytes ++ replicate (28 - length bytes) 0) (process m (current m))) m)

-- wait(2): the newest exit is taken from the front of the wait queue. What remains, in the record p.
unfoldable pub take_exit : Process → Process
take_exit p = go p.exits
  where
    go : List Exit → Process
    go [] = p
    go (e ∷ rest) = with_exits rest p

-- The newest exit of the record p, where there is one.
unfoldable pub newest : Process → Exit
newest p = go p.exits
  where
    go : List Exit → Exit
    go [] = record { cell = 0; pid = 0; message = [] }
    go (e ∷ rest) = e

-- The process i, dispatched, runs: its call has returned.
unfoldable pub runs : ℕ → Answer → Machine → Outcome
runs i a m = dispatching (pid_of m i) a (with_up (some i) (with_process i (with_resume nothing (process m i)) m))

-- A woken sleeper checks again when dispatched: true, it runs; false, it sleeps there again and `sched` answers `asleep`.
unfoldable pub checks_again : Bool → ℕ → ℕ → Machine → Outcome
checks_again true i r m = runs i (Answer.run (pid_of m i)) m
checks_again false i r m = dispatching (pid_of m i) Answer.asleep (sleep_on i r (process m i).resume m)

-- `tsleep` also returns once its timer has cleared `trend`; its timer is removed on return.
unfoldable pub tsleep_checks : Bool → ℕ → ℕ → Machine → Outcome
tsleep_checks true i r m = checks_again true i r (delete (own_timer i m) m)
tsleep_checks false i r m = checks_again false i r m

-- A finished wait in `sched`; without an exit it sleeps on its waitr again.
unfoldable pub wait_checks : ℕ → Machine → Outcome
wait_checks i m =
    if is_empty (process m i).exits
    then dispatching (pid_of m i) Answer.asleep (sleep_on_waitr i in_wait m)
    else runs i (Answer.run_child (pid_of m i) (newest (process m i)).pid (newest (process m i)).message)
    (with_process i (take_exit (process m i)) m)

-- Where the dispatched process i goes on.
unfoldable pub resumes : Resume → ℕ → Machine → Outcome
resumes nothing i m = runs i (Answer.run (pid_of m i)) m
resumes (in_sleep r c) i m = checks_again (condition m c) i r m
resumes (in_tsleep r c) i m = tsleep_checks (if is_queued (own_timer i m) m then condition m c else true) i r m
resumes (in_qlock q) i m = runs i (Answer.run (pid_of m i)) m
resumes in_wait i m = wait_checks i m

-- `sched`, one turn of `schedule`: `idle` (none ready, some asleep), `end` (none of either), or the first of the run queue is
-- dispatched. Dispatch sets quantum_end to ticks + 10.
unfoldable pub sched_of : Machine → Outcome
sched_of m =
    elim m.run [
      | [] ↦ answered (if eqb (asleep m) 0 then Answer.end else Answer.idle) m
      | i ∷ rest ↦ resumes (process m i).resume i (with_process i (with_quantum_end (m.ticks + 10) (process m i)) (with_run rest m))
    ]

-- `yield`: the running process is queued last.
unfoldable pub yield_of : Machine → Outcome
yield_of m = readying (pid_of m (current m) ∷ []) Answer.done (ready (current m) (with_up none m))

-- `sleep`: a true condition returns before the sleeper or the current process is looked at.
unfoldable pub sleep_of : ℕ → ℕ → Machine → Outcome
sleep_of R C m =
    if condition m C then answered Answer.done m else answered Answer.asleep (sleep_on (current m) R (in_sleep R C) m)

-- `tsleep`: with a true condition it returns, and its timer is removed on return.
unfoldable pub tsleep_of : ℕ → ℕ → ℕ → ℕ → ℕ → Machine → Outcome
tsleep_of R C S N NOW m =
    if condition m C
    then answered Answer.done (delete own (with_last_now NOW m))
    else answered Answer.asleep (sleep_on (current m) R (in_tsleep R C) (add own (NOW + counts_of m.sizes.hz S N) (with_last_now NOW m)))
  where
    own : ℕ
    own = own_timer (current m) m

-- `wakeup` answers yes or no.
unfoldable pub wakeup_of : ℕ → Machine → Outcome
wakeup_of R m = go (wake R m)
  where
    go : Woken → Outcome
    go w = readying w.readied (Answer.yes_no (not (is_empty w.readied))) w.machine

-- `QLock::qlock` on a free lock succeeds anywhere; a held one queues the caller last, even where it holds the lock itself.
unfoldable pub qlock_of : ℕ → Machine → Outcome
qlock_of Q m =
    if (lock m Q).held
    then answered Answer.asleep (queue_on (current m) Q (in_qlock Q) m)
    else answered Answer.done (with_lock Q (record { held = true; waiters = (lock m Q).waiters }) m)

-- lock(2): canqlock takes it only if free and says whether it did.
unfoldable pub canqlock_of : ℕ → Machine → Outcome
canqlock_of Q m =
    if (lock m Q).held
    then answered (Answer.yes_no false) m
    else answered (Answer.yes_no true) (with_lock Q (record { held = true; waiters = (lock m Q).waiters }) m)

-- lock(2): qunlock gives it to the first waiter, who then holds it, or frees it.
unfoldable pub qunlock_of : ℕ → Machine → Outcome
qunlock_of Q m = go (hand_over Q m)
  where
    go : Woken → Outcome
    go w = readying w.readied Answer.done w.machine

-- `cond`: the condition C becomes true or false.
unfoldable pub cond_of : ℕ → ℕ → Machine → Outcome
cond_of C v m = answered Answer.done (with_condition C (eqb v 1) m)

-- `clock` is `start` of timer.rs: it adds timer 0, periodic, 10 ms.
unfoldable pub clock_of : ℕ → Machine → Outcome
clock_of NOW m = answered Answer.done (add 0 (NOW + counts_of m.sizes.hz 0 10000000) (with_last_now NOW m))

-- `tadd`: timer T, relative or periodic, is added to wake Rendez R.
unfoldable pub tadd_of : ℕ → ℕ → ℕ → ℕ → ℕ → ℕ → Machine → Outcome
tadd_of T KIND S N R NOW m =
    answered Answer.done
    (add T (NOW + counts) (with_setting T (record { period = if eqb KIND 0 then 0 else counts; rendez = R }) (with_last_now NOW m)))
  where
    counts : ℕ
    counts = counts_of m.sizes.hz S N

-- `tdel`: timer T is no longer queued.
unfoldable pub tdel_of : ℕ → Machine → Outcome
tdel_of T m = answered Answer.done (delete T m)

-- The answer of `interrupt` is the timers fired F and F ÷ 20,000 rounded down, the "probably stuck" lines.
unfoldable pub intr_of : ℕ → Machine → Outcome
intr_of NOW m = go (interrupt NOW (with_last_now NOW m))
  where
    go : Firing → Outcome
    go f =
        record {
          reply = answer (Answer.fired f.count (f.count / 20000));
          after = f.machine;
          readied = f.readied;
          dispatched = [];
          fired = f.ticks;
        }

-- `preempt_due`: someone runs, ticks has reached quantum_end, the queue is not empty.
unfoldable pub preempt_due : Machine → Bool
preempt_due m = elim m.up [ none ↦ false | some i ↦ if leb (process m i).quantum_end m.ticks then not (is_empty m.run) else false ]

-- `due` answers yes or no.
unfoldable pub due_of : Machine → Outcome
due_of m = answered (Answer.yes_no (preempt_due m)) m

-- `exit N BYTES`: the process goes, and its parent is told. BYTES is the status given.
unfoldable pub exit_of : List ℕ → Machine → Outcome
exit_of status m = go (tell_parent (process m (current m)) status (without (current m) m))
  where
    go : Woken → Outcome
    go w = readying w.readied (Answer.exit (pid_of m (current m)) status) w.machine

-- wait(2): wait waits for any child to exit and gives its pid and exit message.
unfoldable pub wait_of : Machine → Outcome
wait_of m =
    if is_empty (process m (current m)).exits
    then answered Answer.asleep (sleep_on_waitr (current m) in_wait m)
    else answered (Answer.child (newest (process m (current m))).pid (newest (process m (current m))).message)
    (with_process (current m) (take_exit (process m (current m))) m)

-- Each step.
unfoldable pub perform : Body → Machine → Outcome
perform (start M) m = start_of m
perform (rfork F M) m = rfork_of F m
perform (name BYTES) m = name_of BYTES m
perform sched m = sched_of m
perform yield m = yield_of m
perform (sleep R C) m = sleep_of R C m
perform (tsleep R C S N NOW) m = tsleep_of R C S N NOW m
perform (wakeup R) m = wakeup_of R m
perform (qlock Q) m = qlock_of Q m
perform (canqlock Q) m = canqlock_of Q m
perform (qunlock Q) m = qunlock_of Q m
perform (cond C v) m = cond_of C v m
perform (clock NOW) m = clock_of NOW m
perform (tadd T KIND S N R NOW) m = tadd_of T KIND S N R NOW m
perform (tdel T) m = tdel_of T m
perform (intr NOW) m = intr_of NOW m
perform due m = due_of m
perform (exit BYTES) m = exit_of BYTES m
perform wait m = wait_of m

-- All of this module, for whoever computes with it.
unfoldable pub open_perform : Unit {0}
unfolding current made start_of rfork_of name_of take_exit newest runs checks_again tsleep_checks wait_checks resumes sched_of yield_of sleep_of tsleep_of wakeup_of qlock_of canqlock_of qunlock_of cond_of clock_of tadd_of tdel_of intr_of preempt_due due_of exit_of wait_of perform
open_perform = tt
