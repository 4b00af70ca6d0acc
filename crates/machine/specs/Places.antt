-- Where processes wait, and who wakes them: the run queue, Rendez and QLocks.
use Rattle.std.specs.Prelude.{true, false, List, [], ◌∷◌, ◌++◌, ℕ}
use Rattle.std.proofs.Math.Option.{Option, none, some}
use Rattle.machine.specs.Machine.{Machine, Resume, process, sleeper, lock, pid_of}
use Rattle.machine.specs.Update.{with_up, with_run, with_process, with_sleeper, with_lock, with_resume, with_on_waitr}

-- RunQueue: first in, first out.
unfoldable pub ready : ℕ → Machine → Machine
ready i m = with_run (m.run ++ i ∷ []) m

-- A machine, and the pids of those who were readied on the way to it, in order.
pub record Woken : Type 0 where
  pub machine : Machine
  pub readied : List ℕ

-- wakeup(r) readies the process asleep there, if there is one.
unfoldable pub wake : ℕ → Machine → Woken
wake r m = go (sleeper m r)
  where
    go : Option ℕ → Woken
    go none = record { machine = m; readied = [] }
    go (some i) = record { machine = ready i (with_sleeper r none m); readied = pid_of m i ∷ [] }

-- The process i goes asleep on Rendez r, to resume there.
unfoldable pub sleep_on : ℕ → ℕ → Resume → Machine → Machine
sleep_on i r resume m = with_up none (with_sleeper r (some i) (with_process i (with_resume resume (process m i)) m))

-- The process i goes asleep on its own waitr.
unfoldable pub sleep_on_waitr : ℕ → Resume → Machine → Machine
sleep_on_waitr i resume m = with_up none (with_process i (with_on_waitr true (with_resume resume (process m i))) m)

-- A held lock queues the caller last.
unfoldable pub queue_on : ℕ → ℕ → Resume → Machine → Machine
queue_on i q resume m =
    with_up none
    (with_lock q (record { held = true; waiters = (lock m q).waiters ++ i ∷ [] })
    (with_process i (with_resume resume (process m i)) m))

-- `QLock::qunlock` hands over to the head and stays locked; without waiters it frees.
unfoldable pub hand_over : ℕ → Machine → Woken
hand_over q m = go (lock m q).waiters
  where
    go : List ℕ → Woken
    go [] = record { machine = with_lock q (record { held = false; waiters = [] }) m; readied = [] }
    go (i ∷ rest) = record { machine = ready i (with_lock q (record { held = true; waiters = rest }) m); readied = pid_of m i ∷ [] }

-- All of this module, for whoever computes with it.
unfoldable pub open_places : Unit {0}
unfolding ready wake sleep_on sleep_on_waitr queue_on hand_over
open_places = tt
