-- A turn of the scheduler as the definition has it.
use Rattle.std.specs.Prelude.{if◌then◌else◌, ◌≡◌, refl, List, [], ◌∷◌, ℕ, ◌+◌, eqb}
use Rattle.std.proofs.Common.{ap}
use Rattle.machine.specs.Machine as machine
use Rattle.machine.specs.Machine.{Machine, process, sleeper, condition, asleep}
use Rattle.machine.specs.Table.{taken, taken_again}
use Rattle.machine.specs.Timers.{is_queued, own_timer}
use Rattle.machine.specs.Update.{with_run, with_process, with_quantum_end}
use Rattle.machine.specs.Outcome.{Answer, Outcome, answered}
use Rattle.machine.specs.Perform.{resumes, sched_of}
use Rattle.clockwork.specs.Quantum.{dispatched}

-- The machine once the first in line is off the queue and has its quantum.
abbrev pub turning : ℕ → List ℕ → Machine → Machine
turning i rest m = with_process i (with_quantum_end (m.ticks + 10) (process m i)) (with_run rest m)

-- Who is asleep where stays.
pub taken-same : (m : Machine) (i : ℕ) (rest : List ℕ) (c : machine.Resume) → taken_again (turning i rest m) i c ≡ taken_again m i c
unfolding taken_again taken condition sleeper is_queued own_timer with_process with_run
taken-same m i rest machine.nothing = refl
taken-same m i rest (machine.in_sleep r c) = refl
taken-same m i rest (machine.in_tsleep r c) = refl
taken-same m i rest (machine.in_qlock q) = refl
taken-same m i rest machine.in_wait = refl

-- The quantum set once the queue is shorter.
pub turning-is : (m : Machine) (i : ℕ) (rest : List ℕ) → dispatched i (with_run rest m) ≡ turning i rest m
unfolding with_run process
turning-is m i rest = refl

-- What `sched` does with a run queue.
abbrev sched_at : Machine → List ℕ → Outcome
sched_at m q =
    elim q [
      | [] ↦ answered (if eqb (asleep m) 0 then Answer.end else Answer.idle) m
      | i ∷ rest ↦ resumes (process m i).resume i (turning i rest m)
    ]

pub sched-nobody : (m : Machine) → m.run ≡ [] → sched_of m ≡ answered (if eqb (asleep m) 0 then Answer.end else Answer.idle) m
unfolding sched_of
sched-nobody m e = ap (sched_at m) e

pub sched_first : (m : Machine) (i : ℕ) (rest : List ℕ) → m.run ≡ i ∷ rest → sched_of m ≡ resumes (process m i).resume i (turning i rest m)
unfolding sched_of
sched_first m i rest e = ap (sched_at m) e
