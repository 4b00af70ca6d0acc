-- The machine: what a state holds, as numbers and lists. Processes are named by the numbers of their records.
use Rattle.std.specs.Prelude.{Bool, false, not, List, [], ◌++◌, ℕ, eqb, length, get_or, set, replicate}
use Rattle.std.proofs.Math.Option.{Option, none}
use Rattle.clock.specs.Counts.{counts_of}
use Rattle.machine.specs.Basics.{concat_map, present, numbers_from}

-- A state has P processes, R Rendez, Q locks and K kernel timers, C message cells and a frequency hz.
pub record Sizes : Type 0 where
  pub processes : ℕ
  pub rendez : ℕ
  pub locks : ℕ
  pub timers : ℕ
  pub cells : ℕ
  pub hz : ℕ

-- A switched-out call becomes an enum saying where it resumes: no call, `sleep` or `tsleep` on a Rendez with a condition,
-- `qlock` of a lock, `wait`.
pub data Resume : Type 0 where
  nothing : Resume
  in_sleep : (rendez condition : ℕ) → Resume
  in_tsleep : (rendez condition : ℕ) → Resume
  in_qlock : (lock : ℕ) → Resume
  in_wait : Resume

-- A child's exit in a wait queue: the message cell it takes, the child's pid, and its message.
pub record Exit : Type 0 where
  pub cell : ℕ
  pub pid : ℕ
  pub message : List ℕ

-- A process record. Its pid is 0 where the record is free. Its name is twenty-eight bytes, zero-filled. Its parent is a pid,
-- 0 for none. nchild counts its living children; exits are its children's, newest first. quantum_end is the tick at which its
-- quantum runs out. on_waitr: it sleeps on its own waitr. qwaitr is held exactly while resume is `in_wait`.
pub record Process : Type 0 where
  pub pid : ℕ
  pub name : List ℕ
  pub parent : ℕ
  pub nchild : ℕ
  pub exits : List Exit
  pub quantum_end : ℕ
  pub resume : Resume
  pub on_waitr : Bool

-- A QLock: whether it is held, and who waits for it, first come first.
pub record Lock : Type 0 where
  pub held : Bool
  pub waiters : List ℕ

-- What a kernel timer does: its period in counts, 0 where it fires once, and the Rendez it wakes.
pub record Setting : Type 0 where
  pub period : ℕ
  pub rendez : ℕ

-- A queued timer and its deadline in counts. Timers 0 to K − 1 are the kernel's; timer K + i is the `tsleep` timer of record i.
pub record Queued : Type 0 where
  pub timer : ℕ
  pub deadline : ℕ

-- The machine: the sizes, the next pid, ticks and the last NOW, who runs and waits where, the timers and the conditions.
pub record Machine : Type 0 where
  pub sizes : Sizes
  pub next_pid : ℕ
  pub ticks : ℕ
  pub last_now : ℕ
  -- who runs
  pub up : Option ℕ
  -- the run queue, first in, first out
  pub run : List ℕ
  pub processes : List Process
  -- who sleeps on each Rendez
  pub sleepers : List (Option ℕ)
  pub locks : List Lock
  pub settings : List Setting
  -- the timer queue
  pub queued : List Queued
  pub conditions : List Bool

-- A record that no process has.
unfoldable pub free : Process
free =
    record {
      pid = 0;
      name = replicate 28 0;
      parent = 0;
      nchild = 0;
      exits = [];
      quantum_end = 0;
      resume = nothing;
      on_waitr = false;
    }

-- A fresh state: 256 conditions, all false; pids start at 1, ticks and the last NOW at 0. Timer 0 is `HZCLOCK`, periodic, 10 ms.
unfoldable pub fresh : Sizes → Machine
fresh z =
    record {
      sizes = z;
      next_pid = 1;
      ticks = 0;
      last_now = 0;
      up = none;
      run = [];
      processes = replicate z.processes free;
      sleepers = replicate z.rendez none;
      locks = replicate z.locks (record { held = false; waiters = [] });
      settings = set (replicate z.timers once) 0 (record { period = counts_of z.hz 0 10000000; rendez = 0 });
      queued = [];
      conditions = replicate 256 false;
    }
  where
    once : Setting
    once = record { period = 0; rendez = 0 }

-- The record with a number.
unfoldable pub process : Machine → ℕ → Process
process m i = get_or m.processes i free

-- Who sleeps on a Rendez, if anyone.
unfoldable pub sleeper : Machine → ℕ → Option ℕ
sleeper m r = get_or m.sleepers r none

-- The lock with a number.
unfoldable pub lock : Machine → ℕ → Lock
lock m q = get_or m.locks q (record { held = false; waiters = [] })

-- What the kernel timer with a number does.
unfoldable pub setting : Machine → ℕ → Setting
setting m t = get_or m.settings t (record { period = 0; rendez = 0 })

-- Whether a condition is true.
unfoldable pub condition : Machine → ℕ → Bool
condition m c = get_or m.conditions c false

-- The pid of the process with a record number.
unfoldable pub pid_of : Machine → ℕ → ℕ
pid_of m i = (process m i).pid

-- A record is free where its pid is 0, and else its process lives.
unfoldable pub living : Process → Bool
living p = not (eqb p.pid 0)

-- Who is asleep: on a Rendez, on the own waitr, or in a lock's queue.
unfoldable pub asleep_on : Machine → List ℕ
asleep_on m = present m.sleepers ++ numbers_from 0 (λ (p : Process). p.on_waitr) m.processes ++ concat_map (λ (l : Lock). l.waiters) m.locks

-- asleep: how many these are.
unfoldable pub asleep : Machine → ℕ
asleep m = length (asleep_on m)

-- All of this module, for whoever computes with it.
unfoldable pub open_machine : Unit {0}
unfolding free fresh process sleeper lock setting condition pid_of living asleep_on asleep
open_machine = tt
