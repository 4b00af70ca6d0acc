-- When a machine is one that a well-formed state holds: docs/MACHINE.md, "Well-formed states", clause by clause.
-- What there is to say of links and stored counts (asleep, queues that run from head to tail) is said of the bytes (docs/STATE.md).
use Rattle.std.specs.Prelude.{if◌then◌else◌, ◌≡◌, true, false, ◌&&◌, List, [], ◌∷◌, ◌++◌, map, ◌⊎◌, ℕ, ◌+◌, ◌-◌, ◌^◌, ◌≤◌, ◌<◌, eqb, length}
use Rattle.std.proofs.Math.Option.{Option, none, some}
use Rattle.clock.specs.Counts.{counts_of}
use Rattle.machine.specs.Basics.{count, count_that}
use Rattle.machine.specs.Machine.{Sizes, Resume, nothing, in_sleep, in_tsleep, in_qlock, in_wait, Exit, Process, Setting, Queued, Machine, free, process, sleeper, lock, setting, pid_of, living, asleep_on}
use Rattle.machine.specs.Exits.{cells_used}
use Rattle.machine.specs.Timers.{own_timer}

-- P processes, R Rendez, Q locks and K kernel timers (1 to 4,096 each), C message cells (1 to 65,000), and a frequency hz from 1
-- to 4,294,967,295.
pub record SizesInRange (z : Sizes) : Type 0 where
  pub processes : (1 ≤ z.processes) × (z.processes ≤ 4096)
  pub rendez : (1 ≤ z.rendez) × (z.rendez ≤ 4096)
  pub locks : (1 ≤ z.locks) × (z.locks ≤ 4096)
  pub timers : (1 ≤ z.timers) × (z.timers ≤ 4096)
  pub cells : (1 ≤ z.cells) × (z.cells ≤ 65000)
  pub hz : (1 ≤ z.hz) × (z.hz ≤ 4294967295)

-- Every element of a list has a property.
abbrev pub Each : {A : Type 0} → (A → Type 0) → List A → Type 0
Each P [] = Unit {0}
Each P (x ∷ xs) = P x × Each P xs

-- A byte is a number below 256.
abbrev pub Byte : ℕ → Type 0
Byte b = b < 256

-- Where a call goes on is in range.
abbrev pub ResumeInRange : Sizes → Resume → Type 0
ResumeInRange z nothing = Unit {0}
ResumeInRange z (in_sleep r c) = (r < z.rendez) × (c < 256)
ResumeInRange z (in_tsleep r c) = (r < z.rendez) × (c < 256)
ResumeInRange z (in_qlock q) = q < z.locks
ResumeInRange z in_wait = Unit {0}

-- An exit has a cell, a pid of 64 bits and a message of at most 127 bytes.
pub record ExitInRange (z : Sizes) (e : Exit) : Type 0 where
  pub cell : e.cell < z.cells
  pub pid : e.pid < 2 ^ 64
  pub length : length e.message ≤ 127
  pub bytes : Each Byte e.message

-- A record holds its name as twenty-eight bytes; exits, at most 128.
pub record ProcessInRange (z : Sizes) (p : Process) : Type 0 where
  pub name : length p.name ≡ 28
  pub bytes : Each Byte p.name
  pub exits : length p.exits ≤ 128
  pub each : Each (ExitInRange z) p.exits
  pub resume : ResumeInRange z p.resume

-- A kernel timer fires once or has a period, no shorter than 100 µs, and wakes one Rendez.
pub record SettingInRange (z : Sizes) (s : Setting) : Type 0 where
  pub period : (s.period ≡ 0) ⊎ ((counts_of z.hz 0 100000 ≤ s.period) × (s.period ≤ 2 ^ 63 - 1))
  pub rendez : s.rendez < z.rendez

-- A queued timer is a kernel timer or one of a record, and its deadline has 64 bits.
pub record QueuedInRange (z : Sizes) (x : Queued) : Type 0 where
  pub timer : x.timer < z.timers + z.processes
  pub deadline : x.deadline < 2 ^ 64

-- Its sizes and fields are in range.
pub record InRange (m : Machine) : Type 0 where
  pub sizes : SizesInRange m.sizes
  pub processes : length m.processes ≡ m.sizes.processes
  pub rendez : length m.sleepers ≡ m.sizes.rendez
  pub locks : length m.locks ≡ m.sizes.locks
  pub timers : length m.settings ≡ m.sizes.timers
  pub conditions : length m.conditions ≡ 256
  pub each : Each (ProcessInRange m.sizes) m.processes
  pub settings : Each (SettingInRange m.sizes) m.settings
  -- timer 0 is periodic, 10 ms
  pub hzclock : (setting m 0).period ≡ counts_of m.sizes.hz 0 10000000
  pub queued : Each (QueuedInRange m.sizes) m.queued
  pub next_pid : (1 ≤ m.next_pid) × (m.next_pid ≤ 2 ^ 64 - 1)
  pub last_now : m.last_now ≤ 2 ^ 51 - 1
  -- a free record holds nothing
  pub freed : (i : ℕ) → pid_of m i ≡ 0 → process m i ≡ free

-- Record i has a living process.
abbrev pub Lives : Machine → ℕ → Type 0
Lives m i = 0 < pid_of m i

-- Who runs, as a list.
unfoldable pub running_in : Option ℕ → List ℕ
running_in none = []
running_in (some i) = i ∷ []

-- The places of a process (docs/MACHINE.md, "Places"), one after another: running, in the run queue, on a Rendez or waitr, in a
-- lock's queue.
unfoldable pub places : Machine → List ℕ
places m = running_in m.up ++ m.run ++ asleep_on m

-- Each living process is in one of these places, and nobody else in any.
abbrev pub InOnePlace : Machine → Type 0
InOnePlace m = (i : ℕ) → count i (places m) ≡ (if living (process m i) then 1 else 0)

-- A call that has not returned fits the place: whoever runs has none; a sleeper's is a `sleep` or `tsleep` on that Rendez, one on
-- its own waitr has a `wait`, one in a lock's queue a `qlock` of that lock. (A process in the run queue may have any.)
abbrev pub SleepsOn : ℕ → Resume → Type 0
SleepsOn r nothing = ⊥
SleepsOn r (in_sleep r' c) = r' ≡ r
SleepsOn r (in_tsleep r' c) = r' ≡ r
SleepsOn r (in_qlock q) = ⊥
SleepsOn r in_wait = ⊥

-- The same for every place of the machine.
pub record CallsFit (m : Machine) : Type 0 where
  pub runner : (i : ℕ) → m.up ≡ some i → (process m i).resume ≡ nothing
  pub sleeper : (r i : ℕ) → sleeper m r ≡ some i → SleepsOn r (process m i).resume
  pub waiter : (i : ℕ) → (process m i).on_waitr ≡ true → (process m i).resume ≡ in_wait
  pub queuer : (q : ℕ) → Each (λ i. (process m i).resume ≡ in_qlock q) (lock m q).waiters

-- Queued timers stand by deadline.
abbrev pub ByDeadline : List Queued → Type 0
ByDeadline [] = Unit {0}
ByDeadline (x ∷ xs) = Each (λ (y : Queued). x.deadline ≤ y.deadline) xs × ByDeadline xs

-- The living children of a pid.
unfoldable pub children : Machine → ℕ → ℕ
children m pid = count_that (λ (p : Process). living p && eqb p.parent pid) m.processes

-- A call that is a `tsleep`.
abbrev pub IsTsleep : Resume → Type 0
IsTsleep nothing = ⊥
IsTsleep (in_sleep r c) = ⊥
IsTsleep (in_tsleep r c) = Unit {0}
IsTsleep (in_qlock q) = ⊥
IsTsleep in_wait = ⊥

-- All clauses together.
pub record Good (m : Machine) : Type 0 where
  -- its sizes and fields are in range
  pub in_range : InRange m
  -- each living process is in one place
  pub in_one_place : InOnePlace m
  pub calls_fit : CallsFit m
  -- queued timers stand by deadline, each once
  pub by_deadline : ByDeadline m.queued
  -- (each queue's links run from head to tail once: no timer is queued twice)
  pub queued_once : (t : ℕ) → count t (map (λ (x : Queued). x.timer) m.queued) ≤ 1
  -- nchild counts the living children
  pub nchild : (i : ℕ) → Lives m i → (process m i).nchild ≡ children m (pid_of m i)
  -- each message cell is free or in one living process's wait queue
  pub cells : (c : ℕ) → count c (cells_used m) ≤ 1
  -- living pids differ, from 1 to below the next pid
  pub apart : (i j : ℕ) → Lives m i → pid_of m i ≡ pid_of m j → i ≡ j
  pub below : (i : ℕ) → pid_of m i < m.next_pid
  -- a parent's pid, 0 for none, is below its child's
  pub parent : (i : ℕ) → Lives m i → (process m i).parent < pid_of m i
  -- a process's timer is queued only while its `tsleep` has not returned
  pub tsleeping : (i : ℕ) → 1 ≤ count (own_timer i m) (map (λ (x : Queued). x.timer) m.queued) → IsTsleep (process m i).resume
  -- (qwaitr is held exactly while its process has a `wait` not returned: both are that `resume` is `in_wait`)
  -- a lock with waiters is held
  pub held : (q : ℕ) → (lock m q).held ≡ false → (lock m q).waiters ≡ []
  -- ticks are at most the last NOW, and below timer 0's deadline where it is queued, and quantum_end is at most ticks + 10
  pub ticks : m.ticks ≤ m.last_now
  pub tick : Each (λ (x : Queued). x.timer ≡ 0 → m.ticks < x.deadline) m.queued
  pub quantum : (i : ℕ) → (process m i).quantum_end ≤ m.ticks + 10
