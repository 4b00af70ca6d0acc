-- Who is where, and how long anyone waits in the run queue, over a list of steps, as one claim: docs/MACHINE.md, "Places" and
-- "Waiting". proofs/Proved.antt proves it of every list from every fresh machine, whatever its sizes; proofs/Tight.antt gives a stay
-- that meets the tick bound.
use Rattle.std.specs.Prelude.{if◌then◌else◌, ◌≡◌, Bool, true, false, List, [], ◌∷◌, ◌++◌, map, ◌⊎◌, ℕ, ◌+◌, ◌*◌, ◌≤◌, ◌<◌, length}
use Rattle.std.proofs.Math.Option.{Option, none, some}
use Rattle.machine.specs.Basics.{count}
use Rattle.machine.specs.Machine.{Machine, Sizes, fresh, process, sleeper, lock, pid_of, asleep}
use Rattle.machine.specs.Step.{Body, sched, yield}
use Rattle.machine.specs.Outcome.{Answer, answer}
use Rattle.machine.specs.Perform.{preempt_due}
use Rattle.machine.specs.Good.{Each, InOnePlace}
use Rattle.history.specs.History.{Input, Event, gives, event_of, history_from, machine_after, Place, absent, running, in_run_queue, on_rendez, on_own_waitr, in_lock_queue, Says, silent, made, runs, sleeps_again, yields, sleeps, exits, says_of, place_after, runner_after, queue_after, dispatched_in, fired_in}

-- The machine holds the process of record i in a place.
abbrev pub HeldIn : Machine → ℕ → Place → Type 0
HeldIn m i absent = ⊥
HeldIn m i running = m.up ≡ some i
HeldIn m i in_run_queue = 1 ≤ count i m.run
HeldIn m i (on_rendez r) = sleeper m r ≡ some i
HeldIn m i on_own_waitr = (process m i).on_waitr ≡ true
HeldIn m i (in_lock_queue q) = 1 ≤ count i (lock m q).waiters

-- asleep counts exactly the last two: on a Rendez or in a lock's queue.
abbrev pub is_asleep : Place → Bool
is_asleep absent = false
is_asleep running = false
is_asleep in_run_queue = false
is_asleep (on_rendez r) = true
is_asleep on_own_waitr = true
is_asleep (in_lock_queue q) = true

-- The numbers that pass a test are k in number: some list of length k holds each of them once and no other.
pub record Number (test : ℕ → Bool) (k : ℕ) : Type 0 where
  pub them : List ℕ
  pub each : (n : ℕ) → count n them ≡ (if test n then 1 else 0)
  pub many : length them ≡ k

-- The pid of who runs, 0 for nobody.
abbrev pub pid_up : Machine → Option ℕ → ℕ
pid_up m none = 0
pid_up m (some i) = pid_of m i

-- The machine holds each living process in the place so read and no other, nobody else in any; its asleep is the number on a
-- Rendez or in a lock's queue.
pub record PlacesRead (m : Machine) (h : List Event) : Type 0 where
  -- each living process in the place read (ruled out: a machine that forgets whom a lock was handed to, so that it is in no queue)
  pub held : (i : ℕ) → 0 < pid_of m i → HeldIn m i (place_after h (pid_of m i))
  -- and no other, nobody else in any (a machine that leaves a woken process on its Rendez besides; one that queues a record
  -- whose process has gone)
  pub only : (i : ℕ) (p : Place) → HeldIn m i p → (0 < pid_of m i) × (p ≡ place_after h (pid_of m i))
  -- exactly one of these, and there once (a machine that queues a process twice)
  pub once : InOnePlace m
  -- a pid is read living exactly where it is that of one record (a machine that frees the record of a process that sleeps, or
  -- gives a living process's pid to another)
  pub lives : (n : ℕ) → (place_after h n ≡ absent) ⊎ ((i : ℕ) × (pid_of m i ≡ n) × (0 < n))
  pub alone : (i j : ℕ) → 0 < pid_of m i → pid_of m i ≡ pid_of m j → i ≡ j
  -- who runs, and the run queue with its order, as read (a machine whose `yield` queues in front)
  pub runner : runner_after h ≡ pid_up m m.up
  pub queue : queue_after h ≡ map (pid_of m) m.run
  -- asleep (a machine that counts a woken process asleep until it is dispatched)
  pub sleepers : Number (λ n. is_asleep (place_after h n)) (asleep m)

-- n enters the run queue with the event e, after the history h. Its stay is the steps after the entering one and before its dispatch:
-- some of these, from the first on. k counts all then ahead: whoever was in the queue, and whoever the same step readied before n.
pub record Stay (h : List Event) (e : Event) (stay : List Event) (n : ℕ) (ahead : List ℕ) : Type 0 where
  pub first : List ℕ
  pub others : List ℕ
  pub enters : e.readied ≡ first ++ n ∷ others
  pub stands : ahead ≡ queue_after h ++ first
  pub stays : Each (λ (d : Event). count n d.dispatched ≡ 0) stay

-- While it stays, only the k that stood ahead when it entered are dispatched, each at most once (they differ, and n is none of them),
-- in their order; n stands behind those who are left, so that it is next when none is (ruled out: a machine that pushes a woken process
-- in front).
pub record InTurn (h : List Event) (stay : List Event) (n : ℕ) (ahead : List ℕ) : Type 0 where
  pub left : List ℕ
  pub behind : List ℕ
  pub served : dispatched_in stay ++ left ≡ ahead
  pub differ : (p : ℕ) → count p (n ∷ ahead) ≤ 1
  pub waits : queue_after (h ++ stay) ≡ left ++ n ∷ behind

-- An accepted step of this kind, with whatever mark.
pub record Accepted (b : Body) (m : Machine) (x : Input) : Type 0 where
  pub marked : Bool
  pub asked : x.step ≡ some (record { marked = marked; body = b })
  pub reply : Answer
  pub done : (gives m x).reply ≡ answer reply

-- Where the tick bound is claimed: no step adds over one tick, each step taken when none runs and one is ready (both as read from the
-- history) is an accepted `sched`, and each taken when preempt_due (the machine's) is true an accepted `yield`.
pub record Attends (h : List Event) (m : Machine) (x : Input) : Type 0 where
  pub ticks : (gives m x).fired ≤ 1
  pub scheds : runner_after h ≡ 0 → (queue_after h ≡ [] → ⊥) → Accepted sched m x
  pub yields : preempt_due m ≡ true → Accepted yield m x

abbrev pub Attended : List Event → Machine → List Input → Type 0
Attended h m [] = Unit {0}
Attended h m (x ∷ xs) = Attends h m x × Attended (h ++ event_of x (gives m x) ∷ []) (gives m x).after xs

-- A `sched` answering `run N` dispatches N, one answering `asleep` the process that sleeps again; nothing else dispatches.
abbrev pub Dispatches : Says → List ℕ → Type 0
Dispatches silent ds = ds ≡ []
Dispatches (made n) ds = ds ≡ []
Dispatches (runs n) ds = ds ≡ n ∷ []
Dispatches sleeps_again ds = length ds ≡ 1
Dispatches yields ds = ds ≡ []
Dispatches (sleeps p) ds = ds ≡ []
Dispatches (exits n) ds = ds ≡ []

-- It enters the run queue when made, woken or handed a lock (then it was asleep), or queued by its `yield`. The history before is h.
abbrev pub Enters : List Event → Says → List ℕ → Type 0
Enters h silent rs = Each (λ n. is_asleep (place_after h n) ≡ true) rs
Enters h (made n) rs = (place_after h n ≡ absent) × (rs ≡ n ∷ [])
Enters h (runs n) rs = rs ≡ []
Enters h sleeps_again rs = rs ≡ []
Enters h yields rs = rs ≡ runner_after h ∷ []
Enters h (sleeps p) rs = rs ≡ []
Enters h (exits n) rs = Each (λ k. is_asleep (place_after h k) ≡ true) rs

-- The whole claim about one list from the fresh machine of these sizes. A stay in it is some steps of it behind an entering one.
pub record Demand3 (z : Sizes) (xs : List Input) : Type 0 where
  pub places : PlacesRead (machine_after (fresh z) xs) (history_from (fresh z) xs)
  -- (ruled out: a machine whose `sched` runs another than it answers; one that dispatches in `wakeup`)
  pub dispatches : Each (λ (e : Event). Dispatches (says_of e.asked.step e.reply) e.dispatched) (history_from (fresh z) xs)
  -- (a machine whose `wakeup` readies whoever last slept there, awake or not; one that gives a pid twice)
  pub enters
      : (before : List Input) (x : Input) (rest : List Input)
      → xs ≡ before ++ x ∷ rest
      → let o = gives (machine_after (fresh z) before) x in Enters (history_from (fresh z) before) (says_of x.step o.reply) o.readied
  -- First in, first out: whom a step dispatches stood in front, whom it readies enters last (a machine whose `sched` takes the last)
  pub fifo
      : (before : List Input) (x : Input) (rest : List Input)
      → xs ≡ before ++ x ∷ rest
      → let h = history_from (fresh z) before in
      let e = event_of x (gives (machine_after (fresh z) before) x) in
      e.dispatched ++ queue_after (h ++ e ∷ []) ≡ queue_after h ++ e.readied
  pub turns
      : (before : List Input) (x : Input) (stay rest : List Input)
      → xs ≡ before ++ x ∷ (stay ++ rest)
      → let m = machine_after (fresh z) before in
      let h = history_from (fresh z) before in
      let e = event_of x (gives m x) in
      let after = history_from (gives m x).after stay in
      (n : ℕ) (ahead : List ℕ)
      → Stay h e after n ahead
      → InTurn (h ++ e ∷ []) after n ahead
  -- The ticks are timer 0's firings (ruled out: a machine that invents ticks).
  pub counted : (machine_after (fresh z) xs).ticks ≡ fired_in (history_from (fresh z) xs)
  -- No more than 10 × (k + 1) ticks pass, the entering step's firing counted (ruled out: a machine with a quantum of 11).
  pub ticks
      : (before : List Input) (x : Input) (stay rest : List Input)
      → xs ≡ before ++ x ∷ (stay ++ rest)
      → let m = machine_after (fresh z) before in
      let h = history_from (fresh z) before in
      let e = event_of x (gives m x) in
      let after = history_from (gives m x).after stay in
      (n : ℕ) (ahead : List ℕ)
      → Stay h e after n ahead
      → e.fired ≤ 1
      → Attended (h ++ e ∷ []) (gives m x).after stay
      → fired_in (e ∷ after) ≤ 10 * (length ahead + 1)
