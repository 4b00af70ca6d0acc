-- What the history of a list of steps tells, read without any machine: docs/MACHINE.md, "Places". Places are read from the steps,
-- their answers, whom each step readies or dispatches, and timer 0's firings.
use Rattle.std.specs.Prelude.{if◌then◌else◌, List, [], ◌∷◌, ◌++◌, ℕ, ◌+◌, eqb, length, drop}
use Rattle.std.proofs.Math.Option.{Option, none, some}
use Prim.Native.String.{String}
use Rattle.machine.specs.Machine.{Machine}
use Rattle.machine.specs.Step.{Step, Body, start, rfork, name, sched, yield, sleep, tsleep, wakeup, qlock, canqlock, qunlock, cond, clock, tadd, tdel, intr, due, exit, wait, word_of}
use Rattle.machine.specs.Outcome.{Answer, Reply, answer, refused, Outcome}
use Rattle.machine.specs.Table.{one_of}
use Rattle.machine.specs.StepOf.{outcome_of}

-- What is handed in: a step with its mark, or none, and a message buffer of so many bytes.
pub record Input : Type 0 where
  pub step : Option Step
  pub buffer : ℕ

-- What the history tells of one step: what was asked, the reply, whom it readied and dispatched (pids, in order), and timer 0's
-- firings. It is the outcome without its machine.
pub record Event : Type 0 where
  pub asked : Input
  pub reply : Reply
  pub readied : List ℕ
  pub dispatched : List ℕ
  pub fired : ℕ

-- What a machine gives for an input, and what the history keeps of it.
abbrev pub gives : Machine → Input → Outcome
gives m x = outcome_of m x.step x.buffer

abbrev pub event_of : Input → Outcome → Event
event_of x o = record { asked = x; reply = o.reply; readied = o.readied; dispatched = o.dispatched; fired = o.fired }

-- Each step working on the state the last one left and nobody else writing it.
abbrev pub history_from : Machine → List Input → List Event
history_from m [] = []
history_from m (x ∷ xs) = event_of x (gives m x) ∷ history_from (gives m x).after xs

abbrev pub machine_after : Machine → List Input → Machine
machine_after m [] = m
machine_after m (x ∷ xs) = machine_after (gives m x).after xs

-- Running, in the run queue, on one Rendez (its own waitr is one) or in one QLock's queue; or not living.
pub data Place : Type 0 where
  absent : Place
  running : Place
  in_run_queue : Place
  on_rendez : (r : ℕ) → Place
  on_own_waitr : Place
  in_lock_queue : (q : ℕ) → Place

-- What a step's answer says of the process that runs, is made or is dispatched.
pub data Says : Type 0 where
  silent : Says
  made : (n : ℕ) → Says
  runs : (n : ℕ) → Says
  sleeps_again : Says
  yields : Says
  sleeps : (p : Place) → Says
  exits : (n : ℕ) → Says

-- `asleep` puts who asked on the Rendez named (for `wait` its waitr) or in the lock's queue; to a `sched` it says that whom it
-- dispatched sleeps again.
unfoldable pub says_asleep : Body → Says
says_asleep (start M) = silent
says_asleep (rfork F M) = silent
says_asleep (name BYTES) = silent
says_asleep sched = sleeps_again
says_asleep yield = silent
says_asleep (sleep R C) = sleeps (on_rendez R)
says_asleep (tsleep R C S N NOW) = sleeps (on_rendez R)
says_asleep (wakeup R) = silent
says_asleep (qlock Q) = sleeps (in_lock_queue Q)
says_asleep (canqlock Q) = silent
says_asleep (qunlock Q) = silent
says_asleep (cond C v) = silent
says_asleep (clock NOW) = silent
says_asleep (tadd T KIND S N R NOW) = silent
says_asleep (tdel T) = silent
says_asleep (intr NOW) = silent
says_asleep due = silent
says_asleep (exit BYTES) = silent
says_asleep wait = sleeps on_own_waitr

-- What is said where the step is of one of these kinds.
unfoldable pub of_kind : List String → Body → Says → Says
of_kind words b says = if one_of words b then says else silent

-- A process lives from the `start` or `rfork` that answers its pid (`pid 0` makes nobody) until its accepted `exit`. It runs from
-- the `sched` that answers `run N` until its accepted `yield` or `exit` or its answer `asleep`.
unfoldable pub says_answer : Body → Answer → Says
says_answer b (Answer.pid n) = of_kind ("start" ∷ "rfork" ∷ []) b (if eqb n 0 then silent else made n)
says_answer b (Answer.run n) = of_kind ("sched" ∷ []) b (runs n)
says_answer b (Answer.run_child n child message) = of_kind ("sched" ∷ []) b (runs n)
says_answer b Answer.done = of_kind ("yield" ∷ []) b yields
says_answer b Answer.asleep = says_asleep b
says_answer b (Answer.yes_no v) = silent
says_answer b (Answer.fired f stuck) = silent
says_answer b (Answer.exit n status) = of_kind ("exit" ∷ []) b (exits n)
says_answer b (Answer.child n message) = silent
says_answer b Answer.idle = silent
says_answer b Answer.end = silent

-- What is refused, or is no step, says nothing.
unfoldable pub says_of : Option Step → Reply → Says
says_of none reply = silent
says_of (some s) (answer a) = says_answer s.body a
says_of (some s) (refused number) = silent

-- f, but a at i.
unfoldable pub at : {A : Type 0} → ℕ → A → (ℕ → A) → ℕ → A
at i a f j = if eqb i j then a else f j

-- What has been read so far: the pid of who runs, or 0; where each pid is; and where each last went asleep.
pub record Reading : Type 0 where
  pub up : ℕ
  pub place : ℕ → Place
  pub old : ℕ → Place

-- An `asleep` to the `sched` that dispatches it puts a process back on its old Rendez.
unfoldable pub again : List ℕ → (old place : ℕ → Place) → ℕ → Place
again [] old place = place
again (n ∷ ns) old place = again ns old (at n (old n) place)

-- What the answer tells.
unfoldable pub told : Says → List ℕ → Reading → Reading
told silent ds r = r
told (made n) ds r = record { up = r.up; place = at n in_run_queue r.place; old = r.old }
told (runs n) ds r = record { up = n; place = at n running r.place; old = r.old }
told sleeps_again ds r = record { up = r.up; place = again ds r.old r.place; old = r.old }
told yields ds r = record { up = 0; place = r.place; old = r.old }
told (sleeps p) ds r = record { up = 0; place = at r.up p r.place; old = at r.up p r.old }
told (exits n) ds r = record { up = 0; place = at n absent r.place; old = r.old }

-- Whoever lives enters the run queue where it is readied: made, woken, handed a lock, or queued by its `yield`.
abbrev pub enters : Place → Place
enters absent = absent
enters running = in_run_queue
enters in_run_queue = in_run_queue
enters (on_rendez r) = in_run_queue
enters on_own_waitr = in_run_queue
enters (in_lock_queue q) = in_run_queue

-- Several in a step, as they are readied.
unfoldable pub readies : List ℕ → (ℕ → Place) → ℕ → Place
readies [] place = place
readies (n ∷ ns) place = readies ns (at n (enters (place n)) place)

-- One event read: what its answer tells, then whom it readied.
unfoldable pub reads : Reading → Event → Reading
reads r e = go (told (says_of e.asked.step e.reply) e.dispatched r)
  where
    go : Reading → Reading
    go t = record { up = t.up; place = readies e.readied t.place; old = t.old }

unfoldable pub read_from : Reading → List Event → Reading
read_from r [] = r
read_from r (e ∷ es) = read_from (reads r e) es

-- Before the first step nobody lives.
unfoldable pub blank : Reading
blank = record { up = 0; place = λ n. absent; old = λ n. absent }

-- The place of a pid, and the pid of who runs (0 for nobody), read from the history alone.
unfoldable pub place_after : List Event → ℕ → Place
place_after h n = (read_from blank h).place n

unfoldable pub runner_after : List Event → ℕ
runner_after h = (read_from blank h).up

-- The run queue read from the history: whom a step readies enters last, whom it dispatches leaves in front.
abbrev pub queue_from : List ℕ → List Event → List ℕ
queue_from q [] = q
queue_from q (e ∷ es) = queue_from (drop (length e.dispatched) (q ++ e.readied)) es

abbrev pub queue_after : List Event → List ℕ
queue_after h = queue_from [] h

-- Whom the steps of a history dispatched, in order, and how often timer 0 fired.
abbrev pub dispatched_in : List Event → List ℕ
dispatched_in [] = []
dispatched_in (e ∷ es) = e.dispatched ++ dispatched_in es

abbrev pub fired_in : List Event → ℕ
fired_in [] = 0
fired_in (e ∷ es) = e.fired + fired_in es

-- All of this module, for whoever computes with it.
unfoldable pub open_history : Unit {0}
unfolding one_of word_of says_asleep of_kind says_answer says_of at again told readies reads read_from blank place_after runner_after
open_history = tt
