-- What `Demand3` looks at in a machine, and the ways in which a step can change it. Each way is one move of one process from place to
-- place, or a waking of several; `Changes.antt` shows that every step is one of them.
use Rattle.std.specs.Prelude.{◌≡◌, Bool, true, false, List, [], ◌∷◌, ◌++◌, ℕ, suc, ◌+◌, ◌<◌, length}
use Rattle.std.proofs.Math.Option.{Option, none, some}
use Rattle.machine.specs.Basics.{count}
use Rattle.machine.specs.Machine.{Machine, Sizes, Resume, nothing, in_wait, in_qlock, process, sleeper, lock, pid_of}
use Rattle.machine.specs.Good.{SleepsOn}
use Rattle.history.specs.History.{on_rendez, on_own_waitr, in_lock_queue, Says, silent, made, runs, sleeps_again, yields, sleeps, exits, at}

pub record View : Type 0 where
  pub up : Option ℕ
  pub run : List ℕ
  pub sleeper : ℕ → Option ℕ
  pub waiters : ℕ → List ℕ
  pub on_waitr : ℕ → Bool
  pub pid : ℕ → ℕ
  pub resume : ℕ → Resume
  pub quantum_end : ℕ → ℕ
  pub ticks : ℕ
  -- how many Rendez and locks there are, and what a step's fields are held against
  pub rendezs : ℕ
  pub lock_count : ℕ
  pub sizes : Sizes
  pub next_pid : ℕ

abbrev pub view : Machine → View
view m =
    record {
      up = m.up;
      run = m.run;
      sleeper = λ r. sleeper m r;
      waiters = λ q. (lock m q).waiters;
      on_waitr = λ i. (process m i).on_waitr;
      pid = λ i. pid_of m i;
      resume = λ i. (process m i).resume;
      quantum_end = λ i. (process m i).quantum_end;
      ticks = m.ticks;
      rendezs = length m.sleepers;
      lock_count = length m.locks;
      sizes = m.sizes;
      next_pid = m.next_pid;
    }

-- One tick.
abbrev pub tick_v : View → View
tick_v v = record { up = v.up; run = v.run; sleeper = v.sleeper; waiters = v.waiters; on_waitr = v.on_waitr; pid = v.pid; resume = v.resume; quantum_end = v.quantum_end; ticks = suc v.ticks; rendezs = v.rendezs; lock_count = v.lock_count; sizes = v.sizes; next_pid = v.next_pid }

-- From Rendez r, from the head of lock q's queue (these remain), and from the own waitr into the run queue.
abbrev pub from_rendez_v : (r i : ℕ) → View → View
from_rendez_v r i v = record { up = v.up; run = v.run ++ i ∷ []; sleeper = at r none v.sleeper; waiters = v.waiters; on_waitr = v.on_waitr; pid = v.pid; resume = v.resume; quantum_end = v.quantum_end; ticks = v.ticks; rendezs = v.rendezs; lock_count = v.lock_count; sizes = v.sizes; next_pid = v.next_pid }

abbrev pub from_lock_v : (q i : ℕ) → List ℕ → View → View
from_lock_v q i rest v = record { up = v.up; run = v.run ++ i ∷ []; sleeper = v.sleeper; waiters = at q rest v.waiters; on_waitr = v.on_waitr; pid = v.pid; resume = v.resume; quantum_end = v.quantum_end; ticks = v.ticks; rendezs = v.rendezs; lock_count = v.lock_count; sizes = v.sizes; next_pid = v.next_pid }

abbrev pub from_waitr_v : (i : ℕ) → View → View
from_waitr_v i v = record { up = v.up; run = v.run ++ i ∷ []; sleeper = v.sleeper; waiters = v.waiters; on_waitr = at i false v.on_waitr; pid = v.pid; resume = v.resume; quantum_end = v.quantum_end; ticks = v.ticks; rendezs = v.rendezs; lock_count = v.lock_count; sizes = v.sizes; next_pid = v.next_pid }

-- A process with pid n made in record i, ready.
abbrev pub made_v : (i n : ℕ) → View → View
made_v i n v = record { up = v.up; run = v.run ++ i ∷ []; sleeper = v.sleeper; waiters = v.waiters; on_waitr = at i false v.on_waitr; pid = at i n v.pid; resume = at i nothing v.resume; quantum_end = at i 0 v.quantum_end; ticks = v.ticks; rendezs = v.rendezs; lock_count = v.lock_count; sizes = v.sizes; next_pid = suc v.next_pid }

-- From the head of the run queue (these remain): it runs; it sleeps again, on Rendez r or on its own waitr.
abbrev pub runs_v : (i : ℕ) → List ℕ → View → View
runs_v i rest v = record { up = some i; run = rest; sleeper = v.sleeper; waiters = v.waiters; on_waitr = v.on_waitr; pid = v.pid; resume = at i nothing v.resume; quantum_end = at i (v.ticks + 10) v.quantum_end; ticks = v.ticks; rendezs = v.rendezs; lock_count = v.lock_count; sizes = v.sizes; next_pid = v.next_pid }

abbrev pub again_v : (i : ℕ) → List ℕ → (r : ℕ) → View → View
again_v i rest r v = record { up = none; run = rest; sleeper = at r (some i) v.sleeper; waiters = v.waiters; on_waitr = v.on_waitr; pid = v.pid; resume = v.resume; quantum_end = at i (v.ticks + 10) v.quantum_end; ticks = v.ticks; rendezs = v.rendezs; lock_count = v.lock_count; sizes = v.sizes; next_pid = v.next_pid }

abbrev pub waits_again_v : (i : ℕ) → List ℕ → View → View
waits_again_v i rest v = record { up = none; run = rest; sleeper = v.sleeper; waiters = v.waiters; on_waitr = at i true v.on_waitr; pid = v.pid; resume = v.resume; quantum_end = at i (v.ticks + 10) v.quantum_end; ticks = v.ticks; rendezs = v.rendezs; lock_count = v.lock_count; sizes = v.sizes; next_pid = v.next_pid }

-- Who ran is queued; goes asleep on Rendez r, on its own waitr, or in lock q's queue; is gone.
abbrev pub yields_v : (i : ℕ) → View → View
yields_v i v = record { up = none; run = v.run ++ i ∷ []; sleeper = v.sleeper; waiters = v.waiters; on_waitr = v.on_waitr; pid = v.pid; resume = v.resume; quantum_end = v.quantum_end; ticks = v.ticks; rendezs = v.rendezs; lock_count = v.lock_count; sizes = v.sizes; next_pid = v.next_pid }

abbrev pub sleeps_v : (i r : ℕ) → Resume → View → View
sleeps_v i r call v = record { up = none; run = v.run; sleeper = at r (some i) v.sleeper; waiters = v.waiters; on_waitr = v.on_waitr; pid = v.pid; resume = at i call v.resume; quantum_end = v.quantum_end; ticks = v.ticks; rendezs = v.rendezs; lock_count = v.lock_count; sizes = v.sizes; next_pid = v.next_pid }

abbrev pub waits_v : (i : ℕ) → View → View
waits_v i v = record { up = none; run = v.run; sleeper = v.sleeper; waiters = v.waiters; on_waitr = at i true v.on_waitr; pid = v.pid; resume = at i in_wait v.resume; quantum_end = v.quantum_end; ticks = v.ticks; rendezs = v.rendezs; lock_count = v.lock_count; sizes = v.sizes; next_pid = v.next_pid }

abbrev pub queues_v : (i q : ℕ) → View → View
queues_v i q v = record { up = none; run = v.run; sleeper = v.sleeper; waiters = at q (v.waiters q ++ i ∷ []) v.waiters; on_waitr = v.on_waitr; pid = v.pid; resume = at i (in_qlock q) v.resume; quantum_end = v.quantum_end; ticks = v.ticks; rendezs = v.rendezs; lock_count = v.lock_count; sizes = v.sizes; next_pid = v.next_pid }

abbrev pub gone_v : (i : ℕ) → View → View
gone_v i v = record { up = none; run = v.run; sleeper = v.sleeper; waiters = v.waiters; on_waitr = at i false v.on_waitr; pid = at i 0 v.pid; resume = at i nothing v.resume; quantum_end = at i 0 v.quantum_end; ticks = v.ticks; rendezs = v.rendezs; lock_count = v.lock_count; sizes = v.sizes; next_pid = v.next_pid }

-- A pid used up by a failed page copy.
abbrev pub spent_v : View → View
spent_v v = record { up = v.up; run = v.run; sleeper = v.sleeper; waiters = v.waiters; on_waitr = v.on_waitr; pid = v.pid; resume = v.resume; quantum_end = v.quantum_end; ticks = v.ticks; rendezs = v.rendezs; lock_count = v.lock_count; sizes = v.sizes; next_pid = suc v.next_pid }

infixl 20 ◌next◌
-- From the first view to the second these pids are readied, in order, and timer 0 fires so often; nothing else.
pub data Wakes : View → List ℕ → ℕ → View → Type 0 where
  nobody : {v : View} → Wakes v [] 0 v
  ticking : {v : View} → Wakes v [] 1 (tick_v v)
  from_rendez : {v : View} (r i : ℕ) → r < v.rendezs → v.sleeper r ≡ some i → Wakes v (v.pid i ∷ []) 0 (from_rendez_v r i v)
  from_lock : {v : View} (q i : ℕ) (rest : List ℕ) → q < v.lock_count → v.waiters q ≡ i ∷ rest → Wakes v (v.pid i ∷ []) 0 (from_lock_v q i rest v)
  from_waitr : {v : View} (i : ℕ) → v.on_waitr i ≡ true → Wakes v (v.pid i ∷ []) 0 (from_waitr_v i v)
  ◌next◌ : {u v w : View} {rs ss : List ℕ} {f g : ℕ} → Wakes u rs f v → Wakes v ss g w → Wakes u (rs ++ ss) (f + g) w

-- What an answer says, whom the step readies and dispatches, timer 0's firings, and the view after.
pub data Change (v : View) : Says → List ℕ → List ℕ → ℕ → View → Type 0 where
  wakes : {rs : List ℕ} {f : ℕ} {w : View} → Wakes v rs f w → Change v silent rs [] f w
  makes : (i n : ℕ) → n ≡ v.next_pid → 0 < n → v.pid i ≡ 0 → ((j : ℕ) → v.pid j < n) → count i v.run ≡ 0 → Change v (made n) (n ∷ []) [] 0 (made_v i n v)
  dispatches : (i : ℕ) (rest : List ℕ) → v.up ≡ none → v.run ≡ i ∷ rest → 0 < v.pid i → Change v (runs (v.pid i)) [] (v.pid i ∷ []) 0 (runs_v i rest v)
  dozes : (i : ℕ) (rest : List ℕ) (r : ℕ) → r < v.rendezs → v.up ≡ none → v.run ≡ i ∷ rest → 0 < v.pid i → v.sleeper r ≡ none → SleepsOn r (v.resume i) → Change v sleeps_again [] (v.pid i ∷ []) 0 (again_v i rest r v)
  waits_on : (i : ℕ) (rest : List ℕ) → v.up ≡ none → v.run ≡ i ∷ rest → 0 < v.pid i → v.resume i ≡ in_wait → Change v sleeps_again [] (v.pid i ∷ []) 0 (waits_again_v i rest v)
  gives_way : (i : ℕ) → v.up ≡ some i → 0 < v.pid i → Change v yields (v.pid i ∷ []) [] 0 (yields_v i v)
  goes_asleep : (i r : ℕ) (call : Resume) → r < v.rendezs → v.up ≡ some i → 0 < v.pid i → v.sleeper r ≡ none → SleepsOn r call → Change v (sleeps (on_rendez r)) [] [] 0 (sleeps_v i r call v)
  waits : (i : ℕ) → v.up ≡ some i → 0 < v.pid i → Change v (sleeps on_own_waitr) [] [] 0 (waits_v i v)
  queues : (i q : ℕ) → q < v.lock_count → v.up ≡ some i → 0 < v.pid i → Change v (sleeps (in_lock_queue q)) [] [] 0 (queues_v i q v)
  leaves : {rs : List ℕ} {w : View} (i : ℕ) → v.up ≡ some i → 0 < v.pid i → count i v.run ≡ 0 → Wakes (gone_v i v) rs 0 w → Change v (exits (v.pid i)) rs [] 0 w
  spends : Change v silent [] [] 0 (spent_v v)
