-- The facts that `check` tests, each by one loop or one walk. Together they say that a state in range is well formed.
use Rattle.std.specs.Prelude.{if◌then◌else◌, ◌≡◌, Bool, ◌&&◌, reverse, ◌⊎◌, ℕ, zero, suc, ◌+◌, ◌-◌, ◌^◌, ◌≤◌, ◌<◌, eqb, length}
use Rattle.clock.specs.Counts.{counts_of}
use Rattle.machine.specs.Machine.{Sizes}
use Rattle.machine.specs.Good.{Each}
use Rattle.layout.specs.Memory.{Memory}
use Rattle.chain.specs.Links.{Links, Chain, Queue}
use Rattle.chain.specs.Ordered.{Sorted}
use Rattle.state.specs.Fields as fields
use Rattle.state.specs.Abs.{is_set, run_list, waiter_list, timer_list, exit_list}
use Rattle.state.specs.WellFormed.{Used, Blank, NoLink, age_list, Rising, Index, Vacant}

-- How many numbers below n pass a test, and the sum of f over the numbers below n.
unfoldable pub count_below : ℕ → (ℕ → Bool) → ℕ
count_below zero test = 0
count_below (suc n) test = count_below n test + (if test n then 1 else 0)

unfoldable pub sum_below : ℕ → (ℕ → ℕ) → ℕ
sum_below zero f = 0
sum_below (suc n) f = sum_below n f + f n

-- The header's numbers.
pub record HeaderOk (m : Memory) : Type 0 where
  pub next_pid : 1 ≤ m fields.next_pid 0
  pub last_now : m fields.last_now 0 ≤ 2 ^ 51 - 1
  pub ticks : m fields.ticks 0 ≤ m fields.last_now 0

-- Where the call of record i goes on is in range, and fits its state: who runs has none and is the one that the header names; who is
-- asleep in a `sleep` or `tsleep` is the one that its Rendez names; nobody is asleep without a call.
pub record CallOk (z : Sizes) (m : Memory) (i : ℕ) : Type 0 where
  pub rendez : (m fields.resume_kind i ≡ 1) ⊎ (m fields.resume_kind i ≡ 2) → m fields.resume_object i < z.rendez
  pub lock : m fields.resume_kind i ≡ 3 → m fields.resume_object i < z.locks
  pub running : m fields.state_of i ≡ 1 → (m fields.resume_kind i ≡ 0) × (m fields.up 0 ≡ suc i)
  pub asleep : m fields.state_of i ≡ 3 → m fields.resume_kind i ≡ 0 → ⊥
  pub sleeping : m fields.state_of i ≡ 3 → (m fields.resume_kind i ≡ 1) ⊎ (m fields.resume_kind i ≡ 2) → m fields.sleeper_of (m fields.resume_object i) ≡ suc i

abbrev pub BlankAt : Memory → ℕ → Type 0
BlankAt m i = Blank (m fields.resume_kind i) (m fields.resume_object i) (m fields.resume_condition i)

abbrev pub UnlinkedAt : Memory → ℕ → Type 0
UnlinkedAt m i = NoLink (m fields.state_of i) (m fields.resume_kind i) (m fields.next i)

abbrev pub OrphanAt : Memory → ℕ → Type 0
OrphanAt m i = m fields.parent i ≡ 0 → m fields.parent_at i ≡ 0

-- Record i by itself: free, or a process whose numbers are in range and 0 where its call or its parent has none; its link is 0 where it has
-- none.
pub record UsedOk (z : Sizes) (m : Memory) (i : ℕ) : Type 0 where
  pub state : 0 < m fields.state_of i
  pub below : m fields.pid i < m fields.next_pid 0
  pub parent : m fields.parent i < m fields.pid i
  pub quantum : m fields.quantum_end i ≤ m fields.ticks 0 + 10
  pub call : CallOk z m i
  pub blank : BlankAt m i
  pub orphan : OrphanAt m i

pub record RecordOk (z : Sizes) (m : Memory) (i : ℕ) : Type 0 where
  pub free : m fields.pid i ≡ 0 → m fields.state_of i ≡ 0
  pub unlinked : UnlinkedAt m i
  pub used : Used m i → UsedOk z m i

-- Who sleeps on Rendez r is asleep in a `sleep` or `tsleep` on it.
pub record SleepsHere (m : Memory) (r i : ℕ) : Type 0 where
  pub state : m fields.state_of i ≡ 3
  pub kind : (m fields.resume_kind i ≡ 1) ⊎ (m fields.resume_kind i ≡ 2)
  pub object : m fields.resume_object i ≡ r

abbrev pub RendezOk : Memory → ℕ → Type 0
RendezOk m r = (i : ℕ) → m fields.sleeper_of r ≡ suc i → SleepsHere m r i

-- Who the header says runs is running.
abbrev pub UpOk : Memory → Type 0
UpOk m = (i : ℕ) → m fields.up 0 ≡ suc i → m fields.state_of i ≡ 1

-- The run queue: its links run from head to tail once, and all in it are ready.
pub record RunOk (z : Sizes) (m : Memory) : Type 0 where
  pub queue : Queue z.processes (m fields.next) (m fields.run_head 0) (m fields.run_tail 0) (run_list z m)
  pub ready : Each (λ i. m fields.state_of i ≡ 2) (run_list z m)

-- Who waits for lock q.
pub record WaitsHere (m : Memory) (q i : ℕ) : Type 0 where
  pub state : m fields.state_of i ≡ 3
  pub kind : m fields.resume_kind i ≡ 3
  pub object : m fields.resume_object i ≡ q

-- Lock q: the same for its queue, and with waiters it is held.
pub record LockOk (z : Sizes) (m : Memory) (q : ℕ) : Type 0 where
  pub queue : Queue z.processes (m fields.next) (m fields.lock_head q) (m fields.lock_tail q) (waiter_list z m q)
  pub waiting : Each (WaitsHere m q) (waiter_list z m q)
  pub held : m fields.held q ≡ 0 → m fields.lock_head q ≡ 0

-- Timer t by itself: a kernel timer's period, timer 0's, and whose own timer may be queued.
pub record TimerOk (z : Sizes) (m : Memory) (t : ℕ) : Type 0 where
  pub period : t < z.timers → (m fields.period t ≡ 0) ⊎ (counts_of z.hz 0 100000 ≤ m fields.period t)
  pub tick : t ≡ 0 → m fields.period t ≡ counts_of z.hz 0 10000000
  pub ticks : t ≡ 0 → m fields.is_queued t ≡ 1 → m fields.ticks 0 < m fields.deadline t
  pub own : z.timers ≤ t → m fields.is_queued t ≡ 1 → Used m (t - z.timers) × (m fields.resume_kind (t - z.timers) ≡ 2)

-- The timer queue: its links end, all in it are queued, and they stand by deadline.
pub record TimersOk (z : Sizes) (m : Memory) : Type 0 where
  pub chain : Chain (z.timers + z.processes) (m fields.timer_next) (m fields.timer_head 0) (timer_list z m)
  pub queued : Each (λ t. m fields.is_queued t ≡ 1) (timer_list z m)
  pub sorted : Sorted (m fields.deadline) (timer_list z m)

-- The exits of record i: as many cells as it says, each of which names it as its owner.
pub record ExitsOk (z : Sizes) (m : Memory) (i : ℕ) : Type 0 where
  pub chain : Chain z.cells (m fields.cell_next) (m fields.exits i) (exit_list m i)
  pub counted : length (exit_list m i) ≡ m fields.nexits i
  pub owned : Each (λ c. m fields.owner c ≡ suc i) (exit_list m i)

-- The living by age: linked both ways, all used, their pids rising.
pub record AgesOk (z : Sizes) (m : Memory) : Type 0 where
  pub younger : Queue z.processes (m fields.younger) (m fields.oldest 0) (m fields.youngest 0) (age_list z m)
  pub older : Links (m fields.older) (m fields.youngest 0) (reverse (age_list z m))
  pub rising : Rising (m fields.pid) (age_list z m)
  pub used : Each (Used m) (age_list z m)

-- A living parent is at the record that its child names.
abbrev pub KinOk : Sizes → Memory → ℕ → Type 0
KinOk z m i = (j : ℕ) → j < z.processes → Used m j → m fields.parent i ≡ m fields.pid j → m fields.parent_at i ≡ suc j

-- The tests that are counted.
abbrev pub is_ready : Memory → ℕ → Bool
is_ready m i = eqb (m fields.state_of i) 2

abbrev pub is_asleep : Memory → ℕ → Bool
is_asleep m i = eqb (m fields.state_of i) 3

abbrev pub is_queueing : Memory → ℕ → Bool
is_queueing m i = eqb (m fields.state_of i) 3 && eqb (m fields.resume_kind i) 3

abbrev pub is_child_of : Memory → ℕ → ℕ → Bool
is_child_of m pid i = is_set (m fields.pid i) && eqb (m fields.parent i) pid

-- What is free has nothing.
pub record IdleOk (z : Sizes) (m : Memory) : Type 0 where
  pub records : (i : ℕ) → i < z.processes → m fields.pid i ≡ 0 → Vacant m i
  pub cells : (c : ℕ) → c < z.cells → m fields.owner c ≡ 0 → m fields.cell_next c ≡ 0
  pub timers : (t : ℕ) → t < z.timers + z.processes → m fields.is_queued t ≡ 0 → m fields.timer_next t ≡ 0

-- All of them. What is counted shows that a walk met everyone it should: as many as there are.
pub record Facts (z : Sizes) (m : Memory) : Type 0 where
  pub header : HeaderOk m
  pub records : (i : ℕ) → i < z.processes → RecordOk z m i
  pub rendez : (r : ℕ) → r < z.rendez → RendezOk m r
  pub up : UpOk m
  pub run : RunOk z m
  pub all_ready : length (run_list z m) ≡ count_below z.processes (is_ready m)
  pub locks : (q : ℕ) → q < z.locks → LockOk z m q
  pub all_queueing : sum_below z.locks (λ q. length (waiter_list z m q)) ≡ count_below z.processes (is_queueing m)
  pub asleep : m fields.asleep_count 0 ≡ count_below z.processes (is_asleep m)
  pub timers : (t : ℕ) → t < z.timers + z.processes → TimerOk z m t
  pub timer_queue : TimersOk z m
  pub all_queued : length (timer_list z m) ≡ count_below (z.timers + z.processes) (λ t. eqb (m fields.is_queued t) 1)
  pub exits : (i : ℕ) → i < z.processes → Used m i → ExitsOk z m i
  pub all_owned : sum_below z.processes (λ i. if is_set (m fields.pid i) then m fields.nexits i else 0) ≡ count_below z.cells (λ c. is_set (m fields.owner c))
  pub ages : AgesOk z m
  pub all_living : length (age_list z m) ≡ count_below z.processes (λ i. is_set (m fields.pid i))
  pub kin : (i : ℕ) → i < z.processes → Used m i → KinOk z m i
  pub nchild : (j : ℕ) → j < z.processes → Used m j → m fields.nchild j ≡ count_below z.processes (is_child_of m (m fields.pid j))
  pub index : Index z m
  pub idle : IdleOk z m
