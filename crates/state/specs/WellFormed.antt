-- When the bytes are a state: what the layout asks of its links, tags and counts, and the rules of the machine that they hold.
use Rattle.std.specs.Prelude.{if◌then◌else◌, ◌≡◌, Bool, false, ◌&&◌, ◌||◌, List, [], ◌∷◌, reverse, ℕ, zero, suc, ◌+◌, ◌-◌, ◌*◌, ◌^◌, ◌≤◌, ◌<◌, eqb, ltb, length}
use Rattle.machine.specs.Basics.{count}
use Rattle.machine.specs.Machine.{Sizes, asleep}
use Rattle.machine.specs.Good.{SizesInRange, Each, Good}
use Rattle.layout.specs.Memory.{Memory}
use Rattle.layout.specs.Writes.{State}
use Rattle.chain.specs.Links.{walk, Links, Chain, Queue}
use Rattle.state.specs.Fields as fields
use Rattle.state.specs.Abs.{sizes_of, memory_of, is_set, run_list, waiter_list, timer_list, exit_list, machine_of, abs}

-- The first eight bytes of a state spell HUIABUNK.
abbrev pub mark_value : ℕ
mark_value = 5426368344079553864

abbrev pub Used : Memory → ℕ → Type 0
Used m i = 0 < m fields.pid i

-- A process has a link where it is ready, and where it is asleep and waits for a lock; a `sleep`, a `tsleep` and a `qlock` have an object, the
-- first two a condition.
abbrev pub is_linked : (state kind : ℕ) → Bool
is_linked state kind = eqb state 2 || eqb state 3 && eqb kind 3

abbrev pub has_object : ℕ → Bool
has_object kind = eqb kind 1 || eqb kind 2 || eqb kind 3

abbrev pub has_condition : ℕ → Bool
has_condition kind = eqb kind 1 || eqb kind 2

-- A call holds 0 for what it does not have, and a record for a link that it does not have.
pub record Blank (kind o c : ℕ) : Type 0 where
  pub object : has_object kind ≡ false → o ≡ 0
  pub condition : has_condition kind ≡ false → c ≡ 0

abbrev pub Blanks : (pid kind object condition : ℕ → ℕ) → Type 0
Blanks pid kind object condition = (i : ℕ) → 0 < pid i → Blank (kind i) (object i) (condition i)

pub record NoLink (state kind next : ℕ) : Type 0 where
  pub zero : is_linked state kind ≡ false → next ≡ 0

abbrev pub Unlinked : (state kind next : ℕ → ℕ) → Type 0
Unlinked state kind next = (i : ℕ) → NoLink (state i) (kind i) (next i)

-- Each record's state is the queue it is found in; a free record's is 0.
pub record Tagged (z : Sizes) (m : Memory) : Type 0 where
  pub free : (i : ℕ) → m fields.pid i ≡ 0 → m fields.state_of i ≡ 0
  pub used : (i : ℕ) → Used m i → 0 < m fields.state_of i
  pub running : (i : ℕ) → m fields.up 0 ≡ suc i → m fields.state_of i ≡ 1
  pub ready : Each (λ i. m fields.state_of i ≡ 2) (run_list z m)
  pub sleeping : (r i : ℕ) → m fields.sleeper_of r ≡ suc i → m fields.state_of i ≡ 3
  pub queueing : (q : ℕ) → Each (λ i. m fields.state_of i ≡ 3) (waiter_list z m q)
  pub unlinked : Unlinked (m fields.state_of) (m fields.resume_kind) (m fields.next)
  pub blanks : Blanks (m fields.pid) (m fields.resume_kind) (m fields.resume_object) (m fields.resume_condition)

-- Each queue's links run from head to tail once.
pub record Queues (z : Sizes) (m : Memory) : Type 0 where
  pub run : Queue z.processes (m fields.next) (m fields.run_head 0) (m fields.run_tail 0) (run_list z m)
  pub locks : (q : ℕ) → q < z.locks → Queue z.processes (m fields.next) (m fields.lock_head q) (m fields.lock_tail q) (waiter_list z m q)
  pub timers : Chain (z.timers + z.processes) (m fields.timer_next) (m fields.timer_head 0) (timer_list z m)
  pub queued : (t : ℕ) → m fields.is_queued t ≡ count t (timer_list z m)
  -- asleep counts the sleepers
  pub asleep : m fields.asleep_count 0 ≡ asleep (machine_of z m)

-- The exits of a used record: a chain of as many cells as it says, each of which names it as its owner; a cell that names an owner is
-- in that owner's chain.
pub record Cells (z : Sizes) (m : Memory) : Type 0 where
  pub chain : (i : ℕ) → Used m i → Chain z.cells (m fields.cell_next) (m fields.exits i) (exit_list m i)
  pub counted : (i : ℕ) → Used m i → length (exit_list m i) ≡ m fields.nexits i
  pub owned : (i : ℕ) → Used m i → Each (λ c. m fields.owner c ≡ suc i) (exit_list m i)
  pub owner : (c i : ℕ) → m fields.owner c ≡ suc i → Used m i × (1 ≤ count c (exit_list m i))

-- The living by age: linked both ways, their pids rising.
unfoldable pub age_list : Sizes → Memory → List ℕ
age_list z m = walk z.processes (m fields.younger) (m fields.oldest 0)

abbrev pub Rising : (ℕ → ℕ) → List ℕ → Type 0
Rising key [] = Unit {0}
Rising key (x ∷ xs) = Each (λ y. key x < key y) xs × Rising key xs

pub record Ages (z : Sizes) (m : Memory) : Type 0 where
  pub younger : Queue z.processes (m fields.younger) (m fields.oldest 0) (m fields.youngest 0) (age_list z m)
  pub older : Links (m fields.older) (m fields.youngest 0) (reverse (age_list z m))
  pub rising : Rising (m fields.pid) (age_list z m)
  pub living : (i : ℕ) → count i (age_list z m) ≡ (if is_set (m fields.pid i) then 1 else 0)
  -- a living parent is at the record that its child names
  pub parent_at : (i j : ℕ) → Used m i → Used m j → m fields.parent i ≡ m fields.pid j → m fields.parent_at i ≡ suc j
  -- without a parent it names none
  pub orphan : (i : ℕ) → Used m i → m fields.parent i ≡ 0 → m fields.parent_at i ≡ 0

-- The number whose bit b is set where f b holds, for b below n.
unfoldable pub bits : (ℕ → Bool) → ℕ → ℕ
bits f zero = 0
bits f (suc n) = bits f n + (if f n then 2 ^ n else 0)

-- Bit b of word w stands for the record, or cell, n − 1 − (64 w + b): the highest number first.
unfoldable pub in_use : ℕ → (ℕ → ℕ) → ℕ → ℕ → ℕ
in_use n g w = bits (λ b. ltb (64 * w + b) n && is_set (g (n - 1 - (64 * w + b))))

abbrev pub is_full : ℕ → Bool
is_full w = eqb w (2 ^ 64 - 1)

-- The words that say what is in use are right, and those that say which of them are full.
pub record Index (z : Sizes) (m : Memory) : Type 0 where
  pub records : (w : ℕ) → w < 64 → m fields.used_records w ≡ in_use z.processes (m fields.pid) w 64
  pub full_records : m fields.full_records 0 ≡ bits (λ w. is_full (m fields.used_records w)) 64
  pub cells : (w : ℕ) → w < 1016 → m fields.used_cells w ≡ in_use z.cells (m fields.owner) w 64
  pub full_cell_words : (v : ℕ) → v < 16 → m fields.full_cell_words v ≡ bits (λ b. is_full (m fields.used_cells (64 * v + b))) 64
  pub full_cells : m fields.full_cells 0 ≡ bits (λ v. is_full (m fields.full_cell_words v)) 16

-- What is free has nothing: a free record no neighbours in age and no exits, a free cell and a timer that is off the queue no link.
pub record Vacant (m : Memory) (i : ℕ) : Type 0 where
  pub older : m fields.older i ≡ 0
  pub younger : m fields.younger i ≡ 0
  pub exits : m fields.exits i ≡ 0
  pub nexits : m fields.nexits i ≡ 0

pub record Idle (m : Memory) : Type 0 where
  pub records : (i : ℕ) → m fields.pid i ≡ 0 → Vacant m i
  pub cells : (c : ℕ) → m fields.owner c ≡ 0 → m fields.cell_next c ≡ 0
  pub timers : (t : ℕ) → m fields.is_queued t ≡ 0 → m fields.timer_next t ≡ 0

-- The bytes represent their machine.
pub record Rep (s : List ℕ) : Type 0 where
  pub sizes : SizesInRange (sizes_of s)
  pub state : State fields.layout1 (fields.most_of (sizes_of s)) (fields.counts (sizes_of s)) s
  pub mark : memory_of s fields.mark 0 ≡ mark_value
  pub layout : memory_of s fields.layout_number 0 ≡ 1
  pub queues : Queues (sizes_of s) (memory_of s)
  pub tagged : Tagged (sizes_of s) (memory_of s)
  pub cells : Cells (sizes_of s) (memory_of s)
  pub ages : Ages (sizes_of s) (memory_of s)
  pub index : Index (sizes_of s) (memory_of s)
  pub idle : Idle (memory_of s)

-- A state is well formed: its bytes represent their machine, and that keeps the rules of docs/MACHINE.md, "Well-formed states".
pub record WellFormed (s : List ℕ) : Type 0 where
  pub rep : Rep s
  pub good : Good (abs s)
