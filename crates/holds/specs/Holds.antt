-- What the memory of a state keeps between the operations of a step, group by group. A step may have taken a process off its place and
-- not yet put it on another, so the groups ask less than well-formedness (and nothing of what is free), but that the calls of sleepers and waiters fit.
use Rattle.std.specs.Prelude.{◌≡◌, List, ℕ, suc, ◌+◌, ◌<◌}
use Rattle.machine.specs.Basics.{count}
use Rattle.machine.specs.Machine as machine
use Rattle.machine.specs.Good.{SizesInRange, Each}
use Rattle.layout.specs.Memory.{Memory}
use Rattle.layout.specs.Writes.{State}
use Rattle.chain.specs.Links.{Chain, Queue}
use Rattle.state.specs.Fields as fields
use Rattle.state.specs.Abs.{waiter_list, timer_list, machine_of}
use Rattle.state.specs.Places.{sizes_in, mem_in}
use Rattle.state.specs.WellFormed.{mark_value, Used, Unlinked, Blanks, Cells, Ages, Index}
use Rattle.state.specs.declared.Sizes.{Sizes}
use Rattle.rules.specs.Facts.{RunOk, SleepsHere, WaitsHere}

-- The header says what it is, and names the sizes.
pub record Header (z : machine.Sizes) (m : Memory) : Type 0 where
  pub mark : m fields.mark 0 ≡ mark_value
  pub layout : m fields.layout_number 0 ≡ 1
  pub processes : m fields.size_processes 0 ≡ z.processes
  pub rendez : m fields.size_rendez 0 ≡ z.rendez
  pub locks : m fields.size_locks 0 ≡ z.locks
  pub timers : m fields.size_timers 0 ≡ z.timers
  pub cells : m fields.size_cells 0 ≡ z.cells
  pub hz : m fields.hz 0 ≡ z.hz

-- The places of processes: each queue's links run from head to tail once, who is in a place has its state and its call, and asleep
-- counts the sleepers and those, as many as owed, who have been taken off their place and are not yet counted off; links, objects and conditions are 0
-- where there are none.
pub record Placed (z : machine.Sizes) (m : Memory) (owed : ℕ) : Type 0 where
  pub free : (i : ℕ) → m fields.pid i ≡ 0 → m fields.state_of i ≡ 0
  pub used : (i : ℕ) → Used m i → 0 < m fields.state_of i
  pub running : (i : ℕ) → m fields.up 0 ≡ suc i → m fields.state_of i ≡ 1
  pub run : RunOk z m
  pub rendez : (r i : ℕ) → m fields.sleeper_of r ≡ suc i → SleepsHere m r i
  pub locks : (q : ℕ) → Queue z.processes (m fields.next) (m fields.lock_head q) (m fields.lock_tail q) (waiter_list z m q)
  pub waiting : (q : ℕ) → Each (WaitsHere m q) (waiter_list z m q)
  pub asleep : m fields.asleep_count 0 ≡ owed + machine.asleep (machine_of z m)
  pub unlinked : Unlinked (m fields.state_of) (m fields.resume_kind) (m fields.next)
  pub blanks : Blanks (m fields.pid) (m fields.resume_kind) (m fields.resume_object) (m fields.resume_condition)

-- The timer queue's links end, and each timer's flag says whether it is queued.
pub record Timed (z : machine.Sizes) (m : Memory) : Type 0 where
  pub chain : Chain (z.timers + z.processes) (m fields.timer_next) (m fields.timer_head 0) (timer_list z m)
  pub queued : (t : ℕ) → m fields.is_queued t ≡ count t (timer_list z m)

-- All groups.
pub record Keeps (z : machine.Sizes) (m : Memory) (owed : ℕ) : Type 0 where
  pub header : Header z m
  pub placed : Placed z m owed
  pub timed : Timed z m
  pub cells : Cells z m
  pub ages : Ages z m
  pub index : Index z m

-- The bytes at the sizes that the code carries: in range, and their memory keeps all that.
pub record Holds (z : Sizes) (s : List ℕ) (owed : ℕ) : Type 0 where
  pub sizes : SizesInRange (sizes_in z)
  pub state : State fields.layout1 (fields.most_of (sizes_in z)) (fields.counts (sizes_in z)) s
  pub keeps : Keeps (sizes_in z) (mem_in z s) owed
