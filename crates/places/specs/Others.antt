-- The groups that the places of processes have no part in, by the fields that they rest on: an operation on places leaves them as they
-- are, by computation.
use Rattle.std.specs.Prelude.{◌≡◌, refl, ℕ}
use Rattle.machine.specs.Machine.{Sizes}
use Rattle.layout.specs.Memory.{Memory}
use Rattle.state.specs.Fields as fields
use Rattle.state.specs.WellFormed.{Cells, Ages, Index}
use Rattle.holds.specs.Holds.{Header, Placed, Timed, Keeps}
use Rattle.holds.specs.Frames.{header-same, timed-same, cells_same, ages-same, index_same}

-- Some memory with these fields keeps those groups.
pub record Others (z : Sizes) (f0 f1 f2 f3 f4 f5 f6 f7 f8 f9 f10 f11 f12 f13 f14 f15 f16 f17 f18 f19 f20 f21 f22 f23 f24 f25 f26 : ℕ → ℕ) : Type 0 where
  memory : Memory
  mark : f0 ≡ memory fields.mark
  layout : f1 ≡ memory fields.layout_number
  hz : f2 ≡ memory fields.hz
  processes : f3 ≡ memory fields.size_processes
  rendez : f4 ≡ memory fields.size_rendez
  locks : f5 ≡ memory fields.size_locks
  timers : f6 ≡ memory fields.size_timers
  cell_count : f7 ≡ memory fields.size_cells
  timer_next : f8 ≡ memory fields.timer_next
  timer_head : f9 ≡ memory fields.timer_head
  is_queued : f10 ≡ memory fields.is_queued
  pid : f11 ≡ memory fields.pid
  cell_next : f12 ≡ memory fields.cell_next
  exits : f13 ≡ memory fields.exits
  nexits : f14 ≡ memory fields.nexits
  owner : f15 ≡ memory fields.owner
  younger : f16 ≡ memory fields.younger
  older : f17 ≡ memory fields.older
  oldest : f18 ≡ memory fields.oldest
  youngest : f19 ≡ memory fields.youngest
  parent : f20 ≡ memory fields.parent
  parent_at : f21 ≡ memory fields.parent_at
  used_records : f22 ≡ memory fields.used_records
  full_records : f23 ≡ memory fields.full_records
  used_cells : f24 ≡ memory fields.used_cells
  full_cell_words : f25 ≡ memory fields.full_cell_words
  full_cells : f26 ≡ memory fields.full_cells
  header : Header z memory
  timed : Timed z memory
  cells : Cells z memory
  ages : Ages z memory
  index : Index z memory

abbrev pub OthersIn : Sizes → Memory → Type 0
OthersIn z m =
    Others z (m fields.mark) (m fields.layout_number) (m fields.hz) (m fields.size_processes) (m fields.size_rendez) (m fields.size_locks) (m fields.size_timers) (m fields.size_cells) (m fields.timer_next) (m fields.timer_head) (m fields.is_queued) (m fields.pid) (m fields.cell_next) (m fields.exits) (m fields.nexits) (m fields.owner) (m fields.younger) (m fields.older) (m fields.oldest) (m fields.youngest) (m fields.parent) (m fields.parent_at) (m fields.used_records) (m fields.full_records) (m fields.used_cells) (m fields.full_cell_words) (m fields.full_cells)

pub others : {z : Sizes} {m : Memory} {n : ℕ} → Keeps z m n → OthersIn z m
others {z} {m} k =
    record {
      memory = m;
      mark = refl;
      layout = refl;
      hz = refl;
      processes = refl;
      rendez = refl;
      locks = refl;
      timers = refl;
      cell_count = refl;
      timer_next = refl;
      timer_head = refl;
      is_queued = refl;
      pid = refl;
      cell_next = refl;
      exits = refl;
      nexits = refl;
      owner = refl;
      younger = refl;
      older = refl;
      oldest = refl;
      youngest = refl;
      parent = refl;
      parent_at = refl;
      used_records = refl;
      full_records = refl;
      used_cells = refl;
      full_cell_words = refl;
      full_cells = refl;
      header = k.header;
      timed = k.timed;
      cells = k.cells;
      ages = k.ages;
      index = k.index;
    }

-- With the places of a memory they are all that it keeps.
pub keeps_with : {z : Sizes} {m : Memory} {n : ℕ} → OthersIn z m → Placed z m n → Keeps z m n
keeps_with {z} {m} o p =
    record {
      header =
          header-same o.mark o.layout o.processes o.rendez o.locks o.timers o.cell_count o.hz o.header;
      placed = p;
      timed = timed-same o.timer_next o.timer_head o.is_queued o.timed;
      cells = cells_same o.pid o.cell_next o.exits o.nexits o.owner o.cells;
      ages = ages-same o.pid o.younger o.older o.oldest o.youngest o.parent o.parent_at o.ages;
      index =
          index_same o.pid o.owner o.used_records o.full_records o.used_cells o.full_cell_words o.full_cells o.index;
    }
