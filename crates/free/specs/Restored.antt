-- The words of a state are right again once a record that has been marked gets its pid, or a cell its owner.
use Rattle.std.specs.Prelude.{◌≡◌, refl, List, ℕ, ◌<◌}
use Rattle.std.proofs.Common.{subst}
use Rattle.machine.specs.Good.{SizesInRange}
use Rattle.layout.specs.Memory.{Memory, set_field}
use Rattle.state.specs.Fields as fields
use Rattle.state.specs.Places.{sizes_in, mem_in}
use Rattle.state.specs.WellFormed.{Index}
use Rattle.state.specs.declared.Sizes.{Sizes}
use Rattle.free.specs.Right.{RecordsRight, CellsRight, SameRecordWords, SameCellWords, index-records, index-cells, index-both, same-records, same-cells}
use Rattle.free.specs.Asks.{StateIn, RecordsIn, CellsIn, records_in, cells_in}
use Rattle.free.specs.Record.{ElseSame}
use Rattle.free.specs.UseRecord.{use_record_mem, drop_record_mem, UseRecordDone, DropRecordDone}
use Rattle.free.specs.UseCell.{use_cell_mem, drop_cell_mem, UseCellDone, DropCellDone}

-- m' has the words and owners of m, and the pids but at i; or the words and pids, and the owners but at i.
pub record ButPid (m m' : Memory) (i : ℕ) : Type 0 where
  pub records : SameRecordWords m m'
  pub cells : SameCellWords m m'
  pub owner : m' fields.owner ≡ m fields.owner
  pub pid : ElseSame i (m fields.pid) (m' fields.pid)

pub record ButOwner (m m' : Memory) (i : ℕ) : Type 0 where
  pub records : SameRecordWords m m'
  pub cells : SameCellWords m m'
  pub pid : m' fields.pid ≡ m fields.pid
  pub owner : ElseSame i (m fields.owner) (m' fields.owner)

-- For one, the memory with pids p, or owners p.
pub but_pid : (m : Memory) (p : ℕ → ℕ) (i : ℕ) → ElseSame i (m fields.pid) p → ButPid m (set_field m fields.pid p) i
but_pid m p i e = record { records = record { words = refl; full = refl }; cells = record { words = refl; middle = refl; full = refl }; owner = refl; pid = e }

pub but_owner : (m : Memory) (p : ℕ → ℕ) (i : ℕ) → ElseSame i (m fields.owner) p → ButOwner m (set_field m fields.owner p) i
but_owner m p i e = record { records = record { words = refl; full = refl }; cells = record { words = refl; middle = refl; full = refl }; pid = refl; owner = e }

-- Words of records that are right for the pids of a memory, with its words of cells; and the other way round.
pub record_index
    : {z : Sizes} {s : List ℕ} {m : Memory}
    → RecordsIn z s (m fields.pid)
    → SameRecordWords (mem_in z s) m
    → CellsRight z.cells m
    → Index (sizes_in z) m
record_index {z} {s} {m} r e c = index-both (sizes_in z) m (same-records e refl r.right) c

pub cell-index
    : {z : Sizes} {s : List ℕ} {m : Memory}
    → CellsIn z s (m fields.owner)
    → SameCellWords (mem_in z s) m
    → RecordsRight z.processes m
    → Index (sizes_in z) m
cell-index {z} {s} {m} c e r = index-both (sizes_in z) m r (same-cells e refl c.right)

-- A pid, or an owner, set after the marking.
module _ {z : Sizes} {s s' : List ℕ} {i : ℕ} (r : SizesInRange (sizes_in z)) (t : StateIn z s) (x : Index (sizes_in z) (mem_in z s)) (m : Memory) where
  pub used_record : UseRecordDone z s s' i → mem_in z s fields.pid i ≡ 0 → ButPid (mem_in z s') m i → 0 < m fields.pid i → Index (sizes_in z) m
  used_record d off b on =
      let k : ButPid (use_record_mem z.processes (mem_in z s) i) m i = subst (λ (y : Memory). ButPid y m i) d.memory b in
      record_index (d.words (mem_in z s fields.pid) (m fields.pid) (records_in r t x) off on k.pid) b.records (same-cells k.cells k.owner (index-cells x))

  pub dropped_record : DropRecordDone z s s' i → 0 < mem_in z s fields.pid i → ButPid (mem_in z s') m i → m fields.pid i ≡ 0 → Index (sizes_in z) m
  dropped_record d on b off =
      let k : ButPid (drop_record_mem z.processes (mem_in z s) i) m i = subst (λ (y : Memory). ButPid y m i) d.memory b in
      record_index (d.words (mem_in z s fields.pid) (m fields.pid) (records_in r t x) on off k.pid) b.records (same-cells k.cells k.owner (index-cells x))

  pub used-cell : UseCellDone z s s' i → mem_in z s fields.owner i ≡ 0 → ButOwner (mem_in z s') m i → 0 < m fields.owner i → Index (sizes_in z) m
  used-cell d off b on =
      let k : ButOwner (use_cell_mem z.cells (mem_in z s) i) m i = subst (λ (y : Memory). ButOwner y m i) d.memory b in
      cell-index (d.words (mem_in z s fields.owner) (m fields.owner) (cells_in r t x) off on k.owner) b.cells (same-records k.records k.pid (index-records x))

  pub dropped-cell : DropCellDone z s s' i → 0 < mem_in z s fields.owner i → ButOwner (mem_in z s') m i → m fields.owner i ≡ 0 → Index (sizes_in z) m
  dropped-cell d on b off =
      let k : ButOwner (drop_cell_mem z.cells (mem_in z s) i) m i = subst (λ (y : Memory). ButOwner y m i) d.memory b in
      cell-index (d.words (mem_in z s fields.owner) (m fields.owner) (cells_in r t x) on off k.owner) b.cells (same-records k.records k.pid (index-records x))
