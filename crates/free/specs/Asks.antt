-- What the functions ask of a state.
use Rattle.std.specs.Prelude.{List, ℕ}
use Rattle.machine.specs.Good.{SizesInRange}
use Rattle.layout.specs.Writes.{State, Write, writes, Writable}
use Rattle.state.specs.Fields as fields
use Rattle.state.specs.Places.{sizes_in, mem_in}
use Rattle.state.specs.WellFormed.{Index}
use Rattle.state.specs.declared.Sizes.{Sizes}
use Rattle.free.specs.Right.{RecordWords, CellWords, index-records, index-cells}

-- The bytes hold a whole state in range, the bytes after stores, and that stores are in range.
abbrev pub StateIn : Sizes → List ℕ → Type 0
StateIn z s = State fields.layout1 (fields.most_of (sizes_in z)) (fields.counts (sizes_in z)) s

abbrev pub writes_in : Sizes → List ℕ → List Write → List ℕ
writes_in z s ws = writes fields.layout1 (fields.counts (sizes_in z)) s ws

abbrev pub WritableIn : Sizes → List Write → Type 0
WritableIn z ws = Writable fields.layout1 (fields.most_of (sizes_in z)) (fields.counts (sizes_in z)) ws

-- The state is in range, and its words of records in use are right for the pids g.
pub record RecordsIn (z : Sizes) (s : List ℕ) (g : ℕ → ℕ) : Type 0 where
  pub sizes : SizesInRange (sizes_in z)
  pub state : StateIn z s
  pub right : RecordWords z.processes g (mem_in z s fields.used_records) (mem_in z s fields.full_records)

-- The same of the words of cells in use, for the owners g.
pub record CellsIn (z : Sizes) (s : List ℕ) (g : ℕ → ℕ) : Type 0 where
  pub sizes : SizesInRange (sizes_in z)
  pub state : StateIn z s
  pub right : CellWords z.cells g (mem_in z s fields.used_cells) (mem_in z s fields.full_cell_words) (mem_in z s fields.full_cells)

-- A well-formed state's are right for its own (`Index` of state's WellFormed).
pub records_in : {z : Sizes} {s : List ℕ} → SizesInRange (sizes_in z) → StateIn z s → Index (sizes_in z) (mem_in z s) → RecordsIn z s (mem_in z s fields.pid)
records_in r t x = record { sizes = r; state = t; right = index-records x }

pub cells_in : {z : Sizes} {s : List ℕ} → SizesInRange (sizes_in z) → StateIn z s → Index (sizes_in z) (mem_in z s) → CellsIn z s (mem_in z s fields.owner)
cells_in r t x = record { sizes = r; state = t; right = index-cells x }
