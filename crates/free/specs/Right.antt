-- When the words that say what is in use are right: for the records, and for the cells.
use Rattle.std.specs.Prelude.{◌≡◌, ℕ}
use Rattle.std.proofs.Common.{sym, subst, subst₂}
use Rattle.machine.specs.Machine.{Sizes}
use Rattle.layout.specs.Memory.{Memory}
use Rattle.state.specs.Fields as fields
use Rattle.state.specs.WellFormed.{bits, in_use, Index}
use Rattle.free.specs.Words.{used, Words, full_of}

-- The words x of n records, or cells, with numbers g, and the word above them, are right.
pub record RecordWords (n : ℕ) (g x t : ℕ → ℕ) : Type 0 where
  pub words : Words 64 (used n g) x
  pub full : t 0 ≡ bits (full_of x) 64

pub record CellWords (n : ℕ) (g x y t : ℕ → ℕ) : Type 0 where
  pub words : Words 1016 (used n g) x
  pub middle : Words 16 (full_of x) y
  pub full : t 0 ≡ bits (full_of y) 16

abbrev pub RecordsRight : ℕ → Memory → Type 0
RecordsRight n m = RecordWords n (m fields.pid) (m fields.used_records) (m fields.full_records)

abbrev pub CellsRight : ℕ → Memory → Type 0
CellsRight n m = CellWords n (m fields.owner) (m fields.used_cells) (m fields.full_cell_words) (m fields.full_cells)

-- All these words are right exactly if those of the records and of the cells are.
pub index-records : {z : Sizes} {m : Memory} → Index z m → RecordsRight z.processes m
unfolding in_use
index-records x = record { words = record { word = x.records }; full = x.full_records }

pub index-cells : {z : Sizes} {m : Memory} → Index z m → CellsRight z.cells m
unfolding in_use
index-cells x = record { words = record { word = x.cells }; middle = record { word = x.full_cell_words }; full = x.full_cells }

pub index-both : (z : Sizes) (m : Memory) → RecordsRight z.processes m → CellsRight z.cells m → Index z m
unfolding in_use
index-both z m r c =
    record {
      records = r.words.word;
      full_records = r.full;
      cells = c.words.word;
      full_cell_words = c.middle.word;
      full_cells = c.full;
    }

-- Another memory with the same words of records, and of cells.
pub record SameRecordWords (m m' : Memory) : Type 0 where
  pub words : m' fields.used_records ≡ m fields.used_records
  pub full : m' fields.full_records ≡ m fields.full_records

pub record SameCellWords (m m' : Memory) : Type 0 where
  pub words : m' fields.used_cells ≡ m fields.used_cells
  pub middle : m' fields.full_cell_words ≡ m fields.full_cell_words
  pub full : m' fields.full_cells ≡ m fields.full_cells

pub same-records
    : {m m' : Memory} {n : ℕ} {g g' : ℕ → ℕ}
    → SameRecordWords m m'
    → g' ≡ g
    → RecordWords n g (m fields.used_records) (m fields.full_records)
    → RecordWords n g' (m' fields.used_records) (m' fields.full_records)
same-records {m} {m'} {n} {g} {g'} e d r =
    subst (λ (k : ℕ → ℕ). RecordWords n k (m' fields.used_records) (m' fields.full_records)) (sym d)
    (subst₂ (λ (x t : ℕ → ℕ). RecordWords n g x t) (sym e.words) (sym e.full) r)

pub same-cells
    : {m m' : Memory} {n : ℕ} {g g' : ℕ → ℕ}
    → SameCellWords m m'
    → g' ≡ g
    → CellWords n g (m fields.used_cells) (m fields.full_cell_words) (m fields.full_cells)
    → CellWords n g' (m' fields.used_cells) (m' fields.full_cell_words) (m' fields.full_cells)
same-cells {m} {m'} {n} {g} {g'} e d r =
    subst₂ (λ (k y : ℕ → ℕ). CellWords n k (m' fields.used_cells) y (m' fields.full_cells)) (sym d) (sym e.middle)
    (subst₂ (λ (x t : ℕ → ℕ). CellWords n g x (m fields.full_cell_words) t) (sym e.words) (sym e.full) r)
