-- A column: one field of all records of a region, none of which is above a maximum.
use Rattle.std.specs.Prelude.{List, ℕ, ◌≤◌, ◌<◌, length}
use Rattle.layout.specs.Table.{Slot, slot, count}
use Rattle.layout.specs.Place.{Inside}
use Rattle.state.specs.Fields.{layout1, counts}
use Rattle.state.specs.Places.{sizes_in, total_in, cell_in}
use Rattle.state.specs.declared.Sizes.{Sizes}

pub record Column : Type 0 where
  pub place : Slot
  pub records : ℕ
  pub most : ℕ

-- The field at a; n records; at most v.
abbrev pub column_at : Slot → ℕ → ℕ → Column
column_at a n v = record { place = a; records = n; most = v }

-- Region r, byte o of the record, w bytes wide; n records; at most v.
abbrev pub column : ℕ → ℕ → ℕ → ℕ → ℕ → Column
column r o w n v = column_at (slot r o w) n v

unfoldable pub Within : Sizes → List ℕ → Column → Type 0
Within z s c = (i : ℕ) → i < c.records → cell_in z s c.place i ≤ c.most

-- The same of the records from b on.
unfoldable pub WithinFrom : Sizes → List ℕ → Column → ℕ → Type 0
WithinFrom z s c b = (i : ℕ) → b ≤ i → i < c.records → cell_in z s c.place i ≤ c.most

-- What a test of a column asks: the field lies in its record, there are that many records, and the bytes hold them.
pub record Asks (z : Sizes) (s : List ℕ) (a : Slot) (n : ℕ) : Type 0 where
  pub inside : Inside layout1 a
  pub records : n ≤ count layout1 (counts (sizes_in z)) a.region
  pub long : total_in z ≤ length s
