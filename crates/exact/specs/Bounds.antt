-- A memory whose fields are in range, and 0 past the end of their regions; the memory of bytes in range is one.
use Rattle.std.specs.Prelude.{◌≡◌, refl, Bool, true, false, List, ℕ, ◌≤◌, ◌<◌, ltb}
use Rattle.std.proofs.Common.{arith, ltb-true, ltb-false, le-ltb}
use Rattle.machine.specs.Machine.{Sizes}
use Rattle.machine.specs.Good.{SizesInRange}
use Rattle.layout.specs.Table as tables
use Rattle.layout.specs.Memory.{Memory, mem, cell, Ranged}
use Rattle.layout.specs.Writes.{State}
use Rattle.state.specs.Fields.{layout1, counts, most_of}

-- How many records have field f.
abbrev pub count_of : Sizes → ℕ → ℕ
count_of z f = tables.count layout1 (counts z) (tables.field layout1 f).region

pub record InBounds (z : Sizes) (m : Memory) : Type 0 where
  pub sizes : SizesInRange z
  pub ranged : Ranged (most_of z) m
  pub past : (f i : ℕ) → count_of z f ≤ i → m f i ≡ 0

cell-past : (z : Sizes) (s : List ℕ) (a : tables.Slot) (i : ℕ) → tables.count layout1 (counts z) a.region ≤ i → cell layout1 (counts z) s a i ≡ 0
unfolding cell
cell-past z s a i l = rw (le-ltb i (tables.count layout1 (counts z) a.region) l)

-- 'cell' is 0 past the region's end, and so are the fields past the table's end, which have no region.
pub in_bounds
    : {z : Sizes} {s : List ℕ}
    → SizesInRange z
    → State layout1 (most_of z) (counts z) s
    → InBounds z (mem layout1 (counts z) s)
in_bounds {z} {s} h t = record { sizes = h; ranged = t.ranged; past = over }
  where
    over : (f i : ℕ) → count_of z f ≤ i → mem layout1 (counts z) s f i ≡ 0
    over f i l = cell-past z s (tables.field layout1 f) i l

pub at_most : {z : Sizes} {m : Memory} → InBounds z m → (f i : ℕ) → m f i ≤ most_of z f
unfolding Ranged
at_most b f i = b.ranged f i

-- A field that is not 0 is one of a record.
pub inside : {z : Sizes} {m : Memory} → InBounds z m → (f i : ℕ) → 0 < m f i → i < count_of z f
inside {z} {m} b f i h = go (ltb i (count_of z f)) refl
  where
    go : (c : Bool) → ltb i (count_of z f) ≡ c → i < count_of z f
    go true e = ltb-true i (count_of z f) e
    go false e = absurd (omega (arith, b.past f i (ltb-false i (count_of z f) e)))
