-- What `use_cell` and `drop_cell` do: to the bytes, to the memory, and to the words of the cells in use.
use Rattle.std.specs.Prelude.{if◌then◌else◌, ◌≡◌, Bool, ◌&&◌, List, [], ◌∷◌, ℕ, ◌+◌, ◌-◌, ◌^◌, ◌<◌}
use Rattle.std.proofs.Common.{arith}
use Rattle.layout.specs.Memory.{Memory, alter, set_field}
use Rattle.layout.specs.Writes.{Write, to}
use Rattle.state.specs.Fields as fields
use Rattle.state.specs.Places.{mem_in}
use Rattle.state.specs.WellFormed.{is_full}
use Rattle.state.specs.declared.Sizes.{Sizes}
use Rattle.free.specs.Asks.{StateIn, writes_in, WritableIn, CellsIn}
use Rattle.free.specs.FindCell.{CellFound}
use Rattle.free.specs.Record.{word_of, bit_of, ElseSame}
use Rattle.free.specs.Cell.{above_of, above_bit}

-- The stores: v to word w of the cells; where t holds, y to word c above; and where t₁ holds too, the value u to the top.
abbrev pub cell_writes : ℕ → ℕ → Bool → ℕ → ℕ → Bool → ℕ → List Write
cell_writes w v t c y t₁ u =
    to fields.used_cells w v ∷ (if t then to fields.full_cell_words c y ∷ (if t₁ then to fields.full_cells 0 u ∷ [] else []) else [])

abbrev pub use_cell_writes : ℕ → Memory → ℕ → List Write
use_cell_writes n m i =
    cell_writes (word_of n i) (m fields.used_cells (word_of n i) + 2 ^ bit_of n i)
    (is_full (m fields.used_cells (word_of n i) + 2 ^ bit_of n i))
    (above_of n i)
    (m fields.full_cell_words (above_of n i) + 2 ^ above_bit n i)
    (is_full (m fields.full_cell_words (above_of n i) + 2 ^ above_bit n i))
    (m fields.full_cells 0 + 2 ^ above_of n i)

abbrev pub drop_cell_writes : ℕ → Memory → ℕ → List Write
drop_cell_writes n m i =
    cell_writes (word_of n i) (m fields.used_cells (word_of n i) - 2 ^ bit_of n i)
    (is_full (m fields.used_cells (word_of n i)))
    (above_of n i)
    (m fields.full_cell_words (above_of n i) - 2 ^ above_bit n i)
    (is_full (m fields.full_cell_words (above_of n i)))
    (m fields.full_cells 0 - 2 ^ above_of n i)

-- The memory then: each field as a whole.
abbrev pub cell_mem : Memory → ℕ → ℕ → Bool → ℕ → ℕ → Bool → ℕ → Memory
cell_mem m w v t c y t₁ u =
    set_field
    (set_field (set_field m fields.used_cells (alter (m fields.used_cells) w v)) fields.full_cell_words
    (if t then alter (m fields.full_cell_words) c y else m fields.full_cell_words))
    fields.full_cells
    (if t && t₁ then alter (m fields.full_cells) 0 u else m fields.full_cells)

abbrev pub use_cell_mem : ℕ → Memory → ℕ → Memory
use_cell_mem n m i =
    cell_mem m (word_of n i) (m fields.used_cells (word_of n i) + 2 ^ bit_of n i)
    (is_full (m fields.used_cells (word_of n i) + 2 ^ bit_of n i))
    (above_of n i)
    (m fields.full_cell_words (above_of n i) + 2 ^ above_bit n i)
    (is_full (m fields.full_cell_words (above_of n i) + 2 ^ above_bit n i))
    (m fields.full_cells 0 + 2 ^ above_of n i)

abbrev pub drop_cell_mem : ℕ → Memory → ℕ → Memory
drop_cell_mem n m i =
    cell_mem m (word_of n i) (m fields.used_cells (word_of n i) - 2 ^ bit_of n i)
    (is_full (m fields.used_cells (word_of n i)))
    (above_of n i)
    (m fields.full_cell_words (above_of n i) - 2 ^ above_bit n i)
    (is_full (m fields.full_cell_words (above_of n i)))
    (m fields.full_cells 0 - 2 ^ above_of n i)

-- The words are right for some owners, in which cell i is free, or is in use: those of the state, or others if an owner has been set already.
pub record UseCellAsks (z : Sizes) (s : List ℕ) (i : ℕ) : Type 0 where
  pub owners : ℕ → ℕ
  pub words : CellsIn z s owners
  pub index : i < z.cells
  pub free : owners i ≡ 0

pub record DropCellAsks (z : Sizes) (s : List ℕ) (i : ℕ) : Type 0 where
  pub owners : ℕ → ℕ
  pub words : CellsIn z s owners
  pub index : i < z.cells
  pub used : 0 < owners i

-- Those of the state.
pub use_cell-asks : {z : Sizes} {s : List ℕ} {i : ℕ} → CellsIn z s (mem_in z s fields.owner) → i < z.cells → mem_in z s fields.owner i ≡ 0 → UseCellAsks z s i
use_cell-asks {z} {s} r l e = record { owners = mem_in z s fields.owner; words = r; index = l; free = e }

pub drop_cell-asks : {z : Sizes} {s : List ℕ} {i : ℕ} → CellsIn z s (mem_in z s fields.owner) → i < z.cells → 0 < mem_in z s fields.owner i → DropCellAsks z s i
drop_cell-asks {z} {s} r l h = record { owners = mem_in z s fields.owner; words = r; index = l; used = h }

-- A cell that was found can be marked as in use.
pub found-cell-asks : {z : Sizes} {s : List ℕ} {r : ℕ} → CellsIn z s (mem_in z s fields.owner) → CellFound z s r → (r ≡ 0 → ⊥) → UseCellAsks z s (r - 1)
found-cell-asks {z} {s} {r} a f ne = let h = f.free (r - 1) (omega arith) in use_cell-asks a h.0 h.1

-- The state is in range after; the bytes and the memory; and words that were right for owners g are right for any p that has an owner
-- at i, or none there, and is g elsewhere.
pub record UseCellDone (z : Sizes) (s s' : List ℕ) (i : ℕ) : Type 0 where
  pub state : StateIn z s'
  pub bytes : s' ≡ writes_in z s (use_cell_writes z.cells (mem_in z s) i)
  pub writable : WritableIn z (use_cell_writes z.cells (mem_in z s) i)
  pub memory : mem_in z s' ≡ use_cell_mem z.cells (mem_in z s) i
  pub words : (g p : ℕ → ℕ) → CellsIn z s g → g i ≡ 0 → 0 < p i → ElseSame i g p → CellsIn z s' p

pub record DropCellDone (z : Sizes) (s s' : List ℕ) (i : ℕ) : Type 0 where
  pub state : StateIn z s'
  pub bytes : s' ≡ writes_in z s (drop_cell_writes z.cells (mem_in z s) i)
  pub writable : WritableIn z (drop_cell_writes z.cells (mem_in z s) i)
  pub memory : mem_in z s' ≡ drop_cell_mem z.cells (mem_in z s) i
  pub words : (g p : ℕ → ℕ) → CellsIn z s g → 0 < g i → p i ≡ 0 → ElseSame i g p → CellsIn z s' p
