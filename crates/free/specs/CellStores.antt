-- The stores to the words of cells: what they make of the bytes and the memory.
use Rattle.std.specs.Prelude.{◌≡◌, refl, Bool, true, false, List, ℕ, ◌≤◌, ◌<◌}
use Rattle.std.proofs.Common.{sym, ap, ◌∙◌, arith}
use Rattle.machine.specs.Good.{SizesInRange}
use Rattle.layout.specs.Table.{slot}
use Rattle.layout.specs.Memory.{Memory, upd, set_field, set_same, In, Ranged}
use Rattle.layout.specs.Writes.{updates, Writable, written, stored, state-store, state-writes}
use Rattle.state.specs.Fields as fields
use Rattle.state.proofs.Ranges.{ranges}
use Rattle.state.specs.Places.{sizes_in, mem_in, PutIn, wrote-more}
use Rattle.state.specs.declared.Sizes.{Sizes}
use Rattle.free.specs.Asks.{StateIn, writes_in}
use Rattle.free.specs.UseCell.{cell_writes, cell_mem}

-- The memory after such stores.
cell-updates
    : (m : Memory) (w v : ℕ) (t : Bool) (c y : ℕ) (t₁ : Bool) (u : ℕ) → updates m (cell_writes w v t c y t₁ u) ≡ cell_mem m w v t c y t₁ u
cell-updates m w v true c y true u = refl
cell-updates m w v true c y false u = sym (set_same (upd (upd m fields.used_cells w v) fields.full_cell_words c y) fields.full_cells)
cell-updates m w v false c y t₁ u =
    sym
    (set_same (set_field (upd m fields.used_cells w v) fields.full_cell_words (m fields.full_cell_words)) fields.full_cells
    ∙ set_same (upd m fields.used_cells w v) fields.full_cell_words)

word-field : (z : Sizes) (w : ℕ) → w < 1016 → In fields.layout1 (fields.counts (sizes_in z)) fields.used_cells w
word-field z w h = record { listed = omega arith; index = h }

above-field : (z : Sizes) (c : ℕ) → c < 16 → In fields.layout1 (fields.counts (sizes_in z)) fields.full_cell_words c
above-field z c h = record { listed = omega arith; index = h }

-- The values fit.
pub record CellFits (w v : ℕ) (t : Bool) (c y : ℕ) (t₁ : Bool) (u : ℕ) : Type 0 where
  pub index : (w < 1016) × (c < 16)
  pub word : v ≤ 18446744073709551615
  pub above : t ≡ true → y ≤ 18446744073709551615
  pub top : t ≡ true → t₁ ≡ true → u ≤ 18446744073709551615

pub cell-writable
    : (z : Sizes) (w v : ℕ) (t : Bool) (c y : ℕ) (t₁ : Bool) (u : ℕ)
    → CellFits w v t c y t₁ u
    → Writable fields.layout1 (fields.most_of (sizes_in z)) (fields.counts (sizes_in z)) (cell_writes w v t c y t₁ u)
cell-writable z w v true c y true u f =
    (word-field z w f.index.0, f.word, (above-field z c f.index.1, f.above refl, (record { listed = omega arith; index = omega arith }, f.top refl refl, tt)))
cell-writable z w v true c y false u f = (word-field z w f.index.0, f.word, (above-field z c f.index.1, f.above refl, tt))
cell-writable z w v false c y t₁ u f = (word-field z w f.index.0, f.word, tt)

module _ {z : Sizes} {s : List ℕ} {w v : ℕ} {t : Bool} {c y : ℕ} {t₁ : Bool} {u : ℕ} (r : SizesInRange (sizes_in z)) (b : StateIn z s) (f : CellFits w v t c y t₁ u) where
  pub cell-done : {s' : List ℕ} → s' ≡ writes_in z s (cell_writes w v t c y t₁ u) → StateIn z s' × (mem_in z s' ≡ cell_mem (mem_in z s) w v t c y t₁ u)
  cell-done {s'} e = (
    rw e (state-writes (ranges (sizes_in z) r) b (cell_writes w v t c y t₁ u) (cell-writable z w v t c y t₁ u f)),
    ap (λ (x : List ℕ). mem_in z x) e
        ∙ written (ranges (sizes_in z) r) b (cell_writes w v t c y t₁ u) (cell-writable z w v t c y t₁ u f)
        ∙ cell-updates (mem_in z s) w v t c y t₁ u,
  )

  -- After the first store, and after the second.
  module _ {s₁ : List ℕ} (p : PutIn z s s₁ (slot 10 0 8) w v) where
    pub after_first : mem_in z s₁ ≡ upd (mem_in z s) fields.used_cells w v
    after_first =
        ap (λ (x : List ℕ). mem_in z x) p.bytes
        ∙ stored (ranges (sizes_in z) r) b fields.used_cells w v (word-field z w f.index.0) f.word

    first-state : StateIn z s₁
    first-state = rw p.bytes (state-store (ranges (sizes_in z) r) b fields.used_cells w v (word-field z w f.index.0) f.word)

    pub one_store : t ≡ false → s₁ ≡ writes_in z s (cell_writes w v t c y t₁ u)
    one_store e = rw e p.bytes

    module _ {s₂ : List ℕ} (e : t ≡ true) (q : PutIn z s₁ s₂ (slot 11 0 8) c y) where
      pub after-second : mem_in z s₂ ≡ upd (mem_in z s₁) fields.full_cell_words c y
      after-second =
          ap (λ (x : List ℕ). mem_in z x) q.bytes
          ∙ stored (ranges (sizes_in z) r) first-state fields.full_cell_words c y (above-field z c f.index.1) (f.above e)

      pub two-stores : t₁ ≡ false → s₂ ≡ writes_in z s (cell_writes w v t c y t₁ u)
      two-stores d = rw (e, d) (wrote-more z _ p.bytes q)

      pub three-stores : {s₃ : List ℕ} → t₁ ≡ true → PutIn z s₂ s₃ (slot 0 72 8) 0 u → s₃ ≡ writes_in z s (cell_writes w v t c y t₁ u)
      three-stores d g = rw (e, d) (wrote-more z _ (wrote-more z _ p.bytes q) g)

pub top-range : (z : Sizes) {s : List ℕ} → StateIn z s → mem_in z s fields.full_cells 0 ≤ 18446744073709551615
unfolding Ranged
top-range z a = a.ranged fields.full_cells 0
