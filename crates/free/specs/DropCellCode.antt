-- What the code of `drop_cell` shows.
use Rattle.std.specs.Prelude.{◌≡◌, Bool, true, false, List, ℕ, ◌-◌, ◌^◌, ◌≤◌}
use Rattle.std.proofs.Common.{sym, ap, subst, ◌∙◌, arith}
use Rattle.layout.specs.Table.{slot}
use Rattle.layout.specs.Memory.{Memory, alter}
use Rattle.chain.specs.Links.{alter-same, alter-other}
use Rattle.state.specs.Fields as fields
use Rattle.state.specs.Places.{mem_in, PutIn}
use Rattle.state.specs.WellFormed.{is_full}
use Rattle.state.specs.declared.Sizes.{Sizes}
use Rattle.free.specs.Bit.{ClearAsks, ClearDone}
use Rattle.free.specs.Asks.{StateIn, writes_in}
use Rattle.free.specs.Right.{CellWords}
use Rattle.free.specs.Record.{word_of, bit_of, bit-small}
use Rattle.free.specs.Cell.{above_of, above_bit, above-small, cell_in_lem, drop_cell-room, drop-middle, drop_cell-top, drop-cells}
use Rattle.free.specs.UseCell.{drop_cell_writes, drop_cell_mem, DropCellAsks, DropCellDone}
use Rattle.free.specs.CellStores.{CellFits, cell-writable, cell-done, after_first, after-second, one_store, two-stores, three-stores, top-range}

-- The words before, and the values that are stored.
abbrev word_before : Sizes → List ℕ → ℕ → ℕ
word_before z s i = mem_in z s fields.used_cells (word_of z.cells i)

abbrev above_before : Sizes → List ℕ → ℕ → ℕ
above_before z s i = mem_in z s fields.full_cell_words (above_of z.cells i)

abbrev word_then : Sizes → List ℕ → ℕ → ℕ
word_then z s i = word_before z s i - 2 ^ bit_of z.cells i

abbrev above_then : Sizes → List ℕ → ℕ → ℕ
above_then z s i = above_before z s i - 2 ^ above_bit z.cells i

abbrev top_then : Sizes → List ℕ → ℕ → ℕ
top_then z s i = mem_in z s fields.full_cells 0 - 2 ^ above_of z.cells i

module _ {z : Sizes} {s : List ℕ} {i : ℕ} (a : DropCellAsks z s i) where
  else_same : (j : ℕ) → (j ≡ i → ⊥) → alter a.owners i 0 j ≡ a.owners j
  else_same j ne = alter-other a.owners i 0 j (λ e. ne (sym e))

  none_here : alter a.owners i 0 i ≡ 0
  none_here = alter-same a.owners i 0

  -- the bits that are set
  word_set : (2 ^ bit_of z.cells i ≤ word_before z s i) × (word_before z s i ≤ 18446744073709551615)
  word_set = drop_cell-room (alter a.owners i 0) i a.words.sizes.cells.1 a.words.right a.index else_same a.used none_here

  above-set
      : is_full (word_before z s i) ≡ true
      → (2 ^ above_bit z.cells i ≤ above_before z s i) × (above_before z s i ≤ 18446744073709551615)
  above-set = drop-middle (alter a.owners i 0) i a.words.sizes.cells.1 a.words.right a.index else_same a.used none_here

  top_set : is_full (word_before z s i) ≡ true → is_full (above_before z s i) ≡ true → 2 ^ above_of z.cells i ≤ mem_in z s fields.full_cells 0
  top_set = drop_cell-top (alter a.owners i 0) i a.words.sizes.cells.1 a.words.right a.index else_same a.used none_here

  fits
      : CellFits (word_of z.cells i) (word_then z s i) (is_full (word_before z s i)) (above_of z.cells i) (above_then z s i)
      (is_full (above_before z s i))
      (top_then z s i)
  fits =
      record {
        index = cell_in_lem z.cells i a.index a.words.sizes.cells.1;
        word = omega (arith, word_set.1);
        above = λ e. omega (arith, (above-set e).1);
        top = λ e d. omega (arith, top-range z a.words.state);
      }

  drop_by : {s' : List ℕ} → s' ≡ writes_in z s (drop_cell_writes z.cells (mem_in z s) i) → DropCellDone z s s' i
  drop_by {s'} e =
      let d : StateIn z s' × (mem_in z s' ≡ drop_cell_mem z.cells (mem_in z s) i) = cell-done a.words.sizes a.words.state fits e in
      record {
        state = d.0;
        bytes = e;
        writable = cell-writable z (word_of z.cells i) (word_then z s i) (is_full (word_before z s i)) (above_of z.cells i) (above_then z s i) (is_full (above_before z s i)) (top_then z s i) fits;
        memory = d.1;
        words = λ g p r on off e'.
            record {
              sizes = a.words.sizes;
              state = d.0;
              right =
                  subst (λ (k : Memory). CellWords z.cells p (k fields.used_cells) (k fields.full_cell_words) (k fields.full_cells)) (sym d.1)
                  (drop-cells p i a.words.sizes.cells.1 r.right a.index e' on off);
            };
      }

  -- What each store asks, and what the code shows at each return.
  pub drop-first : ClearAsks z s 10 0 (word_of z.cells i) (bit_of z.cells i)
  drop-first =
      record {
        reach = record { inside = record { region = omega arith; end = omega arith }; index = fits.index.0; long = a.words.state.long };
        bit = bit-small z.cells i;
        room = word_set.0;
      }

  module _ {s₁ : List ℕ} {t : Bool} (p : ClearDone z s s₁ 10 0 (word_of z.cells i) (bit_of z.cells i) t) where
    above_kept : mem_in z s₁ fields.full_cell_words (above_of z.cells i) ≡ mem_in z s fields.full_cell_words (above_of z.cells i)
    above_kept = ap (λ (m : Memory). m fields.full_cell_words (above_of z.cells i)) (after_first a.words.sizes a.words.state fits p.put)

    pub dropped_1 : t ≡ false → DropCellDone z s s₁ i
    dropped_1 e = drop_by (one_store a.words.sizes a.words.state fits p.put (sym p.full ∙ e))

    module _ (e : t ≡ true) where
      pub drop-second : ClearAsks z s₁ 11 0 (above_of z.cells i) (above_bit z.cells i)
      drop-second =
          record {
            reach = record { inside = record { region = omega arith; end = omega arith }; index = fits.index.1; long = p.put.long };
            bit = above-small z.cells i;
            room = rw above_kept (above-set (sym p.full ∙ e)).0;
          }

      module _ {s₂ : List ℕ} {t₁ : Bool} (q : ClearDone z s₁ s₂ 11 0 (above_of z.cells i) (above_bit z.cells i) t₁) where
        above-put : PutIn z s₁ s₂ (slot 11 0 8) (above_of z.cells i) (above_then z s i)
        above-put = subst (λ (x : ℕ). PutIn z s₁ s₂ (slot 11 0 8) (above_of z.cells i) (x - 2 ^ above_bit z.cells i)) above_kept q.put

        above-full : t₁ ≡ is_full (above_before z s i)
        above-full = subst (λ (x : ℕ). t₁ ≡ is_full x) above_kept q.full

        top_kept : mem_in z s₂ fields.full_cells 0 ≡ mem_in z s fields.full_cells 0
        top_kept =
            ap (λ (m : Memory). m fields.full_cells 0) (after-second a.words.sizes a.words.state fits p.put (sym p.full ∙ e) above-put)
            ∙ ap (λ (m : Memory). m fields.full_cells 0) (after_first a.words.sizes a.words.state fits p.put)

        pub dropped_2 : t₁ ≡ false → DropCellDone z s s₂ i
        dropped_2 d = drop_by (two-stores a.words.sizes a.words.state fits p.put (sym p.full ∙ e) above-put (sym above-full ∙ d))

        pub drop_third : t₁ ≡ true → ClearAsks z s₂ 0 72 0 (above_of z.cells i)
        drop_third d =
            record {
              reach = record { inside = record { region = omega arith; end = omega arith }; index = omega arith; long = q.put.long };
              bit = omega (arith, fits.index.1);
              room = rw top_kept (top_set (sym p.full ∙ e) (sym above-full ∙ d));
            }

        pub dropped_3 : {s₃ : List ℕ} {t₂ : Bool} → t₁ ≡ true → ClearDone z s₂ s₃ 0 72 0 (above_of z.cells i) t₂ → DropCellDone z s s₃ i
        dropped_3 {s₃} d g =
            drop_by
            (three-stores a.words.sizes a.words.state fits p.put (sym p.full ∙ e) above-put (sym above-full ∙ d)
            (subst (λ (x : ℕ). PutIn z s₂ s₃ (slot 0 72 8) 0 (x - 2 ^ above_of z.cells i)) top_kept g.put))
