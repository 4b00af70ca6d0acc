-- Stores in a table with a maximum for each field: what they make of the bytes and the memory, and that they keep the ranges.
use Rattle.std.specs.Prelude.{◌≡◌, refl, List, [], ◌∷◌, ◌++◌, ℕ, ◌^◌, ◌≤◌, ◌<◌, T, length}
use Rattle.std.proofs.Common.{ap, ◌∙◌, arith}
use Rattle.layout.specs.Table.{Layout, field, total, sound}
use Rattle.layout.specs.Memory.{Memory, mem, store, upd, In, Ranged, mem-store, length-store, ranged-upd}

-- A table that passes the test, and maxima that fit their fields' widths.
pub record Ranges (l : Layout) (most : ℕ → ℕ) : Type 0 where
  pub sound : T (sound l)
  pub wide : (f : ℕ) → f < length l.fields → most f < 256 ^ (field l f).width

-- The bytes hold a whole state, with every field in range.
pub record State (l : Layout) (most : ℕ → ℕ) (ns s : List ℕ) : Type 0 where
  pub long : total l ns ≤ length s
  pub ranged : Ranged most (mem l ns s)

-- A store: v to field f of record i.
pub record Write : Type 0 where
  pub field : ℕ
  pub index : ℕ
  pub value : ℕ

abbrev pub to : ℕ → ℕ → ℕ → Write
to f i v = record { field = f; index = i; value = v }

-- The bytes, and the memory, after stores one after another.
abbrev pub writes : Layout → List ℕ → List ℕ → List Write → List ℕ
writes l ns s [] = s
writes l ns s (w ∷ ws) = writes l ns (store l ns s w.field w.index w.value) ws

abbrev pub updates : Memory → List Write → Memory
updates m [] = m
updates m (w ∷ ws) = updates (upd m w.field w.index w.value) ws

-- Each store is in range.
abbrev pub Writable : Layout → (ℕ → ℕ) → List ℕ → List Write → Type 0
Writable l most ns [] = Unit {0}
Writable l most ns (w ∷ ws) = In l ns w.field w.index × (w.value ≤ most w.field) × Writable l most ns ws

pub length-writes : (l : Layout) (ns s : List ℕ) (ws : List Write) → length (writes l ns s ws) ≡ length s
length-writes l ns s [] = refl
length-writes l ns s (w ∷ ws) =
    length-writes l ns (store l ns s w.field w.index w.value) ws ∙ length-store l ns s w.field w.index w.value

module _ {l : Layout} {most : ℕ → ℕ} (ok : Ranges l most) where
  pub stored
      : {ns s : List ℕ} → State l most ns s → (f i v : ℕ) → In l ns f i → v ≤ most f → mem l ns (store l ns s f i v) ≡ upd (mem l ns s) f i v
  stored {ns} {s} t f i v h b = mem-store l ok.sound ns s f i v t.long h (omega (arith, ok.wide f h.listed))

  pub state-store : {ns s : List ℕ} → State l most ns s → (f i v : ℕ) → In l ns f i → v ≤ most f → State l most ns (store l ns s f i v)
  state-store {ns} {s} t f i v h b =
      record {
        long = rw (length-store l ns s f i v) t.long;
        ranged = rw (stored t f i v h b) (ranged-upd most (mem l ns s) f i v t.ranged b);
      }

  pub written : {ns s : List ℕ} → State l most ns s → (ws : List Write) → Writable l most ns ws → mem l ns (writes l ns s ws) ≡ updates (mem l ns s) ws
  written {s = s} t [] h = refl
  written {ns} {s = s} t (w ∷ ws) h =
      written {s = store l ns s w.field w.index w.value} (state-store t w.field w.index w.value h.0 h.1) ws h.2
      ∙ ap (λ (m : Memory). updates m ws) (stored t w.field w.index w.value h.0 h.1)

  pub state-writes : {ns s : List ℕ} → State l most ns s → (ws : List Write) → Writable l most ns ws → State l most ns (writes l ns s ws)
  state-writes {s = s} t [] h = t
  state-writes {ns} {s = s} t (w ∷ ws) h = state-writes {s = store l ns s w.field w.index w.value} (state-store t w.field w.index w.value h.0 h.1) ws h.2

-- Stores after stores.
pub writes_join : (l : Layout) (ns s : List ℕ) (ws ws' : List Write) → writes l ns s (ws ++ ws') ≡ writes l ns (writes l ns s ws) ws'
writes_join l ns s [] ws' = refl
writes_join l ns s (w ∷ ws) ws' = writes_join l ns (store l ns s w.field w.index w.value) ws ws'
