-- Stores that leave the same memory leave the same bytes: a byte is of a field that is stored to, or stays.
use Rattle.std.specs.Prelude.{◌≡◌, refl, Bool, true, false, List, [], ◌∷◌, ◌⊎◌, ℕ, zero, suc, ◌+◌, ◌/◌, ◌%◌, ◌≤◌, ◌<◌, eqb, ltb, length, get_or, set}
use Rattle.std.proofs.Common.{sym, ap, ◌∙◌, inl, inr, ⊎_elim, arith, eqb-true, ltb-true, ltb-false, length-set, ext_get_or, get_or-set_same, get_or-set_other}
use Rattle.std.proofs.lemmas.Bool.{eqb-false}
use Rattle.std.proofs.Math.ListN.{get_or-eq_default}
use Rattle.memory.specs.Le.{le, put, get-put}
use Rattle.layout.specs.Table.{Layout, field, place}
use Rattle.layout.specs.Memory.{mem, store, write, In, cell_in_lem}
use Rattle.layout.specs.Writes.{Write, writes, Writable, length-writes}

-- A list of bytes.
pub record Bytes (s : List ℕ) : Type 0 where
  pub below : (i : ℕ) → get_or s i 0 < 256

-- Stores keep them bytes.
bytes-set : {s : List ℕ} (at v : ℕ) → v < 256 → Bytes s → Bytes (set s at v)
bytes-set {s} at v h b = record { below = λ i. go i (eqb i at) refl (ltb at (length s)) refl }
  where
    go : (i : ℕ) (x : Bool) → eqb i at ≡ x → (y : Bool) → ltb at (length s) ≡ y → get_or (set s at v) i 0 < 256
    go i false e y d = omega (arith, b.below i, get_or-set_other s at i v 0 (eqb-false i at e))
    go i true e true d =
        omega (arith, h, ap (λ (k : ℕ). get_or (set s at v) k 0) (eqb-true i at e), get_or-set_same s at v 0 (ltb-true at (length s) d))
    go i true e false d =
        omega (arith, get_or-eq_default (set s at v) 0 {n = i} (omega (arith, length-set s at v, ltb-false at (length s) d, eqb-true i at e)))

bytes-put : (n : ℕ) {s : List ℕ} (at v : ℕ) → Bytes s → Bytes (put n s at v)
unfolding put
bytes-put zero at v b = b
bytes-put (suc n) at v b = bytes-put n (suc at) (v / 256) (bytes-set at (v % 256) (omega arith) b)

pub bytes-writes : (l : Layout) (ns : List ℕ) {s : List ℕ} (ws : List Write) → Bytes s → Bytes (writes l ns s ws)
unfolding write
bytes-writes l ns {s = s} [] b = b
bytes-writes l ns {s = s} (w ∷ ws) b = bytes-writes l ns {s = put (field l w.field).width s (place l ns (field l w.field) w.index) w.value} ws (bytes-put (field l w.field).width (place l ns (field l w.field) w.index) w.value b)

-- A number of n bytes has its bytes.
pub le_bytes
    : (n : ℕ) (s t : List ℕ) (at : ℕ) → Bytes s → Bytes t → le n s at ≡ le n t at → (i : ℕ) → at ≤ i → i < at + n → get_or s i 0 ≡ get_or t i 0
unfolding le
le_bytes zero s t at b c e i k l = absurd (omega (arith, k, l))
le_bytes (suc n) s t at b c e i k l = go (eqb at i) refl (λ q x. le_bytes n s t (suc at) b c q i x (omega (arith, l)))
  where
    go : (x : Bool) → eqb at i ≡ x → (le n s (suc at) ≡ le n t (suc at) → suc at ≤ i → get_or s i 0 ≡ get_or t i 0) → get_or s i 0 ≡ get_or t i 0
    go true d again =
        let q : at ≡ i = eqb-true at i d in
        ap (λ (j : ℕ). get_or s j 0) (sym q) ∙ omega (arith, e, b.below at, c.below at) ∙ ap (λ (j : ℕ). get_or t j 0) q
    go false d again = again (omega (arith, e, b.below at, c.below at)) (omega (arith, k, eqb-false at i d))

-- Byte j is one of a field's, or stores leave it.
record Within (l : Layout) (ns : List ℕ) (j : ℕ) : Type 0 where
  number : ℕ
  index : ℕ
  has : In l ns number index
  from : place l ns (field l number) index ≤ j
  till : j < place l ns (field l number) index + (field l number).width

record Without (l : Layout) (ns : List ℕ) (ws : List Write) (j : ℕ) : Type 0 where
  stays : (s : List ℕ) → get_or (writes l ns s ws) j 0 ≡ get_or s j 0

either : (l : Layout) (most : ℕ → ℕ) (ns : List ℕ) (ws : List Write) (j : ℕ) → Writable l most ns ws → Within l ns j ⊎ Without l ns ws j
unfolding write
either l most ns [] j h = inr (record { stays = λ s. refl })
either l most ns (w ∷ ws) j h = go (ltb j at) refl (ltb j (at + n)) refl (either l most ns ws j h.2)
  where
    at : ℕ
    at = place l ns (field l w.field) w.index

    n : ℕ
    n = (field l w.field).width

    rest : (j < at) ⊎ (at + n ≤ j) → Within l ns j ⊎ Without l ns ws j → Within l ns j ⊎ Without l ns (w ∷ ws) j
    rest o =
        ⊎_elim inl
        (λ (r : Without l ns ws j). inr (record { stays = λ s. r.stays (store l ns s w.field w.index w.value) ∙ get-put n s at w.value j o }))

    go : (x : Bool) → ltb j at ≡ x → (y : Bool) → ltb j (at + n) ≡ y → Within l ns j ⊎ Without l ns ws j → Within l ns j ⊎ Without l ns (w ∷ ws) j
    go true d y e r = rest (inl (ltb-true j at d)) r
    go false d true e r =
        inl (record { number = w.field; index = w.index; has = h.0; from = ltb-false j at d; till = ltb-true j (at + n) e })
    go false d false e r = rest (inr (ltb-false j (at + n) e)) r

pub same_bytes
    : (l : Layout) (most : ℕ → ℕ) (ns s : List ℕ) (ws vs : List Write)
    → Bytes s
    → Writable l most ns ws
    → Writable l most ns vs
    → ((f i : ℕ) → mem l ns (writes l ns s ws) f i ≡ mem l ns (writes l ns s vs) f i)
    → writes l ns s ws ≡ writes l ns s vs
same_bytes l most ns s ws vs b h k e =
    ext_get_or 0 (writes l ns s ws) (writes l ns s vs) (length-writes l ns s ws ∙ sym (length-writes l ns s vs)) (λ j _. at j)
  where
    -- of a field
    within : (j : ℕ) → Within l ns j → get_or (writes l ns s ws) j 0 ≡ get_or (writes l ns s vs) j 0
    within j r =
        le_bytes (field l r.number).width (writes l ns s ws) (writes l ns s vs) (place l ns (field l r.number) r.index)
        (bytes-writes l ns ws b) (bytes-writes l ns vs b)
        (cell_in_lem l ns (writes l ns s ws) (field l r.number) r.index r.has.index
        ∙ e r.number r.index
        ∙ sym (cell_in_lem l ns (writes l ns s vs) (field l r.number) r.index r.has.index))
        j r.from r.till

    at : (j : ℕ) → get_or (writes l ns s ws) j 0 ≡ get_or (writes l ns s vs) j 0
    at j =
        ⊎_elim (within j)
        (λ (x : Without l ns ws j). ⊎_elim (within j) (λ (y : Without l ns vs j). x.stays s ∙ sym (y.stays s)) (either l most ns vs j k))
        (either l most ns ws j h)
