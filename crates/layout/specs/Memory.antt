-- The memory of a state: a function of field and index. One law of a store, for any table that passes the test.
use Rattle.std.specs.Prelude.{if◌then◌else◌, ◌≡◌, Bool, List, ℕ, ◌+◌, ◌^◌, ◌≤◌, ◌<◌, T, eqb, length}
use Rattle.std.proofs.Math.Path.{refl, sym, fun_ext}
use Rattle.std.proofs.Common.{ap, subst, ◌∙◌, arith, ltb-true, ltb-false, eqb-true, lt-ltb, le-ltb}
use Rattle.std.proofs.Math.Bool.{true, false}
use Rattle.std.proofs.lemmas.Bool.{eqb-false}
use Rattle.std.proofs.Math.Dec.{ltb}
use Rattle.std.proofs.Math.ListN.{get_or-eq_default}
use Rattle.memory.specs.Le.{le, put, length-put, le-put-same, le-put-other}
use Rattle.layout.specs.Table.{Slot, slot, Layout, field, count, total, place, sound}
use Rattle.layout.specs.Place.{Inside, Split, inside-at, split_at, below_total, Clear, clear}

-- The number in slot a of record i, and 0 past the region's end.
unfoldable pub cell : Layout → List ℕ → List ℕ → Slot → ℕ → ℕ
cell l ns s a i = if ltb i (count l ns a.region) then le a.width s (place l ns a i) else 0

-- The bytes after a store of v to slot a of record i.
unfoldable pub write : Layout → List ℕ → List ℕ → Slot → ℕ → ℕ → List ℕ
write l ns s a i v = put a.width s (place l ns a i) v

-- The memory: what each field of each record holds.
abbrev pub Memory : Type 0
Memory = ℕ → ℕ → ℕ

abbrev pub mem : Layout → List ℕ → List ℕ → Memory
mem l ns s f i = cell l ns s (field l f) i

abbrev pub store : Layout → List ℕ → List ℕ → ℕ → ℕ → ℕ → List ℕ
store l ns s f i v = write l ns s (field l f) i v

-- g with v at t.
abbrev pub alter : (ℕ → ℕ) → ℕ → ℕ → ℕ → ℕ
alter g t v j = if eqb t j then v else g j

-- The memory with k for the whole field f: at another closed field it computes to what was there.
abbrev pub set_field : Memory → ℕ → (ℕ → ℕ) → Memory
set_field m f k g = if eqb f g then k else m g

-- The memory with v at field f of record i.
abbrev pub upd : Memory → ℕ → ℕ → ℕ → Memory
upd m f i v = set_field m f (alter (m f) i v)

-- Slot a of record i lies within the bytes.
pub record Reach (l : Layout) (ns s : List ℕ) (a : Slot) (i : ℕ) : Type 0 where
  pub inside : Inside l a
  pub index : i < count l ns a.region
  pub long : total l ns ≤ length s

pub reach-end : {l : Layout} {ns s : List ℕ} {a : Slot} {i : ℕ} → Reach l ns s a i → place l ns a i + a.width ≤ length s
reach-end {l} {ns} {s} {a} {i} r = omega (arith, r.long, below_total l ns a r.inside i r.index)

-- Record i has field f.
pub record In (l : Layout) (ns : List ℕ) (f i : ℕ) : Type 0 where
  pub listed : f < length l.fields
  pub index : i < count l ns (field l f).region

-- A field past the table's end holds 0.
pub mem-past : (l : Layout) (ns s : List ℕ) (g j : ℕ) → length l.fields ≤ g → mem l ns s g j ≡ 0
unfolding cell
mem-past l ns s g j h =
    rw (get_or-eq_default l.fields (slot (length l.strides) 0 0) h, le-ltb (length l.strides) (length l.strides) (omega arith), le-ltb j 0 (omega arith))

pub cell_in_lem : (l : Layout) (ns s : List ℕ) (a : Slot) (i : ℕ) → i < count l ns a.region → le a.width s (place l ns a i) ≡ cell l ns s a i
unfolding cell
cell_in_lem l ns s a i h = rw (lt-ltb i (count l ns a.region) h)

module _ (l : Layout) (ok : T (sound l)) (ns s : List ℕ) (f i v : ℕ) (long : total l ns ≤ length s) (h : In l ns f i) (fits : v < 256 ^ (field l f).width) where
  -- a cell whose place is clear of the store's is as it was
  kept : (a : Slot) (j : ℕ) → (j < count l ns a.region → Clear l ns (field l f) i a j) → cell l ns (store l ns s f i v) a j ≡ cell l ns s a j
  unfolding cell write
  kept a j k = go (ltb j (count l ns a.region)) refl
    where
      go
          : (b : Bool)
          → ltb j (count l ns a.region) ≡ b
          → (if b then le a.width (store l ns s f i v) (place l ns a j) else 0) ≡ (if b then le a.width s (place l ns a j) else 0)
      go true e =
          le-put-other (field l f).width a.width s (place l ns (field l f) i) v (place l ns a j)
          (k (ltb-true j (count l ns a.region) e))
      go false e = refl

  -- of another field, or of another record
  kept_at : (g j : ℕ) → (f ≡ g → i ≡ j → ⊥) → mem l ns (store l ns s f i v) g j ≡ mem l ns s g j
  kept_at g j ne = go (ltb g (length l.fields)) refl
    where
      apart : g < length l.fields → i ≡ j → Split (field l f) (field l g)
      apart k e = split_at l ok f g h.listed k (λ q. ne q e)

      go : (b : Bool) → ltb g (length l.fields) ≡ b → mem l ns (store l ns s f i v) g j ≡ mem l ns s g j
      go true e =
          let k : g < length l.fields = ltb-true g (length l.fields) e in
          kept (field l g) j (λ c. clear l ns (field l f) (field l g) (inside-at l ok f h.listed) (inside-at l ok g k) i j h.index c (apart k))
      go false e = mem-past l ns (store l ns s f i v) g j (ltb-false g (length l.fields) e) ∙ sym (mem-past l ns s g j (ltb-false g (length l.fields) e))

  set_at : mem l ns (store l ns s f i v) f i ≡ v
  unfolding write
  set_at =
      sym (cell_in_lem l ns (store l ns s f i v) (field l f) i h.index)
      ∙ le-put-same (field l f).width s (place l ns (field l f) i) v (omega (arith, below_total l ns (field l f) (inside-at l ok f h.listed) i h.index)) fits

  -- The law of a store: it changes one place of the memory and no other.
  pub mem-store : mem l ns (store l ns s f i v) ≡ upd (mem l ns s) f i v
  mem-store = fun_ext (λ g. fun_ext (λ j. by_field g j (eqb f g) refl))
    where
      by_index : (g j : ℕ) → f ≡ g → (b : Bool) → eqb i j ≡ b → mem l ns (store l ns s f i v) g j ≡ (if b then v else mem l ns s f j)
      by_index g j e true q =
          subst (λ (k : ℕ). mem l ns (store l ns s f i v) k j ≡ v) e
          (subst (λ (k : ℕ). mem l ns (store l ns s f i v) f k ≡ v) (eqb-true i j q) set_at)
      by_index g j e false q =
          subst (λ (k : ℕ). mem l ns (store l ns s f i v) k j ≡ mem l ns s f j) e (kept_at f j (λ _. eqb-false i j q))

      by_field : (g j : ℕ) (b : Bool) → eqb f g ≡ b → mem l ns (store l ns s f i v) g j ≡ (if b then alter (mem l ns s f) i v else mem l ns s g) j
      by_field g j true e = by_index g j (eqb-true f g e) (eqb i j) refl
      by_field g j false e = kept_at g j (λ q _. eqb-false f g e q)

pub length-store : (l : Layout) (ns s : List ℕ) (f i v : ℕ) → length (store l ns s f i v) ≡ length s
unfolding write
length-store l ns s f i v = length-put (field l f).width s (place l ns (field l f) i) v

-- Every field is at most its maximum.
unfoldable pub Ranged : (ℕ → ℕ) → Memory → Type 0
Ranged most m = (f i : ℕ) → m f i ≤ most f

pub ranged-set : (most : ℕ → ℕ) (m : Memory) (f : ℕ) (k : ℕ → ℕ) → Ranged most m → ((j : ℕ) → k j ≤ most f) → Ranged most (set_field m f k)
unfolding Ranged
ranged-set most m f k r h g j = go (eqb f g) refl
  where
    go : (b : Bool) → eqb f g ≡ b → (if b then k else m g) j ≤ most g
    go true e = subst (λ (x : ℕ). k j ≤ most x) (eqb-true f g e) (h j)
    go false e = r g j

pub ranged-upd : (most : ℕ → ℕ) (m : Memory) (f i v : ℕ) → Ranged most m → v ≤ most f → Ranged most (upd m f i v)
unfolding Ranged
ranged-upd most m f i v r h = ranged-set most m f (alter (m f) i v) r (λ j. go j (eqb i j))
  where
    go : (j : ℕ) (b : Bool) → (if b then v else m f j) ≤ most f
    go j true = h
    go j false = r f j

-- A field that is set to what it was, and one that is set twice.
pub set_same : (m : Memory) (f : ℕ) → set_field m f (m f) ≡ m
set_same m f = fun_ext (λ g. go g (eqb f g) refl)
  where
    go : (g : ℕ) (b : Bool) → eqb f g ≡ b → (if b then m f else m g) ≡ m g
    go g true e = ap m (eqb-true f g e)
    go g false e = refl

pub set_twice : (m : Memory) (f : ℕ) (k k' : ℕ → ℕ) → set_field (set_field m f k) f k' ≡ set_field m f k'
set_twice m f k k' = fun_ext (λ g. go g (eqb f g))
  where
    go : (g : ℕ) (b : Bool) → (if b then k' else (if b then k else m g)) ≡ (if b then k' else m g)
    go g true = refl
    go g false = refl

-- A store leaves another field as it was, by computation.
frame_example : (m : Memory) (i v j : ℕ) → upd m 5 i v 7 j ≡ m 7 j
frame_example m i v j = refl

-- What a store ensures: the bytes, and what the next access asks.
pub record Put (l : Layout) (ns s s' : List ℕ) (a : Slot) (i v : ℕ) : Type 0 where
  pub bytes : s' ≡ write l ns s a i v
  pub long : total l ns ≤ length s'

-- In the code's terms: p is the place, which does not depend on the width.
pub get_at
    : {l : Layout} {ns s : List ℕ} {a : Slot} {i p r : ℕ}
    → Reach l ns s a i
    → p ≡ place l ns (slot a.region a.inner 0) i
    → r ≡ le a.width s p
    → r ≡ cell l ns s a i
get_at {l} {ns} {s} {a} {i} t e d = (rw e at d) ∙ cell_in_lem l ns s a i t.index

pub put-at
    : {l : Layout} {ns s s' : List ℕ} {a : Slot} {i v p : ℕ}
    → Reach l ns s a i
    → p ≡ place l ns (slot a.region a.inner 0) i
    → s' ≡ put a.width s p v
    → Put l ns s s' a i v
unfolding write
put-at {l} {ns} {s} {s'} {a} {i} {v} {p} r e b =
    let d : s' ≡ put a.width s (place l ns a i) v = rw e at b in
    record { bytes = d; long = rw (d, length-put a.width s (place l ns a i) v) r.long }
