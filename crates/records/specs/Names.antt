-- The bytes of a name, stored one after another: what they make of the memory, and what is read there then.
use Rattle.std.specs.Prelude.{◌≡◌, refl, Bool, true, false, List, [], ◌∷◌, ◌⊎◌, ℕ, zero, suc, ◌+◌, ◌*◌, ◌≤◌, ◌<◌, ltb, length, get_or, replicate}
use Rattle.std.proofs.Common.{sym, ap, subst, ◌∙◌, inl, inr, arith, not-suc-le-zero, ltb-true, ltb-false, ext_get_or}
use Rattle.machine.specs.Good.{Each}
use Rattle.layout.specs.Memory.{Memory, alter, set_field, set_same, set_twice, Ranged}
use Rattle.layout.specs.Writes.{updates}
use Rattle.chain.specs.Links.{alter-same, alter-other}
use Rattle.state.specs.Fields as fields
use Rattle.state.specs.Abs.{table}
use Rattle.state.specs.Tables.{table-length, table-get}
use Rattle.state.specs.Places.{mem_in}
use Rattle.state.specs.declared.Sizes.{Sizes}
use Rattle.record.specs.declared.Proc.{Proc}
use Rattle.record.specs.Loads.{name_of, Loaded}
use Rattle.record.specs.Stores.{name_stores}
use Rattle.rules.specs.Code.{Whole}
use Rattle.holds.specs.Did.{WritableIn}

-- Twenty-eight bytes.
pub record IsName (text : List ℕ) : Type 0 where
  pub length : length text ≡ 28
  pub bytes : Each (λ b. b ≤ 255) text

-- The name of a record that was loaded is one, and so is the empty name.
each-table : (n : ℕ) (f : ℕ → ℕ) → ((k : ℕ) → f k ≤ 255) → Each (λ b. b ≤ 255) (table n f)
unfolding table
each-table zero f h = tt
each-table (suc n) f h = (h zero, each-table n (λ k. f (suc k)) (λ k. h (suc k)))

pub loaded-name : {z : Sizes} {s : List ℕ} {i : ℕ} {p : Proc} → Whole z s → Loaded z s i p → IsName p.text
unfolding name_of Ranged
loaded-name {z} {s} {i} w l =
    let f : ℕ → ℕ = λ j. mem_in z s fields.name_byte (28 * i + j) in
    subst IsName (sym l.text)
    (record { length = table-length 28 f; bytes = each-table 28 f (λ k. w.state.ranged fields.name_byte (28 * i + k)) })

pub empty_name : IsName (replicate 28 0)
empty_name = record { length = refl; bytes = omega arith }

-- g with the bytes bs from number k on.
unfoldable pub spelled : (ℕ → ℕ) → ℕ → List ℕ → ℕ → ℕ
spelled g k [] = g
spelled g k (b ∷ bs) = spelled (alter g k b) (suc k) bs

-- The names with text for that of record i.
abbrev pub names_with : (ℕ → ℕ) → ℕ → List ℕ → ℕ → ℕ
names_with g i text = spelled g (28 * i) text

-- The stores of a name make that of the memory.
pub spelled-stores : (m : Memory) (k : ℕ) (bs : List ℕ) → updates m (name_stores k bs) ≡ set_field m fields.name_byte (spelled (m fields.name_byte) k bs)
unfolding spelled name_stores
spelled-stores m k [] = sym (set_same m fields.name_byte)
spelled-stores m k (b ∷ bs) =
    let g : ℕ → ℕ = alter (m fields.name_byte) k b in
    spelled-stores (set_field m fields.name_byte g) (suc k) bs ∙ set_twice m fields.name_byte g (spelled g (suc k) bs)

-- They are in range.
pub spelled-writable : (z : Sizes) (k : ℕ) (bs : List ℕ) → k + length bs ≤ 28 * z.processes → Each (λ b. b ≤ 255) bs → WritableIn z (name_stores k bs)
unfolding name_stores
spelled-writable z k [] l e = tt
spelled-writable z k (b ∷ bs) l e =
    (record { listed = omega arith; index = omega arith }, e.0, spelled-writable z (suc k) bs (omega arith) e.1)

-- Before k and behind the last byte nothing changes, and from k on the bytes stand.
pub spelled-other : (g : ℕ → ℕ) (k : ℕ) (bs : List ℕ) (j : ℕ) → (j < k) ⊎ (k + length bs ≤ j) → spelled g k bs j ≡ g j
unfolding spelled
spelled-other g k [] j o = refl
spelled-other g k (b ∷ bs) j (inl l) = spelled-other (alter g k b) (suc k) bs j (inl (omega arith)) ∙ alter-other g k b j (λ e. omega (arith, e))
spelled-other g k (b ∷ bs) j (inr l) = spelled-other (alter g k b) (suc k) bs j (inr (omega arith)) ∙ alter-other g k b j (λ e. omega (arith, e))

pub spelled_at : (g : ℕ → ℕ) (k : ℕ) (bs : List ℕ) (j : ℕ) → j < length bs → spelled g k bs (k + j) ≡ get_or bs j 0
unfolding spelled
spelled_at g k [] j l = absurd (not-suc-le-zero l)
spelled_at g k (b ∷ bs) zero l =
    spelled-other (alter g k b) (suc k) bs (k + 0) (inl (omega arith)) ∙ ap (alter g k b) (omega arith) ∙ alter-same g k b
spelled_at g k (b ∷ bs) (suc j) l = ap (spelled (alter g k b) (suc k) bs) (omega arith) ∙ spelled_at (alter g k b) (suc k) bs j (omega arith)

-- The name of record i, and of another.
pub name-here : (g : ℕ → ℕ) (i : ℕ) (text : List ℕ) → length text ≡ 28 → table 28 (λ j. names_with g i text (28 * i + j)) ≡ text
name-here g i text l =
    let f : ℕ → ℕ = λ j. names_with g i text (28 * i + j) in
    ext_get_or 0 (table 28 f) text (table-length 28 f ∙ sym l)
    (λ j h.
    let d : j < 28 = omega (arith, h, table-length 28 f) in
    table-get 28 f j 0 d ∙ spelled_at g (28 * i) text j (omega (arith, l, d)))

pub name-other
    : (g : ℕ → ℕ) (i : ℕ) (text : List ℕ) → length text ≡ 28 → (j k : ℕ) → (i ≡ j → ⊥) → k < 28 → names_with g i text (28 * j + k) ≡ g (28 * j + k)
name-other g i text l j k ne h = spelled-other g (28 * i) text (28 * j + k) (go (ltb j i) refl)
  where
    go : (b : Bool) → ltb j i ≡ b → (28 * j + k < 28 * i) ⊎ (28 * i + length text ≤ 28 * j + k)
    go true e = inl (omega (arith, h, ltb-true j i e))
    go false e = inr (omega (arith, l, ltb-false j i e, ne))
