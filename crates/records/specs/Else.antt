-- Memories that differ in the record of one process, in the links of age and in the words of records in use, and how they come about.
use Rattle.std.specs.Prelude.{if◌then◌else◌, ◌≡◌, refl, Bool, true, false, List, [], ◌∷◌, ℕ, ◌+◌, ◌*◌, ◌<◌, eqb, length}
use Rattle.std.proofs.Common.{sym, ap, ◌∙◌, arith, eqb-true}
use Rattle.machine.specs.Basics.{elem}
use Rattle.layout.specs.Memory.{Memory, alter, set_field, upd}
use Rattle.chain.specs.Links.{alter-other}
use Rattle.state.specs.Fields as fields
use Rattle.records.specs.Names.{names_with, name-other}

-- What a field is: a number of each process record, a part of what links and marks them, the bytes of the names, or none of these.
pub data Part : Type 0 where
  own mark name rest : Part

abbrev own_fields : List ℕ
own_fields =
    fields.pid
    ∷ fields.parent
    ∷ fields.quantum_end
    ∷ fields.parent_at
    ∷ fields.nchild
    ∷ fields.exits
    ∷ fields.nexits
    ∷ fields.state_of
    ∷ fields.resume_kind
    ∷ fields.resume_condition
    ∷ fields.resume_object
    ∷ []

abbrev mark_fields : List ℕ
mark_fields =
    fields.older ∷ fields.younger ∷ fields.oldest ∷ fields.youngest ∷ fields.used_records ∷ fields.full_records ∷ []

unfoldable pub part_of : ℕ → Part
unfolding elem
part_of f =
    if elem f own_fields then own else if elem f mark_fields then mark else if eqb f fields.name_byte then name else rest

-- Record i alone differs, and the marks may: all else is as it was.
pub record Else (m m' : Memory) (i : ℕ) : Type 0 where
  pub same : (f : ℕ) → part_of f ≡ rest → m' f ≡ m f
  pub other : (f j : ℕ) → part_of f ≡ own → (i ≡ j → ⊥) → m' f j ≡ m f j
  pub names : (j k : ℕ) → (i ≡ j → ⊥) → k < 28 → m' fields.name_byte (28 * j + k) ≡ m fields.name_byte (28 * j + k)

-- A field other than the one that was set.
set_other : (m : Memory) (f : ℕ) (k : ℕ → ℕ) (g : ℕ) → (f ≡ g → ⊥) → set_field m f k g ≡ m g
set_other m f k g ne = go (eqb f g) refl
  where
    go : (b : Bool) → eqb f g ≡ b → (if b then k else m g) ≡ m g
    go true e = absurd (ne (eqb-true f g e))
    go false e = refl

apart : {f g : ℕ} {a b : Part} → part_of f ≡ a → part_of g ≡ b → (a ≡ b → ⊥) → f ≡ g → ⊥
apart p q ne e = ne (sym p ∙ ap part_of e ∙ q)

own-rest : own ≡ rest → ⊥
own-rest e = let z : ◌≡◌ {A = ℕ} 0 1 = cc in omega arith

own_name : own ≡ name → ⊥
own_name e = let z : ◌≡◌ {A = ℕ} 0 1 = cc in omega arith

mark-rest : mark ≡ rest → ⊥
mark-rest e = let z : ◌≡◌ {A = ℕ} 0 1 = cc in omega arith

mark-own : mark ≡ own → ⊥
mark-own e = let z : ◌≡◌ {A = ℕ} 0 1 = cc in omega arith

mark-name : mark ≡ name → ⊥
mark-name e = let z : ◌≡◌ {A = ℕ} 0 1 = cc in omega arith

name-rest : name ≡ rest → ⊥
name-rest e = let z : ◌≡◌ {A = ℕ} 0 1 = cc in omega arith

name-own : name ≡ own → ⊥
name-own e = let z : ◌≡◌ {A = ℕ} 0 1 = cc in omega arith

is_name : part_of fields.name_byte ≡ name
unfolding part_of elem
is_name = refl

-- Nothing differs; a number of record i is stored; a mark is set; the name of record i is stored.
pub else_none : (m : Memory) (i : ℕ) → Else m m i
else_none m i = record { same = λ f p. refl; other = λ f j p ne. refl; names = λ j k ne l. refl }

module _ {m m' : Memory} {i : ℕ} (e : Else m m' i) where
  pub else_put : (f v : ℕ) → part_of f ≡ own → Else m (upd m' f i v) i
  else_put f v p =
      let k : ℕ → ℕ = alter (m' f) i v in
      record {
        same = λ g q. set_other m' f k g (apart p q own-rest) ∙ e.same g q;
        other = λ g j q ne. go g j q ne (eqb f g) refl;
        names = λ j x ne l. ap (λ (h : ℕ → ℕ). h (28 * j + x)) (set_other m' f k fields.name_byte (apart p is_name own_name)) ∙ e.names j x ne l;
      }
    where
      go : (g j : ℕ) → part_of g ≡ own → (i ≡ j → ⊥) → (b : Bool) → eqb f g ≡ b → (if b then alter (m' f) i v else m' g) j ≡ m g j
      go g j q ne true d = alter-other (m' f) i v j ne ∙ ap (λ (x : ℕ). m' x j) (eqb-true f g d) ∙ e.other g j q ne
      go g j q ne false d = e.other g j q ne

  pub else_mark : (f : ℕ) (k : ℕ → ℕ) → part_of f ≡ mark → Else m (set_field m' f k) i
  else_mark f k p =
      record {
        same = λ g q. set_other m' f k g (apart p q mark-rest) ∙ e.same g q;
        other = λ g j q ne. ap (λ (h : ℕ → ℕ). h j) (set_other m' f k g (apart p q mark-own)) ∙ e.other g j q ne;
        names = λ j x ne l. ap (λ (h : ℕ → ℕ). h (28 * j + x)) (set_other m' f k fields.name_byte (apart p is_name mark-name)) ∙ e.names j x ne l;
      }

  pub else_name : (text : List ℕ) → length text ≡ 28 → Else m (set_field m' fields.name_byte (names_with (m' fields.name_byte) i text)) i
  else_name text w =
      let k : ℕ → ℕ = names_with (m' fields.name_byte) i text in
      record {
        same = λ g q. set_other m' fields.name_byte k g (apart is_name q name-rest) ∙ e.same g q;
        other = λ g j q ne. ap (λ (h : ℕ → ℕ). h j) (set_other m' fields.name_byte k g (apart is_name q name-own)) ∙ e.other g j q ne;
        names = λ j x ne l. name-other (m' fields.name_byte) i text w j x ne l ∙ e.names j x ne l;
      }
