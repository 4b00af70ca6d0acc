-- Small laws about counting, mapping and functions changed at one number.
use Rattle.std.specs.Prelude.{if◌then◌else◌, ◌≡◌, Bool, not, ◌&&◌, List, [], ◌∷◌, ◌++◌, map, ℕ, zero, suc, ◌<◌, length, get_or, set}
use Rattle.std.proofs.Math.Path.{refl, ap}
use Rattle.std.proofs.Common.{sym, ◌∙◌, arith, eqb-true, eq-eqb, ne_eqb, get_or-set_same, get_or-set_other}
use Rattle.std.proofs.Math.Bool.{true, false}
use Rattle.std.proofs.lemmas.Bool.{eqb-false}
use Rattle.std.proofs.Math.Dec.{eqb}
use Rattle.machine.specs.Basics.{count}
use Rattle.history.specs.History.{at}

module _ {A : Type 0} where
  pub at_same : (i : ℕ) (a : A) (f : ℕ → A) → at i a f i ≡ a
  unfolding at
  at_same i a f = rw (eq-eqb i i refl)

  pub at_other : (i : ℕ) (a : A) (f : ℕ → A) (j : ℕ) → (i ≡ j → ⊥) → at i a f j ≡ f j
  unfolding at
  at_other i a f j h = rw (ne_eqb i j h)

  -- what stands there, put there again, changes nothing
  pub at-kept : (i : ℕ) (a : A) (f : ℕ → A) (j : ℕ) → a ≡ f i → at i a f j ≡ f j
  unfolding at
  at-kept i a f j h = go (eqb i j) refl
    where
      go : (b : Bool) → eqb i j ≡ b → (if b then a else f j) ≡ f j
      go true e = h ∙ ap f (eqb-true i j e)
      go false e = refl

  -- either the one or the other
  pub at_cases : (P : A → Type 0) (i : ℕ) (a : A) (f : ℕ → A) (j : ℕ) → (i ≡ j → P a) → ((i ≡ j → ⊥) → P (f j)) → P (at i a f j)
  unfolding at
  at_cases P i a f j here there = go (eqb i j) refl
    where
      go : (b : Bool) → eqb i j ≡ b → P (if b then a else f j)
      go true e = here (eqb-true i j e)
      go false e = there (eqb-false i j e)

  pub map-append : {B : Type 0} (f : A → B) (xs ys : List A) → map f (xs ++ ys) ≡ map f xs ++ map f ys
  map-append f [] ys = refl
  map-append {B = B} f (x ∷ xs) ys = ap (λ (r : List B). f x ∷ r) (map-append f xs ys)

  -- a store that f cannot see
  pub get_or-set_kept : {B : Type 0} (f : A → B) (l : List A) (i : ℕ) (a d : A) (j : ℕ) → f a ≡ f (get_or l i d) → f (get_or (set l i a) j d) ≡ f (get_or l j d)
  get_or-set_kept f [] i a d j h = refl
  get_or-set_kept f (x ∷ xs) zero a d zero h = h
  get_or-set_kept f (x ∷ xs) zero a d (suc j) h = refl
  get_or-set_kept f (x ∷ xs) (suc i) a d zero h = refl
  get_or-set_kept f (x ∷ xs) (suc i) a d (suc j) h = get_or-set_kept f xs i a d j h

-- a store in a list, read
pub get_or-set : {A B : Type 0} (f : A → B) (l : List A) (i : ℕ) (a d : A) (j : ℕ) → i < length l → f (get_or (set l i a) j d) ≡ at i (f a) (λ (k : ℕ). f (get_or l k d)) j
get_or-set {B = B} f l i a d j h =
    at_cases (λ (b : B). f (get_or (set l i a) j d) ≡ b) i (f a) (λ (k : ℕ). f (get_or l k d)) j
    (λ e. ap f (ap (λ (k : ℕ). get_or (set l i a) k d) (sym e) ∙ get_or-set_same l i a d h))
    (λ n. ap f (get_or-set_other l i j a d (λ e. n (sym e))))

pub count-here : (i : ℕ) (xs : List ℕ) → count i (i ∷ xs) ≡ suc (count i xs)
unfolding count
count-here i xs = rw (eq-eqb i i refl) (omega arith)

pub count-other : (i x : ℕ) (xs : List ℕ) → (i ≡ x → ⊥) → count i (x ∷ xs) ≡ count i xs
unfolding count
count-other i x xs h = rw (ne_eqb i x h) (omega arith)

-- a change at a number that does not stand in the list is not seen
pub map_at : {A : Type 0} (i : ℕ) (a : A) (f : ℕ → A) (l : List ℕ) → count i l ≡ 0 → map (at i a f) l ≡ map f l
map_at i a f [] h = refl
map_at {A = A} i a f (x ∷ xs) h = go (eqb i x) refl (λ (z : count i xs ≡ 0). map_at i a f xs z)
  where
    go : (b : Bool) → eqb i x ≡ b → (count i xs ≡ 0 → map (at i a f) xs ≡ map f xs) → map (at i a f) (x ∷ xs) ≡ map f (x ∷ xs)
    go true e more = absurd (let c : count i (x ∷ xs) ≡ suc (count i xs) = ap (λ (k : ℕ). count i (k ∷ xs)) (sym (eqb-true i x e)) ∙ count-here i xs in omega arith)
    go false e more =
        rw (at_other i a f x (eqb-false i x e), more (sym (count-other i x xs (eqb-false i x e)) ∙ h))

-- tests that failed or passed
pub and_left : (a b : Bool) → not (a && b) ≡ false → a ≡ true
and_left true b h = refl
and_left false b h = sym h

pub and_true : (b : Bool) → (b && true) ≡ false → b ≡ false
and_true true h = h
and_true false h = refl
