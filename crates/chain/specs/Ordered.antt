-- Insertion into a list ordered by a key.
use Rattle.std.specs.Prelude.{if◌then◌else◌, ◌≡◌, refl, Bool, true, false, List, [], ◌∷◌, ◌++◌, ◌⊎◌, ℕ, zero, suc, ◌≤◌, ◌<◌, ltb}
use Rattle.std.proofs.Common.{ap, subst, inl, inr, ⊎_elim, arith, ltb-true, ltb-false}
use Rattle.layout.specs.Memory.{alter}
use Rattle.machine.specs.Good.{Each}
use Rattle.chain.specs.Lists.{Below, Absent, all_map}
use Rattle.chain.specs.Links.{Chain, chain-front, chain-behind}

-- i stands before the first element with a later key
abbrev pub insert_by : (ℕ → ℕ) → ℕ → List ℕ → List ℕ
insert_by key i [] = i ∷ []
insert_by key i (y ∷ ys) = if◌then◌else◌ (ltb (key i) (key y)) (i ∷ y ∷ ys) (y ∷ insert_by key i ys)

-- the link to the element after which that is; p where it is the front
abbrev pub spot : (ℕ → ℕ) → ℕ → ℕ → List ℕ → ℕ
spot key k p [] = p
spot key k p (y ∷ ys) = if◌then◌else◌ (ltb k (key y)) p (spot key k (suc y) ys)

-- the links after i is put behind the link p, and the first link then
abbrev pub linked : (ℕ → ℕ) → ℕ → ℕ → ℕ → ℕ → ℕ
linked g h zero i = alter g i h
linked g h (suc t) i = alter (alter g i (g t)) t (suc i)

abbrev pub first_of : ℕ → ℕ → ℕ → ℕ
first_of h zero i = suc i
first_of h (suc t) i = h

-- where the spot is: the front, or behind some t of the list
spot-front : (key : ℕ → ℕ) (i p : ℕ) (xs : List ℕ) → Type 0
spot-front key i p xs = (spot key (key i) p xs ≡ p) × (insert_by key i xs ≡ i ∷ xs)

spot-behind : (key : ℕ → ℕ) (i p : ℕ) (xs : List ℕ) → Type 0
spot-behind key i p xs =
    (us : List ℕ) × (t : ℕ) × (vs : List ℕ) × (spot key (key i) p xs ≡ suc t) × (xs ≡ us ++ t ∷ vs) × (insert_by key i xs ≡ us ++ t ∷ i ∷ vs)

spot-split : (key : ℕ → ℕ) (i p : ℕ) (xs : List ℕ) → spot-front key i p xs ⊎ spot-behind key i p xs
unfolding spot-front spot-behind
spot-split key i p [] = inl (refl, refl)
spot-split key i p (y ∷ ys) = go (ltb (key i) (key y)) (spot-split key i (suc y) ys)
  where
    go : (b : Bool) → spot-front key i (suc y) ys ⊎ spot-behind key i (suc y) ys
        → ((if◌then◌else◌ b p (spot key (key i) (suc y) ys) ≡ p) × (if◌then◌else◌ b (i ∷ y ∷ ys) (y ∷ insert_by key i ys) ≡ i ∷ y ∷ ys))
        ⊎ ((us : List ℕ) × (t : ℕ) × (vs : List ℕ) × (if◌then◌else◌ b p (spot key (key i) (suc y) ys) ≡ suc t) × (y ∷ ys ≡ us ++ t ∷ vs) × (if◌then◌else◌ b (i ∷ y ∷ ys) (y ∷ insert_by key i ys) ≡ us ++ t ∷ i ∷ vs))
    go true r = inl (refl, refl)
    go false r =
        inr (⊎_elim (λ f. ([], y, ys, f.0, refl, ap (λ (l : List ℕ). y ∷ l) f.1))
        (λ q. (y ∷ q.0, q.1, q.2, q.3, ap (λ (l : List ℕ). y ∷ l) q.4, ap (λ (l : List ℕ). y ∷ l) q.5)) r)

-- the chain after an insertion at the spot
pub chain-insert : {n : ℕ} {g : ℕ → ℕ} {h : ℕ} {xs : List ℕ} (key : ℕ → ℕ) (i : ℕ) → i < n → Absent i xs → Chain n g h xs
    → Chain n (linked g h (spot key (key i) 0 xs) i) (first_of h (spot key (key i) 0 xs) i) (insert_by key i xs)
unfolding spot-front spot-behind
chain-insert {n} {g} {h} {xs} key i l a c = ⊎_elim front behind (spot-split key i 0 xs)
  where
    front : spot-front key i 0 xs → Chain n (linked g h (spot key (key i) 0 xs) i) (first_of h (spot key (key i) 0 xs) i) (insert_by key i xs)
    front f = rw (f.0, f.1) (chain-front i l a c)

    behind : spot-behind key i 0 xs → Chain n (linked g h (spot key (key i) 0 xs) i) (first_of h (spot key (key i) 0 xs) i) (insert_by key i xs)
    behind q =
        rw (q.3, q.5)
        (chain-behind q.0 q.1 i q.2 l (subst (λ (ys : List ℕ). Absent i ys) q.4 a) (subst (λ (ys : List ℕ). Chain n g h ys) q.4 c))

-- the spot is a link in range
pub spot-bound : (n : ℕ) (key : ℕ → ℕ) (k p : ℕ) (xs : List ℕ) → p ≤ n → Below n xs → spot key k p xs ≤ n
spot-bound n key k p [] l b = l
spot-bound n key k p (y ∷ ys) l b = go (ltb k (key y)) (spot-bound n key k (suc y) ys b.0 b.1)
  where
    go : (t : Bool) → spot key k (suc y) ys ≤ n → if◌then◌else◌ t p (spot key k (suc y) ys) ≤ n
    go true h = l
    go false h = h

-- each key is at most those after it
abbrev pub Sorted : (ℕ → ℕ) → List ℕ → Type 0
Sorted key [] = Unit {0}
Sorted key (x ∷ xs) = Each (λ y. key x ≤ key y) xs × Sorted key xs

all-insert_by : (p : ℕ → Type 0) (key : ℕ → ℕ) (i : ℕ) (xs : List ℕ) → p i → Each p xs → Each p (insert_by key i xs)
all-insert_by p key i [] h a = (h, tt)
all-insert_by p key i (y ∷ ys) h a = go (ltb (key i) (key y)) (all-insert_by p key i ys h a.1)
  where
    go : (t : Bool) → Each p (insert_by key i ys) → Each p (if◌then◌else◌ t (i ∷ y ∷ ys) (y ∷ insert_by key i ys))
    go true r = (h, a)
    go false r = (a.0, r)

pub sorted_insert : (key : ℕ → ℕ) (i : ℕ) (xs : List ℕ) → Sorted key xs → Sorted key (insert_by key i xs)
sorted_insert key i [] s = (tt, tt)
sorted_insert key i (y ∷ ys) s = go (ltb (key i) (key y)) refl (sorted_insert key i ys s.1)
  where
    go : (t : Bool) → ltb (key i) (key y) ≡ t → Sorted key (insert_by key i ys) → Sorted key (if◌then◌else◌ t (i ∷ y ∷ ys) (y ∷ insert_by key i ys))
    go true e r =
        let l : key i < key y = ltb-true (key i) (key y) e in
        ((omega arith, all_map (λ x h. omega arith) ys s.0), s)
    go false e r = (all-insert_by (λ x. key y ≤ key x) key i ys (ltb-false (key i) (key y) e) s.0, r)
