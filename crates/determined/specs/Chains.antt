-- Lists that are the same have the same links, and lists with the same members and rising keys are the same.
use Rattle.std.specs.Prelude.{◌≡◌, refl, Bool, true, false, List, [], ◌∷◌, map, ℕ, ◌≤◌, ◌<◌, eqb, get_or}
use Rattle.std.proofs.Common.{sym, ap, ap₂, subst, ◌∙◌, arith, eqb-true, eq-eqb}
use Rattle.machine.specs.Basics.{count}
use Rattle.machine.specs.Good.{Each}
use Rattle.lists.specs.Lists.{bit, each-count}
use Rattle.chain.specs.Links.{Links, Chain, Queue}
use Rattle.state.specs.Abs.{table}
use Rattle.state.specs.Tables.{table-get}
use Rattle.state.specs.WellFormed.{Rising}

-- Links that spell the same list begin alike, and are alike at each of its members.
links-same : (g g' : ℕ → ℕ) (h h' : ℕ) (xs : List ℕ) → Links g h xs → Links g' h' xs → (h' ≡ h) × Each (λ i. g' i ≡ g i) xs
links-same g g' h h' [] a b = (b ∙ sym a, tt)
links-same g g' h h' (x ∷ xs) a b = (b.0 ∙ sym a.0, links-same g g' (g x) (g' x) xs a.1 b.1)

-- What two links have in common: where they begin, and the links of the members of a list.
pub record LinksSame (g g' : ℕ → ℕ) (h h' : ℕ) (xs : List ℕ) : Type 0 where
  pub head : h' ≡ h
  pub member : (i : ℕ) → 1 ≤ count i xs → g' i ≡ g i

-- Which lists that are equal have.
pub same-links : {g g' : ℕ → ℕ} {h h' : ℕ} {xs xs' : List ℕ} → xs' ≡ xs → Links g h xs → Links g' h' xs' → LinksSame g g' h h' xs
same-links {g} {g'} {h} {h'} {xs} e a b =
    let p : (h' ≡ h) × Each (λ i. g' i ≡ g i) xs = links-same g g' h h' xs a (subst (Links g' h') e b) in
    record { head = p.0; member = each-count (λ i. g' i ≡ g i) xs p.1 }

-- Of chains.
pub same-chain : {n : ℕ} {g g' : ℕ → ℕ} {h h' : ℕ} {xs xs' : List ℕ} → xs' ≡ xs → Chain n g h xs → Chain n g' h' xs' → LinksSame g g' h h' xs
same-chain e a b = same-links e a.links b.links

-- The last link of queues with the same list.
pub same-last : {n : ℕ} {g g' : ℕ → ℕ} {h h' t t' : ℕ} {xs xs' : List ℕ} → xs' ≡ xs → Queue n g h t xs → Queue n g' h' t' xs' → t' ≡ t
same-last e a b = rw e at b.ends ∙ sym a.ends

-- What functions that map a list alike give for each of its members.
pub map_same : {A : Type 0} (f f' : ℕ → A) (xs : List ℕ) → map f' xs ≡ map f xs → Each (λ i. f' i ≡ f i) xs
map_same f f' [] e = tt
map_same f f' (x ∷ xs) e = ((cc), map_same f f' xs (cc))

-- Tables that are the same have the same values.
pub table_at : {A : Type 0} (n : ℕ) (f f' : ℕ → A) → table n f' ≡ table n f → (i : ℕ) → i < n → f' i ≡ f i
table_at n f f' e i l = sym (table-get n f' i (f i) l) ∙ ap (λ xs. get_or xs i (f i)) e ∙ table-get n f i (f i) l

-- A number stands in the list that it begins.
begins : (x : ℕ) (xs : List ℕ) → 1 ≤ count x (x ∷ xs)
unfolding count
begins x xs = omega (arith, ap bit (eq-eqb x x refl))

-- Who stands in a list with rising keys has no key below the first's, and is the first where it has the first's key.
rising-least : (key : ℕ → ℕ) (x : ℕ) (xs : List ℕ) → Rising key (x ∷ xs) → (i : ℕ) → 1 ≤ count i (x ∷ xs) → (key x ≤ key i) × (key i ≤ key x → i ≡ x)
unfolding count
rising-least key x xs r i c = go (eqb i x) refl
  where
    go : (b : Bool) → eqb i x ≡ b → (key x ≤ key i) × (key i ≤ key x → i ≡ x)
    go true e = let d : i ≡ x = eqb-true i x e in (omega (arith, ap key d), λ _. d)
    go false e =
        let l : key x < key i = each-count (λ y. key x < key y) xs r.0 i (omega (arith, ap bit e)) in
        (omega arith, λ k. absurd (omega arith))

-- Lists with rising keys and the same members are the same.
pub rising-same : (key : ℕ → ℕ) (xs ys : List ℕ) → Rising key xs → Rising key ys → ((i : ℕ) → count i ys ≡ count i xs) → ys ≡ xs
unfolding count
rising-same key [] [] r s h = refl
rising-same key [] (y ∷ ys) r s h = absurd (omega (arith, begins y ys, h y))
rising-same key (x ∷ xs) [] r s h = absurd (omega (arith, begins x xs, h x))
rising-same key (x ∷ xs) (y ∷ ys) r s h =
    let a : (key x ≤ key y) × (key y ≤ key x → y ≡ x) = rising-least key x xs r y (omega (arith, begins y ys, h y)) in
    let b : (key y ≤ key x) × (key x ≤ key y → x ≡ y) = rising-least key y ys s x (omega (arith, begins x xs, h x)) in
    let e : y ≡ x = a.1 b.0 in
    ap₂ (λ (u : ℕ) (us : List ℕ). u ∷ us) e (rising-same key xs ys r.1 s.1 (λ i. omega (arith, h i, ap (λ (u : ℕ). bit (eqb i u)) e)))
