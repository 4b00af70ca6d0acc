-- Lists: one that is reversed, and one without a number that stood in it.
use Rattle.std.proofs.lemmas.List.{reverse-append, reverse-reverse}
use Rattle.std.specs.Prelude.{◌≡◌, refl, Bool, true, false, not, ℕ, suc, ◌≤◌, ◌<◌, eqb, List, [], ◌∷◌, ◌++◌, reverse}
use Rattle.std.proofs.Common.{sym, ap, ◌∙◌, ⊎_elim, arith, eqb-true, eq-eqb, ne_eqb}
use mathlib.Core.List.{reverse-cons}
use Rattle.machine.specs.Basics.{count, filter}
use Rattle.machine.specs.Good.{Each}
use Rattle.lists.specs.Lists.{bit, each_append}
use Rattle.chain.specs.Lists.{Absent, all_both, filter-absent}
use Rattle.chain.specs.Links.{first_link, final, final-split}
use Rattle.state.specs.WellFormed.{Rising}

-- What every element has, every element of the reversed list has.
pub each-reverse : (P : ℕ → Type 0) (xs : List ℕ) → Each P xs → Each P (reverse xs)
each-reverse P [] a = tt
each-reverse P (x ∷ xs) a = rw (reverse-cons x xs) (each_append P (reverse xs) (x ∷ []) (each-reverse P xs a.1) (a.0, tt))

-- The first of the reversed list is the last, and the other way round.
pub first-reverse : (xs : List ℕ) → first_link (reverse xs) ≡ final 0 xs
first-reverse xs = ⊎_elim none some (final-split xs)
  where
    none : (xs ≡ []) × (final 0 xs ≡ 0) → first_link (reverse xs) ≡ final 0 xs
    none e = rw e.0

    some : (ys : List ℕ) × (t : ℕ) × (xs ≡ ys ++ t ∷ []) × (final 0 xs ≡ suc t) → first_link (reverse xs) ≡ final 0 xs
    some e = ap (λ (l : List ℕ). first_link (reverse l)) e.2 ∙ ap first_link (reverse-append e.0 (e.1 ∷ [])) ∙ sym e.3

pub final-reverse : (xs : List ℕ) → final 0 (reverse xs) ≡ first_link xs
final-reverse xs = sym (first-reverse (reverse xs)) ∙ ap first_link (reverse-reverse xs)

-- Where a number that is in a list stands.
pub record Stands (i : ℕ) (xs : List ℕ) : Type 0 where
  pub front : List ℕ
  pub rest : List ℕ
  pub split : xs ≡ front ++ i ∷ rest

pub stands : (i : ℕ) (xs : List ℕ) → 1 ≤ count i xs → Stands i xs
unfolding count
stands i [] c = absurd (omega arith)
stands i (x ∷ xs) c = go (eqb i x) refl (λ l. stands i xs l)
  where
    go : (b : Bool) → eqb i x ≡ b → (1 ≤ count i xs → Stands i xs) → Stands i (x ∷ xs)
    go true e again = record { front = []; rest = xs; split = ap (λ (k : ℕ). k ∷ xs) (sym (eqb-true i x e)) }
    go false e again =
        let s : Stands i xs = again (omega (arith, ap bit e)) in
        record { front = x ∷ s.front; rest = s.rest; split = ap (λ (l : List ℕ). x ∷ l) s.split }

-- The list without i.
abbrev pub without : ℕ → List ℕ → List ℕ
without i xs = filter (λ (x : ℕ). not (eqb x i)) xs

pub without-split : (us : List ℕ) (i : ℕ) (vs : List ℕ) → Absent i us → Absent i vs → without i (us ++ i ∷ vs) ≡ us ++ vs
unfolding filter
without-split [] i vs a b = rw (eq-eqb i i refl) (filter-absent i vs b)
without-split (u ∷ us) i vs a b = rw (ne_eqb u i (λ e. a.0 (sym e)), without-split us i vs a.1 b)

-- What is left when the number between two parts goes.
pub each_out : (P : ℕ → Type 0) (us : List ℕ) (i : ℕ) (vs : List ℕ) → Each P (us ++ i ∷ vs) → Each P (us ++ vs)
each_out P [] i vs a = a.1
each_out P (u ∷ us) i vs a = (a.0, each_out P us i vs a.1)

pub rising_out : (key : ℕ → ℕ) (us : List ℕ) (i : ℕ) (vs : List ℕ) → Rising key (us ++ i ∷ vs) → Rising key (us ++ vs)
rising_out key [] i vs r = r.1
rising_out key (u ∷ us) i vs r = (each_out (λ y. key u < key y) us i vs r.0, rising_out key us i vs r.1)

-- Keys that rise, and one more that is above them.
pub rising-last : (key : ℕ → ℕ) (xs : List ℕ) (i : ℕ) → Rising key xs → Each (λ x. key x < key i) xs → Rising key (xs ++ i ∷ [])
rising-last key [] i r a = (tt, tt)
rising-last key (x ∷ xs) i r a =
    (each_append (λ y. key x < key y) xs (i ∷ []) r.0 (a.0, tt), rising-last key xs i r.1 a.1)

-- Keys that are the same on the list.
pub rising-same : (key key' : ℕ → ℕ) (xs : List ℕ) → Each (λ x. key' x ≡ key x) xs → Rising key xs → Rising key' xs
rising-same key key' [] e r = tt
rising-same key key' (x ∷ xs) e r =
    let h : key' x ≡ key x = e.0 in
    (all_both (λ y a b. omega (arith, h)) xs e.1 r.0, rising-same key key' xs e.1 r.1)
