-- A number is taken out of a list: where it stands, what is left, and what the links are then.
use Rattle.std.specs.Prelude.{if◌then◌else◌, ◌≡◌, refl, Bool, true, false, not, List, [], ◌∷◌, ◌++◌, ◌⊎◌, ℕ, zero, suc, ◌≤◌, eqb}
use Rattle.std.proofs.Common.{sym, ap, subst, inl, inr, ⊎_elim, arith, eqb-true, ne_eqb}
use Rattle.std.proofs.lemmas.Bool.{eqb-false}
use Rattle.machine.specs.Basics.{count, filter}
use Rattle.machine.specs.Good.{Each}
use Rattle.machine.specs.Machine.{Queued}
use Rattle.machine.specs.Timers.{remove}
use Rattle.layout.specs.Memory.{alter}
use Rattle.chain.specs.Lists.{Below, Absent, Distinct, filter-absent}
use Rattle.chain.specs.Links.{Chain, chain-rest}
use Rattle.chain.specs.Ordered.{Sorted}
use Rattle.chain.specs.Removed.{out_links, chain_out}
use Rattle.timers.specs.Entries.{entry, entries}

-- The list without t.
abbrev pub without : ℕ → List ℕ → List ℕ
without t xs = filter (λ (x : ℕ). not (eqb x t)) xs

-- The link to the number before t; p where t is the first, and the last link where t is not there.
abbrev pub before : ℕ → ℕ → List ℕ → ℕ
before t p [] = p
before t p (y ∷ ys) = if eqb y t then p else before t (suc y) ys

-- The links after t, which stands behind the link p, is taken out, and the first link then.
abbrev pub next_out : (ℕ → ℕ) → ℕ → ℕ → ℕ → ℕ
next_out g zero t = alter g t 0
next_out g (suc p) t = out_links g p t

abbrev pub first_out : (ℕ → ℕ) → ℕ → ℕ → ℕ → ℕ
first_out g h zero t = g t
first_out g h (suc p) t = h

-- Where t stands.
out_front : ℕ → ℕ → List ℕ → Type 0
out_front t p xs = (vs : List ℕ) × (before t p xs ≡ p) × (xs ≡ t ∷ vs) × (without t xs ≡ vs)

out_behind : ℕ → ℕ → List ℕ → Type 0
out_behind t p xs =
    (us : List ℕ) × (y : ℕ) × (vs : List ℕ) × (before t p xs ≡ suc y) × (xs ≡ us ++ y ∷ t ∷ vs) × (without t xs ≡ us ++ y ∷ vs)

out_split : (t p : ℕ) (xs : List ℕ) → Distinct xs → (count t xs ≡ 0 → ⊥) → out_front t p xs ⊎ out_behind t p xs
unfolding out_front out_behind filter count
out_split t p [] d ne = absurd (ne refl)
out_split t p (x ∷ xs) d ne = go (eqb x t) refl (λ c. out_split t (suc x) xs d.1 c)
  where
    go
        : (b : Bool)
        → eqb x t ≡ b
        → ((count t xs ≡ 0 → ⊥) → out_front t (suc x) xs ⊎ out_behind t (suc x) xs)
        → out_front t p (x ∷ xs) ⊎ out_behind t p (x ∷ xs)
    go true e again =
        let q : x ≡ t = eqb-true x t e in
        inl (
          xs,
          rw e,
          ap (λ (k : ℕ). k ∷ xs) q,
          rw e (filter-absent t xs (subst (λ (k : ℕ). Absent k xs) q d.0)),
        )
    go false e again =
        let f : eqb t x ≡ false = ne_eqb t x (λ q. eqb-false x t e (sym q)) in
        rw e
        (inr
        (⊎_elim
        (λ r. ([], x, r.0, r.1, ap (λ (l : List ℕ). x ∷ l) r.2, ap (λ (l : List ℕ). x ∷ l) r.3))
        (λ r. (x ∷ r.0, r.1, r.2, r.3, ap (λ (l : List ℕ). x ∷ l) r.4, ap (λ (l : List ℕ). x ∷ l) r.5))
        (again (λ c. ne (rw f (omega (arith, c)))))))

pub chain-without
    : {n : ℕ} {g : ℕ → ℕ} {h : ℕ} {xs : List ℕ} (t : ℕ)
    → (count t xs ≡ 0 → ⊥)
    → Chain n g h xs
    → Chain n (next_out g (before t 0 xs) t) (first_out g h (before t 0 xs) t) (without t xs)
unfolding out_front out_behind
chain-without {n} {g} {h} {xs} t ne c = ⊎_elim front behind (out_split t 0 xs c.distinct ne)
  where
    front : out_front t 0 xs → Chain n (next_out g (before t 0 xs) t) (first_out g h (before t 0 xs) t) (without t xs)
    front r = rw (r.1, r.3) (chain-rest 0 (subst (λ (ys : List ℕ). Chain n g h ys) r.2 c))

    behind : out_behind t 0 xs → Chain n (next_out g (before t 0 xs) t) (first_out g h (before t 0 xs) t) (without t xs)
    behind r = rw (r.3, r.5) (chain_out r.0 r.1 t r.2 (subst (λ (ys : List ℕ). Chain n g h ys) r.4 c))

-- The link before is in range.
pub before-bound : (n t p : ℕ) (xs : List ℕ) → p ≤ n → Below n xs → before t p xs ≤ n
before-bound n t p [] l b = l
before-bound n t p (x ∷ xs) l b = go (eqb x t) (before-bound n t (suc x) xs b.0 b.1)
  where
    go : (a : Bool) → before t (suc x) xs ≤ n → (if a then p else before t (suc x) xs) ≤ n
    go true h = l
    go false h = h

-- What is left is sorted, and is the machine's.
each-without : (P : ℕ → Type 0) (t : ℕ) (xs : List ℕ) → Each P xs → Each P (without t xs)
unfolding filter
each-without P t [] a = tt
each-without P t (x ∷ xs) a = go (not (eqb x t)) (each-without P t xs a.1)
  where
    go : (b : Bool) → Each P (without t xs) → Each P (if b then x ∷ without t xs else without t xs)
    go true h = (a.0, h)
    go false h = h

pub sorted-without : (key : ℕ → ℕ) (t : ℕ) (xs : List ℕ) → Sorted key xs → Sorted key (without t xs)
unfolding filter
sorted-without key t [] s = tt
sorted-without key t (x ∷ xs) s = go (not (eqb x t)) (sorted-without key t xs s.1)
  where
    go : (b : Bool) → Sorted key (without t xs) → Sorted key (if b then x ∷ without t xs else without t xs)
    go true h = (each-without (λ y. key x ≤ key y) t xs s.0, h)
    go false h = h

pub remove-entries : (key : ℕ → ℕ) (t : ℕ) (xs : List ℕ) → entries key (without t xs) ≡ remove t (entries key xs)
unfolding filter remove
remove-entries key t [] = refl
remove-entries key t (x ∷ xs) = go (not (eqb x t)) (remove-entries key t xs)
  where
    go
        : (b : Bool)
        → entries key (without t xs) ≡ remove t (entries key xs)
        → entries key (if b then x ∷ without t xs else without t xs) ≡ (if b then entry key x ∷ remove t (entries key xs) else remove t (entries key xs))
    go true h = ap (λ (l : List Queued). entry key x ∷ l) h
    go false h = h
