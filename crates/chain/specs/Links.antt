-- Chains: lists that links spell. A link is 0 for none, and i + 1 for number i; g i is the link that i holds.
use Rattle.std.specs.Prelude.{◌≡◌, refl, List, [], ◌∷◌, ◌++◌, ◌⊎◌, ℕ, zero, suc, ◌≤◌, ◌<◌, length}
use Rattle.std.proofs.Common.{sym, ap, subst, ◌∙◌, append_assoc, inl, inr, ⊎_elim, arith, not-suc-le-zero, le_of_suc-le-suc, eq-eqb, ne_eqb}
use Rattle.layout.specs.Memory.{alter}
use Rattle.machine.specs.Good.{Each}
use Rattle.chain.specs.Lists.{Below, Absent, Distinct, all_map, all_both, all_insert, distinct-insert, distinct-fits}

-- the list from the link h, at most n long
unfoldable pub walk : ℕ → (ℕ → ℕ) → ℕ → List ℕ
walk zero g h = []
walk (suc n) g zero = []
walk (suc n) g (suc i) = i ∷ walk n g (g i)

-- the links from h spell xs and end
abbrev pub Links : (ℕ → ℕ) → ℕ → List ℕ → Type 0
Links g h [] = h ≡ 0
Links g h (i ∷ xs) = (h ≡ suc i) × Links g (g i) xs

pub walk-links : (n : ℕ) (g : ℕ → ℕ) (h : ℕ) (xs : List ℕ) → Links g h xs → length xs ≤ n → walk n g h ≡ xs
unfolding walk
walk-links zero g h [] e l = refl
walk-links (suc n) g h [] e l = rw e
walk-links zero g h (i ∷ xs) e l = absurd (not-suc-le-zero l)
walk-links (suc n) g h (i ∷ xs) e l = rw e.0 (ap (λ (ys : List ℕ). i ∷ ys) (walk-links n g (g i) xs e.1 (le_of_suc-le-suc l)))

pub alter-same : (g : ℕ → ℕ) (t v : ℕ) → alter g t v t ≡ v
alter-same g t v = rw (eq-eqb t t refl)

pub alter-other : (g : ℕ → ℕ) (t v j : ℕ) → (t ≡ j → ⊥) → alter g t v j ≡ g j
alter-other g t v j ne = rw (ne_eqb t j ne)

-- a chain reads the links of its own elements alone
pub links-frame : (g k : ℕ → ℕ) (h : ℕ) (xs : List ℕ) → Each (λ i. k i ≡ g i) xs → Links g h xs → Links k h xs
links-frame g k h [] a e = e
links-frame g k h (i ∷ xs) a e = (e.0, rw a.0 (links-frame g k (g i) xs a.1 e.1))

pub links-alter : (g : ℕ → ℕ) (t v h : ℕ) (xs : List ℕ) → Absent t xs → Links g h xs → Links (alter g t v) h xs
links-alter g t v h xs a = links-frame g (alter g t v) h xs (all_map (λ i ne. alter-other g t v i ne) xs a)

-- a chain of distinct numbers below n
pub record Chain (n : ℕ) (g : ℕ → ℕ) (h : ℕ) (xs : List ℕ) : Type 0 where
  pub links : Links g h xs
  pub distinct : Distinct xs
  pub below : Below n xs

pub chain-walk : {n : ℕ} {g : ℕ → ℕ} {h : ℕ} {xs : List ℕ} → Chain n g h xs → walk n g h ≡ xs
chain-walk {n} {g} {h} {xs} c = walk-links n g h xs c.links (distinct-fits n xs c.distinct c.below)

-- i is put in front
pub chain-front : {n : ℕ} {g : ℕ → ℕ} {h : ℕ} {xs : List ℕ} (i : ℕ) → i < n → Absent i xs → Chain n g h xs → Chain n (alter g i h) (suc i) (i ∷ xs)
chain-front {n} {g} {h} {xs} i l a c =
    record {
      links = (refl, rw (alter-same g i h) (links-alter g i h h xs a c.links));
      distinct = (a, c.distinct);
      below = (l, c.below);
    }

-- i is put behind t
links-behind : (g k : ℕ → ℕ) (h : ℕ) (xs : List ℕ) (t i : ℕ) (ys : List ℕ) → Each (λ j. k j ≡ g j) xs → Each (λ j. k j ≡ g j) ys → k t ≡ suc i → k i ≡ g t
    → Links g h (xs ++ t ∷ ys) → Links k h (xs ++ t ∷ i ∷ ys)
links-behind g k h [] t i ys a b p q e = (e.0, (p, rw q (links-frame g k (g t) ys b e.1)))
links-behind g k h (x ∷ xs) t i ys a b p q e = (e.0, rw a.0 (links-behind g k (g x) xs t i ys a.1 b p q e.1))

pub all_left : (p : ℕ → Type 0) (xs : List ℕ) (t : ℕ) (ys : List ℕ) → Each p (xs ++ t ∷ ys) → Each p xs
all_left p [] t ys a = tt
all_left p (x ∷ xs) t ys a = (a.0, all_left p xs t ys a.1)

pub all_right : (p : ℕ → Type 0) (xs : List ℕ) (t : ℕ) (ys : List ℕ) → Each p (xs ++ t ∷ ys) → Each p (t ∷ ys)
all_right p [] t ys a = a
all_right p (x ∷ xs) t ys a = all_right p xs t ys a.1

-- in a list of distinct numbers t stands once
pub distinct-left : (xs : List ℕ) (t : ℕ) (ys : List ℕ) → Distinct (xs ++ t ∷ ys) → Absent t xs
distinct-left [] t ys d = tt
distinct-left (x ∷ xs) t ys d = ((λ e. (all_right (λ y. x ≡ y → ⊥) xs t ys d.0).0 (sym e)), distinct-left xs t ys d.1)

pub distinct-right : (xs : List ℕ) (t : ℕ) (ys : List ℕ) → Distinct (xs ++ t ∷ ys) → Absent t ys
distinct-right [] t ys d = d.0
distinct-right (x ∷ xs) t ys d = distinct-right xs t ys d.1

pub chain-behind : {n : ℕ} {g : ℕ → ℕ} {h : ℕ} (xs : List ℕ) (t i : ℕ) (ys : List ℕ) → i < n → Absent i (xs ++ t ∷ ys)
    → Chain n g h (xs ++ t ∷ ys) → Chain n (alter (alter g i (g t)) t (suc i)) h (xs ++ t ∷ i ∷ ys)
chain-behind {n} {g} {h} xs t i ys l a c =
    let k : ℕ → ℕ = alter (alter g i (g t)) t (suc i) in
    let same : (j : ℕ) → (i ≡ j → ⊥) → (t ≡ j → ⊥) → k j ≡ g j = λ j p q. alter-other (alter g i (g t)) t (suc i) j q ∙ alter-other g i (g t) j p in
    let not_t : i ≡ t → ⊥ = (all_right (λ x. i ≡ x → ⊥) xs t ys a).0 in
    record {
      links =
          links-behind g k h xs t i ys
          (all_both same xs (all_left (λ x. i ≡ x → ⊥) xs t ys a) (distinct-left xs t ys c.distinct))
          (all_both same ys (all_right (λ x. i ≡ x → ⊥) xs t ys a).1 (distinct-right xs t ys c.distinct))
          (alter-same (alter g i (g t)) t (suc i))
          (alter-other (alter g i (g t)) t (suc i) i (λ e. not_t (sym e)) ∙ alter-same g i (g t))
          c.links;
      distinct = distinct-insert xs t i ys c.distinct a;
      below = all_insert (λ x. x < n) xs t i ys c.below l;
    }

-- the first is taken off
pub chain-rest : {n : ℕ} {g : ℕ → ℕ} {h : ℕ} {i : ℕ} {xs : List ℕ} (v : ℕ) → Chain n g h (i ∷ xs) → Chain n (alter g i v) (g i) xs
chain-rest {n} {g} {h} {i} {xs} v c =
    record {
      links = links-alter g i v (g i) xs c.distinct.0 c.links.1;
      distinct = c.distinct.1;
      below = c.below.1;
    }

pub chain-tail : {n : ℕ} {g : ℕ → ℕ} {h : ℕ} {i : ℕ} {xs : List ℕ} → Chain n g h (i ∷ xs) → Chain n g (g i) xs
chain-tail c = record { links = c.links.1; distinct = c.distinct.1; below = c.below.1 }

-- a store to the links of other numbers
pub chain-frame : {n : ℕ} {g : ℕ → ℕ} {h : ℕ} {xs : List ℕ} (t v : ℕ) → Absent t xs → Chain n g h xs → Chain n (alter g t v) h xs
chain-frame {n} {g} {h} {xs} t v a c = record { links = links-alter g t v h xs a c.links; distinct = c.distinct; below = c.below }

-- the link to the last, and d where there is none
abbrev pub final : ℕ → List ℕ → ℕ
final d [] = d
final d (x ∷ xs) = final (suc x) xs

pub final-end : (d : ℕ) (xs : List ℕ) (x : ℕ) → final d (xs ++ x ∷ []) ≡ suc x
final-end d [] x = refl
final-end d (y ∷ xs) x = final-end (suc y) xs x

-- a list is empty, or ends with the number that the link to its last says
pub final-split : (xs : List ℕ) → ((xs ≡ []) × (final 0 xs ≡ 0)) ⊎ ((ys : List ℕ) × (t : ℕ) × (xs ≡ ys ++ t ∷ []) × (final 0 xs ≡ suc t))
final-split [] = inl (refl, refl)
final-split (x ∷ []) = inr ([], x, refl, refl)
final-split (x ∷ y ∷ xs) =
    ⊎_elim (λ e. absurd (omega (arith, ap length e.0))) (λ r. inr (x ∷ r.0, r.1, ap (λ (l : List ℕ). x ∷ l) r.2, r.3)) (final-split (y ∷ xs))

-- a chain with the link to its last
pub record Queue (n : ℕ) (g : ℕ → ℕ) (h t : ℕ) (xs : List ℕ) : Type 0 where
  pub chain : Chain n g h xs
  pub ends : t ≡ final 0 xs

-- the links after i is put behind the last, and the first link then
abbrev pub push_links : (ℕ → ℕ) → ℕ → ℕ → ℕ → ℕ
push_links g zero i = alter g i 0
push_links g (suc t) i = alter (alter g i 0) t (suc i)

abbrev pub push_first : ℕ → ℕ → ℕ → ℕ
push_first h zero i = suc i
push_first h (suc t) i = h

links-last : (g : ℕ → ℕ) (h : ℕ) (xs : List ℕ) (t : ℕ) → Links g h (xs ++ t ∷ []) → g t ≡ 0
links-last g h [] t e = e.1
links-last g h (x ∷ xs) t e = links-last g (g x) xs t e.1

pub queue-push : {n : ℕ} {g : ℕ → ℕ} {h t : ℕ} {xs : List ℕ} (i : ℕ) → i < n → Absent i xs → Queue n g h t xs
    → Queue n (push_links g t i) (push_first h t i) (suc i) (xs ++ i ∷ [])
queue-push {n} {g} {h} {t} {xs} i l a q =
    record {
      chain = ⊎_elim none some (final-split xs);
      ends = sym (final-end 0 xs i);
    }
  where
    none : (xs ≡ []) × (final 0 xs ≡ 0) → Chain n (push_links g t i) (push_first h t i) (xs ++ i ∷ [])
    none e =
        let c : Chain n g h [] = subst (λ (ys : List ℕ). Chain n g h ys) e.0 q.chain in
        rw (q.ends ∙ e.1, e.0, ← c.links) (chain-front i l tt c)

    some : (ys : List ℕ) × (u : ℕ) × (xs ≡ ys ++ u ∷ []) × (final 0 xs ≡ suc u) → Chain n (push_links g t i) (push_first h t i) (xs ++ i ∷ [])
    some e =
        let c : Chain n g h (e.0 ++ e.1 ∷ []) = subst (λ (ys : List ℕ). Chain n g h ys) e.2 q.chain in
        rw (q.ends ∙ e.3, e.2, append_assoc, ← links-last g h e.0 e.1 c.links)
        (chain-behind e.0 e.1 i [] l (subst (λ (ys : List ℕ). Absent i ys) e.2 a) c)

-- the first link, and the list after it
abbrev pub first_link : List ℕ → ℕ
first_link [] = 0
first_link (x ∷ xs) = suc x

abbrev pub rest : List ℕ → List ℕ
rest [] = []
rest (x ∷ xs) = xs

-- the links after the number of the link h is taken off
abbrev pub pop_links : (ℕ → ℕ) → ℕ → ℕ → ℕ
pop_links g zero = g
pop_links g (suc i) = alter g i 0

-- the link to the last after the first is taken off
abbrev pub pop_last : ℕ → ℕ → ℕ
pop_last zero t = 0
pop_last (suc x) t = t

pub queue-pop : {n : ℕ} {g : ℕ → ℕ} {h t i : ℕ} {xs : List ℕ} → Queue n g h t (i ∷ xs) → Queue n (alter g i 0) (g i) (pop_last (g i) t) xs
queue-pop {n} {g} {h} {t} {i} {xs} q = record { chain = chain-rest 0 q.chain; ends = go xs q.chain.links.1 q.ends }
  where
    go : (ys : List ℕ) → Links g (g i) ys → t ≡ final (suc i) ys → pop_last (g i) t ≡ final 0 ys
    go [] e p = rw e
    go (y ∷ ys) e p = rw e.0 p

-- the link to the last is in range
pub queue-last : {n : ℕ} {g : ℕ → ℕ} {h t : ℕ} {xs : List ℕ} → Queue n g h t xs → t ≤ n
queue-last {n} {g} {h} {t} {xs} q = rw q.ends (go 0 xs (omega arith) q.chain.below)
  where
    go : (d : ℕ) (ys : List ℕ) → d ≤ n → Below n ys → final d ys ≤ n
    go d [] l b = l
    go d (y ∷ ys) l b = go (suc y) ys b.0 b.1

-- a chain is empty, or begins with the number that its first link says
pub chain_head : {n : ℕ} {g : ℕ → ℕ} {h : ℕ} {xs : List ℕ} → Chain n g h xs → h ≡ first_link xs
chain_head {n} {g} {h} {xs} c = go xs c.links
  where
    go : (ys : List ℕ) → Links g h ys → h ≡ first_link ys
    go [] e = e
    go (y ∷ ys) e = e.0

pub chain_first : {n : ℕ} {g : ℕ → ℕ} {h : ℕ} {xs : List ℕ} → Chain n g h xs → h ≤ n
chain_first {n} {g} {h} {xs} c = rw (chain_head c) (go xs c.below)
  where
    go : (ys : List ℕ) → Below n ys → first_link ys ≤ n
    go [] b = omega arith
    go (y ∷ ys) b = b.0

pub queue-none : {n : ℕ} {g : ℕ → ℕ} {h t : ℕ} {xs : List ℕ} → Queue n g h t xs → h ≡ 0 → (xs ≡ []) × (t ≡ 0)
queue-none {n} {g} {h} {t} {xs} q z = go xs q.chain.links q.ends
  where
    go : (ys : List ℕ) → Links g h ys → t ≡ final 0 ys → (ys ≡ []) × (t ≡ 0)
    go [] e p = (refl, p)
    go (y ∷ ys) e p = absurd (omega (arith, e.0))
