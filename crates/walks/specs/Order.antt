-- What goes with a walk: the list of what was met, that it stands in order by a key, and that it is linked backwards too.
use Rattle.std.specs.Prelude.{◌≡◌, refl, List, [], ◌∷◌, ◌++◌, reverse, ℕ, suc, ◌+◌, ◌-◌, ◌≤◌, ◌<◌, length}
use Rattle.std.proofs.Common.{sym, ap, subst, ◌∙◌, arith, length-append}
use Rattle.std.proofs.lemmas.List.{reverse-append}
use Rattle.machine.specs.Good.{Each}
use Rattle.chain.specs.Lists.{all_map}
use Rattle.chain.specs.Links.{Links, Chain, final, final-end}
use Rattle.chain.specs.Ordered.{Sorted}
use Rattle.state.specs.WellFormed.{Rising}
use Rattle.chain.specs.Prefix.{Prefix, prefix-links, prefix-more, links-distinct, links-below}
use Rattle.rules.specs.Walk.{Walking, each_more, walk-long, walk-bad, reverse_about}

-- `Walking` with what was met in sight.
pub record Trail (g : ℕ → ℕ) (P : ℕ → Type 0) (h link last k : ℕ) (xs : List ℕ) : Type 0 where
  pub prefix : Prefix g h xs link
  pub each : Each P xs
  pub count : length xs ≡ k
  pub ends : last ≡ final 0 xs

pub trail-walking : {g : ℕ → ℕ} {P : ℕ → Type 0} {h link last k : ℕ} {xs : List ℕ} → Trail g P h link last k xs → Walking g P h link last k
trail-walking {xs = xs} t = record { seen = xs; prefix = t.prefix; each = t.each; count = t.count; ends = t.ends }

pub trail-start : {g : ℕ → ℕ} {P : ℕ → Type 0} {h : ℕ} → Trail g P h h 0 0 []
trail-start = record { prefix = refl; each = tt; count = refl; ends = refl }

-- One number more.
pub trail_more
    : {g : ℕ → ℕ} {P : ℕ → Type 0} {h i last k link' : ℕ} {xs : List ℕ}
    → Trail g P h (suc i) last k xs
    → P i
    → link' ≡ g i
    → Trail g P h link' (suc i) (k + 1) (xs ++ i ∷ [])
trail_more {g} {P} {h} {i} {last} {k} {link'} {xs} t p e =
    record {
      prefix = rw e (prefix-more g h xs i t.prefix);
      each = each_more P xs i t.each p;
      count = omega (arith, t.count, length-append xs (i ∷ []));
      ends = sym (final-end 0 xs i);
    }

-- A chain below n that hangs at h is at most n long, and each number of it is met.
pub trail-long
    : {n : ℕ} {g : ℕ → ℕ} {P : ℕ → Type 0} {h i last k : ℕ} {xs ys : List ℕ}
    → Trail g P h (suc i) last k xs
    → n ≤ k
    → Chain n g h ys
    → ⊥
trail-long t l c = walk-long (trail-walking t) (λ e. omega arith) l c

pub trail-bad
    : {n : ℕ} {g : ℕ → ℕ} {P : ℕ → Type 0} {h i last k : ℕ} {xs ys : List ℕ}
    → Trail g P h (suc i) last k xs
    → (P i → ⊥)
    → Chain n g h ys
    → Each P ys
    → ⊥
trail-bad {P = P} {i = i} t b c a =
    let e : i ≡ suc i - 1 = omega arith in
    walk-bad (trail-walking t) (λ d. omega arith) (subst (λ (x : ℕ). P x → ⊥) e b) c a

-- A walk that has ended has met a chain.
pub trail-chain
    : {n : ℕ} {g : ℕ → ℕ} {P : ℕ → Type 0} {h last k : ℕ} {xs : List ℕ}
    → Trail g P h 0 last k xs
    → h ≤ n
    → ((i : ℕ) → g i ≤ n)
    → Chain n g h xs
trail-chain {n} {g} {P} {h} {last} {k} {xs} t b r =
    let l : Links g h xs = prefix-links g h xs t.prefix in
    record { links = l; distinct = links-distinct g h xs l; below = links-below n g h xs b r l }

-- A chain from the same head goes on with the next number.
pub prefix-split
    : (g : ℕ → ℕ) (h : ℕ) (xs ys : List ℕ) (i : ℕ)
    → Prefix g h xs (suc i)
    → Links g h ys
    → (vs : List ℕ) × (ys ≡ xs ++ i ∷ vs)
prefix-split g h [] [] i p l = absurd (omega (arith, p, l))
prefix-split g h [] (y ∷ ys) i p l = let e : y ≡ i = omega (arith, p, l.0) in (ys, ap (λ (k : ℕ). k ∷ ys) e)
prefix-split g h (x ∷ xs) [] i p l = absurd (omega (arith, p.0, l))
prefix-split g h (x ∷ xs) (y ∷ ys) i p l =
    let e : y ≡ x = omega (arith, p.0, l.0) in
    let r : (vs : List ℕ) × (ys ≡ xs ++ i ∷ vs) = prefix-split g (g x) xs ys i p.1 (subst (λ (k : ℕ). Links g (g k) ys) e l.1) in
    (r.0, subst (λ (k : ℕ). y ∷ ys ≡ k ∷ (xs ++ i ∷ r.0)) e (ap (λ (us : List ℕ). y ∷ us) r.1))

pub trail-split
    : {g : ℕ → ℕ} {P : ℕ → Type 0} {h i last k : ℕ} {xs ys : List ℕ}
    → Trail g P h (suc i) last k xs
    → Links g h ys
    → (vs : List ℕ) × (ys ≡ xs ++ i ∷ vs)
trail-split {g} {P} {h} {i} {last} {k} {xs} {ys} t l = prefix-split g h xs ys i t.prefix l

-- Each `hi` is at most the `lo` of all after it: with the key for both this is `Sorted`, with one more for `hi` it is `Rising`.
abbrev pub Ordered : (ℕ → ℕ) → (ℕ → ℕ) → List ℕ → Type 0
Ordered lo hi [] = Unit {0}
Ordered lo hi (x ∷ xs) = Each (λ y. hi x ≤ lo y) xs × Ordered lo hi xs

pub sorted_of : (key : ℕ → ℕ) (xs : List ℕ) → Ordered key key xs → Sorted key xs
sorted_of key [] o = tt
sorted_of key (x ∷ xs) o = (o.0, sorted_of key xs o.1)

pub ordered_of : (key : ℕ → ℕ) (xs : List ℕ) → Sorted key xs → Ordered key key xs
ordered_of key [] o = tt
ordered_of key (x ∷ xs) o = (o.0, ordered_of key xs o.1)

pub rising_of : (key : ℕ → ℕ) (xs : List ℕ) → Ordered key (λ i. suc (key i)) xs → Rising key xs
rising_of key [] o = tt
rising_of key (x ∷ xs) o = (o.0, rising_of key xs o.1)

pub ordered-rising : (key : ℕ → ℕ) (xs : List ℕ) → Rising key xs → Ordered key (λ i. suc (key i)) xs
ordered-rising key [] o = tt
ordered-rising key (x ∷ xs) o = (o.0, ordered-rising key xs o.1)

pub each_of : {P : ℕ → Type 0} → ((x : ℕ) → P x) → (xs : List ℕ) → Each P xs
each_of f [] = tt
each_of f (x ∷ xs) = (f x, each_of f xs)

-- The `hi` of the last, and d where there is none.
abbrev pub top_of : (ℕ → ℕ) → ℕ → List ℕ → ℕ
top_of hi d [] = d
top_of hi d (x ∷ xs) = top_of hi (hi x) xs

top-end : (hi : ℕ → ℕ) (d : ℕ) (xs : List ℕ) (x : ℕ) → top_of hi d (xs ++ x ∷ []) ≡ hi x
top-end hi d [] x = refl
top-end hi d (y ∷ xs) x = top-end hi (hi y) xs x

-- What was met stands in order, and the `hi` of the last is d, which none is above; d₀ is d where nothing was met.
pub record Ranked (lo hi : ℕ → ℕ) (d₀ d : ℕ) (xs : List ℕ) : Type 0 where
  pub ordered : Ordered lo hi xs
  pub under : Each (λ y. hi y ≤ d) xs
  pub top : d ≡ top_of hi d₀ xs

pub ranked-start : {lo hi : ℕ → ℕ} {d : ℕ} → Ranked lo hi d d []
ranked-start = record { ordered = tt; under = tt; top = refl }

ordered-more : (lo hi : ℕ → ℕ) (d : ℕ) (xs : List ℕ) (x : ℕ) → Ordered lo hi xs → Each (λ y. hi y ≤ d) xs → d ≤ lo x → Ordered lo hi (xs ++ x ∷ [])
ordered-more lo hi d [] x o u l = (tt, tt)
ordered-more lo hi d (y ∷ xs) x o u l =
    (each_more (λ k. hi y ≤ lo k) xs x o.0 (omega (arith, u.0, l)), ordered-more lo hi d xs x o.1 u.1 l)

pub ranked-more
    : {lo hi : ℕ → ℕ} {d₀ d : ℕ} {xs : List ℕ} (x : ℕ)
    → lo x ≤ hi x
    → Ranked lo hi d₀ d xs
    → d ≤ lo x
    → Ranked lo hi d₀ (hi x) (xs ++ x ∷ [])
ranked-more {lo} {hi} {d₀} {d} {xs} x w r l =
    record {
      ordered = ordered-more lo hi d xs x r.ordered r.under l;
      under = each_more (λ y. hi y ≤ hi x) xs x (all_map (λ y h. omega (arith, h, w, l)) xs r.under) (omega arith);
      top = sym (top-end hi d₀ xs x);
    }

-- In an ordered list the next number's `lo` is at least the `hi` of the last before it.
ordered-next
    : (lo hi : ℕ → ℕ) (d : ℕ) (xs : List ℕ) (x : ℕ) (ys : List ℕ)
    → Each (λ y. d ≤ lo y) (xs ++ x ∷ ys)
    → Ordered lo hi (xs ++ x ∷ ys)
    → top_of hi d xs ≤ lo x
ordered-next lo hi d [] x ys a o = a.0
ordered-next lo hi d (y ∷ xs) x ys a o = ordered-next lo hi (hi y) xs x ys o.0 o.1

pub ranked-bad
    : {lo hi : ℕ → ℕ} {d₀ d : ℕ} {xs : List ℕ} (x : ℕ) (ys : List ℕ)
    → Ranked lo hi d₀ d xs
    → lo x < d
    → Each (λ y. d₀ ≤ lo y) (xs ++ x ∷ ys)
    → Ordered lo hi (xs ++ x ∷ ys)
    → ⊥
ranked-bad {lo} {hi} {d₀} {d} {xs} x ys r l a o = omega (arith, ordered-next lo hi d₀ xs x ys a o, r.top, l)

-- Links backwards: one number more, and what they show of a list that goes on.
pub back_more : (g : ℕ → ℕ) (h : ℕ) (xs : List ℕ) (x : ℕ) → Links g h (reverse xs) → g x ≡ h → Links g (suc x) (reverse (xs ++ x ∷ []))
back_more g h xs x l e = rw (reverse-append xs (x ∷ [])) (refl, rw e l)

-- The first link is fixed by the list.
first-same : (g : ℕ → ℕ) (h k : ℕ) (xs : List ℕ) → Links g h xs → Links g k xs → h ≡ k
first-same g h k [] p q = p ∙ sym q
first-same g h k (x ∷ xs) p q = p.0 ∙ sym q.0

links-after : (g : ℕ → ℕ) (h : ℕ) (us : List ℕ) (x : ℕ) (vs : List ℕ) → Links g h (us ++ x ∷ vs) → Links g (g x) vs
links-after g h [] x vs l = l.1
links-after g h (u ∷ us) x vs l = links-after g (g u) us x vs l.1

pub back-same
    : (g : ℕ → ℕ) (h t : ℕ) (xs : List ℕ) (x : ℕ) (ys : List ℕ)
    → Links g h (reverse xs)
    → Links g t (reverse (xs ++ x ∷ ys))
    → g x ≡ h
back-same g h t xs x ys l m =
    first-same g (g x) h (reverse xs) (links-after g t (reverse ys) x (reverse xs) (subst (λ (us : List ℕ). Links g t us) (reverse_about xs x ys) m)) l
