-- Walking a queue by its links: one theory for every link field. g is the link function, h the head, P what each number met must meet.
use Rattle.std.specs.Prelude.{◌≡◌, refl, List, [], ◌∷◌, ◌++◌, reverse, ℕ, suc, ◌+◌, ◌-◌, ◌≤◌, length}
use Rattle.std.proofs.Common.{sym, ap, subst, ◌∙◌, append_assoc, arith, length-append}
use Rattle.std.proofs.lemmas.List.{reverse-append}
use Rattle.machine.specs.Good.{Each}
use Rattle.chain.specs.Lists.{distinct-fits}
use Rattle.chain.specs.Links.{Links, Chain, chain-walk, walk, final, final-end}
use Rattle.chain.specs.Prefix.{Prefix, prefix-links, prefix-more, prefix-end, links-distinct, links-below}

-- The walk so far: k numbers were met, each of them meets P, the last of them is linked by `last` (0 for none), the next link is `link`.
pub record Walking (g : ℕ → ℕ) (P : ℕ → Type 0) (h link last k : ℕ) : Type 0 where
  pub seen : List ℕ
  pub prefix : Prefix g h seen link
  pub each : Each P seen
  pub count : length seen ≡ k
  pub ends : last ≡ final 0 seen

pub walk_start : {g : ℕ → ℕ} {P : ℕ → Type 0} {h : ℕ} → Walking g P h h 0 0
walk_start = record { seen = []; prefix = refl; each = tt; count = refl; ends = refl }

pub each_more : (P : ℕ → Type 0) (xs : List ℕ) (x : ℕ) → Each P xs → P x → Each P (xs ++ x ∷ [])
each_more P [] x a p = (p, tt)
each_more P (y ∷ xs) x a p = (a.0, each_more P xs x a.1 p)

-- One number more.
pub walk-more
    : {g : ℕ → ℕ} {P : ℕ → Type 0} {h link last k link' k' : ℕ}
    → Walking g P h link last k
    → (link ≡ 0 → ⊥)
    → P (link - 1)
    → link' ≡ g (link - 1)
    → k' ≡ k + 1
    → Walking g P h link' link k'
walk-more {g} {P} {h} {link} {last} {k} {link'} {k'} w ne p e c =
    let d : link ≡ suc (link - 1) = omega arith in
    record {
      seen = w.seen ++ (link - 1) ∷ [];
      prefix = rw e (prefix-more g h w.seen (link - 1) (subst (λ (x : ℕ). Prefix g h w.seen x) d w.prefix));
      each = each_more P w.seen (link - 1) w.each p;
      count = omega (arith, w.count, length-append w.seen ((link - 1) ∷ []));
      ends = d ∙ sym (final-end 0 w.seen (link - 1));
    }

-- A chain below n that hangs at h is at most n long, so where n numbers were met and the next link is not 0 there is none.
pub walk-long
    : {n : ℕ} {g : ℕ → ℕ} {P : ℕ → Type 0} {h link last k : ℕ} {xs : List ℕ}
    → Walking g P h link last k
    → (link ≡ 0 → ⊥)
    → n ≤ k
    → Chain n g h xs
    → ⊥
walk-long {n} {g} {P} {h} {link} {last} {k} {xs} w ne l c =
    ne (prefix-end g h w.seen xs link w.prefix c.links (omega (arith, distinct-fits n xs c.distinct c.below, w.count)))

-- A chain that hangs at h goes on with the next number, so where that fails P not each number of it meets P.
prefix-bad : (g : ℕ → ℕ) (P : ℕ → Type 0) (h : ℕ) (seen xs : List ℕ) (i : ℕ) → Prefix g h seen (suc i) → Links g h xs → (P i → ⊥) → Each P xs → ⊥
prefix-bad g P h [] [] i p l b a = absurd (omega (arith, p, l))
prefix-bad g P h [] (x ∷ xs) i p l b a = b (subst P (omega (arith, p, l.0)) a.0)
prefix-bad g P h (y ∷ seen) [] i p l b a = absurd (omega (arith, p.0, l))
prefix-bad g P h (y ∷ seen) (x ∷ xs) i p l b a =
    let e : x ≡ y = omega (arith, p.0, l.0) in
    prefix-bad g P (g y) seen xs i p.1 (subst (λ (u : ℕ). Links g (g u) xs) e l.1) b a.1

pub walk-bad
    : {n : ℕ} {g : ℕ → ℕ} {P : ℕ → Type 0} {h link last k : ℕ} {xs : List ℕ}
    → Walking g P h link last k
    → (link ≡ 0 → ⊥)
    → (P (link - 1) → ⊥)
    → Chain n g h xs
    → Each P xs
    → ⊥
walk-bad {n} {g} {P} {h} {link} {last} {k} {xs} w ne b c a =
    let d : link ≡ suc (link - 1) = omega arith in
    prefix-bad g P h w.seen xs (link - 1) (subst (λ (x : ℕ). Prefix g h w.seen x) d w.prefix) c.links b a

-- What a walk that has ended shows: the list that hangs at h, however far one walks at most, is what was met.
pub record Walked (n : ℕ) (g : ℕ → ℕ) (P : ℕ → Type 0) (h last k : ℕ) : Type 0 where
  pub chain : Chain n g h (walk n g h)
  pub each : Each P (walk n g h)
  pub count : length (walk n g h) ≡ k
  pub ends : last ≡ final 0 (walk n g h)

pub walk_end
    : {n : ℕ} {g : ℕ → ℕ} {P : ℕ → Type 0} {h link last k : ℕ}
    → Walking g P h link last k
    → link ≡ 0
    → h ≤ n
    → ((i : ℕ) → g i ≤ n)
    → Walked n g P h last k
walk_end {n} {g} {P} {h} {link} {last} {k} w e b r =
    let l : Links g h w.seen = prefix-links g h w.seen (subst (λ (x : ℕ). Prefix g h w.seen x) e w.prefix) in
    let c : Chain n g h w.seen =
    record { links = l; distinct = links-distinct g h w.seen l; below = links-below n g h w.seen b r l }
    in
    let q : walk n g h ≡ w.seen = chain-walk c in
    record { chain = rw q c; each = rw q w.each; count = rw q w.count; ends = rw q w.ends }

-- A list turned round about one of its numbers.
pub reverse_about : (xs : List ℕ) (x : ℕ) (ys : List ℕ) → reverse (xs ++ x ∷ ys) ≡ reverse ys ++ x ∷ reverse xs
reverse_about xs x ys =
    reverse-append xs (x ∷ ys)
    ∙ ap (λ (l : List ℕ). l ++ reverse xs) (reverse-append (x ∷ []) ys)
    ∙ append_assoc (reverse ys) (x ∷ []) (reverse xs)
