-- What the stores of age go to: the machine uses it, for neighbours in age live.
use Rattle.std.specs.Prelude.{◌≡◌, refl, List, [], ◌∷◌, reverse, ℕ, zero, suc, ◌<◌}
use Rattle.std.proofs.Common.{ap, subst, ◌∙◌, arith, lit<}
use Rattle.std.proofs.lemmas.List.{reverse-reverse}
use Rattle.machine.specs.Machine as machine
use Rattle.machine.specs.Good.{Each}
use Rattle.lists.specs.Lists.{each-count, count-each}
use Rattle.layout.specs.Memory.{Memory, alter}
use Rattle.layout.specs.Writes.{to}
use Rattle.chain.specs.Lists.{Absent}
use Rattle.chain.specs.Links.{Links, alter-same, alter-other}
use Rattle.chain.specs.Prefix.{links-distinct}
use Rattle.state.specs.Fields as fields
use Rattle.state.specs.Places.{sizes_in}
use Rattle.state.specs.WellFormed.{Used, age_list, Ages}
use Rattle.state.specs.declared.Sizes.{Sizes}
use Rattle.holds.specs.Use.{used_by, InUse, EachInUse, none, more, before, after, in_use-runs}
use Rattle.ages.specs.Lists.{each-reverse}
use Rattle.ages.specs.Both.{tie_links}
use Rattle.ages.specs.Ties.{tie_stores}
use Rattle.ages.specs.Kept.{used-listed, listed-used}
use Rattle.ages.specs.In.{age_in_stores}
use Rattle.ages.specs.Out.{age_out_stores, age_out_mem}

-- Link x of g leads to one that has P, if to any.
abbrev LeadsTo : (ℕ → Type 0) → ℕ → Type 0
LeadsTo P x = (u : ℕ) → x ≡ suc u → P u

-- Where each of a chain has P, its first link and the links of each lead to one that has.
links_lead : (P : ℕ → Type 0) (g : ℕ → ℕ) (h : ℕ) (xs : List ℕ) → Links g h xs → Each P xs → LeadsTo P h × Each (λ x. LeadsTo P (g x)) xs
links_lead P g h [] e a = (λ u q. absurd (omega (arith, e, q)), tt)
links_lead P g h (x ∷ xs) e a =
    let r : LeadsTo P (g x) × Each (λ x. LeadsTo P (g x)) xs = links_lead P g (g x) xs e.1 a.1 in
    (λ u q. subst P (omega (arith, e.0, q)) a.0, (r.0, r.1))

module _ {z : machine.Sizes} {m : Memory} (a : Ages z m) where
  all-used : Each (Used m) (age_list z m)
  all-used = count-each (Used m) (age_list z m) (listed-used a)

  -- The youngest lives, and so do the next younger and the next older of whoever lives.
  forth : LeadsTo (Used m) (m fields.oldest 0) × Each (λ x. LeadsTo (Used m) (m fields.younger x)) (age_list z m)
  forth = links_lead (Used m) (m fields.younger) (m fields.oldest 0) (age_list z m) a.younger.chain.links all-used

  back : LeadsTo (Used m) (m fields.youngest 0) × Each (λ x. LeadsTo (Used m) (m fields.older x)) (reverse (age_list z m))
  back =
      links_lead (Used m) (m fields.older) (m fields.youngest 0) (reverse (age_list z m)) a.older (each-reverse (Used m) (age_list z m) all-used)

  younger-used : (i : ℕ) → Used m i → LeadsTo (Used m) (m fields.younger i)
  younger-used i u = each-count (λ x. LeadsTo (Used m) (m fields.younger x)) (age_list z m) forth.1 i (used-listed a i u)

  older-used : (i : ℕ) → Used m i → LeadsTo (Used m) (m fields.older i)
  older-used i u =
      let P : ℕ → Type 0 = λ x. LeadsTo (Used m) (m fields.older x) in
      each-count P (age_list z m)
      (subst (λ (l : List ℕ). Each P l) (reverse-reverse (age_list z m)) (each-reverse P (reverse (age_list z m)) back.1)) i (used-listed a i u)

-- A link that is tied: that of i, and that of its neighbour or of the header.
tie_in_use
    : {z : Sizes} {m m' : Memory} (f e t v i : ℕ)
    → InUse z m m' (to f i 0)
    → InUse z m m' (to e 0 v)
    → ((u : ℕ) → t ≡ suc u → InUse z m m' (to f u v))
    → EachInUse z m m' (tie_stores f e t v i)
tie_in_use f e zero v i h a b = more h (more a none)
tie_in_use f e (suc t) v i h a b = more h (more (b t refl) none)

-- i, who lives after, is put behind the youngest.
pub in_in_use : {z : Sizes} {m m' : Memory} (i : ℕ) → Ages (sizes_in z) m → 0 < m' fields.pid i → EachInUse z m m' (age_in_stores m i)
unfolding used_by
in_in_use {m = m} i a u =
    more (after u)
    (in_use-runs
    (tie_in_use fields.younger fields.oldest (m fields.youngest 0) (suc i) i (after u) (before (lit< tt)) (λ x q. before ((back a).0 x q)))
    (more (before (lit< tt)) none))

-- i, who lives before, is taken from between its neighbours.
pub out_in_use : {z : Sizes} {m m' : Memory} (i : ℕ) → Ages (sizes_in z) m → Used m i → EachInUse z m m' (age_out_stores m i)
unfolding used_by
out_in_use {m = m} i a u =
    in_use-runs
    (tie_in_use fields.younger fields.oldest (m fields.older i) (m fields.younger i) i (before u) (before (lit< tt)) (λ x q. before (older-used a i u x q)))
    (tie_in_use fields.older fields.youngest (m fields.younger i) (m fields.older i) i (before u) (before (lit< tt)) (λ x q. before (younger-used a i u x q)))

-- Nobody is its own next, so that the links of i, once it is taken out, are 0.
next-other : (g : ℕ → ℕ) (h : ℕ) (xs : List ℕ) → Links g h xs → Each (λ x. g x ≡ suc x → ⊥) xs
next-other g h [] l = tt
next-other g h (x ∷ xs) l = (first xs (links-distinct g h (x ∷ xs) l).0 l.1, next-other g (g x) xs l.1)
  where
    first : (ys : List ℕ) → Absent x ys → Links g (g x) ys → g x ≡ suc x → ⊥
    first [] a k e = omega (arith, k, e)
    first (y ∷ ys) a k e = a.0 (omega (arith, k.0, e))

tied_out : (g : ℕ → ℕ) (at v i : ℕ) → (at ≡ suc i → ⊥) → tie_links g at v i i ≡ 0
tied_out g zero v i ne = alter-same g i 0
tied_out g (suc t) v i ne = alter-other (alter g i 0) t v i (λ e. ne (ap suc e)) ∙ alter-same g i 0

module _ {z : machine.Sizes} {m : Memory} (a : Ages z m) (i : ℕ) (u : Used m i) where
  pub younger_out : age_out_mem m i fields.younger i ≡ 0
  younger_out =
      let P : ℕ → Type 0 = λ x. m fields.older x ≡ suc x → ⊥ in
      tied_out (m fields.younger) (m fields.older i) (m fields.younger i) i
      (each-count P (age_list z m)
      (subst (λ (l : List ℕ). Each P l) (reverse-reverse (age_list z m))
      (each-reverse P (reverse (age_list z m)) (next-other (m fields.older) (m fields.youngest 0) (reverse (age_list z m)) a.older))) i (used-listed a i u))

  pub older_out : age_out_mem m i fields.older i ≡ 0
  older_out =
      tied_out (m fields.older) (m fields.younger i) (m fields.older i) i
      (each-count (λ x. m fields.younger x ≡ suc x → ⊥) (age_list z m)
      (next-other (m fields.younger) (m fields.oldest 0) (age_list z m) a.younger.chain.links) i (used-listed a i u))
