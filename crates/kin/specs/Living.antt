-- The pids of the living in an array, by age, and what a search there says of a parent.
use Rattle.std.specs.Prelude.{◌≡◌, refl, Bool, true, false, List, [], ◌∷◌, ℕ, zero, suc, ◌+◌, ◌≤◌, ◌<◌, ltb, length, get_or, take, drop, set}
use Rattle.std.proofs.Common.{sym, ap, subst, ◌∙◌, arith, ltb-true, ltb-false, length-set, get_or-set_same, get_or-set_other}
use Rattle.std.proofs.lemmas.List.{get_or-take, length-take-le}
use Rattle.machine.specs.Machine.{Sizes}
use Rattle.layout.specs.Memory.{Memory}
use Rattle.chain.specs.Lists.{Below, distinct-fits}
use Rattle.chain.specs.Links.{Links}
use Rattle.state.specs.Fields as fields
use Rattle.state.specs.WellFormed.{Used, age_list}
use Rattle.rules.specs.Facts.{KinOk}
use Rattle.kin.specs.Link.{kin_link, Child, link_of_lem, child_of}
use Rattle.kin.specs.Age.{Aged, Stands, stands, each_at, rising-at, pid-same}

-- The pids of the living, the oldest first.
pub record Filled (z : Sizes) (m : Memory) (ps : List ℕ) : Type 0 where
  pub count : length ps ≡ length (age_list z m)
  pub each : (k : ℕ) → k < length ps → get_or ps k 0 ≡ m fields.pid (get_or (age_list z m) k 0)

-- While it is: k are in it, and the links from `link` spell the rest.
pub record Filling (z : Sizes) (m : Memory) (ps : List ℕ) (link k : ℕ) : Type 0 where
  pub aged : Aged z m
  pub small : z.processes ≤ 4096
  pub size : length ps ≡ 4096
  pub range : link ≤ z.processes
  pub index : k ≤ length (age_list z m)
  pub most : k ≤ 4096
  pub rest : Links (m fields.younger) link (drop k (age_list z m))
  pub each : (j : ℕ) → j < k → get_or ps j 0 ≡ m fields.pid (get_or (age_list z m) j 0)

record Step (g : ℕ → ℕ) (link : ℕ) (xs : List ℕ) (k : ℕ) : Type 0 where
  pub below : k < length xs
  pub here : link ≡ suc (get_or xs k 0)
  pub rest : Links g (g (get_or xs k 0)) (drop (suc k) xs)

step-at : (g : ℕ → ℕ) (link : ℕ) (xs : List ℕ) (k : ℕ) → Links g link (drop k xs) → (link ≡ 0 → ⊥) → Step g link xs k
step-at g link [] zero l ne = absurd (ne l)
step-at g link [] (suc k) l ne = absurd (ne l)
step-at g link (x ∷ xs) zero l ne = record { below = omega arith; here = l.0; rest = l.1 }
step-at g link (x ∷ xs) (suc k) l ne =
    let s : Step g link xs k = step-at g link xs k l ne in record { below = omega (arith, s.below); here = s.here; rest = s.rest }

end-at : (g : ℕ → ℕ) (xs : List ℕ) (k : ℕ) → Links g 0 (drop k xs) → length xs ≤ k
end-at g [] k l = omega arith
end-at g (x ∷ xs) zero l = absurd (omega (arith, l.0))
end-at g (x ∷ xs) (suc k) l = omega (arith, end-at g xs k l)

first_below : (n : ℕ) (g : ℕ → ℕ) (h : ℕ) (xs : List ℕ) (k : ℕ) → Below n xs → Links g h (drop k xs) → h ≤ n
first_below n g h [] zero b l = omega (arith, l)
first_below n g h [] (suc k) b l = omega (arith, l)
first_below n g h (x ∷ xs) zero b l = omega (arith, l.0, b.0)
first_below n g h (x ∷ xs) (suc k) b l = first_below n g h xs k b.1 l

ages_fit : {z : Sizes} {m : Memory} → Aged z m → length (age_list z m) ≤ z.processes
ages_fit {z} {m} a = distinct-fits z.processes (age_list z m) a.ages.younger.chain.distinct a.ages.younger.chain.below

pub fill_start
    : {z : Sizes} {m : Memory} {ps : List ℕ} {link : ℕ} → Aged z m → z.processes ≤ 4096 → length ps ≡ 4096 → link ≡ m fields.oldest 0 → Filling z m ps link 0
fill_start {z} {m} {ps} {link} a s p e =
    let l : Links (m fields.younger) link (drop 0 (age_list z m)) = rw e a.ages.younger.chain.links in
    record {
      aged = a;
      small = s;
      size = p;
      range = first_below z.processes (m fields.younger) link (age_list z m) 0 a.ages.younger.chain.below l;
      index = omega arith;
      most = omega arith;
      rest = l;
      each = λ j h. absurd (omega arith);
    }

-- There is room for one more.
room : {z : Sizes} {m : Memory} {ps : List ℕ} {i k : ℕ} → Filling z m ps (suc i) k → k < 4096
room {z} {m} {ps} {i} {k} f =
    omega (arith, (step-at (m fields.younger) (suc i) (age_list z m) k f.rest (λ e. omega arith)).below, ages_fit f.aged, f.small)

pub fill-room : {z : Sizes} {m : Memory} {ps : List ℕ} {i k : ℕ} → Filling z m ps (suc i) k → k < length ps
fill-room {z} {m} {ps} {i} {k} f = omega (arith, room f, f.size)

pub fill-index : {z : Sizes} {m : Memory} {ps : List ℕ} {i k : ℕ} → Filling z m ps (suc i) k → i < z.processes
fill-index f = omega (arith, f.range)

pub fill_more
    : {z : Sizes} {m : Memory} {ps ps' : List ℕ} {i link' k v : ℕ}
    → Filling z m ps (suc i) k
    → v ≡ m fields.pid i
    → ps' ≡ set ps k v
    → link' ≡ m fields.younger i
    → Filling z m ps' link' (k + 1)
fill_more {z} {m} {ps} {ps'} {i} {link'} {k} {v} f e d g =
    let s : Step (m fields.younger) (suc i) (age_list z m) k = step-at (m fields.younger) (suc i) (age_list z m) k f.rest (λ x. omega arith) in
    let x : i ≡ get_or (age_list z m) k 0 = omega (arith, s.here) in
    let l : Links (m fields.younger) link' (drop (suc k) (age_list z m)) = rw (g, x) s.rest in
    let r : k + 1 ≡ suc k = omega arith in
    let b : k < length ps = omega (arith, room f, f.size) in
    record {
      aged = f.aged;
      small = f.small;
      size = rw d (length-set ps k v ∙ f.size);
      range = first_below z.processes (m fields.younger) link' (age_list z m) (suc k) f.aged.ages.younger.chain.below l;
      index = omega (arith, s.below);
      most = omega (arith, room f);
      rest = rw r l;
      each = λ j h. rw d (go j (omega arith) b x (ltb j k) refl);
    }
  where
    go
        : (j : ℕ)
        → j ≤ k
        → k < length ps
        → i ≡ get_or (age_list z m) k 0
        → (t : Bool)
        → ltb j k ≡ t
        → get_or (set ps k v) j 0 ≡ m fields.pid (get_or (age_list z m) j 0)
    go j h b x true p = let o : j < k = ltb-true j k p in get_or-set_other ps k j v 0 (omega arith) ∙ f.each j o
    go j h b x false p =
        let o : k ≡ j = omega (arith, ltb-false j k p) in
        subst (λ (y : ℕ). get_or (set ps k v) y 0 ≡ m fields.pid (get_or (age_list z m) y 0)) o
        (get_or-set_same ps k v 0 b ∙ e ∙ ap (m fields.pid) x)

pub fill_end : {z : Sizes} {m : Memory} {ps : List ℕ} {k : ℕ} → Filling z m ps 0 k → (k ≤ length ps) × Filled z m (take k ps)
fill_end {z} {m} {ps} {k} f =
    let h : k ≤ length ps = omega (arith, f.most, f.size) in
    let n : length (take k ps) ≡ k = length-take-le k ps h in (
      h,
      record {
        count = omega (arith, end-at (m fields.younger) (age_list z m) k f.rest, f.index, n);
        each = λ j l. get_or-take k ps j 0 (omega (arith, n)) ∙ f.each j (omega (arith, n));
      },
    )

-- The pids rise.
pub filled_rises
    : {z : Sizes} {m : Memory} {ps : List ℕ} → Aged z m → Filled z m ps → (a b : ℕ) → a ≤ b → b < length ps → get_or ps a 0 ≤ get_or ps b 0
filled_rises {z} {m} {ps} a f x y h l = go (ltb x y) refl
  where
    go : (t : Bool) → ltb x y ≡ t → get_or ps x 0 ≤ get_or ps y 0
    go true p =
        rw (f.each x (omega arith), f.each y l)
        (omega (arith, rising-at (m fields.pid) (age_list z m) a.ages.rising x y (ltb-true x y p) (omega (arith, f.count))))
    go false p = let e : x ≡ y = omega (arith, ltb-false x y p) in rw e (omega arith)

-- x stands among them.
pub record Has (ps : List ℕ) (x : ℕ) : Type 0 where
  pub at : ℕ
  pub below : at < length ps
  pub same : get_or ps at 0 ≡ x

-- Who has the pid x lives, and the other way round.
record Owner (z : Sizes) (m : Memory) (x : ℕ) : Type 0 where
  pub record' : ℕ
  pub below : record' < z.processes
  pub used : Used m record'
  pub same : m fields.pid record' ≡ x

owner_of : {z : Sizes} {m : Memory} {ps : List ℕ} {x : ℕ} → Aged z m → Filled z m ps → Has ps x → Owner z m x
owner_of {z} {m} {ps} {x} a f h =
    let l : h.at < length (age_list z m) = omega (arith, h.below, f.count) in
    record {
      record' = get_or (age_list z m) h.at 0;
      below = each_at (λ i. i < z.processes) (age_list z m) a.ages.younger.chain.below h.at l;
      used = each_at (Used m) (age_list z m) a.ages.used h.at l;
      same = sym (f.each h.at h.below) ∙ h.same;
    }

has_of : {z : Sizes} {m : Memory} {ps : List ℕ} {x : ℕ} → Aged z m → Filled z m ps → (j : ℕ) → j < z.processes → Used m j → x ≡ m fields.pid j → Has ps x
has_of {z} {m} {ps} {x} a f j l u e =
    let s : Stands (age_list z m) j = stands (age_list z m) j (a.living j l u) in
    let b : s.at < length ps = omega (arith, s.below, f.count) in
    record { at = s.at; below = b; same = f.each s.at b ∙ ap (m fields.pid) s.same ∙ sym e }

-- Record i names its parent rightly, if it is used.
abbrev pub Named : Sizes → Memory → ℕ → Type 0
Named z m i = Used m i → KinOk z m i

pub record ParentOk (z : Sizes) (m : Memory) (i : ℕ) : Type 0 where
  pub named : Named z m i

-- Each way out of the test of one record.
pub named-free : (z : Sizes) (m : Memory) {i p : ℕ} → p ≡ m fields.pid i → p ≡ 0 → Named z m i
named-free z m e d u = absurd (omega (arith, e, u))

pub named_none : (z : Sizes) (m : Memory) {i q : ℕ} → q ≡ m fields.parent i → q ≡ 0 → Named z m i
named_none z m {i} {q} e d u j l v s = absurd (omega (arith, v, e, s))

pub named-link
    : {z : Sizes} {m : Memory} {i x : ℕ} → Aged z m → ((k : ℕ) → m fields.parent_at k ≤ z.processes) → suc x ≡ kin_link m i → Named z m i
named-link {z} {m} {i} {x} a r e u j b v s =
    let c : Child m i x = child_of (sym e) in
    let w : x < z.processes = omega (arith, r i, c.at) in
    let y : Used m x = omega (arith, c.has, c.same) in
    c.at ∙ ap suc (pid-same a x j w b y v (c.same ∙ s))

-- Nobody has the parent's pid; somebody has, and is not linked.
module _ {z : Sizes} {m : Memory} {ps : List ℕ} (a : Aged z m) (f : Filled z m ps) {i q : ℕ} (d : q ≡ m fields.parent i) where
  pub named-gone : (Has ps q → ⊥) → Named z m i
  named-gone w u j b v s = absurd (w (has_of a f j b v (d ∙ s)))

  pub named-not : {p : ℕ} → p ≡ m fields.pid i → (p ≡ 0 → ⊥) → (q ≡ 0 → ⊥) → 0 ≡ kin_link m i → Has ps q → Named z m i → ⊥
  named-not {p} e ne nd k w ok =
      let o : Owner z m q = owner_of a f w in
      let u : Used m i = omega (arith, e, ne) in
      let v : m fields.parent_at i ≡ suc o.record' = ok u o.record' o.below o.used (sym d ∙ sym o.same) in
      let c : Child m i o.record' = record { used = u; has = omega (arith, d, nd); at = v; same = o.same ∙ d } in
      omega (arith, link_of_lem c, k)
