-- The facts of parents and children, and what the code shows of them.
use Rattle.std.specs.Prelude.{◌≡◌, refl, Bool, true, false, not, Option, Some, None, IsTrue, ◌↔◌, List, [], ◌∷◌, ℕ, suc, ◌≤◌, ◌<◌, eqb, length, get_or}
use Rattle.std.specs.Option.{is_some}
use Rattle.std.proofs.Common.{sym, ap, ◌∙◌, arith, eq-eqb, eqb-true}
use Rattle.std.proofs.lemmas.Bool.{false≢true, and_from, and_parts}
use Rattle.memory.specs.Link.{link}
use Rattle.machine.specs.Basics.{count}
use Rattle.machine.specs.Machine as machine
use Rattle.layout.specs.Memory.{Memory}
use Rattle.state.specs.Fields as fields
use Rattle.state.specs.Abs.{is_set}
use Rattle.state.specs.WellFormed.{Used, age_list}
use Rattle.state.specs.declared.Sizes.{Sizes}
use Rattle.rules.specs.Code.{mem_in, Whole}
use Rattle.rules.specs.Read.{field-most}
use Rattle.rules.specs.Facts.{KinOk, count_below, is_child_of}
use Rattle.kin.specs.Link.{kin_link, Child, link_of_lem, child_of}
use Rattle.chain.specs.Links.{Links}
use Rattle.kin.specs.Age.{Aged}
use Rattle.kin.specs.Living.{Named}
use Rattle.rules.specs.Counting.{count_same}
use Rattle.rules.specs.Tests.{set_test, test_set}
use Rattle.kin.specs.Count.{names, Counting}

-- An array of zeros to count in.
pub record CountAsks (cs : List ℕ) : Type 0 where
  pub size : length cs ≡ 4096
  pub zero : (j : ℕ) → get_or cs j 0 ≡ 0

-- What it decides: the facts `kin` and `nchild`.
pub record KinFacts (z : machine.Sizes) (m : Memory) : Type 0 where
  pub kin : (i : ℕ) → i < z.processes → Used m i → KinOk z m i
  pub nchild : (j : ℕ) → j < z.processes → Used m j → m fields.nchild j ≡ count_below z.processes (is_child_of m (m fields.pid j))

-- Record j has as many children as were counted.
abbrev pub Children : machine.Sizes → Memory → ℕ → Type 0
Children z m j = Used m j → m fields.nchild j ≡ count_below z.processes (names m j)

pub parent-range : {z : Sizes} {s : List ℕ} → ∥ Whole z s ∥₁ → (k : ℕ) → mem_in z s fields.parent_at k ≤ z.processes
parent-range w k = field-most w fields.parent_at k

pub count-start : {m : Memory} {n : ℕ} {cs : List ℕ} → n ≤ 4096 → CountAsks cs → Counting m n 0 cs
unfolding count_below
count-start h c = record { index = omega arith; small = h; size = c.size; each = λ j b. c.zero j }

bool_same : (a b : Bool) → (a ≡ true → b ≡ true) → (b ≡ true → a ≡ true) → a ≡ b
bool_same true b f g = sym (f refl)
bool_same false true f g = g refl
bool_same false false f g = refl

-- Who is counted is a child, and the other way round.
names-child
    : (z : machine.Sizes) (m : Memory)
    → ((i : ℕ) → i < z.processes → Named z m i)
    → (j : ℕ)
    → j < z.processes
    → Used m j
    → (k : ℕ)
    → k < z.processes
    → names m j k ≡ is_child_of m (m fields.pid j) k
names-child z m n j l u k b = bool_same (names m j k) (is_child_of m (m fields.pid j) k) to from
  where
    to : names m j k ≡ true → is_child_of m (m fields.pid j) k ≡ true
    to e =
        let c : Child m k j = child_of (eqb-true (kin_link m k) (suc j) e) in
        and_from (is_set (m fields.pid k)) (eqb (m fields.parent k) (m fields.pid j)) (set_test (m fields.pid k) c.used) (eq-eqb (m fields.parent k) (m fields.pid j) (sym c.same))

    from : is_child_of m (m fields.pid j) k ≡ true → names m j k ≡ true
    from e =
        let p : (is_set (m fields.pid k) ≡ true) × (eqb (m fields.parent k) (m fields.pid j) ≡ true) = and_parts _ _ e in
        let v : Used m k = test_set (m fields.pid k) p.0 in
        let q : m fields.parent k ≡ m fields.pid j = eqb-true (m fields.parent k) (m fields.pid j) p.1 in
        let c : Child m k j = record { used = v; has = omega (arith, u, q); at = n k b v j l u q; same = sym q } in
        eq-eqb (kin_link m k) (suc j) (link_of_lem c)

count_children
    : (z : machine.Sizes) (m : Memory)
    → ((i : ℕ) → i < z.processes → Named z m i)
    → (j : ℕ)
    → j < z.processes
    → Used m j
    → count_below z.processes (names m j) ≡ count_below z.processes (is_child_of m (m fields.pid j))
count_children z m n j l u = count_same z.processes (names m j) (is_child_of m (m fields.pid j)) (names-child z m n j l u)

-- The two parts are the whole.
pub kin-all : {z : machine.Sizes} {m : Memory} → ((i : ℕ) → i < z.processes → Named z m i) → ((j : ℕ) → j < z.processes → Children z m j) → KinFacts z m
kin-all {z} {m} n c = record { kin = n; nchild = λ j l u. c j l u ∙ count_children z m n j l u }

pub kin-children : {z : machine.Sizes} {m : Memory} → KinFacts z m → (j : ℕ) → j < z.processes → Children z m j
kin-children {z} {m} k j l u = k.nchild j l u ∙ sym (count_children z m k.kin j l u)

-- Where the oldest is none, nobody lives.
count_none : (g : ℕ → ℕ) (h : ℕ) (xs : List ℕ) → Links g h xs → h ≡ 0 → (i : ℕ) → count i xs ≡ 0
unfolding count
count_none g h [] l e i = refl
count_none g h (x ∷ xs) l e i = absurd (omega (arith, l.0, e))

nobody : {z : machine.Sizes} {m : Memory} → Aged z m → m fields.oldest 0 ≡ 0 → (i : ℕ) → i < z.processes → Used m i → ⊥
nobody {z} {m} a e i l u =
    omega (arith, a.living i l u, count_none (m fields.younger) (m fields.oldest 0) (age_list z m) a.ages.younger.chain.links e i)

pub kin-nobody : {z : machine.Sizes} {m : Memory} → Aged z m → m fields.oldest 0 ≡ 0 → KinFacts z m
kin-nobody a e = record { kin = λ i l u. absurd (nobody a e i l u); nchild = λ j l u. absurd (nobody a e j l u) }

pub none_kin
    : {z : machine.Sizes} {m : Memory} (r : Option ℕ) (t : Bool)
    → Aged z m
    → link r ≡ m fields.oldest 0
    → is_some r ≡ not t
    → t ≡ true
    → IsTrue t ↔ KinFacts z m
none_kin None t a e s y = (λ h. kin-nobody a (sym e), λ k. y)
none_kin (Some x) t a e s y = absurd (false≢true (sym (s ∙ ap not y)))
