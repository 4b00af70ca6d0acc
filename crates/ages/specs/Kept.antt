-- What the links of age say of the living, and how they are shown of a later memory.
use Rattle.std.specs.Prelude.{◌≡◌, refl, List, reverse, ℕ, suc, ◌≤◌, ◌<◌}
use Rattle.std.proofs.Common.{sym, ap, subst, ◌∙◌, arith}
use Rattle.machine.specs.Basics.{count}
use Rattle.machine.specs.Machine as machine
use Rattle.lists.specs.Lists.{bit, each-count}
use Rattle.layout.specs.Memory.{Memory, upd}
use Rattle.chain.specs.Lists.{Absent, none-absent}
use Rattle.chain.specs.Links.{Links, Queue, chain-walk, alter-other}
use Rattle.state.specs.Fields as fields
use Rattle.state.specs.Abs.{is_set}
use Rattle.state.specs.Places.{sizes_in, mem_in}
use Rattle.state.specs.WellFormed.{Used, age_list, Rising, Ages}
use Rattle.state.specs.declared.Sizes.{Sizes}
use Rattle.rules.specs.Code.{Whole}
use Rattle.exact.proofs.FactsGood.{rising-apart}
use Rattle.exact.specs.Resumes.{set_test, unset_test, test_set}
use Rattle.exact.specs.Sums.{bit-true}
use Rattle.holds.specs.Holds.{Holds}
use Rattle.ages.specs.Both.{Both, both-queue}

-- The bytes are in range, and the links of age are right.
pub record AgesIn (z : Sizes) (s : List ℕ) : Type 0 where
  pub whole : Whole z s
  pub ages : Ages (sizes_in z) (mem_in z s)

-- Bytes that keep every group are such bytes.
pub holds-ages : {z : Sizes} {s : List ℕ} {n : ℕ} → Holds z s n → AgesIn z s
holds-ages h = record { whole = record { sizes = h.sizes; state = h.state }; ages = h.keeps.ages }

module _ {z : machine.Sizes} {m : Memory} (a : Ages z m) where
  -- Whoever lives is in the list, and nobody else; a record's number is below P.
  pub used-listed : (i : ℕ) → Used m i → 1 ≤ count i (age_list z m)
  used-listed i u = omega (arith, a.living i, ap bit (set_test (m fields.pid i) u))

  pub listed-used : (i : ℕ) → 1 ≤ count i (age_list z m) → Used m i
  listed-used i c = test_set (m fields.pid i) (bit-true (is_set (m fields.pid i)) (omega (arith, a.living i)))

  pub free-absent : (i : ℕ) → m fields.pid i ≡ 0 → Absent i (age_list z m)
  free-absent i e = none-absent i (age_list z m) (a.living i ∙ ap bit (unset_test (m fields.pid i) e))

  pub used-below : (i : ℕ) → Used m i → i < z.processes
  used-below i u = each-count (λ x. x < z.processes) (age_list z m) a.younger.chain.below i (used-listed i u)

  -- Living pids differ.
  pub pids-apart : (i j : ℕ) → Used m i → m fields.pid i ≡ m fields.pid j → i ≡ j
  pids-apart i j u e = rising-apart (m fields.pid) (age_list z m) a.rising i j (used-listed i u) (used-listed j (omega (arith, u, e))) e

  -- The list is linked both ways.
  pub ages-both : Both z.processes (m fields.younger) (m fields.older) (m fields.oldest 0) (m fields.youngest 0) (age_list z m)
  ages-both = record { forth = a.younger.chain; back = a.older }

-- The bytes are in range, the links of age are right, and record i is used.
pub record LivingIn (z : Sizes) (s : List ℕ) (i : ℕ) : Type 0 where
  pub aged : AgesIn z s
  pub index : i < z.processes
  pub used : Used (mem_in z s) i

pub living_in : {z : Sizes} {s : List ℕ} {i : ℕ} → AgesIn z s → Used (mem_in z s) i → LivingIn z s i
living_in {i = i} a u = record { aged = a; index = used-below a.ages i u; used = u }

-- The living of a memory by age are xs, and its links are right.
pub record AgesAre (z : machine.Sizes) (m : Memory) (xs : List ℕ) : Type 0 where
  pub ages : Ages z m
  pub list : age_list z m ≡ xs

-- A living parent is at the record that its child names.
abbrev pub ParentsAt : Memory → Type 0
ParentsAt m = (i j : ℕ) → Used m i → Used m j → m fields.parent i ≡ m fields.pid j → m fields.parent_at i ≡ suc j

-- Who has no parent names none.
abbrev pub Orphans : Memory → Type 0
Orphans m = (i : ℕ) → Used m i → m fields.parent i ≡ 0 → m fields.parent_at i ≡ 0

-- How often a number stands in the list: once where it lives.
abbrev pub LivingOnce : Memory → List ℕ → Type 0
LivingOnce m xs = (i : ℕ) → count i xs ≡ bit (is_set (m fields.pid i))

-- From a list that is linked both ways.
pub ages_are
    : {z : machine.Sizes} {m : Memory} {xs : List ℕ}
    → Both z.processes (m fields.younger) (m fields.older) (m fields.oldest 0) (m fields.youngest 0) xs
    → Rising (m fields.pid) xs
    → LivingOnce m xs
    → ParentsAt m
    → Orphans m
    → AgesAre z m xs
unfolding age_list
ages_are {z} {m} {xs} b r l p o =
    let w : age_list z m ≡ xs = chain-walk b.forth in
    record {
      ages =
          record {
            younger = subst (Queue z.processes (m fields.younger) (m fields.oldest 0) (m fields.youngest 0)) (sym w) (both-queue b);
            older = subst (λ (ys : List ℕ). Links (m fields.older) (m fields.youngest 0) (reverse ys)) (sym w) b.back;
            rising = subst (Rising (m fields.pid)) (sym w) r;
            living = subst (LivingOnce m) (sym w) l;
            parent_at = p;
            orphan = o;
          };
      list = w;
    }

-- A memory m'' later than m, with the links of age of m': the pid and the parent of record i alone may differ.
pub record Later (m m' m'' : Memory) (i : ℕ) : Type 0 where
  pub younger : m'' fields.younger ≡ m' fields.younger
  pub older : m'' fields.older ≡ m' fields.older
  pub oldest : m'' fields.oldest 0 ≡ m' fields.oldest 0
  pub youngest : m'' fields.youngest 0 ≡ m' fields.youngest 0
  pub pid : (j : ℕ) → (i ≡ j → ⊥) → m'' fields.pid j ≡ m fields.pid j
  pub parent : (j : ℕ) → (i ≡ j → ⊥) → m'' fields.parent j ≡ m fields.parent j
  pub parent_at : (j : ℕ) → (i ≡ j → ⊥) → m'' fields.parent_at j ≡ m fields.parent_at j

-- Its list is the one of m'.
pub later-both
    : {n : ℕ} {m m' m'' : Memory} {i : ℕ} {xs : List ℕ}
    → Later m m' m'' i
    → Both n (m' fields.younger) (m' fields.older) (m' fields.oldest 0) (m' fields.youngest 0) xs
    → Both n (m'' fields.younger) (m'' fields.older) (m'' fields.oldest 0) (m'' fields.youngest 0) xs
later-both l b = rw (l.younger, l.older, l.oldest, l.youngest) b

-- The memory with the pid v, the parent p and the link l to it in record i.
abbrev pub named : Memory → ℕ → ℕ → ℕ → ℕ → Memory
named m i v p l = upd (upd (upd m fields.pid i v) fields.parent i p) fields.parent_at i l

pub later-named
    : (m m' : Memory) (i v p l : ℕ)
    → m' fields.pid ≡ m fields.pid
    → m' fields.parent ≡ m fields.parent
    → m' fields.parent_at ≡ m fields.parent_at
    → Later m m' (named m' i v p l) i
later-named m m' i v p l a b c =
    record {
      younger = refl;
      older = refl;
      oldest = refl;
      youngest = refl;
      pid = λ j ne. alter-other (m' fields.pid) i v j ne ∙ ap (λ (g : ℕ → ℕ). g j) a;
      parent = λ j ne. alter-other (m' fields.parent) i p j ne ∙ ap (λ (g : ℕ → ℕ). g j) b;
      parent_at = λ j ne. alter-other (m' fields.parent_at) i l j ne ∙ ap (λ (g : ℕ → ℕ). g j) c;
    }
