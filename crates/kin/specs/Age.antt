-- The living by age: each stands in the list once, and their pids rise, so that a pid names one record.
use Rattle.std.specs.Prelude.{if◌then◌else◌, ◌≡◌, refl, Bool, true, false, List, [], ◌∷◌, ℕ, zero, suc, ◌+◌, ◌≤◌, ◌<◌, eqb, ltb, length, get_or}
use Rattle.std.proofs.Common.{sym, ap, ◌∙◌, arith, not-suc-le-zero, le_of_suc-le-suc, eqb-true, ltb-true, ltb-false}
use Rattle.machine.specs.Basics.{count}
use Rattle.machine.specs.Machine.{Sizes}
use Rattle.machine.specs.Good.{Each}
use Rattle.layout.specs.Memory.{Memory}
use Rattle.state.specs.Fields as fields
use Rattle.state.specs.WellFormed.{Used, age_list, Rising}
use Rattle.rules.specs.Facts.{AgesOk}

-- What the test of parents asks: the list of the living by age is right, and everyone who lives is in it.
pub record Aged (z : Sizes) (m : Memory) : Type 0 where
  pub ages : AgesOk z m
  pub living : (i : ℕ) → i < z.processes → Used m i → 1 ≤ count i (age_list z m)

-- Where a number stands in a list.
pub record Stands (xs : List ℕ) (i : ℕ) : Type 0 where
  pub at : ℕ
  pub below : at < length xs
  pub same : get_or xs at 0 ≡ i

pub stands : (xs : List ℕ) (i : ℕ) → 1 ≤ count i xs → Stands xs i
unfolding count
stands [] i h = absurd (omega arith)
stands (x ∷ xs) i h = go (λ k. stands xs i k) (eqb i x) refl h
  where
    go : (1 ≤ count i xs → Stands xs i) → (t : Bool) → eqb i x ≡ t → 1 ≤ (if t then 1 else 0) + count i xs → Stands (x ∷ xs) i
    go f true e l = record { at = 0; below = omega arith; same = sym (eqb-true i x e) }
    go f false e l = let s : Stands xs i = f (omega arith) in record { at = suc s.at; below = omega (arith, s.below); same = s.same }

pub each_at : (P : ℕ → Type 0) (xs : List ℕ) → Each P xs → (k : ℕ) → k < length xs → P (get_or xs k 0)
each_at P [] a k h = absurd (not-suc-le-zero h)
each_at P (x ∷ xs) a zero h = a.0
each_at P (x ∷ xs) a (suc k) h = each_at P xs a.1 k (le_of_suc-le-suc h)

pub rising-at : (key : ℕ → ℕ) (xs : List ℕ) → Rising key xs → (a b : ℕ) → a < b → b < length xs → key (get_or xs a 0) < key (get_or xs b 0)
rising-at key [] r a b h l = absurd (not-suc-le-zero l)
rising-at key (x ∷ xs) r a zero h l = absurd (not-suc-le-zero h)
rising-at key (x ∷ xs) r zero (suc b) h l = each_at (λ y. key x < key y) xs r.0 b (le_of_suc-le-suc l)
rising-at key (x ∷ xs) r (suc a) (suc b) h l = rising-at key xs r.1 a b (le_of_suc-le-suc h) (le_of_suc-le-suc l)

rising-same : (key : ℕ → ℕ) (xs : List ℕ) → Rising key xs → (a b : ℕ) → a < length xs → b < length xs → key (get_or xs a 0) ≡ key (get_or xs b 0) → a ≡ b
rising-same key xs r a b h l e = go (ltb a b) (ltb b a) refl refl
  where
    go : (t u : Bool) → ltb a b ≡ t → ltb b a ≡ u → a ≡ b
    go true u p q = absurd (omega (arith, rising-at key xs r a b (ltb-true a b p) l))
    go false true p q = absurd (omega (arith, rising-at key xs r b a (ltb-true b a q) h))
    go false false p q = omega (arith, ltb-false a b p, ltb-false b a q)

-- A pid names one record.
pub pid-same
    : {z : Sizes} {m : Memory} → Aged z m → (i j : ℕ) → i < z.processes → j < z.processes → Used m i → Used m j → m fields.pid i ≡ m fields.pid j → i ≡ j
pid-same {z} {m} a i j h l u v e =
    let p : Stands (age_list z m) i = stands (age_list z m) i (a.living i h u) in
    let q : Stands (age_list z m) j = stands (age_list z m) j (a.living j l v) in
    let k : p.at ≡ q.at =
    rising-same (m fields.pid) (age_list z m) a.ages.rising p.at q.at p.below q.below (ap (m fields.pid) p.same ∙ e ∙ sym (ap (m fields.pid) q.same))
    in
    sym p.same ∙ ap (λ (x : ℕ). get_or (age_list z m) x 0) k ∙ q.same
