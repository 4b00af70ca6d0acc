-- Once the record that was put in has its pid, it is the youngest of the living.
use Rattle.std.specs.Prelude.{◌≡◌, refl, Bool, true, false, List, [], ◌∷◌, ◌++◌, ℕ, suc, ◌<◌, eqb}
use Rattle.std.proofs.Common.{sym, ap, subst, ◌∙◌, arith, eqb-true}
use Rattle.std.proofs.lemmas.Bool.{eqb-false}
use Rattle.machine.specs.Basics.{count}
use Rattle.machine.specs.Machine as machine
use Rattle.lists.specs.Lists.{bit, count-append, count_self, count-other}
use Rattle.layout.specs.Memory.{Memory, alter}
use Rattle.chain.specs.Lists.{Absent, all_map}
use Rattle.chain.specs.Links.{alter-same}
use Rattle.state.specs.Fields as fields
use Rattle.state.specs.Abs.{is_set}
use Rattle.state.specs.WellFormed.{Used, age_list, Rising, Ages}
use Rattle.exact.specs.Resumes.{set_test, unset_test}
use Rattle.ages.specs.Lists.{rising-last, rising-same}
use Rattle.ages.specs.Both.{both_in}
use Rattle.ages.specs.Kept.{AgesAre, ages_are, ages-both, free-absent, LivingOnce, ParentsAt, Orphans, Later, later-both, named, later-named}
use Rattle.ages.specs.In.{age_in_mem}

-- The pid of record i is above every other, and above those of all parents; and its link names its parent, where that lives.
pub record Newest (m m'' : Memory) (i : ℕ) : Type 0 where
  pub above : (j : ℕ) → m fields.pid j < m'' fields.pid i
  pub parents : (j : ℕ) → Used m j → m fields.parent j < m'' fields.pid i
  pub parent : m'' fields.parent i < m'' fields.pid i
  pub link : (j : ℕ) → Used m j → m'' fields.parent i ≡ m fields.pid j → m'' fields.parent_at i ≡ suc j
  pub orphan : m'' fields.parent i ≡ 0 → m'' fields.parent_at i ≡ 0

module _ {z : machine.Sizes} {m m'' : Memory} {i : ℕ} (a : Ages z m) (free : m fields.pid i ≡ 0) (l : Later m (age_in_mem m i) m'' i) (n : Newest m m'' i) where
  rising_in : Rising (m'' fields.pid) (age_list z m ++ i ∷ [])
  rising_in =
      let xs : List ℕ = age_list z m in
      let out : Absent i xs = free-absent a i free in
      rising-last (m'' fields.pid) xs i
      (rising-same (m fields.pid) (m'' fields.pid) xs (all_map (λ j ne. l.pid j ne) xs out) a.rising)
      (all_map (λ j ne. omega (arith, l.pid j ne, n.above j)) xs out)

  living_in : LivingOnce m'' (age_list z m ++ i ∷ [])
  living_in j = go (eqb i j) refl
    where
      xs : List ℕ
      xs = age_list z m

      go : (b : Bool) → eqb i j ≡ b → count j (xs ++ i ∷ []) ≡ bit (is_set (m'' fields.pid j))
      go true e =
          subst (λ (k : ℕ). count k (xs ++ i ∷ []) ≡ bit (is_set (m'' fields.pid k))) (eqb-true i j e)
          (omega (
            arith,
            count-append i xs (i ∷ []),
            count_self i,
            a.living i,
            ap bit (unset_test (m fields.pid i) free),
            ap bit (set_test (m'' fields.pid i) (omega (arith, n.above i))),
          ))
      go false e =
          let ne : i ≡ j → ⊥ = eqb-false i j e in
          omega (arith, count-append j xs (i ∷ []), count-other j i (λ d. ne (sym d)), a.living j, ap (λ (v : ℕ). bit (is_set v)) (l.pid j ne))

  parents_in : ParentsAt m''
  parents_in j k u v e = go (eqb i j) refl (eqb i k) refl
    where
      go : (b : Bool) → eqb i j ≡ b → (c : Bool) → eqb i k ≡ c → m'' fields.parent_at j ≡ suc k
      go true p true q = absurd (omega (arith, n.parent, ap (m'' fields.parent) (eqb-true i j p), ap (m'' fields.pid) (eqb-true i k q)))
      go true p false q =
          let w : m'' fields.pid k ≡ m fields.pid k = l.pid k (eqb-false i k q) in
          subst (λ (x : ℕ). m'' fields.parent_at x ≡ suc k) (eqb-true i j p)
          (n.link k (omega (arith, v, w)) (ap (m'' fields.parent) (eqb-true i j p) ∙ e ∙ w))
      go false p true q =
          let ne : i ≡ j → ⊥ = eqb-false i j p in
          absurd (omega (arith, n.parents j (omega (arith, u, l.pid j ne)), l.parent j ne, ap (m'' fields.pid) (eqb-true i k q)))
      go false p false q =
          let ne : i ≡ j → ⊥ = eqb-false i j p in
          let w : m'' fields.pid k ≡ m fields.pid k = l.pid k (eqb-false i k q) in
          l.parent_at j ne ∙ a.parent_at j k (omega (arith, u, l.pid j ne)) (omega (arith, v, w)) (sym (l.parent j ne) ∙ e ∙ w)

  orphans_in : Orphans m''
  orphans_in j = go (eqb i j) refl
    where
      go : (b : Bool) → eqb i j ≡ b → Used m'' j → m'' fields.parent j ≡ 0 → m'' fields.parent_at j ≡ 0
      go true p u = subst (λ (x : ℕ). m'' fields.parent x ≡ 0 → m'' fields.parent_at x ≡ 0) (eqb-true i j p) n.orphan
      go false p u =
          let ne : i ≡ j → ⊥ = eqb-false i j p in
          λ e. l.parent_at j ne ∙ a.orphan j (omega (arith, u, l.pid j ne)) (sym (l.parent j ne) ∙ e)

-- From right links of age, to right links of age with record i last.
pub ages_in
    : {z : machine.Sizes} {m m'' : Memory} {i : ℕ}
    → Ages z m
    → i < z.processes
    → m fields.pid i ≡ 0
    → Later m (age_in_mem m i) m'' i
    → Newest m m'' i
    → AgesAre z m'' (age_list z m ++ i ∷ [])
ages_in {i = i} a index free l n =
    ages_are
    (later-both l (both_in i index (free-absent a i free) (ages-both a)))
    (rising_in a free l n)
    (living_in a free l n)
    (parents_in a free l n)
    (orphans_in a free l n)

-- The same where record i is given the pid v, the parent p and the link l to it, and nothing else.
pub ages_in_named
    : {z : machine.Sizes} {m : Memory} {i : ℕ} (v p l : ℕ)
    → Ages z m
    → i < z.processes
    → m fields.pid i ≡ 0
    → ((j : ℕ) → m fields.pid j < v)
    → ((j : ℕ) → Used m j → m fields.parent j < v)
    → p < v
    → ((j : ℕ) → Used m j → p ≡ m fields.pid j → l ≡ suc j)
    → (p ≡ 0 → l ≡ 0)
    → AgesAre z (named (age_in_mem m i) i v p l) (age_list z m ++ i ∷ [])
ages_in_named {z} {m} {i} v p l a index free above parents parent link orphan =
    let pid : alter (m fields.pid) i v i ≡ v = alter-same (m fields.pid) i v in
    let father : alter (m fields.parent) i p i ≡ p = alter-same (m fields.parent) i p in
    ages_in a index free (later-named m (age_in_mem m i) i v p l refl refl refl)
    (record {
      above = λ j. omega (arith, pid, above j);
      parents = λ j u. omega (arith, pid, parents j u);
      parent = omega (arith, pid, father, parent);
      link = λ j u e. alter-same (m fields.parent_at) i l ∙ link j u (sym father ∙ e);
      orphan = λ e. alter-same (m fields.parent_at) i l ∙ orphan (sym father ∙ e);
    })
