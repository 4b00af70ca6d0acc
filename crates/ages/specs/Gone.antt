-- Once the record that was taken out has no pid, the links of age are right without it.
use Rattle.std.specs.Prelude.{◌≡◌, Bool, true, false, List, ◌∷◌, ◌++◌, ℕ, ◌+◌, eqb}
use Rattle.std.proofs.Math.Path.{refl, sym, ap}
use Rattle.std.proofs.Common.{subst, ◌∙◌, arith, eqb-true, eq-eqb, ne_eqb}
use Rattle.std.proofs.lemmas.Bool.{eqb-false}
use Rattle.machine.specs.Basics.{count}
use Rattle.machine.specs.Machine as machine
use Rattle.lists.specs.Lists.{bit, count-append, each_append}
use Rattle.layout.specs.Memory.{Memory}
use Rattle.chain.specs.Lists.{Absent, Distinct, all_map}
use Rattle.chain.specs.Links.{alter-same, distinct-left, distinct-right}
use Rattle.state.specs.Fields as fields
use Rattle.state.specs.Abs.{is_set}
use Rattle.state.specs.WellFormed.{Used, age_list, Rising, Ages}
use Rattle.exact.specs.Resumes.{set_test, unset_test}
use Rattle.ages.specs.Lists.{Stands, stands, without, without-split, rising_out, rising-same}
use Rattle.ages.specs.Both.{Both, both_out}
use Rattle.ages.specs.Kept.{AgesAre, ages_are, ages-both, used-listed, LivingOnce, ParentsAt, Orphans, Later, later-both, named, later-named}
use Rattle.ages.specs.Out.{age_out_mem}

module _ {z : machine.Sizes} {m m'' : Memory} {i : ℕ} (a : Ages z m) (used : Used m i) (l : Later m (age_out_mem m i) m'' i) (gone : m'' fields.pid i ≡ 0) (us vs : List ℕ) (split : age_list z m ≡ us ++ i ∷ vs) where
  distinct : Distinct (us ++ i ∷ vs)
  distinct = subst Distinct split a.younger.chain.distinct

  absent_out : Absent i (us ++ vs)
  absent_out = each_append (λ x. i ≡ x → ⊥) us vs (distinct-left us i vs distinct) (distinct-right us i vs distinct)

  rising-gone : Rising (m'' fields.pid) (us ++ vs)
  rising-gone =
      rising-same (m fields.pid) (m'' fields.pid) (us ++ vs)
      (all_map (λ j ne. l.pid j ne) (us ++ vs) absent_out)
      (rising_out (m fields.pid) us i vs (subst (Rising (m fields.pid)) split a.rising))

  living-gone : LivingOnce m'' (us ++ vs)
  unfolding count
  living-gone j = go (eqb i j) refl
    where
      before : count j us + (bit (eqb j i) + count j vs) ≡ bit (is_set (m fields.pid j))
      before = sym (count-append j us (i ∷ vs)) ∙ ap (count j) (sym split) ∙ a.living j

      go : (b : Bool) → eqb i j ≡ b → count j (us ++ vs) ≡ bit (is_set (m'' fields.pid j))
      go true e =
          let q : i ≡ j = eqb-true i j e in
          omega (
            arith,
            before,
            count-append j us vs,
            ap bit (eq-eqb j i (sym q)),
            ap bit (set_test (m fields.pid j) (subst (Used m) q used)),
            ap bit (unset_test (m'' fields.pid j) (subst (λ (k : ℕ). m'' fields.pid k ≡ 0) q gone)),
          )
      go false e =
          let ne : i ≡ j → ⊥ = eqb-false i j e in
          omega (arith, before, count-append j us vs, ap bit (ne_eqb j i (λ d. ne (sym d))), ap (λ (v : ℕ). bit (is_set v)) (l.pid j ne))

  -- whoever lives after is not i
  not-gone : (j : ℕ) → Used m'' j → i ≡ j → ⊥
  not-gone j u e = absurd (omega (arith, u, gone, ap (m'' fields.pid) e))

  parents-gone : ParentsAt m''
  parents-gone j k u v e =
      let p : i ≡ j → ⊥ = not-gone j u in
      let q : i ≡ k → ⊥ = not-gone k v in
      l.parent_at j p
      ∙ a.parent_at j k (omega (arith, u, l.pid j p)) (omega (arith, v, l.pid k q)) (sym (l.parent j p) ∙ e ∙ l.pid k q)

  orphans_gone : Orphans m''
  orphans_gone j u e =
      let p : i ≡ j → ⊥ = not-gone j u in
      l.parent_at j p ∙ a.orphan j (omega (arith, u, l.pid j p)) (sym (l.parent j p) ∙ e)

  ages-split : AgesAre z m'' (without i (age_list z m))
  ages-split =
      let b : Both z.processes (m fields.younger) (m fields.older) (m fields.oldest 0) (m fields.youngest 0) (us ++ i ∷ vs) =
      subst (Both z.processes (m fields.younger) (m fields.older) (m fields.oldest 0) (m fields.youngest 0)) split (ages-both a)
      in
      subst (AgesAre z m'')
      (sym (ap (without i) split ∙ without-split us i vs (distinct-left us i vs distinct) (distinct-right us i vs distinct)))
      (ages_are (later-both l (both_out us i vs b)) rising-gone living-gone parents-gone orphans_gone)

-- From right links of age, to right links of age without record i.
pub ages_out
    : {z : machine.Sizes} {m m'' : Memory} {i : ℕ}
    → Ages z m
    → Used m i
    → Later m (age_out_mem m i) m'' i
    → m'' fields.pid i ≡ 0
    → AgesAre z m'' (without i (age_list z m))
ages_out {z} {m} {m''} {i} a used l gone =
    let s : Stands i (age_list z m) = stands i (age_list z m) (used-listed a i used) in
    ages-split a used l gone s.front s.rest s.split

-- The same where record i loses its pid and is given the parent p and the link l to it, and nothing else.
pub ages_out_named
    : {z : machine.Sizes} {m : Memory} {i : ℕ} (p l : ℕ)
    → Ages z m
    → Used m i
    → AgesAre z (named (age_out_mem m i) i 0 p l) (without i (age_list z m))
ages_out_named {z} {m} {i} p l a used =
    ages_out a used (later-named m (age_out_mem m i) i 0 p l refl refl refl) (alter-same (m fields.pid) i 0)
