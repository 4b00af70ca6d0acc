-- The living by age, and their parents, in two memories of one machine.
use Rattle.std.specs.Prelude.{if◌then◌else◌, ◌≡◌, refl, Bool, true, false, ◌||◌, ℕ, ◌-◌, ◌<◌, eqb, List, [], ◌∷◌, reverse}
use Rattle.std.proofs.Common.{sym, ap, subst, ◌∙◌, arith, eqb-true}
use Rattle.std.proofs.Math.Path.{fun_ext}
use mathlib.Core.List.{reverse-cons}
use Rattle.std.proofs.lemmas.Bool.{eqb-false}
use Rattle.machine.specs.Basics.{count}
use Rattle.machine.specs.Machine.{Sizes}
use Rattle.layout.specs.Memory.{Memory}
use Rattle.state.specs.Fields as fields
use Rattle.state.specs.Abs.{is_set}
use Rattle.state.specs.WellFormed.{Used, age_list, Rising, Ages}
use Rattle.holds.specs.Use.{kin_use}
use Rattle.ages.specs.Kept.{used-listed}
use Rattle.lists.specs.Lists.{bit, count-append}
use Rattle.determined.specs.Chains.{LinksSame, same-links, same-chain, rising-same}
use Rattle.determined.specs.Twins.{Twins}
use Rattle.determined.specs.Plain.{same-pid}
use Rattle.determined.specs.Records.{same_use, same-parent}

-- A number stands in a list as often as in the reversed one.
count-reverse : (i : ℕ) (xs : List ℕ) → count i (reverse xs) ≡ count i xs
unfolding count
count-reverse i [] = refl
count-reverse i (x ∷ xs) = omega (arith, ap (count i) (reverse-cons x xs), count-append i (reverse xs) (x ∷ []), count-reverse i xs)

module _ {z : Sizes} {m m' : Memory} (w : Twins z m m') where
  -- What each says of its links.
  ages-one : Ages z m
  ages-one = w.one.keeps.ages

  ages-two : Ages z m'
  ages-two = w.two.keeps.ages

  -- Pids are the same, and the list by age goes by them.
  pub same-ages : age_list z m' ≡ age_list z m
  same-ages =
      rising-same (m fields.pid) (age_list z m) (age_list z m') ages-one.rising
      (subst (λ (g : ℕ → ℕ). Rising g (age_list z m')) (fun_ext (same-pid w)) ages-two.rising)
      (λ i. ages-two.living i ∙ ap (λ (p : ℕ). bit (is_set p)) (same-pid w i) ∙ sym (ages-one.living i))

  -- The links, towards the youngest and back.
  pub younger-links : LinksSame (m fields.younger) (m' fields.younger) (m fields.oldest 0) (m' fields.oldest 0) (age_list z m)
  younger-links = same-chain same-ages ages-one.younger.chain ages-two.younger.chain

  pub older-links : LinksSame (m fields.older) (m' fields.older) (m fields.youngest 0) (m' fields.youngest 0) (reverse (age_list z m))
  older-links = same-links (ap reverse same-ages) ages-one.older ages-two.older

  pub same-younger : (i : ℕ) → Used m i → m' fields.younger i ≡ m fields.younger i
  same-younger i u = younger-links.member i (used-listed ages-one i u)

  pub same-older : (i : ℕ) → Used m i → m' fields.older i ≡ m fields.older i
  same-older i u = older-links.member i (omega (arith, count-reverse i (age_list z m), used-listed ages-one i u))

  -- Without a parent the link is 0; to a living parent it is the parent's number.
  parent-none : (i : ℕ) → Used m i → m fields.parent i ≡ 0 → m' fields.parent_at i ≡ m fields.parent_at i
  parent-none i u e = ages-two.orphan i (same_use w i u) (same-parent w i u ∙ e) ∙ sym (ages-one.orphan i u e)

  parent-lives : (i j : ℕ) → Used m i → Used m j → m fields.parent i ≡ m fields.pid j → m' fields.parent_at i ≡ m fields.parent_at i
  parent-lives i j u v e =
      ages-two.parent_at i j (same_use w i u) (same_use w j v) (same-parent w i u ∙ e ∙ sym (same-pid w j))
      ∙ sym (ages-one.parent_at i j u v e)

  -- These are the cases in which the link is used.
  pub same-parent_at : (i : ℕ) → 0 < kin_use (m fields.pid) (m fields.parent) (m fields.parent_at) i → m' fields.parent_at i ≡ m fields.parent_at i
  same-parent_at i = go (eqb (m fields.parent i) 0) refl (eqb (m fields.pid (m fields.parent_at i - 1)) (m fields.parent i)) refl
    where
      go
          : (b : Bool)
          → eqb (m fields.parent i) 0 ≡ b
          → (c : Bool)
          → eqb (m fields.pid (m fields.parent_at i - 1)) (m fields.parent i) ≡ c
          → 0 < (if b || c then m fields.pid i else 0)
          → m' fields.parent_at i ≡ m fields.parent_at i
      go true e c d u = parent-none i u (eqb-true (m fields.parent i) 0 e)
      go false e true d u =
          let p : m fields.pid (m fields.parent_at i - 1) ≡ m fields.parent i = eqb-true (m fields.pid (m fields.parent_at i - 1)) (m fields.parent i) d in
          parent-lives i (m fields.parent_at i - 1) u (omega (arith, eqb-false (m fields.parent i) 0 e)) (sym p)
      go false e false d u = absurd (omega arith)
