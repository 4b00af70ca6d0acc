-- The living parent that a record names: by its link and by its pid.
use Rattle.std.specs.Prelude.{if◌then◌else◌, ◌≡◌, refl, Bool, true, false, ℕ, zero, suc, ◌-◌, ◌<◌, eqb}
use Rattle.std.proofs.Math.Path.{sym}
use Rattle.std.proofs.Common.{◌∙◌, arith, eq-eqb, ne_eqb, eqb-true}
use Rattle.std.proofs.lemmas.Bool.{eqb-false}
use Rattle.layout.specs.Memory.{Memory}
use Rattle.state.specs.Fields as fields
use Rattle.state.specs.WellFormed.{Used}

-- Of a used record that has a parent: its link to it, where the record there has the parent's pid. Else 0.
unfoldable pub kin_link : Memory → ℕ → ℕ
kin_link m i =
    if eqb (m fields.pid i) 0
    then 0
    else (if eqb (m fields.parent i) 0
    then 0
    else (if eqb (m fields.parent_at i) 0 then 0 else (if eqb (m fields.pid (m fields.parent_at i - 1)) (m fields.parent i) then m fields.parent_at i else 0)))

-- Each way out of the code.
pub link-free : (m : Memory) {i p : ℕ} → p ≡ m fields.pid i → p ≡ 0 → 0 ≡ kin_link m i
unfolding kin_link
link-free m {i} e a = rw (eq-eqb (m fields.pid i) 0 (sym e ∙ a))

pub link-none : (m : Memory) {i p q : ℕ} → p ≡ m fields.pid i → (p ≡ 0 → ⊥) → q ≡ m fields.parent i → q ≡ 0 → 0 ≡ kin_link m i
unfolding kin_link
link-none m {i} e a f b = rw (ne_eqb (m fields.pid i) 0 (λ x. a (e ∙ x)), eq-eqb (m fields.parent i) 0 (sym f ∙ b))

pub link-zero
    : (m : Memory) {i p q : ℕ}
    → p ≡ m fields.pid i
    → (p ≡ 0 → ⊥)
    → q ≡ m fields.parent i
    → (q ≡ 0 → ⊥)
    → 0 ≡ m fields.parent_at i
    → 0 ≡ kin_link m i
unfolding kin_link
link-zero m {i} e a f b c =
    rw (ne_eqb (m fields.pid i) 0 (λ x. a (e ∙ x)), ne_eqb (m fields.parent i) 0 (λ x. b (f ∙ x)), eq-eqb (m fields.parent_at i) 0 (sym c))

module _ (m : Memory) {i j p q v : ℕ} (e : p ≡ m fields.pid i) (a : p ≡ 0 → ⊥) (f : q ≡ m fields.parent i) (b : q ≡ 0 → ⊥) (g : suc j ≡ m fields.parent_at i) (h : v ≡ m fields.pid j) where
  some : m fields.parent_at i ≡ 0 → ⊥
  some x = omega (arith, g, x)

  there : v ≡ m fields.pid (m fields.parent_at i - 1)
  there = let k : m fields.parent_at i - 1 ≡ j = omega (arith, g) in rw k h

  pub link-some : v ≡ q → suc j ≡ kin_link m i
  unfolding kin_link
  link-some d =
      rw (ne_eqb (m fields.pid i) 0 (λ x. a (e ∙ x)), ne_eqb (m fields.parent i) 0 (λ x. b (f ∙ x)), ne_eqb (m fields.parent_at i) 0 some, eq-eqb (m fields.pid (m fields.parent_at i - 1)) (m fields.parent i) (sym there ∙ d ∙ f)) g

  pub link-other : (v ≡ q → ⊥) → 0 ≡ kin_link m i
  unfolding kin_link
  link-other d =
      rw (ne_eqb (m fields.pid i) 0 (λ x. a (e ∙ x)), ne_eqb (m fields.parent i) 0 (λ x. b (f ∙ x)), ne_eqb (m fields.parent_at i) 0 some, ne_eqb (m fields.pid (m fields.parent_at i - 1)) (m fields.parent i) (λ x. d (there ∙ x ∙ sym f)))

-- What the link says.
pub record Child (m : Memory) (i j : ℕ) : Type 0 where
  pub used : Used m i
  pub has : 0 < m fields.parent i
  pub at : m fields.parent_at i ≡ suc j
  pub same : m fields.pid j ≡ m fields.parent i

pub link_of_lem : {m : Memory} {i j : ℕ} → Child m i j → kin_link m i ≡ suc j
unfolding kin_link
link_of_lem {m} {i} {j} c =
    let n : (m fields.pid i ≡ 0) → ⊥ = λ x. omega (arith, c.used) in
    let o : (m fields.parent i ≡ 0) → ⊥ = λ x. omega (arith, c.has) in
    let q : (m fields.parent_at i ≡ 0) → ⊥ = λ x. omega (arith, c.at) in
    let k : m fields.parent_at i - 1 ≡ j = omega (arith, c.at) in
    rw (ne_eqb (m fields.pid i) 0 n, ne_eqb (m fields.parent i) 0 o, ne_eqb (m fields.parent_at i) 0 q, k, eq-eqb (m fields.pid j) (m fields.parent i) c.same) c.at

pub child_of : {m : Memory} {i j : ℕ} → kin_link m i ≡ suc j → Child m i j
unfolding kin_link
child_of {m} {i} {j} e = go₁ (eqb (m fields.pid i) 0) refl e
  where
    go₄ : (a : m fields.pid i ≡ 0 → ⊥) (b : m fields.parent i ≡ 0 → ⊥) (t : Bool) → eqb (m fields.pid (m fields.parent_at i - 1)) (m fields.parent i) ≡ t → (if t then m fields.parent_at i else 0) ≡ suc j → Child m i j
    go₄ a b true q d =
        let k : m fields.parent_at i - 1 ≡ j = omega arith in
        let v : m fields.pid (m fields.parent_at i - 1) ≡ m fields.parent i = eqb-true (m fields.pid (m fields.parent_at i - 1)) (m fields.parent i) q in
        record {
          used = pos (m fields.pid i) a;
          has = pos (m fields.parent i) b;
          at = d;
          same = rw k at v;
        }
      where
        pos : (x : ℕ) → (x ≡ 0 → ⊥) → 0 < x
        pos zero h = absurd (h refl)
        pos (suc x) h = omega arith
    go₄ a b false q d = absurd (omega arith)

    go₃ : (a : m fields.pid i ≡ 0 → ⊥) (b : m fields.parent i ≡ 0 → ⊥) (t : Bool) → (if t then 0 else (if eqb (m fields.pid (m fields.parent_at i - 1)) (m fields.parent i) then m fields.parent_at i else 0)) ≡ suc j → Child m i j
    go₃ a b true d = absurd (omega arith)
    go₃ a b false d = go₄ a b (eqb (m fields.pid (m fields.parent_at i - 1)) (m fields.parent i)) refl d

    go₂
        : (a : m fields.pid i ≡ 0 → ⊥) (t : Bool)
        → eqb (m fields.parent i) 0 ≡ t
        → (if t then 0 else (if eqb (m fields.parent_at i) 0 then 0 else (if eqb (m fields.pid (m fields.parent_at i - 1)) (m fields.parent i) then m fields.parent_at i else 0))) ≡ suc j
        → Child m i j
    go₂ a true q d = absurd (omega arith)
    go₂ a false q d = go₃ a (eqb-false (m fields.parent i) 0 q) (eqb (m fields.parent_at i) 0) d

    go₁
        : (t : Bool)
        → eqb (m fields.pid i) 0 ≡ t
        → (if t then 0 else (if eqb (m fields.parent i) 0 then 0 else (if eqb (m fields.parent_at i) 0 then 0 else (if eqb (m fields.pid (m fields.parent_at i - 1)) (m fields.parent i) then m fields.parent_at i else 0)))) ≡ suc j
        → Child m i j
    go₁ true q d = absurd (omega arith)
    go₁ false q d = go₂ (eqb-false (m fields.pid i) 0 q) (eqb (m fields.parent i) 0) refl d
