-- The children counted in an array: each record that names a living parent adds one to that parent's number.
use Rattle.std.specs.Prelude.{if◌then◌else◌, ◌≡◌, refl, Bool, true, false, List, ℕ, zero, suc, ◌+◌, ◌≤◌, ◌<◌, eqb, length, get_or, set}
use Rattle.std.proofs.Common.{sym, ap, subst, ◌∙◌, arith, eq-eqb, ne_eqb, eqb-true, length-set, get_or-set_same, get_or-set_other}
use Rattle.std.proofs.lemmas.Bool.{eqb-false}
use Rattle.layout.specs.Memory.{Memory}
use Rattle.rules.specs.Counting.{count_few}
use Rattle.rules.specs.Facts.{count_below}
use Rattle.kin.specs.Link.{kin_link}

-- The numbers after one more for the number that a link names.
abbrev pub bumped : List ℕ → ℕ → List ℕ
bumped cs zero = cs
bumped cs (suc j) = set cs j (get_or cs j 0 + 1)

abbrev pub names : Memory → ℕ → ℕ → Bool
names m j i = eqb (kin_link m i) (suc j)

pub record Counted (m : Memory) (n : ℕ) (cs : List ℕ) : Type 0 where
  pub size : length cs ≡ 4096
  pub each : (j : ℕ) → j < 4096 → get_or cs j 0 ≡ count_below n (names m j)

pub record Counting (m : Memory) (n i : ℕ) (cs : List ℕ) : Type 0 where
  pub index : i ≤ n
  pub small : n ≤ 4096
  pub size : length cs ≡ 4096
  pub each : (j : ℕ) → j < 4096 → get_or cs j 0 ≡ count_below i (names m j)

-- Each number is small.
pub count-few : {m : Memory} {n i : ℕ} {cs : List ℕ} → Counting m n i cs → (j : ℕ) → j < 4096 → get_or cs j 0 ≤ 4096
count-few {m} {n} {i} {cs} c j b = omega (arith, c.each j b, count_few i (names m j), c.index, c.small)

one_more : (m : Memory) (i l : ℕ) (cs : List ℕ) → l ≡ kin_link m i → length cs ≡ 4096 → (j : ℕ) → j < 4096 → get_or (bumped cs l) j 0 ≡ get_or cs j 0 + (if names m j i then 1 else 0)
one_more m i zero cs e s j b = rw (← e, ne_eqb 0 (suc j) (λ d. omega arith)) (omega arith)
one_more m i (suc x) cs e s j b = rw (← e) (go (eqb x j) refl)
  where
    go : (t : Bool) → eqb x j ≡ t → get_or (set cs x (get_or cs x 0 + 1)) j 0 ≡ get_or cs j 0 + (if eqb (suc x) (suc j) then 1 else 0)
    go true q =
        let w : x ≡ j = eqb-true x j q in
        rw (eq-eqb (suc x) (suc j) (ap suc w))
        (subst (λ (y : ℕ). get_or (set cs x (get_or cs x 0 + 1)) y 0 ≡ get_or cs y 0 + 1) w (get_or-set_same cs x (get_or cs x 0 + 1) 0 (omega arith)))
    go false q =
        let w : (x ≡ j) → ⊥ = eqb-false x j q in
        rw (ne_eqb (suc x) (suc j) (λ d. w (omega arith))) (get_or-set_other cs x j (get_or cs x 0 + 1) 0 (λ d. w (sym d)) ∙ omega arith)

pub count-more
    : {m : Memory} {n i l : ℕ} {cs cs' : List ℕ} → Counting m n i cs → i < n → l ≡ kin_link m i → cs' ≡ bumped cs l → Counting m n (i + 1) cs'
unfolding count_below
count-more {m} {n} {i} {l} {cs} {cs'} c h w e =
    let r : i + 1 ≡ suc i = omega arith in
    record {
      index = omega arith;
      small = c.small;
      size = rw e (len l);
      each = λ j b. rw (r, e) (one_more m i l cs w c.size j b ∙ ap (λ (x : ℕ). x + (if names m j i then 1 else 0)) (c.each j b));
    }
  where
    len : (x : ℕ) → length (bumped cs x) ≡ 4096
    len zero = c.size
    len (suc x) = length-set cs x (get_or cs x 0 + 1) ∙ c.size

pub count-end : {m : Memory} {n i : ℕ} {cs : List ℕ} → Counting m n i cs → n ≤ i → Counted m n cs
count-end {m} {n} {i} {cs} c h = let e : i ≡ n = omega (arith, c.index) in record { size = c.size; each = λ j b. rw (← e) (c.each j b) }
