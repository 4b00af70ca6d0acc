-- Lists of a family hold each number once at most, and meet everyone where they are as many.
use Rattle.std.specs.Prelude.{◌≡◌, refl, Bool, true, false, List, ℕ, ◌≤◌, ◌<◌, ltb, length}
use Rattle.std.proofs.Common.{sym, ap, ◌∙◌, arith, ltb-true, ltb-false}
use Rattle.machine.specs.Basics.{count}
use Rattle.lists.specs.Lists.{bit, each-count}
use Rattle.rules.specs.Facts.{count_below, sum_below}
use Rattle.exact.specs.Sums.{sum-tight, sum-zero, sum_one, count-sum, count_past, count-passing, Family, family-length}

pub family-most
    : {n k : ℕ} {lists : ℕ → List ℕ} {home : ℕ → ℕ} {test : ℕ → Bool}
    → Family n k lists home test
    → (i : ℕ)
    → sum_below k (λ q. count i (lists q)) ≤ bit (test i)
family-most {n} {k} {lists} {home} {test} f i = go (ltb (home i) k) refl
  where
    elsewhere : (q : ℕ) → q < k → (q ≡ home i → ⊥) → count i (lists q) ≡ 0
    elsewhere q l ne = by (ltb 0 (count i (lists q))) refl
      where
        by : (b : Bool) → ltb 0 (count i (lists q)) ≡ b → count i (lists q) ≡ 0
        by true e = absurd (ne (sym (each-count (λ j. home j ≡ q) (lists q) (f.named q l) i (ltb-true 0 (count i (lists q)) e))))
        by false e = omega (arith, ltb-false 0 (count i (lists q)) e)

    go : (b : Bool) → ltb (home i) k ≡ b → sum_below k (λ q. count i (lists q)) ≤ bit (test i)
    go true e =
        let l : home i < k = ltb-true (home i) k e in
        rw (sum_one k (λ q. count i (lists q)) (home i) l elsewhere)
        (count-passing (lists (home i)) test (f.distinct (home i) l) (f.passing (home i) l) i)
    go false e =
        let l : k ≤ home i = ltb-false (home i) k e in
        omega (arith, sum-zero k (λ q. count i (lists q)) (λ q w. elsewhere q w (λ d. omega arith)))

pub family_met
    : {n k : ℕ} {lists : ℕ → List ℕ} {home : ℕ → ℕ} {test : ℕ → Bool}
    → Family n k lists home test
    → sum_below k (λ q. length (lists q)) ≡ count_below n test
    → (i : ℕ)
    → i < n
    → sum_below k (λ q. count i (lists q)) ≡ bit (test i)
family_met {n} {k} {lists} {home} {test} f e =
    sum-tight n (λ i. sum_below k (λ q. count i (lists q))) (λ i. bit (test i)) (λ i l. family-most f i)
    (omega (arith, family-length n k lists f.below, count-sum n test))

pub family_met_past
    : {n k : ℕ} {lists : ℕ → List ℕ} {home : ℕ → ℕ} {test : ℕ → Bool}
    → Family n k lists home test
    → ((i : ℕ) → n ≤ i → test i ≡ false)
    → sum_below k (λ q. length (lists q)) ≡ count_below n test
    → (i : ℕ)
    → sum_below k (λ q. count i (lists q)) ≡ bit (test i)
family_met_past {n} {k} {lists} {home} {test} f o e i = go (ltb i n) refl
  where
    go : (c : Bool) → ltb i n ≡ c → sum_below k (λ q. count i (lists q)) ≡ bit (test i)
    go true q = family_met f e i (ltb-true i n q)
    go false q =
        let l : n ≤ i = ltb-false i n q in
        sum-zero k (λ q. count i (lists q)) (λ q w. count_past n (lists q) i (f.below q w) l) ∙ sym (ap bit (o i l))
