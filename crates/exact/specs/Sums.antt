-- Sums and counts over the numbers below n, and lists of distinct numbers that meet everyone because they are as many.
use Rattle.std.specs.Prelude.{◌≡◌, refl, Bool, true, false, List, [], ◌∷◌, ℕ, zero, suc, ◌+◌, ◌≤◌, ◌<◌, eqb, ltb, length}
use Rattle.std.proofs.Common.{sym, ap, subst, ◌∙◌, arith, not-suc-le-zero, eqb-true, eq-eqb, ne_eqb, ltb-true, ltb-false}
use Rattle.std.proofs.lemmas.Bool.{eqb-false}
pub use Rattle.std.proofs.lemmas.Bool.{true≢false as true-false}
use Rattle.machine.specs.Basics.{count}
use Rattle.machine.specs.Good.{Each}
use Rattle.lists.specs.Lists.{bit, each-count}
use Rattle.chain.specs.Lists.{Below, Absent, Distinct, count-absent}
use Rattle.rules.specs.Facts.{count_below, sum_below}

-- Sums term by term.
pub sum_same : (n : ℕ) (f g : ℕ → ℕ) → ((i : ℕ) → i < n → f i ≡ g i) → sum_below n f ≡ sum_below n g
unfolding sum_below
sum_same zero f g h = refl
sum_same (suc n) f g h = omega (arith, sum_same n f g (λ i l. h i (omega arith)), h n (omega arith))

pub sum-most : (n : ℕ) (f g : ℕ → ℕ) → ((i : ℕ) → i < n → f i ≤ g i) → sum_below n f ≤ sum_below n g
unfolding sum_below
sum-most zero f g h = omega arith
sum-most (suc n) f g h = omega (arith, sum-most n f g (λ i l. h i (omega arith)), h n (omega arith))

-- Terms that are at most others, and in sum no less, are the others.
pub sum-tight : (n : ℕ) (f g : ℕ → ℕ) → ((i : ℕ) → i < n → f i ≤ g i) → sum_below n g ≤ sum_below n f → (i : ℕ) → i < n → f i ≡ g i
unfolding sum_below
sum-tight zero f g h e i l = absurd (not-suc-le-zero l)
sum-tight (suc n) f g h e i l =
    go (eqb i n) refl (sum-most n f g (λ j k. h j (omega arith))) (h n (omega arith)) (λ k d. sum-tight n f g (λ j w. h j (omega arith)) d i k)
  where
    go : (b : Bool) → eqb i n ≡ b → sum_below n f ≤ sum_below n g → f n ≤ g n → (i < n → sum_below n g ≤ sum_below n f → f i ≡ g i) → f i ≡ g i
    go true q s a rec = subst (λ (j : ℕ). f j ≡ g j) (sym (eqb-true i n q)) (omega arith)
    go false q s a rec = rec (omega (arith, eqb-false i n q)) (omega arith)

pub sum-zero : (n : ℕ) (f : ℕ → ℕ) → ((i : ℕ) → i < n → f i ≡ 0) → sum_below n f ≡ 0
unfolding sum_below
sum-zero zero f h = refl
sum-zero (suc n) f h = omega (arith, sum-zero n f (λ i l. h i (omega arith)), h n (omega arith))

-- Where all terms but one are 0.
pub sum_one : (n : ℕ) (f : ℕ → ℕ) (k : ℕ) → k < n → ((i : ℕ) → i < n → (i ≡ k → ⊥) → f i ≡ 0) → sum_below n f ≡ f k
unfolding sum_below
sum_one zero f k l h = absurd (not-suc-le-zero l)
sum_one (suc n) f k l h = go (eqb k n) refl (λ w. sum_one n f k w (λ i v. h i (omega arith)))
  where
    go : (b : Bool) → eqb k n ≡ b → (k < n → sum_below n f ≡ f k) → sum_below n f + f n ≡ f k
    go true q rec =
        let e : k ≡ n = eqb-true k n q in
        let s : sum_below n f ≡ 0 = sum-zero n f (λ i v. h i (omega arith) (λ d. omega arith)) in
        omega (arith, ap f e)
    go false q rec =
        let e : k ≡ n → ⊥ = eqb-false k n q in
        omega (arith, rec (omega arith), h n (omega arith) (λ d. e (sym d)))

pub sum_part : (n : ℕ) (f : ℕ → ℕ) (k : ℕ) → k < n → f k ≤ sum_below n f
unfolding sum_below
sum_part zero f k l = absurd (not-suc-le-zero l)
sum_part (suc n) f k l = go (eqb k n) refl (λ w. sum_part n f k w)
  where
    go : (b : Bool) → eqb k n ≡ b → (k < n → f k ≤ sum_below n f) → f k ≤ sum_below n f + f n
    go true q rec = omega (arith, ap f (eqb-true k n q))
    go false q rec = omega (arith, rec (omega (arith, eqb-false k n q)))

-- A sum that is not 0 has a term that is not.
pub sum-some : (n : ℕ) (f : ℕ → ℕ) → 1 ≤ sum_below n f → (k : ℕ) × (k < n) × (1 ≤ f k)
unfolding sum_below
sum-some zero f h = absurd (not-suc-le-zero h)
sum-some (suc n) f h = go (ltb 0 (f n)) refl (λ w. sum-some n f w)
  where
    go : (b : Bool) → ltb 0 (f n) ≡ b → (1 ≤ sum_below n f → (k : ℕ) × (k < n) × (1 ≤ f k)) → (k : ℕ) × (k < suc n) × (1 ≤ f k)
    go true q rec = (n, omega arith, ltb-true 0 (f n) q)
    go false q rec =
        let r : (k : ℕ) × (k < n) × (1 ≤ f k) = rec (omega (arith, ltb-false 0 (f n) q)) in
        (r.0, omega (arith, r.1), r.2)

pub sum-add : (n : ℕ) (f g : ℕ → ℕ) → sum_below n (λ i. f i + g i) ≡ sum_below n f + sum_below n g
unfolding sum_below
sum-add zero f g = refl
sum-add (suc n) f g = omega (arith, sum-add n f g)

pub sum_swap : (n k : ℕ) (f : ℕ → ℕ → ℕ) → sum_below n (λ i. sum_below k (λ q. f q i)) ≡ sum_below k (λ q. sum_below n (λ i. f q i))
unfolding sum_below
sum_swap zero k f = sym (sum-zero k (λ q. 0) (λ q l. refl))
sum_swap (suc n) k f =
    ap (λ (x : ℕ). x + sum_below k (λ q. f q n)) (sum_swap n k f) ∙ sym (sum-add k (λ q. sum_below n (λ i. f q i)) (λ q. f q n))

-- The first term apart.
pub sum-front : (n : ℕ) (f : ℕ → ℕ) → sum_below (suc n) f ≡ f 0 + sum_below n (λ i. f (suc i))
unfolding sum_below
sum-front zero f = omega arith
sum-front (suc n) f = omega (arith, sum-front n f)

-- A count is a sum.
pub count-sum : (n : ℕ) (test : ℕ → Bool) → count_below n test ≡ sum_below n (λ i. bit (test i))
unfolding count_below sum_below
count-sum zero test = refl
count-sum (suc n) test = omega (arith, count-sum n test)

-- How often a number stands in a list.
pub count_past : (n : ℕ) (xs : List ℕ) (k : ℕ) → Below n xs → n ≤ k → count k xs ≡ 0
count_past n xs k b l = go (ltb 0 (count k xs)) refl
  where
    go : (c : Bool) → ltb 0 (count k xs) ≡ c → count k xs ≡ 0
    go true e = absurd (omega (arith, each-count (λ x. x < n) xs b k (ltb-true 0 (count k xs) e)))
    go false e = omega (arith, ltb-false 0 (count k xs) e)

pub count-distinct : (xs : List ℕ) (k : ℕ) → Distinct xs → count k xs ≤ 1
unfolding count
count-distinct [] k d = omega arith
count-distinct (x ∷ xs) k d = go (eqb k x) refl (count-distinct xs k d.1)
  where
    go : (b : Bool) → eqb k x ≡ b → count k xs ≤ 1 → bit b + count k xs ≤ 1
    go true e h = omega (arith, count-absent xs k (subst (λ (j : ℕ). Absent j xs) (sym (eqb-true k x e)) d.0))
    go false e h = omega arith

-- A list of numbers below n is as long as they are counted in it.
pub length-sum : (n : ℕ) (xs : List ℕ) → Below n xs → length xs ≡ sum_below n (λ i. count i xs)
unfolding count
length-sum n [] b = sym (sum-zero n (λ i. 0) (λ i l. refl))
length-sum n (x ∷ xs) b =
    let o : sum_below n (λ i. bit (eqb i x)) ≡ 1 =
    sum_one n (λ i. bit (eqb i x)) x b.0 (λ i l ne. ap bit (ne_eqb i x ne)) ∙ ap bit (eq-eqb x x refl)
    in
    omega (arith, length-sum n xs b.1, sum-add n (λ i. bit (eqb i x)) (λ i. count i xs))

-- A list of distinct numbers that pass a test counts each at most as the test says.
pub count-passing : (xs : List ℕ) (test : ℕ → Bool) → Distinct xs → Each (λ i. test i ≡ true) xs → (k : ℕ) → count k xs ≤ bit (test k)
count-passing xs test d p k = go (test k) refl (ltb 0 (count k xs)) refl
  where
    go : (b : Bool) → test k ≡ b → (c : Bool) → ltb 0 (count k xs) ≡ c → count k xs ≤ bit b
    go true e c q = count-distinct xs k d
    go false e true q = absurd (true-false (sym (each-count (λ i. test i ≡ true) xs p k (ltb-true 0 (count k xs) q)) ∙ e))
    go false e false q = ltb-false 0 (count k xs) q

-- As long as there are numbers below n that pass, it has each of them once, and no other.
pub all_met
    : (n : ℕ) (xs : List ℕ) (test : ℕ → Bool)
    → Distinct xs
    → Below n xs
    → Each (λ i. test i ≡ true) xs
    → length xs ≡ count_below n test
    → (i : ℕ)
    → i < n
    → count i xs ≡ bit (test i)
all_met n xs test d b p e =
    sum-tight n (λ i. count i xs) (λ i. bit (test i)) (λ i l. count-passing xs test d p i) (omega (arith, length-sum n xs b, count-sum n test))

-- And the other way round.
pub met_all : (n : ℕ) (xs : List ℕ) (test : ℕ → Bool) → Below n xs → ((i : ℕ) → i < n → count i xs ≡ bit (test i)) → length xs ≡ count_below n test
met_all n xs test b h = length-sum n xs b ∙ sum_same n (λ i. count i xs) (λ i. bit (test i)) h ∙ sym (count-sum n test)

-- k lists of distinct numbers below n that pass a test, each number naming the list that it is in.
pub record Family (n k : ℕ) (lists : ℕ → List ℕ) (home : ℕ → ℕ) (test : ℕ → Bool) : Type 0 where
  pub distinct : (q : ℕ) → q < k → Distinct (lists q)
  pub below : (q : ℕ) → q < k → Below n (lists q)
  pub passing : (q : ℕ) → q < k → Each (λ i. test i ≡ true) (lists q)
  pub named : (q : ℕ) → q < k → Each (λ i. home i ≡ q) (lists q)

pub family-length
    : (n k : ℕ) (lists : ℕ → List ℕ)
    → ((q : ℕ) → q < k → Below n (lists q))
    → sum_below k (λ q. length (lists q)) ≡ sum_below n (λ i. sum_below k (λ q. count i (lists q)))
family-length n k lists b =
    sum_same k (λ q. length (lists q)) (λ q. sum_below n (λ i. count i (lists q))) (λ q l. length-sum n (lists q) (b q l))
    ∙ sym (sum_swap n k (λ q i. count i (lists q)))

pub met_family
    : (n k : ℕ) (lists : ℕ → List ℕ) (test : ℕ → Bool)
    → ((q : ℕ) → q < k → Below n (lists q))
    → ((i : ℕ) → i < n → sum_below k (λ q. count i (lists q)) ≡ bit (test i))
    → sum_below k (λ q. length (lists q)) ≡ count_below n test
met_family n k lists test b h =
    family-length n k lists b ∙ sum_same n (λ i. sum_below k (λ q. count i (lists q))) (λ i. bit (test i)) h ∙ sym (count-sum n test)

-- A number that is 1 where a test passes, and else 0.
pub bit_of_lem : (c : ℕ) (t : Bool) → (t ≡ true → c ≡ 1) → (1 ≤ c → t ≡ true) → c ≡ bit t
bit_of_lem c true h k = h refl
bit_of_lem c false h k = go (ltb 0 c) refl
  where
    go : (b : Bool) → ltb 0 c ≡ b → c ≡ 0
    go true e = absurd (true-false (sym (k (ltb-true 0 c e))))
    go false e = omega (arith, ltb-false 0 c e)

pub bit-most : (c : ℕ) (t : Bool) → c ≤ 1 → (1 ≤ c → t ≡ true) → c ≤ bit t
bit-most c true l k = l
bit-most c false l k = go (ltb 0 c) refl
  where
    go : (b : Bool) → ltb 0 c ≡ b → c ≤ 0
    go true e = absurd (true-false (sym (k (ltb-true 0 c e))))
    go false e = ltb-false 0 c e

pub bit-true : (b : Bool) → 1 ≤ bit b → b ≡ true
bit-true true h = refl
bit-true false h = absurd (not-suc-le-zero h)

-- The same for every number, where none from n on passes.
pub all_met_past
    : (n : ℕ) (xs : List ℕ) (test : ℕ → Bool)
    → Distinct xs
    → Below n xs
    → Each (λ i. test i ≡ true) xs
    → ((i : ℕ) → n ≤ i → test i ≡ false)
    → length xs ≡ count_below n test
    → (i : ℕ)
    → count i xs ≡ bit (test i)
all_met_past n xs test d b p o e i = go (ltb i n) refl
  where
    go : (c : Bool) → ltb i n ≡ c → count i xs ≡ bit (test i)
    go true q = all_met n xs test d b p e i (ltb-true i n q)
    go false q = let l : n ≤ i = ltb-false i n q in count_past n xs i b l ∙ sym (ap bit (o i l))
