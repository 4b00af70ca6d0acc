-- The list of the first values of a function.
use Rattle.std.specs.Prelude.{◌≡◌, refl, Bool, true, false, List, [], ◌∷◌, map, ℕ, zero, suc, ◌+◌, ◌≤◌, ◌<◌, eqb}
use Rattle.std.proofs.Common.{sym, ap, ap₂, ◌∙◌, arith, not-suc-le-zero, le_of_suc-le-suc, eqb-true, eq-eqb}
use Rattle.std.proofs.Math.Option.{some}
use Rattle.machine.specs.Basics.{count, count_that, concat_map}
use Rattle.machine.specs.Good.{Each, running_in}
use Rattle.chain.specs.Lists.{Distinct}
use Rattle.state.specs.Abs.{table, link_to}
use Rattle.rules.specs.Facts.{count_below, sum_below}
use Rattle.exact.specs.Sums.{sum-front, count-sum}
use Rattle.lists.specs.Lists.{bit, count-append}

pub each-table : {A : Type 0} (P : A → Type 0) (n : ℕ) (f : ℕ → A) → ((i : ℕ) → i < n → P (f i)) → Each P (table n f)
unfolding table
each-table P zero f h = tt
each-table P (suc n) f h = (h 0 (omega arith), each-table P n (λ k. f (suc k)) (λ i l. h (suc i) (omega arith)))

pub table-each : {A : Type 0} (P : A → Type 0) (n : ℕ) (f : ℕ → A) → Each P (table n f) → (i : ℕ) → i < n → P (f i)
unfolding table
table-each P zero f a i l = absurd (not-suc-le-zero l)
table-each P (suc n) f a zero l = a.0
table-each P (suc n) f a (suc i) l = table-each P n (λ k. f (suc k)) a.1 i (le_of_suc-le-suc l)

-- What holds for each element, of a list that is mapped.
pub each_map : {A B : Type 0} (P : B → Type 0) (f : A → B) (xs : List A) → Each (λ x. P (f x)) xs → Each P (map f xs)
each_map P f [] a = tt
each_map P f (x ∷ xs) a = (a.0, each_map P f xs a.1)

pub map_each : {A B : Type 0} (P : B → Type 0) (f : A → B) (xs : List A) → Each P (map f xs) → Each (λ x. P (f x)) xs
map_each P f [] a = tt
map_each P f (x ∷ xs) a = (a.0, map_each P f xs a.1)

-- What is put on and taken off again.
pub map_back : {A : Type 0} (f : ℕ → A) (g : A → ℕ) → ((i : ℕ) → g (f i) ≡ i) → (xs : List ℕ) → map g (map f xs) ≡ xs
map_back f g h [] = refl
map_back f g h (x ∷ xs) = ap₂ (λ (a : ℕ) (b : List ℕ). a ∷ b) (h x) (map_back f g h xs)

-- Lists of each value, one after another.
pub count_concat : {A : Type 0} (n : ℕ) (f : ℕ → A) (g : A → List ℕ) (k : ℕ) → count k (concat_map g (table n f)) ≡ sum_below n (λ q. count k (g (f q)))
unfolding concat_map table count sum_below
count_concat zero f g k = refl
count_concat (suc n) f g k =
    count-append k (g (f 0)) (concat_map g (table n (λ q. f (suc q))))
    ∙ ap (λ (x : ℕ). count k (g (f 0)) + x) (count_concat n (λ q. f (suc q)) g k)
    ∙ sym (sum-front n (λ q. count k (g (f q))))

-- How many values pass a test.
count_that-sum : {A : Type 0} (test : A → Bool) (n : ℕ) (f : ℕ → A) → count_that test (table n f) ≡ sum_below n (λ i. bit (test (f i)))
unfolding count_that table sum_below
count_that-sum test zero f = refl
count_that-sum test (suc n) f =
    ap (λ (x : ℕ). bit (test (f 0)) + x) (count_that-sum test n (λ i. f (suc i))) ∙ sym (sum-front n (λ i. bit (test (f i))))

pub count_that-table : {A : Type 0} (test : A → Bool) (n : ℕ) (f : ℕ → A) → count_that test (table n f) ≡ count_below n (λ i. test (f i))
count_that-table test n f = count_that-sum test n f ∙ sym (count-sum n (λ i. test (f i)))

-- Whom a link names, as a list.
pub link-count : (l i : ℕ) → l ≡ suc i → count i (running_in (link_to l)) ≡ 1
unfolding running_in count
link-count zero i e = absurd (omega arith)
link-count (suc j) i e = omega (arith, ap bit (eq-eqb i j (omega arith)))

pub count-link : (l i : ℕ) → 1 ≤ count i (running_in (link_to l)) → l ≡ suc i
unfolding running_in count
count-link zero i h = absurd (omega arith)
count-link (suc j) i h = go (eqb i j) refl
  where
    go : (b : Bool) → eqb i j ≡ b → suc j ≡ suc i
    go true e = ap suc (sym (eqb-true i j e))
    go false e = absurd (omega (arith, ap bit e))

-- What holds for whom the link names.
pub each-link : (P : ℕ → Type 0) (l : ℕ) → ((i : ℕ) → l ≡ suc i → P i) → Each P (running_in (link_to l))
unfolding running_in
each-link P zero h = tt
each-link P (suc i) h = (h i refl, tt)

pub distinct-link : (l : ℕ) → Distinct (running_in (link_to l))
unfolding running_in
distinct-link zero = tt
distinct-link (suc i) = (tt, tt)

-- The crates above cite this one.
pub some-link : (l i : ℕ) → link_to l ≡ some i → l ≡ suc i
some-link zero i e = absurd (let z : ◌≡◌ {A = ℕ} 0 1 = cc in omega arith)
some-link (suc j) i e = let d : j ≡ i = cc in ap suc d

pub link-some : (l i : ℕ) → l ≡ suc i → link_to l ≡ some i
link-some l i e = rw e
