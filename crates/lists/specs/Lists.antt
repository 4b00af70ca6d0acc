-- Lists: what every element has, and how often a number stands in a list when one element of it changes.
use Rattle.std.specs.Prelude.{if◌then◌else◌, ◌≡◌, refl, Bool, true, false, List, [], ◌∷◌, ◌++◌, ℕ, zero, suc, ◌+◌, ◌≤◌, ◌<◌, eqb, length, get_or, set}
use Rattle.std.proofs.Common.{sym, ap, subst, arith, not-suc-le-zero, le_of_suc-le-suc, zero-add, eqb-true, eq-eqb, ne_eqb}
use Rattle.std.proofs.Math.Option.{Option, none, some}
use Rattle.std.proofs.lemmas.Bool.{eqb-false}
use Rattle.machine.specs.Basics.{elem, count, count_that, concat_map, present, first_that, highest_below, numbers_from}
use Rattle.machine.specs.Good.{Each, running_in}

-- 1 for true, 0 for false
abbrev pub bit : Bool → ℕ
bit b = if b then 1 else 0

-- It is at most 1.
pub bit-small : (b : Bool) → bit b ≤ 1
bit-small true = omega arith
bit-small false = omega arith

-- Where a test decides, both cases.
pub either : (P : Bool → Type 0) (b : Bool) → P true → P false → P b
either P true t f = t
either P false t f = f

-- What every element has, and the element at a number.
pub each-get : {A : Type 0} (P : A → Type 0) (xs : List A) (i : ℕ) (d : A) → Each P xs → i < length xs → P (get_or xs i d)
each-get P [] i d h l = absurd (not-suc-le-zero l)
each-get P (x ∷ xs) zero d h l = h.0
each-get P (x ∷ xs) (suc i) d h l = each-get P xs i d h.1 (le_of_suc-le-suc l)

-- It stays so when one element is replaced by another that has it.
pub each_set : {A : Type 0} (P : A → Type 0) (xs : List A) (i : ℕ) (v : A) → Each P xs → P v → Each P (set xs i v)
each_set P [] i v h p = tt
each_set P (x ∷ xs) zero v h p = (p, h.1)
each_set P (x ∷ xs) (suc i) v h p = (h.0, each_set P xs i v h.1 p)

-- What follows from it, every element has.
pub each_map : {A : Type 0} (P Q : A → Type 0) (xs : List A) → ((x : A) → P x → Q x) → Each P xs → Each Q xs
each_map P Q [] f h = tt
each_map P Q (x ∷ xs) f h = (f x h.0, each_map P Q xs f h.1)

-- Two lists, one after the other.
pub each_append : {A : Type 0} (P : A → Type 0) (xs ys : List A) → Each P xs → Each P ys → Each P (xs ++ ys)
each_append P [] ys h k = k
each_append P (x ∷ xs) ys h k = (h.0, each_append P xs ys h.1 k)

-- What every number in a list has, one that stands in it has, and the other way round.
pub each-count : (P : ℕ → Type 0) (xs : List ℕ) → Each P xs → (k : ℕ) → 1 ≤ count k xs → P k
unfolding count
each-count P [] h k c = absurd (not-suc-le-zero c)
each-count P (x ∷ xs) h k c = go (eqb k x) refl (λ l. each-count P xs h.1 k l)
  where
    go : (b : Bool) → eqb k x ≡ b → (1 ≤ count k xs → P k) → P k
    go true e rec = subst P (sym (eqb-true k x e)) h.0
    go false e rec = rec (omega (arith, ap bit e))

-- What each number that stands in a list has, every element has.
pub count-each : (P : ℕ → Type 0) (xs : List ℕ) → ((k : ℕ) → 1 ≤ count k xs → P k) → Each P xs
unfolding count
count-each P [] h = tt
count-each P (x ∷ xs) h = (h x (omega (arith, ap bit (eq-eqb x x refl))), count-each P xs (λ k c. h k (omega arith)))

-- How often in two lists, one after the other.
pub count-append : (k : ℕ) (xs ys : List ℕ) → count k (xs ++ ys) ≡ count k xs + count k ys
unfolding count
count-append k [] ys = omega arith
count-append k (x ∷ xs) ys = omega (arith, count-append k xs ys)

-- A number stands once in the list of itself.
pub count_self : (k : ℕ) → count k (k ∷ []) ≡ 1
unfolding count
count_self k = omega (arith, ap bit (eq-eqb k k refl))

-- And no other number does.
pub count-other : (k i : ℕ) → (k ≡ i → ⊥) → count k (i ∷ []) ≡ 0
unfolding count
count-other k i h = omega (arith, ap bit (ne_eqb k i h))

-- Who stands in a list of one is that one.
pub count-only : (k i : ℕ) → 1 ≤ count k (i ∷ []) → k ≡ i
unfolding count
count-only k i h = go (eqb k i) refl
  where
    go : (b : Bool) → eqb k i ≡ b → k ≡ i
    go true e = eqb-true k i e
    go false e = absurd (omega (arith, ap bit e))

-- One element replaced: what its part counted goes, and what the new part counts comes.
pub count_concat_set : {A : Type 0} (f : A → List ℕ) (xs : List A) (i : ℕ) (v d : A) (k : ℕ)
    → i < length xs
    → count k (concat_map f (set xs i v)) + count k (f (get_or xs i d)) ≡ count k (concat_map f xs) + count k (f v)
unfolding concat_map
count_concat_set f [] i v d k h = absurd (not-suc-le-zero h)
count_concat_set f (x ∷ xs) zero v d k h = omega (arith, count-append k (f x) (concat_map f xs), count-append k (f v) (concat_map f xs))
count_concat_set f (x ∷ xs) (suc i) v d k h =
    omega (arith, count-append k (f x) (concat_map f xs), count-append k (f x) (concat_map f (set xs i v)), count_concat_set f xs i v d k (le_of_suc-le-suc h))

-- A part counts no more than the whole.
pub count_concat_get : {A : Type 0} (f : A → List ℕ) (xs : List A) (i : ℕ) (d : A) (k : ℕ)
    → f d ≡ []
    → count k (f (get_or xs i d)) ≤ count k (concat_map f xs)
unfolding concat_map count
count_concat_get f [] i d k e = omega (arith, ap (count k) e)
count_concat_get f (x ∷ xs) zero d k e = omega (arith, count-append k (f x) (concat_map f xs))
count_concat_get f (x ∷ xs) (suc i) d k e = omega (arith, count-append k (f x) (concat_map f xs), count_concat_get f xs i d k e)

-- The elements that are there are the lists of each, one after another.
pub present_concat : (os : List (Option ℕ)) → present os ≡ concat_map running_in os
unfolding present concat_map running_in
present_concat [] = refl
present_concat (none ∷ os) = present_concat os
present_concat (some a ∷ os) = ap {B = List ℕ} (λ r. a ∷ r) (present_concat os)

-- The numbers of those that pass: k stands there once where element k passes.
count_low : {A : Type 0} (test : A → Bool) (xs : List A) (n k : ℕ) → k < n → count k (numbers_from n test xs) ≡ 0
unfolding numbers_from count
count_low test [] n k h = refl
count_low test (x ∷ xs) n k h =
    either (λ (b : Bool). count k (if b then n ∷ numbers_from (suc n) test xs else numbers_from (suc n) test xs) ≡ 0) (test x)
    (omega (arith, ap bit (ne_eqb k n (λ e. omega arith)), count_low test xs (suc n) k (omega arith)))
    (count_low test xs (suc n) k (omega arith))

-- The numbers from n on: n + k stands there once where element k passes.
count-from : {A : Type 0} (test : A → Bool) (d : A) → test d ≡ false → (xs : List A) (n k : ℕ) → count (n + k) (numbers_from n test xs) ≡ bit (test (get_or xs k d))
unfolding numbers_from count
count-from test d e [] n k = sym (ap bit e)
count-from test d e (x ∷ xs) n zero =
    let l : count (n + 0) (numbers_from (suc n) test xs) ≡ 0 = count_low test xs (suc n) (n + 0) (omega arith) in
    either (λ (b : Bool). count (n + 0) (if b then n ∷ numbers_from (suc n) test xs else numbers_from (suc n) test xs) ≡ bit b) (test x)
    (omega (arith, ap bit (eq-eqb (n + 0) n (omega arith))))
    l
count-from test d e (x ∷ xs) n (suc k) =
    let l : count (n + suc k) (numbers_from (suc n) test xs) ≡ bit (test (get_or xs k d)) =
    subst (λ (a : ℕ). count a (numbers_from (suc n) test xs) ≡ bit (test (get_or xs k d))) (omega arith) (count-from test d e xs (suc n) k) in
    either (λ (b : Bool). count (n + suc k) (if b then n ∷ numbers_from (suc n) test xs else numbers_from (suc n) test xs) ≡ bit (test (get_or xs k d))) (test x)
    (omega (arith, ap bit (ne_eqb (n + suc k) n (λ e. omega arith))))
    l

-- The same from 0 on.
pub count-numbers : {A : Type 0} (test : A → Bool) (d : A) → test d ≡ false → (xs : List A) (k : ℕ) → count k (numbers_from 0 test xs) ≡ bit (test (get_or xs k d))
count-numbers test d e xs k = subst (λ (a : ℕ). count a (numbers_from 0 test xs) ≡ bit (test (get_or xs k d))) (zero-add k) (count-from test d e xs 0 k)

-- How many pass, when one element is replaced; one that passes is counted; where none passes, none is.
pub count_that-set : {A : Type 0} (test : A → Bool) (xs : List A) (i : ℕ) (v d : A)
    → i < length xs
    → count_that test (set xs i v) + bit (test (get_or xs i d)) ≡ count_that test xs + bit (test v)
unfolding count_that
count_that-set test [] i v d h = absurd (not-suc-le-zero h)
count_that-set test (x ∷ xs) zero v d h = omega arith
count_that-set test (x ∷ xs) (suc i) v d h = omega (arith, count_that-set test xs i v d (le_of_suc-le-suc h))

-- One that passes is counted.
pub count_that-get : {A : Type 0} (test : A → Bool) (xs : List A) (i : ℕ) (d : A) → i < length xs → bit (test (get_or xs i d)) ≤ count_that test xs
unfolding count_that
count_that-get test [] i d h = absurd (not-suc-le-zero h)
count_that-get test (x ∷ xs) zero d h = omega arith
count_that-get test (x ∷ xs) (suc i) d h = omega (arith, count_that-get test xs i d (le_of_suc-le-suc h))

-- Where none passes, none is counted.
pub count_that-none : {A : Type 0} (test : A → Bool) (d : A) (xs : List A) → ((i : ℕ) → i < length xs → test (get_or xs i d) ≡ false) → count_that test xs ≡ 0
unfolding count_that
count_that-none test d [] h = refl
count_that-none test d (x ∷ xs) h = omega (arith, ap bit (h 0 (omega arith)), count_that-none test d xs (λ i l. h (suc i) (omega arith)))

-- The first that passes is in the list and passes; where there is none, none passes.
pub first_some : {A : Type 0} (test : A → Bool) (d : A) (xs : List A) (i : ℕ) → first_that test xs ≡ some i → (i < length xs) × (test (get_or xs i d) ≡ true)
unfolding first_that
first_some test d [] i e = absurd (let z : ◌≡◌ {A = ℕ} 0 1 = cc in omega arith)
first_some test d (x ∷ xs) i e = go (test x) refl (first_that test xs) refl (λ j f. first_some test d xs j f)
  where
    go : (b : Bool) → test x ≡ b → (o : Option ℕ) → first_that test xs ≡ o
        → ((j : ℕ) → first_that test xs ≡ some j → (j < length xs) × (test (get_or xs j d) ≡ true))
        → (i < length (x ∷ xs)) × (test (get_or (x ∷ xs) i d) ≡ true)
    go true t o f rec =
        let z : some 0 ≡ some i = rw (t, first_that) at e in
        let y : 0 ≡ i = cc in
        subst (λ (j : ℕ). (j < length (x ∷ xs)) × (test (get_or (x ∷ xs) j d) ≡ true)) y (omega arith, t)
    go false t none f rec = absurd (let y : none ≡ some i = rw (t, first_that, f) at e in let z : ◌≡◌ {A = ℕ} 0 1 = cc in omega arith)
    go false t (some j) f rec =
        let z : some (suc j) ≡ some i = rw (t, first_that, f) at e in
        let y : suc j ≡ i = cc in
        let r : (j < length xs) × (test (get_or xs j d) ≡ true) = rec j f in
        subst (λ (n : ℕ). (n < length (x ∷ xs)) × (test (get_or (x ∷ xs) n d) ≡ true)) y (omega arith, r.1)

-- Where no first is found, none passes.
pub first-none : {A : Type 0} (test : A → Bool) (d : A) (xs : List A) → first_that test xs ≡ none → (i : ℕ) → i < length xs → test (get_or xs i d) ≡ false
unfolding first_that
first-none test d [] e i h = absurd (not-suc-le-zero h)
first-none test d (x ∷ xs) e i h = go (test x) refl (first_that test xs) refl (λ f j l. first-none test d xs f j l) i h
  where
    go : (b : Bool) → test x ≡ b → (o : Option ℕ) → first_that test xs ≡ o
        → (first_that test xs ≡ none → (j : ℕ) → j < length xs → test (get_or xs j d) ≡ false)
        → (j : ℕ) → j < length (x ∷ xs) → test (get_or (x ∷ xs) j d) ≡ false
    go true t o f rec j l = absurd (let y : some 0 ≡ none = rw (t, first_that) at e in let z : ◌≡◌ {A = ℕ} 0 1 = cc in omega arith)
    go false t none f rec zero l = t
    go false t none f rec (suc j) l = rec f j (le_of_suc-le-suc l)
    go false t (some n) f rec j l = absurd (let y : some (suc n) ≡ none = rw (t, first_that, f) at e in let z : ◌≡◌ {A = ℕ} 0 1 = cc in omega arith)

-- The highest number that passes is below the bound and passes; where there is none, none does.
pub highest-some : (n : ℕ) (test : ℕ → Bool) (i : ℕ) → highest_below n test ≡ some i → (i < n) × (test i ≡ true)
unfolding highest_below
highest-some zero test i e = absurd (let z : ◌≡◌ {A = ℕ} 0 1 = cc in omega arith)
highest-some (suc n) test i e = go (test n) refl (λ f. highest-some n test i f)
  where
    go : (b : Bool) → test n ≡ b → (highest_below n test ≡ some i → (i < n) × (test i ≡ true)) → (i < suc n) × (test i ≡ true)
    go true t rec =
        let z : some n ≡ some i = rw (t, highest_below) at e in
        let y : n ≡ i = cc in
        (omega arith, subst (λ (j : ℕ). test j ≡ true) y t)
    go false t rec = let r : (i < n) × (test i ≡ true) = rec (rw (t, highest_below) at e) in (omega arith, r.1)

-- Where no highest is found, none below the bound passes.
pub highest-none : (n : ℕ) (test : ℕ → Bool) → highest_below n test ≡ none → (i : ℕ) → i < n → test i ≡ false
unfolding highest_below
highest-none zero test e i h = absurd (not-suc-le-zero h)
highest-none (suc n) test e i h = go (test n) refl (eqb i n) refl (λ f l. highest-none n test f i l)
  where
    go : (b : Bool) → test n ≡ b → (c : Bool) → eqb i n ≡ c → (highest_below n test ≡ none → i < n → test i ≡ false) → test i ≡ false
    go true t c f rec = absurd (let y : some n ≡ none = rw (t, highest_below) at e in let z : ◌≡◌ {A = ℕ} 0 1 = cc in omega arith)
    go false t true f rec = subst (λ (j : ℕ). test j ≡ false) (sym (eqb-true i n f)) t
    go false t false f rec = rec (rw (t, highest_below) at e) (omega (arith, eqb-false i n f))

-- A number that is in a list stands in it once or more.
pub elem-some : (k : ℕ) (xs : List ℕ) → elem k xs ≡ true → 1 ≤ count k xs
unfolding elem count
elem-some k [] e = absurd (let d : ◌≡◌ {A = ℕ} 0 1 = cc in omega arith)
elem-some k (x ∷ xs) e = go (eqb k x) refl (λ f. elem-some k xs f)
  where
    go : (b : Bool) → eqb k x ≡ b → (elem k xs ≡ true → 1 ≤ count k xs) → 1 ≤ bit (eqb k x) + count k xs
    go true t rec = omega (arith, ap bit t)
    go false t rec = omega (arith, rec (rw (t, elem) at e))

-- A number that is not in a list stands in it no time.
pub elem-none : (k : ℕ) (xs : List ℕ) → elem k xs ≡ false → count k xs ≡ 0
unfolding elem count
elem-none k [] e = refl
elem-none k (x ∷ xs) e = go (eqb k x) refl (λ f. elem-none k xs f)
  where
    go : (b : Bool) → eqb k x ≡ b → (elem k xs ≡ false → count k xs ≡ 0) → bit (eqb k x) + count k xs ≡ 0
    go true t rec = absurd (let y : true ≡ false = rw (t, elem) at e in let z : ◌≡◌ {A = ℕ} 0 1 = cc in omega arith)
    go false t rec = omega (arith, ap bit t, rec (rw (t, elem) at e))
