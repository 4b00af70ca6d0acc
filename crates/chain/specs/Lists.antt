-- Lists of numbers below a bound, distinct ones, and how often a number stands in one.
use Rattle.std.specs.Prelude.{if◌then◌else◌, ◌≡◌, refl, Bool, true, false, not, List, [], ◌∷◌, ◌++◌, ℕ, zero, suc, ◌+◌, ◌≤◌, ◌<◌, eqb, length, get_or}
use Rattle.std.proofs.Common.{sym, subst, append_assoc, get_or-append-add, arith, not-suc-le-zero, eqb-true, ne_eqb}
use Rattle.std.proofs.lemmas.Bool.{eqb-false}
use Rattle.machine.specs.Basics.{count, filter}
use Rattle.machine.specs.Good.{Each}

abbrev pub Below : ℕ → List ℕ → Type 0
Below n = Each (λ x. x < n)

abbrev pub Absent : ℕ → List ℕ → Type 0
Absent i = Each (λ x. i ≡ x → ⊥)

abbrev pub Distinct : List ℕ → Type 0
Distinct [] = Unit {0}
Distinct (x ∷ xs) = Absent x xs × Distinct xs

pub all_map : {p q : ℕ → Type 0} → ((x : ℕ) → p x → q x) → (xs : List ℕ) → Each p xs → Each q xs
all_map f [] a = tt
all_map f (x ∷ xs) a = (f x a.0, all_map f xs a.1)

pub all_both : {p q r : ℕ → Type 0} → ((x : ℕ) → p x → q x → r x) → (xs : List ℕ) → Each p xs → Each q xs → Each r xs
all_both f [] a b = tt
all_both f (x ∷ xs) a b = (f x a.0 b.0, all_both f xs a.1 b.1)

-- one more element, after t
pub all_insert : (p : ℕ → Type 0) (xs : List ℕ) (t i : ℕ) (ys : List ℕ) → Each p (xs ++ t ∷ ys) → p i → Each p (xs ++ t ∷ i ∷ ys)
all_insert p [] t i ys a h = (a.0, (h, a.1))
all_insert p (x ∷ xs) t i ys a h = (a.0, all_insert p xs t i ys a.1 h)

pub distinct-insert : (xs : List ℕ) (t i : ℕ) (ys : List ℕ) → Distinct (xs ++ t ∷ ys) → Absent i (xs ++ t ∷ ys) → Distinct (xs ++ t ∷ i ∷ ys)
distinct-insert [] t i ys d a = (((λ e. a.0 (sym e)), d.0), (a.1, d.1))
distinct-insert (x ∷ xs) t i ys d a = (all_insert (λ y. x ≡ y → ⊥) xs t i ys d.0 (λ e. a.0 (sym e)), distinct-insert xs t i ys d.1 a.1)

-- The numbers of a part of a list are below what all of the list are below.
pub part_below : (n : ℕ) (p bs q : List ℕ) → ((k : ℕ) → get_or (p ++ (bs ++ q)) k 0 < n) → Below n bs
part_below n p [] q h = tt
part_below n p (b ∷ bs) q h = (
  subst (λ (x : ℕ). x < n) (get_or-append-add p (b ∷ (bs ++ q)) 0 0) (h (length p + 0)),
  part_below n (p ++ b ∷ []) bs q (λ k. subst (λ (l : List ℕ). get_or l k 0 < n) (sym (append_assoc p (b ∷ []) (bs ++ q))) (h k)),
)

-- A number that is absent stands there no time, and the other way round.
pub count-absent : (xs : List ℕ) (k : ℕ) → Absent k xs → count k xs ≡ 0
unfolding count
count-absent [] k a = refl
count-absent (x ∷ xs) k a = rw (ne_eqb k x a.0) (omega (arith, count-absent xs k a.1))

pub none-absent : (i : ℕ) (xs : List ℕ) → count i xs ≡ 0 → Absent i xs
unfolding count
none-absent i [] e = tt
none-absent i (x ∷ xs) e = go (eqb i x) refl (λ c. none-absent i xs c)
  where
    go : (b : Bool) → eqb i x ≡ b → (count i xs ≡ 0 → Absent i xs) → (i ≡ x → ⊥) × Absent i xs
    go true q r = absurd (omega (arith, rw q at e))
    go false q r = (eqb-false i x q, r (omega (arith, rw q at e)))

-- A list without a number that is absent is the list.
pub filter-absent : (i : ℕ) (xs : List ℕ) → Absent i xs → filter (λ (x : ℕ). not (eqb x i)) xs ≡ xs
unfolding filter
filter-absent i [] a = refl
filter-absent i (x ∷ xs) a = rw (ne_eqb x i (λ e. a.0 (sym e)), filter-absent i xs a.1)

-- distinct numbers below n are at most n
without : ℕ → List ℕ → List ℕ
without n [] = []
without n (x ∷ xs) = if◌then◌else◌ (eqb x n) (without n xs) (x ∷ without n xs)

without-absent : (n : ℕ) (xs : List ℕ) → Absent n xs → without n xs ≡ xs
unfolding without
without-absent n [] a = refl
without-absent n (x ∷ xs) a = rw (ne_eqb x n (λ e. a.0 (sym e)), without-absent n xs a.1)

without-length : (n : ℕ) (xs : List ℕ) → Distinct xs → length xs ≤ suc (length (without n xs))
unfolding without
without-length n [] d = omega arith
without-length n (x ∷ xs) d = go (eqb x n) refl (without-length n xs d.1)
  where
    go : (b : Bool) → eqb x n ≡ b → length xs ≤ suc (length (without n xs)) → suc (length xs) ≤ suc (length (if◌then◌else◌ b (without n xs) (x ∷ without n xs)))
    go true e h = rw (without-absent n xs (subst (λ (k : ℕ). Absent k xs) (eqb-true x n e) d.0)) (omega arith)
    go false e h = omega arith

without_all : {p q : ℕ → Type 0} (n : ℕ) (xs : List ℕ) → ((x : ℕ) → (x ≡ n → ⊥) → p x → q x) → Each p xs → Each q (without n xs)
unfolding without
without_all n [] f a = tt
without_all {p} {q} n (x ∷ xs) f a = go (eqb x n) refl (without_all n xs f a.1)
  where
    go : (b : Bool) → eqb x n ≡ b → Each q (without n xs) → Each q (if◌then◌else◌ b (without n xs) (x ∷ without n xs))
    go true e h = h
    go false e h = (f x (eqb-false x n e) a.0, h)

without-distinct : (n : ℕ) (xs : List ℕ) → Distinct xs → Distinct (without n xs)
unfolding without
without-distinct n [] d = tt
without-distinct n (x ∷ xs) d = go (eqb x n) (without_all n xs (λ y _ h. h) d.0) (without-distinct n xs d.1)
  where
    go : (b : Bool) → Absent x (without n xs) → Distinct (without n xs) → Distinct (if◌then◌else◌ b (without n xs) (x ∷ without n xs))
    go true a h = h
    go false a h = (a, h)

pub distinct-fits : (n : ℕ) (xs : List ℕ) → Distinct xs → Below n xs → length xs ≤ n
distinct-fits zero [] d b = omega arith
distinct-fits zero (x ∷ xs) d b = absurd (not-suc-le-zero b.0)
distinct-fits (suc n) xs d b =
    let h : length (without n xs) ≤ n = distinct-fits n (without n xs) (without-distinct n xs d) (without_all n xs (λ x e l. omega arith) b) in
    omega (arith, without-length n xs d)
