-- Small functions on Bools, lists and options that the definitions below share.
use Rattle.std.specs.Prelude.{if◌then◌else◌, Bool, true, false, ◌&&◌, ◌||◌, List, [], ◌∷◌, ◌++◌, ℕ, zero, suc, ◌+◌, eqb}
use Rattle.std.proofs.Math.Option.{Option, none, some}
use Prim.Native.Char.{code}
use Prim.Native.String.{String, [] as empty, ◌∷◌ as ◌then◌}

-- whether there is something
abbrev pub is_some : {A : Type 0} → Option A → Bool
is_some none = false
is_some (some a) = true

-- whether there is nothing
abbrev pub is_none : {A : Type 0} → Option A → Bool
is_none none = true
is_none (some a) = false

-- whether a list has no element
abbrev pub is_empty : {A : Type 0} → List A → Bool
is_empty [] = true
is_empty (x ∷ xs) = false

-- whether the number i stands in a list
unfoldable pub elem : ℕ → List ℕ → Bool
elem i [] = false
elem i (x ∷ xs) = eqb i x || elem i xs

-- how often the number i stands in a list
unfoldable pub count : ℕ → List ℕ → ℕ
count i [] = 0
count i (x ∷ xs) = (if eqb i x then 1 else 0) + count i xs

-- whether every element of a list passes a test
unfoldable pub all : {A : Type 0} → (A → Bool) → List A → Bool
all test [] = true
all test (x ∷ xs) = test x && all test xs

-- how many elements of a list pass a test
unfoldable pub count_that : {A : Type 0} → (A → Bool) → List A → ℕ
count_that test [] = 0
count_that test (x ∷ xs) = (if test x then 1 else 0) + count_that test xs

-- the elements of a list that pass a test, in order
unfoldable pub filter : {A : Type 0} → (A → Bool) → List A → List A
filter test [] = []
filter test (x ∷ xs) = if test x then x ∷ filter test xs else filter test xs

-- what f gives for each element, one after another
unfoldable pub concat_map : {A B : Type 0} → (A → List B) → List A → List B
concat_map f [] = []
concat_map f (x ∷ xs) = f x ++ concat_map f xs

-- the elements that are there
unfoldable pub present : {A : Type 0} → List (Option A) → List A
present [] = []
present (none ∷ os) = present os
present (some a ∷ os) = a ∷ present os

-- the number of the first element that passes a test
unfoldable pub first_that : {A : Type 0} → (A → Bool) → List A → Option ℕ
first_that test [] = none
first_that test (x ∷ xs) = elim (test x) [ true ↦ some 0 | false ↦ next (first_that test xs) ]
  where
    next : Option ℕ → Option ℕ
    next none = none
    next (some i) = some (suc i)

-- the highest number below n that passes a test
unfoldable pub highest_below : ℕ → (ℕ → Bool) → Option ℕ
highest_below zero test = none
highest_below (suc n) test = elim (test n) [ true ↦ some n | false ↦ highest_below n test ]

-- the numbers of the elements that pass a test, the first element having number n
unfoldable pub numbers_from : {A : Type 0} → ℕ → (A → Bool) → List A → List ℕ
numbers_from n test [] = []
numbers_from n test (x ∷ xs) = if test x then n ∷ numbers_from (suc n) test xs else numbers_from (suc n) test xs

-- whether two lists of numbers are the same
unfoldable pub same : List ℕ → List ℕ → Bool
same [] [] = true
same [] (y ∷ ys) = false
same (x ∷ xs) [] = false
same (x ∷ xs) (y ∷ ys) = eqb x y && same xs ys

-- the bytes of a text, for texts of ASCII letters
unfoldable pub ascii : String → List ℕ
ascii empty = []
ascii (c then s) = code c ∷ ascii s

-- All of this module, for whoever computes with it.
unfoldable pub open_basics : Unit {0}
unfolding elem count all count_that filter concat_map present first_that highest_below numbers_from same ascii
open_basics = tt
