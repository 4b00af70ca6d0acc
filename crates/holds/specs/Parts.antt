-- What becomes of the machine when one part of the memory changes.
use Rattle.std.specs.Prelude.{if◌then◌else◌, ◌≡◌, refl, Bool, true, false, List, [], ◌∷◌, ◌++◌, ℕ, zero, suc, ◌+◌, ◌<◌, length, get_or, set}
use Rattle.std.proofs.Common.{ap, arith, not-suc-le-zero, le_of_suc-le-suc}
use Rattle.std.proofs.Math.Option.{Option, none}
use Rattle.machine.specs.Basics.{concat_map, count_that, numbers_from, present}
use Rattle.machine.specs.Machine.{Machine, Process, Lock, free, process, sleeper, lock, asleep, asleep_on}
use Rattle.machine.specs.Update.{with_sleeper, with_lock, with_process}
use Rattle.machine.specs.Good.{running_in}
use Rattle.state.specs.Abs.{table}
use Rattle.lists.specs.Lists.{bit, present_concat, count_that-set}

-- A table whose values all stay.
pub table_same : {A : Type 0} (n : ℕ) (f g : ℕ → A) → ((k : ℕ) → k < n → g k ≡ f k) → table n g ≡ table n f
unfolding table
table_same zero f g e = refl
table_same {A} (suc n) f g e =
    λ j. e zero (omega arith) j ∷ table_same n (λ k. f (suc k)) (λ k. g (suc k)) (λ k l. e (suc k) (omega arith)) j

-- A table with one value changed.
pub table-set
    : {A : Type 0} (n : ℕ) (f g : ℕ → A) (i : ℕ) (v : A)
    → g i ≡ v
    → ((k : ℕ) → k < n → (i ≡ k → ⊥) → g k ≡ f k)
    → table n g ≡ set (table n f) i v
unfolding table
table-set zero f g i v e h = refl
table-set {A} (suc n) f g zero v e h =
    λ j. e j ∷ table_same n (λ k. f (suc k)) (λ k. g (suc k)) (λ k l. h (suc k) (omega arith) (λ d. absurd (omega (arith, d)))) j
table-set {A} (suc n) f g (suc i) v e h =
    λ j. h zero (omega arith) (λ d. absurd (omega (arith, d))) j ∷ table-set n (λ k. f (suc k)) (λ k. g (suc k)) i v e (λ k l d. h (suc k) (omega arith) (λ x. d (omega (arith, x)))) j

-- How many there are in lists one after another, when one of the lists is replaced.
length-append : (xs ys : List ℕ) → length (xs ++ ys) ≡ length xs + length ys
length-append [] ys = omega arith
length-append (x ∷ xs) ys = omega (arith, length-append xs ys)

length_concat_set
    : {A : Type 0} (f : A → List ℕ) (xs : List A) (i : ℕ) (v d : A)
    → i < length xs
    → length (concat_map f (set xs i v)) + length (f (get_or xs i d)) ≡ length (concat_map f xs) + length (f v)
unfolding concat_map
length_concat_set f [] i v d h = absurd (not-suc-le-zero h)
length_concat_set f (x ∷ xs) zero v d h = omega (arith, length-append (f x) (concat_map f xs), length-append (f v) (concat_map f xs))
length_concat_set f (x ∷ xs) (suc i) v d h =
    omega (
      arith,
      length-append (f x) (concat_map f xs),
      length-append (f x) (concat_map f (set xs i v)),
      length_concat_set f xs i v d (le_of_suc-le-suc h),
    )

length-numbers : {A : Type 0} (n : ℕ) (test : A → Bool) (xs : List A) → length (numbers_from n test xs) ≡ count_that test xs
unfolding numbers_from count_that
length-numbers n test [] = refl
length-numbers n test (x ∷ xs) = go (test x) (length-numbers (suc n) test xs)
  where
    go
        : (b : Bool)
        → length (numbers_from (suc n) test xs) ≡ count_that test xs
        → length (if b then n ∷ numbers_from (suc n) test xs else numbers_from (suc n) test xs) ≡ bit b + count_that test xs
    go true e = omega (arith, e)
    go false e = omega (arith, e)

-- asleep, place by place.
abbrev waiters_of : Lock → List ℕ
waiters_of l = l.waiters

abbrev waits : Process → Bool
waits p = p.on_waitr

asleep_parts
    : (m : Machine)
    → asleep m ≡ length (concat_map running_in m.sleepers) + count_that waits m.processes + length (concat_map waiters_of m.locks)
unfolding asleep asleep_on
asleep_parts m =
    let a : List ℕ = present m.sleepers in
    let b : List ℕ = numbers_from 0 waits m.processes in
    let c : List ℕ = concat_map waiters_of m.locks in
    omega (
      arith,
      length-append (a ++ b) c,
      length-append a b,
      ap length (present_concat m.sleepers),
      length-numbers 0 waits m.processes,
    )

-- asleep, when one place or one record is replaced.
pub asleep-sleeper
    : (m : Machine) (r : ℕ) (v : Option ℕ)
    → r < length m.sleepers
    → asleep (with_sleeper r v m) + length (running_in (sleeper m r)) ≡ asleep m + length (running_in v)
unfolding with_sleeper sleeper
asleep-sleeper m r v h =
    omega (arith, asleep_parts m, asleep_parts (with_sleeper r v m), length_concat_set running_in m.sleepers r v none h)

pub asleep-lock
    : (m : Machine) (q : ℕ) (v : Lock)
    → q < length m.locks
    → asleep (with_lock q v m) + length (lock m q).waiters ≡ asleep m + length v.waiters
unfolding with_lock lock
asleep-lock m q v h =
    omega (arith, asleep_parts m, asleep_parts (with_lock q v m), length_concat_set waiters_of m.locks q v (record { held = false; waiters = [] }) h)

pub asleep-process
    : (m : Machine) (i : ℕ) (p : Process)
    → i < length m.processes
    → asleep (with_process i p m) + bit (process m i).on_waitr ≡ asleep m + bit p.on_waitr
unfolding with_process process
asleep-process m i p h =
    omega (arith, asleep_parts m, asleep_parts (with_process i p m), count_that-set waits m.processes i p free h)
