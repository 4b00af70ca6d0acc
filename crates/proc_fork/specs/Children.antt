-- A process has no more living children than there are records.
use Rattle.std.specs.Prelude.{if◌then◌else◌, Bool, true, false, List, [], ◌∷◌, ℕ, ◌≤◌, length}
use Rattle.std.proofs.Common.{arith}
use Rattle.machine.specs.Basics.{count_that}
use Rattle.machine.specs.Machine.{Machine}
use Rattle.machine.specs.Good.{children}

bit-one : (b : Bool) → (if b then 1 else 0) ≤ 1
bit-one true = omega arith
bit-one false = omega arith

count-within : {A : Type 0} (test : A → Bool) (xs : List A) → count_that test xs ≤ length xs
unfolding count_that
count-within test [] = omega arith
count-within test (x ∷ xs) = omega (arith, bit-one (test x), count-within test xs)

pub children-within : (m : Machine) (v : ℕ) → children m v ≤ length m.processes
unfolding children
children-within m v = count-within _ m.processes
