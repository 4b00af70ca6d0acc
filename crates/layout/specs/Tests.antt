-- Tests that are made of tests, as facts.
use Rattle.std.specs.Prelude.{Bool, true, false, ◌&&◌, ◌||◌, List, [], ◌∷◌, ◌⊎◌, ℕ, zero, suc, ◌<◌, T, length, get_or}
use Rattle.std.proofs.Common.{inl, inr, le_of_suc-le-suc, not-suc-le-zero}
use Rattle.machine.specs.Basics.{all}

pub and_left : (a b : Bool) → T (a && b) → T a
and_left true b t = tt
and_left false b t = t

pub and_right : (a b : Bool) → T (a && b) → T b
and_right true b t = t
and_right false b t = absurd t

pub or_cases : (a b : Bool) → T (a || b) → T a ⊎ T b
or_cases true b t = inl tt
or_cases false b t = inr t

-- a test that every element passes, at one of them
pub all-at : {A : Type 0} (test : A → Bool) (d : A) (xs : List A) → T (all test xs) → (k : ℕ) → k < length xs → T (test (get_or xs k d))
unfolding all
all-at test d [] t k h = absurd (not-suc-le-zero h)
all-at test d (x ∷ xs) t zero h = and_left (test x) (all test xs) t
all-at test d (x ∷ xs) t (suc k) h = all-at test d xs (and_right (test x) (all test xs) t) k (le_of_suc-le-suc h)
