-- Laws of how many numbers below a bound pass a test.
use Rattle.std.specs.Prelude.{if◌then◌else◌, ◌≡◌, refl, Bool, true, false, ℕ, zero, suc, ◌+◌, ◌≤◌, ◌<◌}
use Rattle.std.proofs.Common.{arith}
use Rattle.rules.specs.Facts.{count_below}

-- No more than there are.
pub count_few : (n : ℕ) (test : ℕ → Bool) → count_below n test ≤ n
unfolding count_below
count_few zero test = omega arith
count_few (suc n) test = go (test n) (count_few n test)
  where
    go : (t : Bool) → count_below n test ≤ n → count_below n test + (if t then 1 else 0) ≤ suc n
    go true h = omega arith
    go false h = omega arith

-- Two tests that agree below n count the same.
pub count_same : (n : ℕ) (f g : ℕ → Bool) → ((k : ℕ) → k < n → f k ≡ g k) → count_below n f ≡ count_below n g
unfolding count_below
count_same zero f g h = refl
count_same (suc n) f g h = rw (h n (omega arith), count_same n f g (λ k l. h k (omega arith)))
