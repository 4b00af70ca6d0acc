-- Laws of the list of the first values of a function.
use Rattle.std.specs.Prelude.{◌≡◌, refl, ℕ, zero, suc, ◌≤◌, ◌<◌, length, get_or}
use Rattle.std.proofs.Common.{ap, not-suc-le-zero, le_of_suc-le-suc}
use Rattle.state.specs.Abs.{table}

pub table-length : {A : Type 0} (n : ℕ) (f : ℕ → A) → length (table n f) ≡ n
unfolding table
table-length zero f = refl
table-length (suc n) f = ap suc (table-length n (λ k. f (suc k)))

pub table-get : {A : Type 0} (n : ℕ) (f : ℕ → A) (i : ℕ) (d : A) → i < n → get_or (table n f) i d ≡ f i
unfolding table
table-get zero f i d h = absurd (not-suc-le-zero h)
table-get (suc n) f zero d h = refl
table-get (suc n) f (suc i) d h = table-get n (λ k. f (suc k)) i d (le_of_suc-le-suc h)

pub table-past : {A : Type 0} (n : ℕ) (f : ℕ → A) (i : ℕ) (d : A) → n ≤ i → get_or (table n f) i d ≡ d
unfolding table
table-past zero f i d h = refl
table-past (suc n) f zero d h = absurd (not-suc-le-zero h)
table-past (suc n) f (suc i) d h = table-past n (λ k. f (suc k)) i d (le_of_suc-le-suc h)
