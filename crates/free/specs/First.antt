-- The lowest clear bit of a word made of bits.
use Rattle.std.specs.Prelude.{if◌then◌else◌, ◌≡◌, refl, Bool, true, false, ℕ, zero, suc, ◌+◌, ◌-◌, ◌*◌, ◌/◌, ◌^◌, ◌≤◌, ◌<◌}
use Rattle.std.proofs.Common.{ap, ◌∙◌, arith}
use Rattle.std.proofs.Math.Nat.{one-le-pow, pow-le-pow_right}
use Rattle.std.proofs.Math.Arith.{digits_div, digits_mod}
use Rattle.std.specs.Int.Count.{count_trailing_zeros, under}
use Rattle.state.specs.WellFormed.{bits}
use Rattle.free.specs.Bits.{bits_below}

-- The first number below n at which f is false, and n where there is none.
unfoldable pub first_clear : (ℕ → Bool) → ℕ → ℕ
first_clear f zero = 0
first_clear f (suc n) = if f 0 then suc (first_clear (λ b. f (suc b)) n) else 0

pub first-le : (f : ℕ → Bool) (n : ℕ) → first_clear f n ≤ n
unfolding first_clear
first-le f zero = omega arith
first-le f (suc n) = go (f 0) (first-le (λ b. f (suc b)) n)
  where
    go : (t : Bool) {k : ℕ} → k ≤ n → (if t then suc k else 0) ≤ suc n
    go true h = omega arith
    go false h = omega arith

-- All below it are set, and it is clear.
pub first_below : (f : ℕ → Bool) (n j : ℕ) → j < first_clear f n → f j ≡ true
unfolding first_clear
first_below f zero j h = absurd (omega arith)
first_below f (suc n) j h = go (f 0) refl (first_below (λ b. f (suc b)) n) j h
  where
    go
        : (t : Bool) {k : ℕ}
        → f 0 ≡ t
        → ((j : ℕ) → j < k → f (suc j) ≡ true)
        → (j : ℕ)
        → j < (if t then suc k else 0)
        → f j ≡ true
    go true e more zero h = e
    go true e more (suc j) h = more j (omega arith)
    go false e more j h = absurd (omega arith)

pub first-here : (f : ℕ → Bool) (n : ℕ) → first_clear f n < n → f (first_clear f n) ≡ false
unfolding first_clear
first-here f zero h = absurd (omega arith)
first-here f (suc n) h = go (f 0) refl (first-here (λ b. f (suc b)) n) h
  where
    go
        : (t : Bool) {k : ℕ}
        → f 0 ≡ t
        → (k < n → f (suc k) ≡ false)
        → (if t then suc k else 0) < suc n
        → f (if t then suc k else 0) ≡ false
    go true e more h = more (omega arith)
    go false e more h = e

-- The lowest bit, and the others.
bits-low : (f : ℕ → Bool) (n : ℕ) → bits f (suc n) ≡ (if f 0 then 1 else 0) + 2 * bits (λ b. f (suc b)) n
unfolding bits
bits-low f zero = go (f 0)
  where
    go : (t : Bool) → 0 + (if t then 2 ^ 0 else 0) ≡ (if t then 1 else 0) + 2 * 0
    go true = refl
    go false = refl
bits-low f (suc n) = go (f (suc n)) (bits f (suc n)) (if f 0 then 1 else 0) (bits (λ b. f (suc b)) n) (bits-low f n)
  where
    go : (t : Bool) (x a y : ℕ) → x ≡ a + 2 * y → x + (if t then 2 ^ suc n else 0) ≡ a + 2 * (y + (if t then 2 ^ n else 0))
    go true x a y h = let e : x + 2 ^ suc n ≡ a + 2 * (y + 2 ^ n) = omega arith in e
    go false x a y h = omega arith

-- The zeros below the lowest set bit of what a word lacks are the ones below its lowest clear bit.
zeros_even : (k x y : ℕ) → x ≡ y * 2 + 0 → count_trailing_zeros (suc k) x ≡ suc (count_trailing_zeros k y)
unfolding count_trailing_zeros
zeros_even k x y e =
    rw e
    (ap (λ (d : ℕ). under d (count_trailing_zeros k ((y * 2 + 0) / 2))) (digits_mod y (omega arith))
    ∙ ap (λ (h : ℕ). suc (count_trailing_zeros k h)) (digits_div y (omega arith)))

zeros_odd : (k x y : ℕ) → x ≡ y * 2 + 1 → count_trailing_zeros (suc k) x ≡ 0
unfolding count_trailing_zeros
zeros_odd k x y e = rw e (ap (λ (d : ℕ). under d (count_trailing_zeros k ((y * 2 + 1) / 2))) (digits_mod y (omega arith)))

pub zeros-first : (f : ℕ → Bool) (n k : ℕ) → n ≤ k → count_trailing_zeros k (2 ^ k - 1 - bits f n) ≡ first_clear f n
unfolding count_trailing_zeros first_clear bits
zeros-first f zero zero h = refl
zeros-first f zero (suc k) h = zeros_odd k (2 ^ suc k - 1 - 0) (2 ^ k - 1) (omega (arith, one-le-pow k 2 (omega arith)))
zeros-first f (suc n) zero h = absurd (omega arith)
zeros-first f (suc n) (suc k) h = go (f 0) (bits-low f n) (zeros-first (λ b. f (suc b)) n k (omega arith))
  where
    g : ℕ → Bool
    g b = f (suc b)

    small : bits g n < 2 ^ k
    small = omega (arith, bits_below g n, pow-le-pow_right {n = 2} (omega arith) {i = n} {j = k} (omega arith))

    go
        : (t : Bool) {x : ℕ}
        → x ≡ (if t then 1 else 0) + 2 * bits g n
        → count_trailing_zeros k (2 ^ k - 1 - bits g n) ≡ first_clear g n
        → count_trailing_zeros (suc k) (2 ^ suc k - 1 - x) ≡ (if t then suc (first_clear g n) else 0)
    go true {x} e more = zeros_even k (2 ^ suc k - 1 - x) (2 ^ k - 1 - bits g n) (omega (arith, small)) ∙ ap suc more
    go false {x} e more = zeros_odd k (2 ^ suc k - 1 - x) (2 ^ k - 1 - bits g n) (omega (arith, small))
