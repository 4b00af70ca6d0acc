-- What holds of rounding up and of the counts of a duration. Each law is stated once.
use Rattle.std.specs.Prelude.{ℕ, suc, ◌+◌, ◌-◌, ◌*◌, ◌^◌, ◌≤◌, ◌<◌, min, ◌≡◌, ◌↔◌}
use Rattle.std.proofs.Common.{suc-le-suc, le_refl, le_trans, suc-mul, add-mul, mul_right_comm, mul-pos, mul-le-mul_right, div-lt_iff_lt-mul, arith}
use Rattle.clock.specs.Counts.{ceil_div, nanos_of, counts_of}

-- n ÷ d rounded up is the least number whose d-fold is not below n
pub ceil_least : (n d k : ℕ) → 0 < d → (ceil_div n d ≤ k) ↔ (n ≤ k * d)
ceil_least n d k p =
    let e : suc k * d ≡ k * d + d = suc-mul k d in (
      (λ h. omega (arith, (div-lt_iff_lt-mul p).0 (suc-le-suc h))),
      (λ h. omega (arith, (div-lt_iff_lt-mul {x = n + (d - 1)} {y = suc k} p).1 (omega arith))),
    )

-- rounding up is monotone
pub ceil_mono : (n m d : ℕ) → 0 < d → n ≤ m → ceil_div n d ≤ ceil_div m d
ceil_mono n m d p h = (ceil_least n d (ceil_div m d) p).1 (le_trans h ((ceil_least m d (ceil_div m d) p).0 (le_refl (ceil_div m d))))

-- a longer duration has no fewer counts
pub counts_mono : (hz s n s' n' : ℕ) → nanos_of s n ≤ nanos_of s' n' → counts_of hz s n ≤ counts_of hz s' n'
unfolding counts_of
counts_mono hz s n s' n' h = omega (arith, mul-le-mul_right hz h)

-- a duration that takes time has at least 1 count at 1 hz or more
pub counts-positive : (hz s n : ℕ) → 0 < hz → 0 < nanos_of s n → 0 < counts_of hz s n
unfolding counts_of
counts-positive hz s n p q = omega (arith, mul-pos q p)

-- no duration has more than 2^64 − 1 counts
pub counts_limit : (hz s n : ℕ) → counts_of hz s n ≤ 2 ^ 64 - 1
unfolding counts_of
counts_limit hz s n = omega arith

-- the counts never lie before the exact time where they are not held at the limit
pub counts-not_early : (hz s n : ℕ) → counts_of hz s n < 2 ^ 64 - 1 → nanos_of s n * hz ≤ counts_of hz s n * 1000000000
unfolding counts_of
counts-not_early hz s n h = omega arith

-- the counts never lie a whole count after the exact time
pub counts-within-one : (hz s n : ℕ) → counts_of hz s n * 1000000000 < nanos_of s n * hz + 1000000000
unfolding counts_of
counts-within-one hz s n = omega arith

-- a duration as long as two others has at most the counts of both
pub counts-add
    : (hz s n s₁ n₁ s₂ n₂ : ℕ) → nanos_of s n ≡ nanos_of s₁ n₁ + nanos_of s₂ n₂ → counts_of hz s n ≤ counts_of hz s₁ n₁ + counts_of hz s₂ n₂
unfolding counts_of
counts-add hz s n s₁ n₁ s₂ n₂ e = rw (e, add-mul) (omega arith)

-- the counts are those of the seconds and those of the nanoseconds, at most 2^64 − 1
pub counts-split : (hz s n : ℕ) → counts_of hz s n ≡ min (s * hz + ceil_div (n * hz) 1000000000) (2 ^ 64 - 1)
unfolding counts_of nanos_of
counts-split hz s n = rw (add-mul, mul_right_comm) (omega arith)
