-- Durations as nanoseconds, and the counts of a clock that they take.
use Rattle.std.specs.Prelude.{ℕ, ◌+◌, ◌-◌, ◌*◌, ◌/◌, ◌^◌, min, Bool, ltb, eqb}

-- n ÷ d, rounded up: the least number whose d-fold is not below n
abbrev pub ceil_div : ℕ → ℕ → ℕ
ceil_div n d = (n + (d - 1)) / d

-- the nanoseconds of a duration of seconds and nanoseconds
unfoldable pub nanos_of : ℕ → ℕ → ℕ
nanos_of secs nanos = secs * 1000000000 + nanos

-- `to_counts`: nanoseconds × hz ÷ 1,000,000,000, rounded up, at most 2^64 − 1
unfoldable pub counts_of : ℕ → ℕ → ℕ → ℕ
counts_of hz secs nanos = min (ceil_div (nanos_of secs nanos * hz) 1000000000) (2 ^ 64 - 1)

-- a duration is seconds (64 bits) and nanoseconds below 1,000,000,000
unfoldable pub valid_duration : ℕ → ℕ → Bool
valid_duration secs nanos = ltb nanos 1000000000

-- the duration takes no time
unfoldable pub zero_duration : ℕ → ℕ → Bool
zero_duration secs nanos = eqb (nanos_of secs nanos) 0

-- the first duration takes less time than the second
unfoldable pub shorter : ℕ → ℕ → ℕ → ℕ → Bool
shorter secs nanos secs' nanos' = ltb (nanos_of secs nanos) (nanos_of secs' nanos')
