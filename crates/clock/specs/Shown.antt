-- What the code shows: that its sums fit, and at each return the equation with the definition that the contract cites.
use Rattle.std.specs.Prelude.{ℕ, ◌+◌, ◌-◌, ◌*◌, ◌/◌, ◌^◌, ◌≤◌, ◌<◌, ◌≡◌, refl, Bool, true, false, leb, ltb, eqb, min}
use Rattle.std.proofs.Common.{zero-le, sym, ◌∙◌, le_refl, sub-le, mul-le-mul, le-div_iff_mul-le, pos_of_ne-zero, Fits, arith, lit≤, ltb-true, ltb-false, lt-ltb, le-ltb, le-leb, eqb-true, eq-eqb, ne_eqb}
use Rattle.std.proofs.Math.Nat.{le-pred_of_lt}
use Rattle.std.specs.Int.{w64, div_ceil}
use Rattle.std.proofs.lemmas.Bool.{eqb-false}
use Rattle.clock.specs.Counts.{ceil_div, nanos_of, counts_of, zero_duration, shorter}
use Rattle.clock.specs.Laws.{counts-split}

-- two tests agree where the numbers that they compare stand in the same order
same_test : (a b c d : ℕ) → (a < b → c < d) → (b ≤ a → d ≤ c) → ltb a b ≡ ltb c d
same_test a b c d f g = go (ltb a b) refl where
  go : (t : Bool) → ltb a b ≡ t → t ≡ ltb c d
  go true e = sym (lt-ltb c d (f (ltb-true a b e)))
  go false e = sym (le-ltb c d (g (ltb-false a b e)))

-- no seconds: the nanoseconds decide
pub zero_nanos : (s n : ℕ) → s ≡ 0 → eqb n 0 ≡ zero_duration s n
unfolding zero_duration nanos_of
zero_nanos s n h = go (eqb n 0) refl where
  go : (t : Bool) → eqb n 0 ≡ t → t ≡ zero_duration s n
  go true e = sym (eq-eqb (s * 1000000000 + n) 0 (omega (arith, eqb-true n 0 e)))
  go false e = sym (ne_eqb (s * 1000000000 + n) 0 (λ z. eqb-false n 0 e (omega arith)))

-- a second or more takes time
pub zero-secs : (s n : ℕ) → (s ≡ 0 → ⊥) → eqb s 0 ≡ zero_duration s n
unfolding zero_duration nanos_of
zero-secs s n h = ne_eqb s 0 h ∙ sym (ne_eqb (s * 1000000000 + n) 0 (λ z. h (omega arith)))

-- fewer seconds by five or more: shorter, whatever the nanoseconds
pub shorter_far : (s n s' n' : ℕ) → s ≤ s' → 5 ≤ s' - s → n < 2 ^ 32 → leb 5 (s' - s) ≡ shorter s n s' n'
unfolding shorter nanos_of
shorter_far s n s' n' h f b = le-leb 5 (s' - s) f ∙ sym (lt-ltb (s * 1000000000 + n) (s' * 1000000000 + n') (omega arith))

-- no more seconds than the other: shorter where the nanoseconds are below the other's with the seconds between
pub shorter-near : (s n s' n' : ℕ) → s ≤ s' → ltb n ((s' - s) * 1000000000 + n') ≡ shorter s n s' n'
unfolding shorter nanos_of
shorter-near s n s' n' h =
    same_test n ((s' - s) * 1000000000 + n') (s * 1000000000 + n) (s' * 1000000000 + n') (λ l. omega arith) (λ l. omega arith)

-- more seconds by five or more: not shorter, whatever the nanoseconds
pub longer_far : (s n s' n' : ℕ) → s' < s → 5 ≤ s - s' → n' < 2 ^ 32 → ltb (s - s') 5 ≡ shorter s n s' n'
unfolding shorter nanos_of
longer_far s n s' n' h f b = le-ltb (s - s') 5 f ∙ sym (le-ltb (s * 1000000000 + n) (s' * 1000000000 + n') (omega arith))

-- more seconds: shorter where the nanoseconds with the seconds between are below the other's
pub longer_near : (s n s' n' : ℕ) → s' < s → ltb ((s - s') * 1000000000 + n) n' ≡ shorter s n s' n'
unfolding shorter nanos_of
longer_near s n s' n' h =
    same_test ((s - s') * 1000000000 + n) n' (s * 1000000000 + n) (s' * 1000000000 + n') (λ l. omega arith) (λ l. omega arith)

-- hz and the nanoseconds n, of 32 bits each, and a k of at most what rounds up
module _ (hz n k : ℕ) (hz-fits : hz < 2 ^ 32) (n-fits : n < 2 ^ 32) (k-fits : k ≤ 999999999) where
  -- the product leaves room in 64 bits
  product_room : n * hz + k < 2 ^ 64
  product_room = omega (arith, mul-le-mul {n₂ = 2 ^ 32 - 1} {m₂ = 2 ^ 32 - 1} (le-pred_of_lt n-fits) (le-pred_of_lt hz-fits))

  -- so the sum fits
  pub part_sum : Fits w64 (n * hz + k)
  part_sum = record { fits = product_room }

  -- and the nanoseconds' counts are within the limit
  pub part_limit : (n * hz + k) / 1000000000 ≤ 2 ^ 64 - 1
  part_limit = omega (arith, product_room)

-- the product of two numbers of 32 bits fits
pub part_product : (hz n : ℕ) → hz < 2 ^ 32 → n < 2 ^ 32 → Fits w64 (n * hz)
part_product hz n p q = omega (arith, product_room hz n 0 p q zero-le)

-- what the counts of the nanoseconds, rounded up, leave of the limit is the least that any rounding leaves
pub part_room : (hz n k : ℕ) → k ≤ 999999999 → 2 ^ 64 - 1 - ceil_div (n * hz) 1000000000 ≤ 2 ^ 64 - 1 - (n * hz + k) / 1000000000
part_room hz n k h = omega arith

-- how a room stands to the limit and to what is left of it
pub ruleset rooms = (tt, lit≤, le_refl, sub-le, part_limit, part_room)

-- the seconds s, tested against the room for their counts ÷ hz
module _ (hz s room : ℕ) (some : hz ≡ 0 → ⊥) where
  -- the seconds' counts fit where they have room
  pub secs_fit : s ≤ room / hz → room ≤ 2 ^ 64 - 1 → Fits w64 (s * hz)
  secs_fit h r = omega (arith, (le-div_iff_mul-le (pos_of_ne-zero some)).0 h)

  -- and p beside them, where the room leaves place for p
  pub both_fit : (p : ℕ) → s ≤ room / hz → p ≤ 2 ^ 64 - 1 → room ≤ 2 ^ 64 - 1 - p → Fits w64 (s * hz + p)
  both_fit p h q r = omega (arith, (le-div_iff_mul-le (pos_of_ne-zero some)).0 h)

-- the counts of the seconds and those of the nanoseconds, rounded up, each and together at most the limit
pub counts-capped : (hz s n : ℕ) → min (min (s * hz) (2 ^ 64 - 1) + div_ceil (n * hz) 1000000000) (2 ^ 64 - 1) ≡ counts_of hz s n
counts-capped hz s n = rw counts-split (omega arith)
