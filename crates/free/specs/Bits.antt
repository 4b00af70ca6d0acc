-- Words made of bits: a word with one bit more, and when a word is full.
use Rattle.std.specs.Prelude.{if◌then◌else◌, ◌≡◌, refl, Bool, true, false, ℕ, zero, suc, ◌+◌, ◌^◌, ◌<◌, eqb}
use Rattle.std.proofs.Common.{sym, arith, eqb-true}
use Rattle.std.proofs.lemmas.Bool.{eqb-false}
use Rattle.state.specs.WellFormed.{bits}

-- n bits make a number below 2 to the n.
pub bits_below : (f : ℕ → Bool) (n : ℕ) → bits f n < 2 ^ n
unfolding bits
bits_below f zero = omega arith
bits_below f (suc n) = go (f n) (bits_below f n)
  where
    go : (t : Bool) → bits f n < 2 ^ n → bits f n + (if t then 2 ^ n else 0) < 2 ^ suc n
    go true h = omega arith
    go false h = omega arith

-- f' is f with b set.
pub record Sets (f f' : ℕ → Bool) (b : ℕ) : Type 0 where
  pub off : f b ≡ false
  pub on : f' b ≡ true
  pub rest : (j : ℕ) → (j ≡ b → ⊥) → f j ≡ f' j

pub bits-same : (f f' : ℕ → Bool) (n : ℕ) → ((j : ℕ) → j < n → f j ≡ f' j) → bits f n ≡ bits f' n
unfolding bits
bits-same f f' zero h = refl
bits-same f f' (suc n) h = rw (h n (omega arith), bits-same f f' n (λ j l. h j (omega arith)))

-- Then the word has 2 to the b more.
pub bits-set : (f f' : ℕ → Bool) (b n : ℕ) → Sets f f' b → b < n → bits f' n ≡ bits f n + 2 ^ b
unfolding bits
bits-set f f' b zero s h = absurd (omega arith)
bits-set f f' b (suc n) s h = go (eqb b n) refl (bits-set f f' b n s)
  where
    go
        : (t : Bool)
        → eqb b n ≡ t
        → (b < n → bits f' n ≡ bits f n + 2 ^ b)
        → bits f' n + (if f' n then 2 ^ n else 0) ≡ bits f n + (if f n then 2 ^ n else 0) + 2 ^ b
    go true e more =
        let q : b ≡ n = eqb-true b n e in
        let off : f n ≡ false = rw q at s.off in
        let on : f' n ≡ true = rw q at s.on in
        let same : bits f n ≡ bits f' n = bits-same f f' n (λ j l. s.rest j (λ d. omega arith)) in
        rw (off, on, q) (omega (arith, same))
    go false e more =
        let ne : b ≡ n → ⊥ = eqb-false b n e in
        let same : f n ≡ f' n = s.rest n (λ d. ne (sym d)) in
        rw (same, more (omega arith)) (omega arith)

-- A word is full where every bit is set.
pub full-all : (f : ℕ → Bool) (n : ℕ) → bits f n + 1 ≡ 2 ^ n → (j : ℕ) → j < n → f j ≡ true
unfolding bits
full-all f zero e j h = absurd (omega arith)
full-all f (suc n) e j h = go (f n) (eqb j n) refl refl e (λ d l. full-all f n d j l)
  where
    go
        : (t u : Bool)
        → f n ≡ t
        → eqb j n ≡ u
        → bits f n + (if t then 2 ^ n else 0) + 1 ≡ 2 ^ suc n
        → (bits f n + 1 ≡ 2 ^ n → j < n → f j ≡ true)
        → f j ≡ true
    go true true q d e more = rw (eqb-true j n d) q
    go true false q d e more = let ne : j ≡ n → ⊥ = eqb-false j n d in more (omega arith) (omega arith)
    go false u q d e more = absurd (omega (arith, bits_below f n))

pub all-full : (f : ℕ → Bool) (n : ℕ) → ((j : ℕ) → j < n → f j ≡ true) → bits f n + 1 ≡ 2 ^ n
unfolding bits
all-full f zero h = refl
all-full f (suc n) h = let e : bits f n + 1 ≡ 2 ^ n = all-full f n (λ j l. h j (omega arith)) in rw (h n (omega arith)) (omega arith)
