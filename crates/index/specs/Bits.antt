-- Numbers made of bits, and how many words have a bit for each record, or cell.
use Rattle.std.specs.Prelude.{if◌then◌else◌, ◌≡◌, refl, Bool, true, false, ◌&&◌, ℕ, zero, suc, ◌+◌, ◌-◌, ◌*◌, ◌^◌, ◌≤◌, ◌<◌, ltb}
use Rattle.std.proofs.Common.{sym, subst, add-one, arith, mul-add, mul_assoc, mul-one, mul-zero, pow-suc, le-ltb, ltb-true, ltb-false}
use Rattle.std.proofs.Math.Nat.{pow-le-pow_right}
use Rattle.state.specs.Abs.{is_set}
use Rattle.state.specs.WellFormed.{bits, in_use}

-- Is record, or cell, n − 1 − k in use?
abbrev pub used_bit : ℕ → (ℕ → ℕ) → ℕ → Bool
used_bit n g k = ltb k n && is_set (g (n - 1 - k))

bit_past : {n k : ℕ} (g : ℕ → ℕ) → n ≤ k → used_bit n g k ≡ false
bit_past {n} {k} g h = rw (le-ltb k n h)

-- r words have a bit for each of n, and each of them has one.
pub record WordsFor (n r : ℕ) : Type 0 where
  pub enough : n ≤ 64 * r
  pub least : 64 * r < n + 64

-- Of the n numbers from `base` on the first r are below `end`.
pub record Span (end base n r : ℕ) : Type 0 where
  pub most : r ≤ n
  pub below : r ≤ end - base
  pub past : (k : ℕ) → r ≤ k → k < n → end ≤ base + k

-- No bits make 0.
pub bits-none : (f : ℕ → Bool) → 0 ≡ bits f 0
unfolding bits
bits-none f = refl

-- The bits from b up have made `word`.
abbrev pub Gathered : (ℕ → Bool) → ℕ → ℕ → ℕ → Type 0
Gathered f n b word = bits f b + 2 ^ b * word ≡ bits f n

pub gather_start : (f : ℕ → Bool) (n : ℕ) → Gathered f n (n - 0) 0
gather_start f n =
    let a : n - 0 ≡ n = omega arith in
    let h : Gathered f n n 0 = omega arith in
    rw a h

step : (k word : ℕ) → 2 ^ suc k * word ≡ 2 ^ k * (2 * word)
step k word = rw (pow-suc 2 k) (mul_assoc (2 ^ k) 2 word)

more-at
    : (f : ℕ → Bool) (n k word : ℕ) (t : Bool)
    → bits f k + (if t then 2 ^ k else 0) + 2 ^ suc k * word ≡ bits f n
    → bits f k + 2 ^ k * (2 * word + (if t then 1 else 0)) ≡ bits f n
more-at f n k word true v = omega (arith, mul-add (2 ^ k) (2 * word) 1, mul-one (2 ^ k), step k word)
more-at f n k word false v = omega (arith, mul-add (2 ^ k) (2 * word) 0, mul-zero (2 ^ k), step k word)

-- One bit more.
pub gather_more
    : (f : ℕ → Bool) (n j word : ℕ) (t : Bool) {more : ℕ}
    → j < n
    → Gathered f n (n - j) word
    → t ≡ f (n - 1 - j)
    → more ≡ 2 * word + (if t then 1 else 0)
    → Gathered f n (n - (j + 1)) more
unfolding bits
gather_more f n j word t {more} l g d m =
    let k : ℕ = n - 1 - j in
    let a : n - j ≡ suc k = omega arith in
    let b : n - (j + 1) ≡ k = omega arith in
    let h : bits f (suc k) + 2 ^ suc k * word ≡ bits f n = subst (λ (x : ℕ). Gathered f n x word) a g in
    let r : bits f k + 2 ^ k * (2 * word + (if t then 1 else 0)) ≡ bits f n = more-at f n k word t (rw d h) in
    rw (b, m) r

pub gather_end : (f : ℕ → Bool) (n word : ℕ) → Gathered f n (n - n) word → word ≡ bits f n
unfolding bits
gather_end f n word g =
    let a : n - n ≡ 0 = omega arith in
    let h : 0 + 1 * word ≡ bits f n = subst (λ (x : ℕ). Gathered f n x word) a g in
    omega (arith, h)

-- What there is can be doubled.
pub can-double : (j : ℕ) {n word : ℕ} → j < n → n ≤ 64 → word < 2 ^ j → word < 9223372036854775808
can-double j {n} {word} l h w =
    let i : j ≤ 63 = omega (arith, l, h) in
    let p : 2 ^ j ≤ 2 ^ 63 = pow-le-pow_right (omega arith) i in
    omega (arith, p, w)

pub room-more : (j : ℕ) (t : Bool) {word more : ℕ} → word < 2 ^ j → more ≡ 2 * word + (if t then 1 else 0) → more < 2 ^ (j + 1)
room-more j true {word} {more} l m = rw add-one (omega (arith, pow-suc 2 j, l, m))
room-more j false {word} {more} l m = rw add-one (omega (arith, pow-suc 2 j, l, m))

-- Bits that are not set add nothing.
pub bits-past : (f : ℕ → Bool) (r n : ℕ) → r ≤ n → ((k : ℕ) → r ≤ k → k < n → f k ≡ false) → bits f r ≡ bits f n
unfolding bits
bits-past f r zero l e = let q : r ≡ 0 = omega arith in rw q
bits-past f r (suc n) l e = go (ltb n r) refl (λ h. bits-past f r n h (λ k p q. e k p (omega arith)))
  where
    go : (t : Bool) → ltb n r ≡ t → (r ≤ n → bits f r ≡ bits f n) → bits f r ≡ bits f n + (if f n then 2 ^ n else 0)
    go true t h = let q : r ≡ suc n = omega (arith, ltb-true n r t) in rw q
    go false t h = let q : r ≤ n = ltb-false n r t in rw (e n q (omega arith)) (omega (arith, h q))

-- The bits below a span's end make the word of them all.
pub span-end
    : {f : ℕ → Bool} {end base n r : ℕ}
    → Span end base n r
    → ((k : ℕ) → end ≤ base + k → f k ≡ false)
    → bits f r ≡ bits f n
span-end {f} {end} {base} {n} {r} p e = bits-past f r n p.most (λ k l m. e k (p.past k l m))

-- The word of the records, or cells, in use.
pub in_use_lem : {n r : ℕ} (w : ℕ) (g : ℕ → ℕ) → Span n (64 * w) 64 r → bits (λ k. used_bit n g (64 * w + k)) r ≡ in_use n g w 64
unfolding in_use
in_use_lem w g p = span-end p (λ k l. bit_past g l)

-- A word past the last one is 0.
pub unused : {n w r : ℕ} (g : ℕ → ℕ) → WordsFor n r → r ≤ w → in_use n g w 64 ≡ 0
unfolding in_use bits
unused {n} {w} {r} g f l = sym (bits-past (λ k. used_bit n g (64 * w + k)) 0 64 (omega arith) (λ k p q. bit_past {k = 64 * w + k} g (omega (arith, f.enough))))
