-- Numbers of n bytes, little end first, in a list of bytes. Each law is stated once, over the width n.
use Rattle.std.specs.Prelude.{◌≡◌, refl, List, ◌⊎◌, ℕ, zero, suc, ◌+◌, ◌*◌, ◌/◌, ◌%◌, ◌^◌, ◌≤◌, ◌<◌, length, get_or, set}
use Rattle.std.proofs.Common.{ap, ap₂, ◌∙◌, inl, inr, ⊎_elim, arith, zero-add, add-zero, suc-add, add-suc, mul_comm, pow-suc, div-one, mod-eq_of_lt, length-set, get_or-set_same, get_or-set_other}
use Rattle.std.proofs.Math.Nat.{pow-succ', one-le-pow, div-div-eq-div-mul}
use Rattle.std.proofs.Math.Arith.{mod-mul}

-- the number in the n bytes from at: the first byte, and 256 times the number in the bytes after it
unfoldable pub le : ℕ → List ℕ → ℕ → ℕ
le zero s at = 0
le (suc n) s at = get_or s at 0 + 256 * le n s (suc at)

-- the list with the number v in the n bytes from at: v % 256 in the first, v / 256 in those after it
unfoldable pub put : ℕ → List ℕ → ℕ → ℕ → List ℕ
put zero s at v = s
put (suc n) s at v = put n (set s at (v % 256)) (suc at) (v / 256)

-- a store keeps the list's length
pub length-put : (n : ℕ) (s : List ℕ) (at v : ℕ) → length (put n s at v) ≡ length s
unfolding put
length-put zero s at v = refl
length-put (suc n) s at v =
    length-put n (set s at (v % 256)) (suc at) (v / 256) ∙ length-set s at (v % 256)

-- a byte outside the place is as it was
pub get-put : (n : ℕ) (s : List ℕ) (at v i : ℕ) → (i < at) ⊎ (at + n ≤ i) → get_or (put n s at v) i 0 ≡ get_or s i 0
unfolding put
get-put zero s at v i h = refl
get-put (suc n) s at v i h =
    get-put n (set s at (v % 256)) (suc at) (v / 256) i
    (⊎_elim (λ l. inl (omega arith)) (λ r. inr (omega arith)) h)
    ∙ get_or-set_other s at i (v % 256) 0 (⊎_elim (λ l. omega arith) (λ r. omega arith) h)

-- a number depends on its own bytes alone
pub le_ext : (n : ℕ) (s t : List ℕ) (at : ℕ) → ((i : ℕ) → at ≤ i → i < at + n → get_or s i 0 ≡ get_or t i 0) → le n s at ≡ le n t at
unfolding le
le_ext zero s t at h = refl
le_ext (suc n) s t at h =
    ap₂ (λ (a b : ℕ). a + 256 * b) (h at (omega arith) (omega arith))
    (le_ext n s t (suc at) (λ i l u. h i (omega arith) (omega arith)))

-- a number outside the place is as it was
pub le-put-other : (n m : ℕ) (s : List ℕ) (at v b : ℕ) → (b + m ≤ at) ⊎ (at + n ≤ b) → le m (put n s at v) b ≡ le m s b
le-put-other n m s at v b h =
    le_ext m (put n s at v) s b
    (λ i l u. get-put n s at v i (⊎_elim (λ x. inl (omega arith)) (λ x. inr (omega arith)) h))

-- the number at the place is the one that was put there, where it fits the n bytes
pub le-put-same : (n : ℕ) (s : List ℕ) (at v : ℕ) → at + n ≤ length s → v < 256 ^ n → le n (put n s at v) at ≡ v
unfolding le put
le-put-same zero s at v h f = omega arith
le-put-same (suc n) s at v h f =
    let t : List ℕ = set s at (v % 256) in
    let q : le n (put n t (suc at) (v / 256)) (suc at) ≡ v / 256 =
    le-put-same n t (suc at) (v / 256) (simp length-set (omega arith)) (omega arith) in
    let a : get_or (put n t (suc at) (v / 256)) at 0 ≡ v % 256 =
    get-put n t (suc at) (v / 256) at (inl (omega arith))
    ∙ get_or-set_same s at (v % 256) 0 (omega arith) in
    omega arith

-- a number of n bytes is below 256 to the n, where each byte is below 256
pub le-bound : (n : ℕ) (s : List ℕ) (at : ℕ) → ((i : ℕ) → get_or s i 0 < 256) → le n s at < 256 ^ n
unfolding le
le-bound zero s at h = omega arith
le-bound (suc n) s at h = omega (arith, h at, le-bound n s (suc at) h)

-- the number in one byte is that byte
pub le-one : (s : List ℕ) (at : ℕ) → le 1 s at ≡ get_or s at 0
unfolding le
le-one s at = omega arith

-- to put a number below 256 in one byte is to set that byte
pub put_one : (s : List ℕ) (at v : ℕ) → v < 256 → put 1 s at v ≡ set s at v
unfolding put
put_one s at v h = ap (set s at) (mod-eq_of_lt h)

-- a number of m + n bytes is one of m bytes and, above it, one of n bytes
pub le_split : (m n : ℕ) (s : List ℕ) (at : ℕ) → le (m + n) s at ≡ le m s at + 256 ^ m * le n s (at + m)
unfolding le
le_split zero n s at = rw (zero-add n, add-zero) (omega arith)
le_split (suc m) n s at =
    rw (suc-add, add-suc at m, pow-succ' 256 m, ← suc-add at m)
    (omega (arith, le_split m n s (suc at)))

-- to put a number of m + n bytes is to put its low m bytes, and above them its high n bytes
pub put-split : (m n : ℕ) (s : List ℕ) (at v : ℕ) → put (m + n) s at v ≡ put n (put m s at (v % 256 ^ m)) (at + m) (v / 256 ^ m)
unfolding put
put-split zero n s at v = simp (zero-add, add-zero, div-one)
put-split (suc m) n s at v =
    let p : 0 < 256 ^ m = one-le-pow m 256 (omega arith) in
    let e : v % (256 ^ m * 256) ≡ (v / 256 % 256 ^ m) * 256 + v % 256 = mod-mul v p (omega arith) in
    let a : v % (256 ^ m * 256) % 256 ≡ v % 256 = omega arith in
    let b : v % (256 ^ m * 256) / 256 ≡ v / 256 % 256 ^ m = omega arith in
    let d : v / 256 / 256 ^ m ≡ v / (256 ^ m * 256) =
    div-div-eq-div-mul v 256 (256 ^ m) ∙ ap (λ (k : ℕ). v / k) (mul_comm 256 (256 ^ m)) in
    rw (suc-add, pow-suc, a, b, ← d, add-suc at m, ← suc-add at m)
    (put-split m n (set s at (v % 256)) (suc at) (v / 256))
