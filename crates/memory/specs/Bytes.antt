-- The numbers of `Le` as std's bytes of a number, the low one first.
use Rattle.std.specs.Prelude.{◌≡◌, refl, List, ◌++◌, ℕ, zero, suc, ◌+◌, ◌-◌, ◌*◌, ◌/◌, ◌%◌, ◌^◌, ◌≤◌, length, get_or, set, take, drop}
use Rattle.std.specs.Int.{byte_at, byte_worth, bytes_low_first, sum_through}
use Rattle.std.proofs.Common.{sym, ap, ap₂, ◌∙◌, arith, mul_comm, pow-suc, div-one, add-one, append_assoc, drop-drop}
use Rattle.std.proofs.Math.Nat.{div-div-eq-div-mul}
use Rattle.std.proofs.lemmas.List.{get_or-take, get_or-drop}
use Rattle.std.proofs.lemmas.List.Edits.{sets, sets-eq}
use Rattle.memory.specs.Le.{le, put, le-one, le_split}

-- The number in k + 1 bytes is the sum of what each is worth.
le-sum : (k : ℕ) (s : List ℕ) (at : ℕ) → le (suc k) s at ≡ sum_through (λ i. byte_worth i (get_or s (at + i) 0)) k
le-sum zero s at = le-one s at ∙ ap (λ (x : ℕ). get_or s x 0) (omega arith)
le-sum (suc k) s at =
    ap (λ (n : ℕ). le n s at) (sym (add-one (suc k)))
    ∙ le_split (suc k) 1 s at
    ∙ ap₂ (λ (a b : ℕ). a + b) (le-sum k s at) (ap (λ (b : ℕ). 256 ^ suc k * b) (le-one s (at + suc k)) ∙ mul_comm (256 ^ suc k) (get_or s (at + suc k) 0))

sum-ext : (f g : ℕ → ℕ) (k : ℕ) → ((i : ℕ) → i ≤ k → f i ≡ g i) → sum_through f k ≡ sum_through g k
sum-ext f g zero h = h 0 (omega arith)
sum-ext f g (suc k) h = ap₂ (λ (a b : ℕ). a + b) (sum-ext f g k (λ i l. h i (omega (arith, l)))) (h (suc k) (omega arith))

-- The k + 1 bytes from at, read as one number.
pub bytes-read
    : (k : ℕ) (s : List ℕ) (at : ℕ) {bytes : List ℕ}
    → bytes ≡ take (at + suc k - at) (drop at s)
    → sum_through (λ i. byte_worth i (get_or bytes i 0)) k ≡ le (suc k) s at
bytes-read k s at {bytes} e =
    let n : at + suc k - at ≡ suc k = omega arith in
    let t : bytes ≡ take (suc k) (drop at s) = e ∙ ap (λ (x : ℕ). take x (drop at s)) n in
    sum-ext (λ i. byte_worth i (get_or bytes i 0)) (λ i. byte_worth i (get_or s (at + i) 0)) k
    (λ i l.
    ap (byte_worth i)
    (ap (λ (x : List ℕ). get_or x i 0) t
    ∙ get_or-take (suc k) (drop at s) i 0 (omega (arith, l))
    ∙ get_or-drop at s i 0))
    ∙ sym (le-sum k s at)

byte_is : (i v : ℕ) → byte_at i v ≡ v / 256 ^ i % 256
byte_is zero v = simp div-one
byte_is (suc i) v = refl

-- To put a number is to set its bytes, from number i of them on.
put-sets : (i n : ℕ) (s : List ℕ) (at v : ℕ) → put n s at (v / 256 ^ i) ≡ sets s at (bytes_low_first i n v)
unfolding put
put-sets i zero s at v = refl
put-sets i (suc n) s at v =
    let d : v / 256 ^ i / 256 ≡ v / 256 ^ suc i = rw pow-suc (div-div-eq-div-mul v (256 ^ i) 256) in
    ap (put n (set s at (v / 256 ^ i % 256)) (suc at)) d
    ∙ put-sets (suc i) n (set s at (v / 256 ^ i % 256)) (suc at) v
    ∙ ap (λ (b : ℕ). sets (set s at b) (suc at) (bytes_low_first (suc i) n v)) (sym (byte_is i v))

length-bytes : (i n v : ℕ) → length (bytes_low_first i n v) ≡ n
length-bytes i zero v = refl
length-bytes i (suc n) v = ap suc (length-bytes (suc i) n v)

-- The n bytes from at, replaced by those of a number.
pub bytes-written
    : (n : ℕ) (s : List ℕ) (at v : ℕ) {s' : List ℕ}
    → at + n ≤ length s
    → s' ≡ take at s ++ (bytes_low_first 0 n v ++ drop (at + n - at) (drop at s))
    → s' ≡ put n s at v
bytes-written n s at v {s'} l e =
    let bs : List ℕ = bytes_low_first 0 n v in
    let w : length bs ≡ n = length-bytes 0 n v in
    let k : at + n - at ≡ length bs = omega (arith, w) in
    let d : v ≡ v / 256 ^ 0 = simp div-one in
    e
    ∙ ap (λ (x : ℕ). take at s ++ (bs ++ drop x (drop at s))) k
    ∙ ap (λ (x : List ℕ). take at s ++ (bs ++ x)) (drop-drop (length bs) at s)
    ∙ sym (append_assoc (take at s) bs (drop (at + length bs) s))
    ∙ sym (sets-eq bs s at (omega (arith, l, w)))
    ∙ sym (put-sets 0 n s at v)
    ∙ sym (ap (put n s at) d)
