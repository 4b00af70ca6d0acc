-- How many digits a number has.
use Rattle.std.specs.Prelude.{◌≡◌, refl, Bool, true, false, [], ◌∷◌, ℕ, zero, suc, ◌+◌, ◌-◌, ◌*◌, ◌/◌, ◌%◌, ◌≤◌, ◌<◌, ltb, length}
use Rattle.std.proofs.Common.{sym, ap, ◌∙◌, zero-add, arith, ltb-true, ltb-false, length-append}
use Rattle.machine.specs.Message.{decimal}
use Rattle.message.specs.Digits.{tens, decimal-small, decimal-more}

-- As many digits as n has: 1 to 20.
pub record Wide (n r : ℕ) : Type 0 where
  pub digits : r ≡ length (decimal n)
  pub some : 1 ≤ r
  pub few : r ≤ 20

tens-some : (k : ℕ) → 1 ≤ tens k
tens-some zero = omega arith
tens-some (suc k) = omega (arith, tens-some k)

tens_rise : (j k : ℕ) → tens j ≤ tens (j + k)
tens_rise zero k = rw (zero-add k) (tens-some k)
tens_rise (suc j) k = let e : suc j + k ≡ suc (j + k) = omega arith in rw e (omega (arith, tens_rise j k))

-- a number of 64 bits is below 10 to the power of 20
few-digits : (n k : ℕ) → n < 18446744073709551616 → tens k ≤ n → k < 20
few-digits n k h l = go (ltb k 20) refl
  where
    go : (b : Bool) → ltb k 20 ≡ b → k < 20
    go true e = ltb-true k 20 e
    go false e =
        let g : 20 ≤ k = ltb-false k 20 e in
        let d : 20 + (k - 20) ≡ k = omega arith in
        absurd (omega (arith, rw d at (tens_rise 20 (k - 20))))

decimal-length : (k n : ℕ) → n < tens (suc k) → (0 < k → tens k ≤ n) → length (decimal n) ≡ suc k
decimal-length zero n h l = ap length (decimal-small n (omega arith))
decimal-length (suc k) n h l =
    let t : tens (suc k) ≤ n = l (omega arith) in
    ap length (decimal-more n (omega (arith, tens-some k)))
    ∙ length-append (decimal (n / 10)) ((48 + n % 10) ∷ [])
    ∙ omega (arith, decimal-length k (n / 10) (omega arith) (λ _. omega arith))

-- The digits are being counted: p is 10 to the power of k - 1, and at most n where k is over 1.
pub record Counting (n p k : ℕ) : Type 0 where
  pub rank : ℕ
  pub next : k ≡ suc rank
  pub power : p ≡ tens rank
  pub low : 0 < rank → tens rank ≤ n
  pub some : 1 ≤ p
  pub few : k ≤ 20

pub count-start : {n : ℕ} → Counting n 1 1
count-start = record { rank = 0; next = refl; power = refl; low = λ h. absurd (omega arith); some = omega arith; few = omega arith }

pub count-more : {n p k : ℕ} → n < 18446744073709551616 → Counting n p k → p ≤ n / 10 → Counting n (p * 10) (k + 1)
count-more {n} {p} {k} fits w h =
    let l : tens (suc w.rank) ≤ n = omega (arith, w.power) in
    record {
      rank = suc w.rank;
      next = omega (arith, w.next);
      power = omega (arith, w.power);
      low = λ _. l;
      some = omega (arith, w.some);
      few = omega (arith, w.next, few-digits n (suc w.rank) fits l);
    }

pub count-end : {n p k : ℕ} → Counting n p k → n / 10 < p → Wide n k
count-end {n} {p} {k} w h =
    record {
      digits = w.next ∙ sym (decimal-length w.rank n (omega (arith, w.power)) w.low);
      some = omega (arith, w.next);
      few = w.few;
    }
