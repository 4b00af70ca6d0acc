-- The lowest clear bit of words, found by the words above them.
use Rattle.std.specs.Prelude.{◌≡◌, refl, Bool, true, false, ℕ, ◌+◌, ◌-◌, ◌*◌, ◌/◌, ◌%◌, ◌^◌, ◌≤◌, ◌<◌, ltb}
use Rattle.std.proofs.Common.{subst, arith, mod-lt, eqb-true, ltb-true, ltb-false}
use Rattle.std.proofs.Math.Nat.{div-add-mod}
use Rattle.std.proofs.lemmas.Bool.{eqb-false}
use Rattle.state.specs.WellFormed.{bits}
use Rattle.free.specs.Bits.{full-all, all-full}
use Rattle.free.specs.First.{first_clear, first_below, first-here}
use Rattle.free.specs.Words.{used, Words, full_of}
use Rattle.free.specs.Highest.{used_in_lem}

-- All bits before k are set.
abbrev pub AllSet : (ℕ → Bool) → ℕ → Type 0
AllSet u k = (j : ℕ) → j < k → u j ≡ true

-- The bits of full words are set.
pub all_words : {n : ℕ} {u : ℕ → Bool} {x : ℕ → ℕ} (w : ℕ) → Words n u x → w ≤ n → AllSet (full_of x) w → AllSet u (64 * w)
all_words {n} {u} {x} w right h full j l =
    let d : 64 * (j / 64) + j % 64 ≡ j = div-add-mod j 64 in
    let b : j % 64 < 64 = mod-lt j (omega arith) in
    let i : j / 64 < w = omega arith in
    let e : x (j / 64) ≡ 18446744073709551615 = eqb-true (x (j / 64)) 18446744073709551615 (full (j / 64) i) in
    let f : bits (λ c. u (64 * (j / 64) + c)) 64 + 1 ≡ 2 ^ 64 = omega (arith, right.word (j / 64) (omega arith)) in
    subst (λ (k : ℕ). u k ≡ true) d (full-all (λ c. u (64 * (j / 64) + c)) 64 f (j % 64) b)

-- So are those before the first clear bit of the word after them, and that bit is clear if the word is not full.
module _ {n : ℕ} {u : ℕ → Bool} {x : ℕ → ℕ} (w r : ℕ) (right : Words n u x) (index : w < n) (first : r ≡ first_clear (λ b. u (64 * w + b)) 64) where
  pub all-before : AllSet (full_of x) w → AllSet u (64 * w + r)
  all-before full j l = go (ltb j (64 * w)) refl
    where
      go : (t : Bool) → ltb j (64 * w) ≡ t → u j ≡ true
      go true e = all_words w right (omega arith) full j (ltb-true j (64 * w) e)
      go false e =
          let h : 64 * w ≤ j = ltb-false j (64 * w) e in
          let d : 64 * w + (j - 64 * w) ≡ j = omega arith in
          subst (λ (k : ℕ). u k ≡ true) d (first_below (λ b. u (64 * w + b)) 64 (j - 64 * w) (omega arith))

  -- the word has one
  pub clear_low : full_of x w ≡ false → r < 64
  clear_low off = rw first (go (ltb (first_clear (λ b. u (64 * w + b)) 64) 64) refl)
    where
      go : (t : Bool) → ltb (first_clear (λ b. u (64 * w + b)) 64) 64 ≡ t → first_clear (λ b. u (64 * w + b)) 64 < 64
      go true e = ltb-true (first_clear (λ b. u (64 * w + b)) 64) 64 e
      go false e =
          let h : 64 ≤ first_clear (λ b. u (64 * w + b)) 64 = ltb-false (first_clear (λ b. u (64 * w + b)) 64) 64 e in
          let f : bits (λ b. u (64 * w + b)) 64 + 1 ≡ 2 ^ 64 =
          all-full (λ b. u (64 * w + b)) 64 (λ j l. first_below (λ b. u (64 * w + b)) 64 j (omega arith))
          in
          absurd (eqb-false (x w) 18446744073709551615 off (omega (arith, right.word w index)))

  pub clear_at : full_of x w ≡ false → u (64 * w + r) ≡ false
  clear_at off = rw first (first-here (λ b. u (64 * w + b)) 64 (rw first at clear_low off))

-- No more words are full than there are records, or cells.
pub full-words : {n : ℕ} {x : ℕ → ℕ} (c : ℕ) (g : ℕ → ℕ) (w : ℕ) → Words n (used c g) x → w ≤ n → AllSet (full_of x) w → 64 * w ≤ c
full-words {n} {x} c g w right h full = go (ltb 0 w) refl
  where
    go : (t : Bool) → ltb 0 w ≡ t → 64 * w ≤ c
    go true e =
        let p : 0 < w = ltb-true 0 w e in
        omega (arith, (used_in_lem c g (64 * w - 1) (all_words w right h full (64 * w - 1) (omega arith))).0)
    go false e = omega (arith, ltb-false 0 w e)

-- Of 1016 words of at most 65,000 cells, one is not full.
pub few_words : {x : ℕ → ℕ} (c : ℕ) (g : ℕ → ℕ) (w : ℕ) → Words 1016 (used c g) x → c ≤ 65000 → AllSet (full_of x) w → w < 1016
few_words {x} c g w right h full = go (ltb w 1016) refl
  where
    go : (t : Bool) → ltb w 1016 ≡ t → w < 1016
    go true e = ltb-true w 1016 e
    go false e =
        let l : 1016 ≤ w = ltb-false w 1016 e in
        absurd (omega (arith, full-words c g 1016 right (omega arith) (λ j k. full j (omega arith))))
