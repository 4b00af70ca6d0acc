-- The words above: what becomes of them when word w below them comes to hold v.
use Rattle.std.specs.Prelude.{if◌then◌else◌, ◌≡◌, refl, Bool, true, false, ℕ, ◌+◌, ◌*◌, ◌^◌, ◌≤◌, ◌<◌}
use Rattle.std.proofs.Common.{sym, subst, ◌∙◌, arith}
use Rattle.std.proofs.Math.Nat.{pow-le-pow_right}
use Rattle.layout.specs.Memory.{alter}
use Rattle.state.specs.WellFormed.{bits, is_full}
use Rattle.free.specs.Bits.{Sets, bits-same, bits-set, bits_below}
use Rattle.free.specs.Words.{Words, full_of, add_bit, cut_bit, words-add, words-cut, full-more, full-less, full-same}

-- The words y with bit b of word w set, or cleared, where t holds.
abbrev pub add_if : Bool → (ℕ → ℕ) → ℕ → ℕ → ℕ → ℕ
add_if t y w b = if t then add_bit y w b else y

abbrev pub cut_if : Bool → (ℕ → ℕ) → ℕ → ℕ → ℕ → ℕ
cut_if t y w b = if t then cut_bit y w b else y

-- Words that hold the same bits.
pub words_same : {n : ℕ} {u u' : ℕ → Bool} {x : ℕ → ℕ} → Words n u x → ((k : ℕ) → u k ≡ u' k) → Words n u' x
words_same {n} {u} {u'} {x} r same =
    record { word = λ w h. r.word w h ∙ bits-same (λ b. u (64 * w + b)) (λ b. u' (64 * w + b)) 64 (λ j l. same (64 * w + j)) }

-- The single word at the top, with n bits.
module _ (x y : ℕ → ℕ) (n w v : ℕ) (top : y 0 ≡ bits (full_of x) n) (index : w < n) where
  pub top-add : is_full (x w) ≡ false → add_if (is_full v) y 0 w 0 ≡ bits (full_of (alter x w v)) n
  top-add off = go (is_full v) refl
    where
      go : (t : Bool) → is_full v ≡ t → add_if t y 0 w 0 ≡ bits (full_of (alter x w v)) n
      go true e = rw top (sym (bits-set (full_of x) (full_of (alter x w v)) w n (full-more x w v off e) index))
      go false e = top ∙ bits-same (full_of x) (full_of (alter x w v)) n (λ j l. full-same x w v (e ∙ sym off) j)

  pub top-cut : is_full v ≡ false → cut_if (is_full (x w)) y 0 w 0 ≡ bits (full_of (alter x w v)) n
  top-cut off = go (is_full (x w)) refl
    where
      go : (t : Bool) → is_full (x w) ≡ t → cut_if t y 0 w 0 ≡ bits (full_of (alter x w v)) n
      go true e =
          let s : y 0 ≡ bits (full_of (alter x w v)) n + 2 ^ w = top ∙ bits-set (full_of (alter x w v)) (full_of x) w n (full-less x w v e off) index in
          omega arith
      go false e = top ∙ bits-same (full_of x) (full_of (alter x w v)) n (λ j l. full-same x w v (off ∙ sym e) j)

  pub top-add-room : n ≤ 64 → is_full (x w) ≡ false → is_full v ≡ true → y 0 + 2 ^ w ≤ 18446744073709551615
  top-add-room h off on =
      omega
      (arith, bits-set (full_of x) (full_of (alter x w v)) w n (full-more x w v off on) index, bits_below (full_of (alter x w v)) n, pow-le-pow_right {n = 2} (omega arith) {i = n} {j = 64} h)

  pub top-cut-room : is_full (x w) ≡ true → is_full v ≡ false → 2 ^ w ≤ y 0
  top-cut-room on off = omega (arith, bits-set (full_of (alter x w v)) (full_of x) w n (full-less x w v on off) index)

-- Words between, of which word c has bit w at b.
module _ {n : ℕ} (x : ℕ → ℕ) {y : ℕ → ℕ} (w v c b : ℕ) (right : Words n (full_of x) y) (at : w ≡ 64 * c + b) (small : b < 64) (index : c < n) where
  pub more-at : is_full (x w) ≡ false → is_full v ≡ true → Sets (full_of x) (full_of (alter x w v)) (64 * c + b)
  more-at off on = subst (λ (k : ℕ). Sets (full_of x) (full_of (alter x w v)) k) at (full-more x w v off on)

  pub less-at : is_full (x w) ≡ true → is_full v ≡ false → Sets (full_of (alter x w v)) (full_of x) (64 * c + b)
  less-at on off = subst (λ (k : ℕ). Sets (full_of (alter x w v)) (full_of x) k) at (full-less x w v on off)

  pub middle-add : is_full (x w) ≡ false → Words n (full_of (alter x w v)) (add_if (is_full v) y c b)
  middle-add off = go (is_full v) refl
    where
      go : (t : Bool) → is_full v ≡ t → Words n (full_of (alter x w v)) (add_if t y c b)
      go true e = words-add c b right small index (more-at off e)
      go false e = words_same right (full-same x w v (e ∙ sym off))

  pub middle-cut : is_full v ≡ false → Words n (full_of (alter x w v)) (cut_if (is_full (x w)) y c b)
  middle-cut off = go (is_full (x w)) refl
    where
      go : (t : Bool) → is_full (x w) ≡ t → Words n (full_of (alter x w v)) (cut_if t y c b)
      go true e = words-cut c b right small index (less-at e off)
      go false e = words_same right (full-same x w v (off ∙ sym e))
