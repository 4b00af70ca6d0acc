-- Words of 64 bits, and the words above them that say which of them are full: one bit set, and one bit cleared.
use Rattle.std.specs.Prelude.{if◌then◌else◌, ◌≡◌, refl, Bool, true, false, ◌&&◌, ℕ, ◌+◌, ◌-◌, ◌*◌, ◌^◌, ◌≤◌, ◌<◌, eqb, ltb}
use Rattle.std.proofs.Common.{sym, ◌∙◌, arith, eqb-true, eq-eqb, ne_eqb, lt-ltb, ltb-true}
use Rattle.std.proofs.lemmas.Bool.{eqb-false}
use Rattle.layout.specs.Memory.{alter}
use Rattle.state.specs.Abs.{is_set}
use Rattle.state.specs.WellFormed.{bits, is_full}
use Rattle.free.specs.Bits.{Sets, bits-same, bits-set, bits_below}

-- Is the record, or cell, n − 1 − k in use?
abbrev pub used : ℕ → (ℕ → ℕ) → ℕ → Bool
used n g k = ltb k n && is_set (g (n - 1 - k))

-- The first n words hold the bits of u, 64 a word.
pub record Words (n : ℕ) (u : ℕ → Bool) (x : ℕ → ℕ) : Type 0 where
  pub word : (w : ℕ) → w < n → x w ≡ bits (λ b. u (64 * w + b)) 64

-- Which words are full.
abbrev pub full_of : (ℕ → ℕ) → ℕ → Bool
full_of x w = is_full (x w)

-- The words with bit b of word w set, and cleared.
abbrev pub add_bit : (ℕ → ℕ) → ℕ → ℕ → ℕ → ℕ
add_bit x w b = alter x w (x w + 2 ^ b)

abbrev pub cut_bit : (ℕ → ℕ) → ℕ → ℕ → ℕ → ℕ
cut_bit x w b = alter x w (x w - 2 ^ b)

-- One more in use, at i.
pub used-set : (n : ℕ) (g p : ℕ → ℕ) (i : ℕ) → i < n → g i ≡ 0 → 0 < p i → ((j : ℕ) → (j ≡ i → ⊥) → p j ≡ g j) → Sets (used n g) (used n p) (n - 1 - i)
used-set n g p i h off on rest =
    record {
      off = rw (lt-ltb (n - 1 - i) n (omega arith), back, off);
      on = rw (lt-ltb (n - 1 - i) n (omega arith), back, ne_eqb (p i) 0 (λ e. omega arith));
      rest = λ j ne. go j ne (ltb j n) refl;
    }
  where
    back : n - 1 - (n - 1 - i) ≡ i
    back = omega arith

    go : (j : ℕ) → (j ≡ n - 1 - i → ⊥) → (t : Bool) → ltb j n ≡ t → (t && is_set (g (n - 1 - j))) ≡ (t && is_set (p (n - 1 - j)))
    go j ne true e = rw (rest (n - 1 - j) (λ d. ne (omega (arith, ltb-true j n e))))
    go j ne false e = refl

module _ {n : ℕ} {u u' : ℕ → Bool} {x : ℕ → ℕ} (w b : ℕ) (right : Words n u x) (small : b < 64) (index : w < n) where
  -- another word has the bits it had
  others : ((k : ℕ) → (k ≡ 64 * w + b → ⊥) → u k ≡ u' k) → (w' : ℕ) → (w ≡ w' → ⊥) → bits (λ c. u (64 * w' + c)) 64 ≡ bits (λ c. u' (64 * w' + c)) 64
  others rest w' ne = bits-same (λ c. u (64 * w' + c)) (λ c. u' (64 * w' + c)) 64 (λ c l. rest (64 * w' + c) (λ e. ne (omega arith)))

  altered : (v : ℕ) → ((k : ℕ) → (k ≡ 64 * w + b → ⊥) → u k ≡ u' k) → v ≡ bits (λ c. u' (64 * w + c)) 64 → Words n u' (alter x w v)
  altered v rest new = record { word = λ w' h. go w' h (eqb w w') refl }
    where
      go : (w' : ℕ) → w' < n → (t : Bool) → eqb w w' ≡ t → (if t then v else x w') ≡ bits (λ c. u' (64 * w' + c)) 64
      go w' h true e = rw (← (eqb-true w w' e)) new
      go w' h false e = right.word w' h ∙ others rest w' (eqb-false w w' e)

  -- a bit set
  add-word : Sets u u' (64 * w + b) → x w + 2 ^ b ≡ bits (λ c. u' (64 * w + c)) 64
  add-word s =
      let one : Sets (λ c. u (64 * w + c)) (λ c. u' (64 * w + c)) b =
      record { off = s.off; on = s.on; rest = λ j ne. s.rest (64 * w + j) (λ e. ne (omega arith)) }
      in
      rw (right.word w index) (sym (bits-set (λ c. u (64 * w + c)) (λ c. u' (64 * w + c)) b 64 one small))

  pub words-add : Sets u u' (64 * w + b) → Words n u' (add_bit x w b)
  words-add s = altered (x w + 2 ^ b) s.rest (add-word s)

  pub add-room : Sets u u' (64 * w + b) → x w + 2 ^ b ≤ 18446744073709551615
  add-room s = rw (add-word s) (omega (arith, bits_below (λ c. u' (64 * w + c)) 64))

  -- a bit cleared
  cut_word : Sets u' u (64 * w + b) → x w ≡ bits (λ c. u' (64 * w + c)) 64 + 2 ^ b
  cut_word s =
      let one : Sets (λ c. u' (64 * w + c)) (λ c. u (64 * w + c)) b =
      record { off = s.off; on = s.on; rest = λ j ne. s.rest (64 * w + j) (λ e. ne (omega arith)) }
      in
      right.word w index ∙ bits-set (λ c. u' (64 * w + c)) (λ c. u (64 * w + c)) b 64 one small

  pub words-cut : Sets u' u (64 * w + b) → Words n u' (cut_bit x w b)
  words-cut s = altered (x w - 2 ^ b) (λ k ne. sym (s.rest k ne)) (omega (arith, cut_word s))

  pub cut-room : Sets u' u (64 * w + b) → (2 ^ b ≤ x w) × (x w ≤ 18446744073709551615)
  cut-room s = (omega (arith, cut_word s), rw (right.word w index) (omega (arith, bits_below (λ c. u (64 * w + c)) 64)))

-- Which words are full once word w holds v: it is one more, one less, or the same.
module _ (x : ℕ → ℕ) (w v : ℕ) where
  same_as : (j : ℕ) → (j ≡ w → ⊥) → full_of x j ≡ full_of (alter x w v) j
  same_as j ne = rw (ne_eqb w j (λ e. ne (sym e)))

  at_w : full_of (alter x w v) w ≡ is_full v
  at_w = rw (eq-eqb w w refl)

  pub full-more : is_full (x w) ≡ false → is_full v ≡ true → Sets (full_of x) (full_of (alter x w v)) w
  full-more off on = record { off = off; on = at_w ∙ on; rest = same_as }

  pub full-less : is_full (x w) ≡ true → is_full v ≡ false → Sets (full_of (alter x w v)) (full_of x) w
  full-less on off = record { off = at_w ∙ off; on = on; rest = λ j ne. sym (same_as j ne) }

  pub full-same : is_full v ≡ is_full (x w) → (j : ℕ) → full_of x j ≡ full_of (alter x w v) j
  full-same e j = go (eqb j w) refl
    where
      go : (t : Bool) → eqb j w ≡ t → full_of x j ≡ full_of (alter x w v) j
      go true d = rw (eqb-true j w d) (sym (at_w ∙ e))
      go false d = same_as j (eqb-false j w d)

-- A word that has room for one bit more is not full.
pub not_full : (a c : ℕ) → 0 < c → a + c ≤ 18446744073709551615 → is_full a ≡ false
not_full a c p h = ne_eqb a 18446744073709551615 (λ e. omega arith)
