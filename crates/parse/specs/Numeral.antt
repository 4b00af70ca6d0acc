-- A number in decimal, digit by digit.
use Rattle.std.specs.Prelude.{if◌then◌else◌, ◌≡◌, ◌≢◌, refl, Bool, true, false, ◌&&◌, List, [], ◌∷◌, ℕ, suc, ◌+◌, ◌-◌, ◌*◌, ◌^◌, ◌≤◌, ◌<◌, ◌⊎◌, leb, ltb, length, get_or, drop}
use Rattle.std.proofs.Common.{sym, ap, ◌∙◌, ⊎_elim, add-one, arith, lt-ltb, le-ltb, ltb-true, le-leb, leb-true, drop_of_length-le, drop-cons}
use Rattle.std.proofs.Math.Option.{none, some}
use Rattle.std.proofs.lemmas.Bool.{lt-leb}
use Rattle.machine.specs.Parse.{first_word, after_space, value_from, number}
use Rattle.parse.specs.Words.{length-word, at-space, at-letter, at-end}

-- One byte of a number.
module _ (v b : ℕ) (bs : List ℕ) where
  value_by : (c : Bool) → (leb 48 b && leb b 57) ≡ c → value_from v (b ∷ bs) ≡ if c then value_from (v * 10 + (b - 48)) bs else none
  unfolding value_from
  value_by true e = ap (λ (c : Bool). elim c [ true ↦ value_from (v * 10 + (b - 48)) bs | false ↦ none ]) e
  value_by false e = ap (λ (c : Bool). elim c [ true ↦ value_from (v * 10 + (b - 48)) bs | false ↦ none ]) e

  value-digit : 48 ≤ b → b ≤ 57 → value_from v (b ∷ bs) ≡ value_from (v * 10 + (b - 48)) bs
  value-digit l h = value_by true (rw (le-leb 48 b l, le-leb b 57 h))

  value-other : (b < 48) ⊎ (57 < b) → value_from v (b ∷ bs) ≡ none
  value-other o =
      value_by false
      (go (leb 48 b) refl o)
    where
      go : (c : Bool) → leb 48 b ≡ c → (b < 48) ⊎ (57 < b) → (c && leb b 57) ≡ false
      go false e o = refl
      go true e o = lt-leb b 57 (⊎_elim (λ l. absurd (omega (arith, leb-true 48 b e))) (λ l. l) o)

-- A value over 64 bits stays one.
value_big : (v : ℕ) (bs : List ℕ) → 2 ^ 64 ≤ v → value_from v bs ≡ none
unfolding value_from
value_big v [] h = rw (le-ltb v (2 ^ 64) h)
value_big v (b ∷ bs) h = value_by v b bs (leb 48 b && leb b 57) refl ∙ go (leb 48 b && leb b 57) (value_big (v * 10 + (b - 48)) bs (omega arith))
  where
    go : (c : Bool) → value_from (v * 10 + (b - 48)) bs ≡ none → (if c then value_from (v * 10 + (b - 48)) bs else none) ≡ none
    go true r = r
    go false r = refl

-- A value that was read is below 2^64.
value-below : (v x : ℕ) (bs : List ℕ) → value_from v bs ≡ some x → x < 2 ^ 64
unfolding value_from
value-below v x [] e = go (ltb v (2 ^ 64)) refl e
  where
    go : (c : Bool) → ltb v (2 ^ 64) ≡ c → (if c then some v else none) ≡ some x → x < 2 ^ 64
    go true t q = let y : v ≡ x = cc in omega (arith, ltb-true v (2 ^ 64) t)
    go false t q = let z : ◌≡◌ {A = ℕ} 0 1 = cc in omega arith
value-below v x (b ∷ bs) e =
    go (leb 48 b && leb b 57) (sym (value_by v b bs (leb 48 b && leb b 57) refl) ∙ e) (value-below (v * 10 + (b - 48)) x bs)
  where
    go : (c : Bool) → (if c then value_from (v * 10 + (b - 48)) bs else none) ≡ some x
        → (value_from (v * 10 + (b - 48)) bs ≡ some x → x < 2 ^ 64)
        → x < 2 ^ 64
    go true q r = r q
    go false q r = let z : ◌≡◌ {A = ℕ} 0 1 = cc in omega arith

pub number-below : (x : ℕ) (w : List ℕ) → number w ≡ some x → x < 2 ^ 64
unfolding number
number-below x [] e = let z : ◌≡◌ {A = ℕ} 0 1 = cc in omega arith
number-below x (b ∷ bs) e = value-below 0 x (b ∷ bs) e

-- The empty word is no number.
pub number-empty : (word : List ℕ) → length word ≡ 0 → number word ≡ none
unfolding number
number-empty [] h = refl
number-empty (b ∷ bs) h = absurd (omega arith)

-- The first i bytes of a word are digits of the value v.
pub record Digits (word : List ℕ) (v i : ℕ) : Type 0 where
  pub small : v < 2 ^ 64
  pub read : number word ≡ value_from v (drop i word)

pub digits-start : (word : List ℕ) → 0 < length word → Digits word 0 0
unfolding number
digits-start [] h = absurd (omega arith)
digits-start (b ∷ bs) h = record { small = omega arith; read = refl }

module _ {word : List ℕ} {v i : ℕ} (w : Digits word v i) where
  module _ (h : i < length word) where
    next : number word ≡ value_from v (get_or word i 0 ∷ drop (suc i) word)
    next = w.read ∙ ap (value_from v) (drop-cons word i 0 h)

    pub digits-other : (get_or word i 0 < 48) ⊎ (57 < get_or word i 0) → number word ≡ none
    digits-other o = next ∙ value-other v (get_or word i 0) (drop (suc i) word) o

    module _ (l : 48 ≤ get_or word i 0) (m : get_or word i 0 ≤ 57) where
      digit : number word ≡ value_from (v * 10 + (get_or word i 0 - 48)) (drop (suc i) word)
      digit = next ∙ value-digit v (get_or word i 0) (drop (suc i) word) l m

      pub digits-big : 2 ^ 64 ≤ v * 10 + (get_or word i 0 - 48) → number word ≡ none
      digits-big t = digit ∙ value_big (v * 10 + (get_or word i 0 - 48)) (drop (suc i) word) t

      pub digits_more : v * 10 + (get_or word i 0 - 48) < 2 ^ 64 → Digits word (v * 10 + (get_or word i 0 - 48)) (i + 1)
      digits_more s = record { small = s; read = rw (add-one i) digit }

  pub digits-end : length word ≤ i → number word ≡ some v
  unfolding value_from
  digits-end h = w.read ∙ rw (drop_of_length-le word {i = i} h, lt-ltb v (2 ^ 64) w.small)

-- The first i bytes of a line are of its first word, and digits of the value v.
pub record DigitsIn (line : List ℕ) (v i : ℕ) : Type 0 where
  pub within : i ≤ length (first_word line)
  pub digits : Digits (first_word line) v i

-- A first word that is empty is no number.
pub in-empty : (line : List ℕ) → length line ≡ 0 → number (first_word line) ≡ none
in-empty line e = number-empty (first_word line) (omega (arith, e, length-word line))

pub in-blank : (line : List ℕ) → 0 < length line → get_or line 0 0 ≡ 32 → number (first_word line) ≡ none
in-blank line h e = number-empty (first_word line) (at-space line 0 h (omega arith) e).0

pub in-start : (line : List ℕ) → 0 < length line → get_or line 0 0 ≢ 32 → DigitsIn line 0 0
in-start line h n = let q = at-letter line 0 h (omega arith) n in record { within = omega arith; digits = digits-start (first_word line) q.0 }

module _ {line : List ℕ} {v i : ℕ} (w : DigitsIn line v i) where
  module _ (h : i < length line) where
    pub in-space : get_or line i 0 ≡ 32 → (number (first_word line) ≡ some v) × (after_space line ≡ some (drop (i + 1) line))
    in-space e = let q = at-space line i h w.within e in (digits-end w.digits (omega (arith, q.0)), rw (add-one i) q.1)

    module _ (n : get_or line i 0 ≢ 32) where
      letter : (i < length (first_word line)) × (get_or (first_word line) i 0 ≡ get_or line i 0)
      letter = at-letter line i h w.within n

      pub in-other : (get_or line i 0 < 48) ⊎ (57 < get_or line i 0) → number (first_word line) ≡ none
      in-other o = digits-other w.digits letter.0 (rw letter.1 o)

      module _ (l : 48 ≤ get_or line i 0) (m : get_or line i 0 ≤ 57) where
        pub in-big : 2 ^ 64 ≤ v * 10 + (get_or line i 0 - 48) → number (first_word line) ≡ none
        in-big t = digits-big w.digits letter.0 (rw letter.1 l) (rw letter.1 m) (rw letter.1 t)

        pub in-more : v * 10 + (get_or line i 0 - 48) < 2 ^ 64 → DigitsIn line (v * 10 + (get_or line i 0 - 48)) (i + 1)
        in-more s =
            record {
              within = omega (arith, letter.0);
              digits = rw (← letter.1) (digits_more w.digits letter.0 (rw letter.1 l) (rw letter.1 m) (rw letter.1 s));
            }

  pub in-end : length line ≤ i → (number (first_word line) ≡ some v) × (after_space line ≡ none)
  in-end h =
      let e : length (first_word line) ≤ length line = length-word line in
      (digits-end w.digits (omega arith), at-end line (omega (arith, w.within)))
