-- The numbers of a line, one by one.
use Rattle.std.specs.Prelude.{if◌then◌else◌, ◌≡◌, refl, Bool, true, false, List, [], ◌∷◌, ◌++◌, ℕ, ◌+◌, ◌^◌, ◌≤◌, ◌<◌, eqb, length, take, set}
use Rattle.std.proofs.Common.{sym, ap, ◌∙◌, append_assoc, append-nil, add-one, arith, length-append, length-take-le, take-suc-set, eq-eqb, ne_eqb}
use Rattle.std.proofs.Math.Option.{Option, none, some}
use Rattle.std.proofs.Math.Seq.{take_all}
use Rattle.machine.specs.Encodable.{AllBelow}
use Rattle.machine.specs.Parse.{in_front, first_word, after_space, words_of, number, both, all_numbers, fields_in}
use Rattle.parse.specs.Numeral.{number-below}

-- Numbers behind others, where they are numbers.
unfoldable pub behind : List ℕ → Option (List ℕ) → Option (List ℕ)
behind xs none = none
behind xs (some ys) = some (xs ++ ys)

-- Numbers, where they are n.
unfoldable pub exactly : ℕ → Option (List ℕ) → Option (List ℕ)
exactly n none = none
exactly n (some xs) = if eqb (length xs) n then some xs else none

-- The words behind the first.
later : Option (List ℕ) → List (List ℕ)
later none = []
later (some rest) = words_of rest

words_are : (bs : List ℕ) → words_of bs ≡ first_word bs ∷ later (after_space bs)
unfolding words_of first_word after_space later in_front
words_are [] = refl
words_are (b ∷ bs) = go (eqb b 32) (words_are bs)
  where
    go : (c : Bool) → words_of bs ≡ first_word bs ∷ later (after_space bs)
        → (if c then [] ∷ words_of bs else in_front b (words_of bs))
        ≡ (if c then [] else b ∷ first_word bs) ∷ later (elim c [ true ↦ some bs | false ↦ after_space bs ])
    go true r = refl
    go false r = rw r

fields-later : (o : Option (List ℕ)) → fields_in o ≡ all_numbers (later o)
unfolding fields_in all_numbers later
fields-later none = refl
fields-later (some rest) = refl

-- The first number, and those behind it.
fields-first : (bs : List ℕ) → fields_in (some bs) ≡ both (number (first_word bs)) (fields_in (after_space bs))
unfolding fields_in all_numbers
fields-first bs = rw (words_are bs, ← fields-later (after_space bs))

-- Numbers that were read are below 2^64.
all-below : (ws : List (List ℕ)) (xs : List ℕ) → all_numbers ws ≡ some xs → AllBelow (2 ^ 64) xs
unfolding all_numbers both
all-below [] xs e = let q : xs ≡ [] = cc in rw q tt
all-below (w ∷ ws) xs e = go (number w) (all_numbers ws) (λ x. number-below x w) (all-below ws) e
  where
    go : (o : Option ℕ) (p : Option (List ℕ)) → ((x : ℕ) → o ≡ some x → x < 2 ^ 64)
        → ((ys : List ℕ) → p ≡ some ys → AllBelow (2 ^ 64) ys)
        → both o p ≡ some xs
        → AllBelow (2 ^ 64) xs
    go none p h k q = let z : ◌≡◌ {A = ℕ} 0 1 = cc in absurd (omega arith)
    go (some x) none h k q = let z : ◌≡◌ {A = ℕ} 0 1 = cc in absurd (omega arith)
    go (some x) (some ys) h k q = let r : xs ≡ x ∷ ys = cc in rw r (h x refl, k ys refl)

pub fields-below : (o : Option (List ℕ)) (xs : List ℕ) → fields_in o ≡ some xs → AllBelow (2 ^ 64) xs
fields-below o xs e = all-below (later o) xs (sym (fields-later o) ∙ e)

-- The first i numbers of a line are there, and o follows them.
pub record Filling (whole : Option (List ℕ)) (numbers : List ℕ) (i : ℕ) (o : Option (List ℕ)) : Type 0 where
  pub read : fields_in whole ≡ behind (take i numbers) (fields_in o)

behind-none : (o : Option (List ℕ)) → o ≡ behind [] o
unfolding behind
behind-none none = refl
behind-none (some ys) = refl

pub filling_start : {whole : Option (List ℕ)} {numbers : List ℕ} → Filling whole numbers 0 whole
filling_start {whole} = record { read = behind-none (fields_in whole) }

-- One number more.
behind-both : (xs : List ℕ) (v : ℕ) (o : Option (List ℕ)) → behind xs (both (some v) o) ≡ behind (xs ++ v ∷ []) o
unfolding behind both
behind-both xs v none = refl
behind-both xs v (some ys) = ap some (sym (append_assoc xs (v ∷ []) ys))

-- Too few numbers, no number, too many, and just as many.
too_few : (n : ℕ) (xs : List ℕ) → length xs < n → exactly n (behind xs (some [])) ≡ none
unfolding behind exactly
too_few n xs h = rw (append-nil xs, ne_eqb (length xs) n (λ e. omega arith))

too_many : (n : ℕ) (xs : List ℕ) (v : Option ℕ) (o : Option (List ℕ)) → length xs ≡ n → exactly n (behind xs (both v o)) ≡ none
unfolding behind exactly both
too_many n xs none o h = refl
too_many n xs (some v) none h = refl
too_many n xs (some v) (some ys) h = rw (ne_eqb (length (xs ++ v ∷ ys)) n (λ e. omega (arith, length-append xs (v ∷ ys))))

just : (n : ℕ) (xs : List ℕ) → length xs ≡ n → exactly n (behind xs (some [])) ≡ some xs
unfolding behind exactly
just n xs h = rw (append-nil xs, eq-eqb (length xs) n h)

module _ {whole o : Option (List ℕ)} {numbers : List ℕ} {i : ℕ} (w : Filling whole numbers i o) {n : ℕ} (q : length numbers ≡ n) where
  none-left : o ≡ none → fields_in o ≡ some []
  unfolding fields_in
  none-left e = rw e

  pub filled-few : i < n → o ≡ none → exactly n (fields_in whole) ≡ none
  filled-few l e = rw (w.read, none-left e) (too_few n (take i numbers) (omega (arith, length-take-le i numbers (omega arith))))

  pub filled-end : n ≤ i → o ≡ none → exactly n (fields_in whole) ≡ some numbers
  filled-end l e =
      let t : take i numbers ≡ numbers = take_all i numbers (omega arith) in
      rw (w.read, none-left e, t) (just n numbers q)

  module _ (line : List ℕ) (e : o ≡ some line) where
    here : fields_in o ≡ both (number (first_word line)) (fields_in (after_space line))
    here = ap fields_in e ∙ fields-first line

    pub filled-many : n ≤ i → exactly n (fields_in whole) ≡ none
    filled-many l =
        let t : take i numbers ≡ numbers = take_all i numbers (omega arith) in
        rw (w.read, here, t) (too_many n numbers (number (first_word line)) (fields_in (after_space line)) q)

    pub filled-none : number (first_word line) ≡ none → exactly n (fields_in whole) ≡ none
    unfolding both behind exactly
    filled-none m = rw (w.read, here, m)

    pub filling_more : {v : ℕ} → i < n → number (first_word line) ≡ some v → Filling whole (set numbers i v) (i + 1) (after_space line)
    filling_more {v} l m =
        let t : take (i + 1) (set numbers i v) ≡ take i numbers ++ v ∷ [] = rw (add-one i) (take-suc-set numbers i v (omega arith)) in
        record { read = w.read ∙ (rw (here, m, t) (behind-both (take i numbers) v (fields_in (after_space line)))) }
