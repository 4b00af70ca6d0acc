-- The first word of a line, and what stands behind it.
use Rattle.std.specs.Prelude.{if◌then◌else◌, ◌≡◌, ◌≢◌, refl, Bool, true, false, not, cond, ◌==◌, List, [], ◌∷◌, ℕ, zero, suc, ◌+◌, ◌≤◌, ◌<◌, eqb, ltb, length, get_or, take, drop, Some, None, MatchOption, is_some, IsTrue, ◌↔◌, unwrap_or}
use Rattle.std.specs.Prelude as rust
use Rattle.std.specs.List.{position, position_or_len}
use Rattle.std.proofs.Common.{sym, ap, arith, length-take, length-take-le, ltb-true, ltb-false, eq-eqb, ne_eqb}
use Rattle.std.proofs.Math.Option.{Option, none, some}
use Rattle.std.proofs.lemmas.Bool.{false≢true}
use Rattle.machine.specs.Parse.{first_word, after_space, bytes_in}
use denote.Ref.{Bor}

-- What a slice that there may be holds.
abbrev pub rest_of : rust.Option (Bor (List ℕ)) → Option (List ℕ)
rest_of None = none
rest_of (Some x) = some x.now

-- The place of the first space, or the length.
abbrev space_in : List ℕ → ℕ
space_in line = position_or_len (λ (b : ℕ). b == 32) line

found : (line : List ℕ) → space_in line < length line
    → (first_word line ≡ take (space_in line) line) × (after_space line ≡ some (drop (suc (space_in line)) line))
unfolding first_word after_space
found [] h = absurd (omega arith)
found (b ∷ bs) h = go (eqb b 32) h (found bs)
  where
    go : (c : Bool) → cond (not c) (1 + space_in bs) 0 < suc (length bs)
        → (space_in bs < length bs → (first_word bs ≡ take (space_in bs) bs) × (after_space bs ≡ some (drop (suc (space_in bs)) bs)))
        → ((if c then [] else b ∷ first_word bs) ≡ take (cond (not c) (1 + space_in bs) 0) (b ∷ bs))
        × ◌≡◌ {A = Option (List ℕ)} (elim c [ true ↦ some bs | false ↦ after_space bs ]) (some (drop (suc (cond (not c) (1 + space_in bs) 0)) (b ∷ bs)))
    go true k r = (refl, refl)
    go false k r =
        let e : 1 + space_in bs ≡ suc (space_in bs) = omega arith in
        let q : (first_word bs ≡ take (space_in bs) bs) × (after_space bs ≡ some (drop (suc (space_in bs)) bs)) = r (omega arith) in
        (rw e (ap (λ (xs : List ℕ). b ∷ xs) q.0), rw e q.1)

missed : (line : List ℕ) → length line ≤ space_in line → (first_word line ≡ line) × (after_space line ≡ none)
unfolding first_word after_space
missed [] h = (refl, refl)
missed (b ∷ bs) h = go (eqb b 32) h (missed bs)
  where
    go : (c : Bool) → suc (length bs) ≤ cond (not c) (1 + space_in bs) 0
        → (length bs ≤ space_in bs → (first_word bs ≡ bs) × (after_space bs ≡ none))
        → ((if c then [] else b ∷ first_word bs) ≡ b ∷ bs) × ◌≡◌ {A = Option (List ℕ)} (elim c [ true ↦ some bs | false ↦ after_space bs ]) none
    go true k r = absurd (omega arith)
    go false k r = let q : (first_word bs ≡ bs) × (after_space bs ≡ none) = r (omega arith) in (ap (λ (xs : List ℕ). b ∷ xs) q.0, q.1)

-- A line is split at its first space, where there is one.
pub record SplitAt (line : List ℕ) (i : ℕ) : Type 0 where
  pub within : i < length line
  pub word : take i line ≡ first_word line
  pub rest : after_space line ≡ some (drop (i + 1) line)

pub record Unsplit (line : List ℕ) : Type 0 where
  pub word : line ≡ first_word line
  pub rest : after_space line ≡ none

-- What the place of the first space says of a line.
pub splits : (line : List ℕ) (o : rust.Option ℕ) → o ≡ position (λ (b : ℕ). b == 32) line → MatchOption o (Unsplit line) (SplitAt line)
splits line o e = rw e (go (ltb (space_in line) (length line)) refl)
  where
    go : (c : Bool) → ltb (space_in line) (length line) ≡ c → MatchOption (cond c (Some (space_in line)) None) (Unsplit line) (SplitAt line)
    go true t =
        let h : space_in line < length line = ltb-true (space_in line) (length line) t in
        let q : (first_word line ≡ take (space_in line) line) × (after_space line ≡ some (drop (suc (space_in line)) line)) = found line h in
        let n : space_in line + 1 ≡ suc (space_in line) = omega arith in
        record { within = h; word = sym q.0; rest = rw n q.1 }
    go false t =
        let q : (first_word line ≡ line) × (after_space line ≡ none) = missed line (ltb-false (space_in line) (length line) t) in
        record { word = sym q.0; rest = q.1 }

-- The first word of the first bytes is the first of the first word; a word is no longer than its line.
word-take : (n : ℕ) (line : List ℕ) → first_word (take n line) ≡ take n (first_word line)
unfolding first_word
word-take zero line = refl
word-take (suc n) [] = refl
word-take (suc n) (b ∷ bs) = go (eqb b 32) (word-take n bs)
  where
    go : (c : Bool) → first_word (take n bs) ≡ take n (first_word bs)
        → (if c then [] else b ∷ first_word (take n bs)) ≡ take (suc n) (if c then [] else b ∷ first_word bs)
    go true r = refl
    go false r = ap (λ (xs : List ℕ). b ∷ xs) r

pub length-word : (line : List ℕ) → length (first_word line) ≤ length line
unfolding first_word
length-word [] = omega arith
length-word (b ∷ bs) = go (eqb b 32) (length-word bs)
  where
    go : (c : Bool) → length (first_word bs) ≤ length bs → length (if c then [] else b ∷ first_word bs) ≤ suc (length bs)
    go true r = omega arith
    go false r = omega arith

-- A byte that is in the first word or just behind it: a space is behind it, another byte is in it.
pub at-space : (line : List ℕ) (i : ℕ) → i < length line → i ≤ length (first_word line) → get_or line i 0 ≡ 32
    → (length (first_word line) ≡ i) × (after_space line ≡ some (drop (suc i) line))
unfolding first_word after_space
at-space [] i h k s = absurd (omega arith)
at-space (b ∷ bs) zero h k s = go (eqb b 32) (eq-eqb b 32 s)
  where
    go : (c : Bool) → c ≡ true
        → (length (if c then [] else b ∷ first_word bs) ≡ 0) × ◌≡◌ {A = Option (List ℕ)} (elim c [ true ↦ some bs | false ↦ after_space bs ]) (some bs)
    go true e = (refl, refl)
    go false e = absurd (false≢true e)
at-space (b ∷ bs) (suc i) h k s = go (eqb b 32) k (at-space bs i (omega arith))
  where
    go : (c : Bool) → suc i ≤ length (if c then [] else b ∷ first_word bs)
        → (i ≤ length (first_word bs) → get_or bs i 0 ≡ 32 → (length (first_word bs) ≡ i) × (after_space bs ≡ some (drop (suc i) bs)))
        → (length (if c then [] else b ∷ first_word bs) ≡ suc i)
        × ◌≡◌ {A = Option (List ℕ)} (elim c [ true ↦ some bs | false ↦ after_space bs ]) (some (drop (suc i) bs))
    go true k r = absurd (omega arith)
    go false k r = let q = r (omega arith) s in (omega (arith, q.0), q.1)

pub at-letter : (line : List ℕ) (i : ℕ) → i < length line → i ≤ length (first_word line) → get_or line i 0 ≢ 32
    → (i < length (first_word line)) × (get_or (first_word line) i 0 ≡ get_or line i 0)
unfolding first_word
at-letter [] i h k s = absurd (omega arith)
at-letter (b ∷ bs) zero h k s = rw (ne_eqb b 32 s) (omega arith, refl)
at-letter (b ∷ bs) (suc i) h k s = go (eqb b 32) k (at-letter bs i (omega arith))
  where
    go : (c : Bool) → suc i ≤ length (if c then [] else b ∷ first_word bs)
        → (i ≤ length (first_word bs) → get_or bs i 0 ≢ 32 → (i < length (first_word bs)) × (get_or (first_word bs) i 0 ≡ get_or bs i 0))
        → (suc i < length (if c then [] else b ∷ first_word bs)) × (get_or (if c then [] else b ∷ first_word bs) (suc i) 0 ≡ get_or bs i 0)
    go true k r = absurd (omega arith)
    go false k r = let q = r (omega arith) s in (omega (arith, q.0), q.1)

-- A first word that is the whole line has nothing behind it.
pub at-end : (line : List ℕ) → length line ≤ length (first_word line) → after_space line ≡ none
unfolding first_word after_space
at-end [] h = refl
at-end (b ∷ bs) h = go (eqb b 32) h (at-end bs)
  where
    go : (c : Bool) → suc (length bs) ≤ length (if c then [] else b ∷ first_word bs)
        → (length bs ≤ length (first_word bs) → after_space bs ≡ none)
        → ◌≡◌ {A = Option (List ℕ)} (elim c [ true ↦ some bs | false ↦ after_space bs ]) none
    go true h r = absurd (omega arith)
    go false h r = r (omega arith)

-- Whether the first nine bytes have no space says whether the first word has more than eight.
pub long-word : (line : List ℕ) (o : rust.Option ℕ) (r : Bool) → 8 < length line → o ≡ position (λ (b : ℕ). b == 32) (take 9 line) → is_some o ≡ not r
    → IsTrue r ↔ 8 < length (first_word line)
long-word line o r h e n = go o r n (splits (take 9 line) o e)
  where
    nine : length (take 9 line) ≡ 9
    nine = length-take-le 9 line (omega arith)

    part : length (first_word (take 9 line)) ≡ length (take 9 (first_word line))
    part = ap length (word-take 9 line)

    go : (o : rust.Option ℕ) (r : Bool) → is_some o ≡ not r → MatchOption o (Unsplit (take 9 line)) (SplitAt (take 9 line))
        → IsTrue r ↔ 8 < length (first_word line)
    go None true n u = (λ t. omega (arith, nine, part, ap length u.word, length-take 9 (first_word line)), λ l. refl)
    go None false n u = absurd (false≢true n)
    go (Some i) true n s = absurd (false≢true (sym n))
    go (Some i) false n s =
        let l : length (take i (take 9 line)) ≡ i = length-take-le i (take 9 line) (omega (arith, s.within)) in (
          λ t. absurd (false≢true t),
          λ k. absurd (omega (arith, nine, part, ap length s.word, s.within, l, length-take 9 (first_word line))),
        )

-- What stands behind the first space, nothing where there is none.
pub rest-bytes : (r : rust.Option (Bor (List ℕ))) (d : Bor (List ℕ)) → d.now ≡ [] → (unwrap_or r d).now ≡ bytes_in (rest_of r)
unfolding bytes_in
rest-bytes None d e = e
rest-bytes (Some x) d e = refl

pub length-rest : (line : List ℕ) → length (bytes_in (after_space line)) ≤ length line
unfolding bytes_in after_space
length-rest [] = omega arith
length-rest (b ∷ bs) = go (eqb b 32) (length-rest bs)
  where
    go : (c : Bool) → length (bytes_in (after_space bs)) ≤ length bs
        → length (bytes_in (elim c [ true ↦ some bs | false ↦ after_space bs ])) ≤ suc (length bs)
    go true r = omega arith
    go false r = omega arith
