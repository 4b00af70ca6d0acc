-- The steps in bytes, one by one.
use denote.Ref.{Bor}
use Rattle.std.specs.Prelude.{if◌then◌else◌, ◌≡◌, refl, Bool, true, false, List, [], ◌∷◌, ℕ, zero, suc, ◌-◌, ◌≤◌, ◌<◌, ltb, length, take, drop, Option, Some, None, MatchOption}
use Rattle.std.proofs.Common.{sym, ap, ap₂, ◌∙◌, arith, lt-ltb, le-ltb, length-drop, get_or-take, drop-drop}
use Rattle.std.specs.List.{IsSplitAt}
use Rattle.memory.specs.Le.{le, le_ext}
use Rattle.run.specs.Ran.{first_end, steps_up_to, steps_in}

-- As many as there are bytes are enough.
enough : (j k : ℕ) (t : List ℕ) → length t ≤ j → length t ≤ k → steps_up_to j t ≡ steps_up_to k t
unfolding steps_up_to
enough zero zero t h g = refl
enough zero (suc k) t h g = rw (lt-ltb (length t) (first_end t) (omega arith))
enough (suc j) zero t h g = rw (lt-ltb (length t) (first_end t) (omega arith))
enough (suc j) (suc k) t h g = go (ltb (length t) (first_end t)) refl (enough j k (drop (first_end t) t))
  where
    go
        : (b : Bool) → ltb (length t) (first_end t) ≡ b
        → (length (drop (first_end t) t) ≤ j → length (drop (first_end t) t) ≤ k → steps_up_to j (drop (first_end t) t) ≡ steps_up_to k (drop (first_end t) t))
        → (if b then [] else (take (le 4 t 0) (drop 4 t) ∷ steps_up_to j (drop (first_end t) t)))
        ≡ (if b then [] else (take (le 4 t 0) (drop 4 t) ∷ steps_up_to k (drop (first_end t) t)))
    go true e again = refl
    go false e again =
        let d : length (drop (first_end t) t) ≡ length t - first_end t = length-drop (first_end t) t in
        ap (λ (x : List (List ℕ)). take (le 4 t 0) (drop 4 t) ∷ x) (again (omega arith) (omega arith))

-- No whole step.
pub steps-none : (t : List ℕ) → length t < first_end t → steps_in t ≡ []
unfolding steps_up_to
steps-none t h = go (length t) refl
  where
    go : (k : ℕ) → length t ≡ k → steps_up_to k t ≡ []
    go zero e = refl
    go (suc k) e = rw (lt-ltb (length t) (first_end t) h)

-- A whole step, and those behind it.
pub steps-some : (t : List ℕ) → first_end t ≤ length t → steps_in t ≡ take (le 4 t 0) (drop 4 t) ∷ steps_in (drop (first_end t) t)
unfolding steps_up_to
steps-some t h = go (length t) refl
  where
    go : (k : ℕ) → length t ≡ k → steps_up_to k t ≡ take (le 4 t 0) (drop 4 t) ∷ steps_in (drop (first_end t) t)
    go zero e = absurd (omega arith)
    go (suc k) e =
        let d : length (drop (first_end t) t) ≡ length t - first_end t = length-drop (first_end t) t in
        rw (le-ltb (length t) (first_end t) h)
        (ap (λ (x : List (List ℕ)). take (le 4 t 0) (drop 4 t) ∷ x) (enough k (length (drop (first_end t) t)) (drop (first_end t) t) (omega arith) (omega arith)))

-- The number at the front of the first 4 bytes.
le-front : (t : List ℕ) → le 4 (take 4 t) 0 ≡ le 4 t 0
le-front t = le_ext 4 (take 4 t) t 0 (λ i a b. get_or-take 4 t i 0 b)

-- What the code of `split_step` shows: there is no length, or what is behind it is too short, or it is split there.
pub split-short : (t : List ℕ) → length t < 4 → steps_in t ≡ []
split-short t h = steps-none t (omega arith)

pub split-rest
    : (t : List ℕ) {head rest : List ℕ} {n : ℕ} (o : Option (Bor (List ℕ) × Bor (List ℕ)))
    → IsSplitAt t 4 head rest
    → n ≡ le 4 head 0
    → MatchOption o (length rest < n) (λ p. IsSplitAt rest n p.0.now p.1.now)
    → MatchOption o (steps_in t ≡ []) (λ p. steps_in t ≡ p.0.now ∷ steps_in p.1.now)
split-rest t {head} {rest} {n} None h e m =
    let y : n ≡ le 4 t 0 = e ∙ ap (λ (x : List ℕ). le 4 x 0) h.1 ∙ le-front t in
    steps-none t (omega (arith, m, h.4))
split-rest t {head} {rest} {n} (Some p) h e m =
    let y : n ≡ le 4 t 0 = e ∙ ap (λ (x : List ℕ). le 4 x 0) h.1 ∙ le-front t in
    let first : p.0.now ≡ take (le 4 t 0) (drop 4 t) = m.1 ∙ ap₂ (λ (k : ℕ) (x : List ℕ). take k x) y h.2 in
    let behind : p.1.now ≡ drop (first_end t) t =
    m.2 ∙ ap₂ (λ (k : ℕ) (x : List ℕ). drop k x) y h.2 ∙ drop-drop (le 4 t 0) 4 t in
    steps-some t (omega (arith, m.0, h.4)) ∙ sym (ap₂ (λ (x u : List ℕ). x ∷ steps_in u) first behind)
