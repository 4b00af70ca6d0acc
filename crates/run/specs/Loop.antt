-- The loop over the steps.
use Rattle.std.specs.Prelude.{◌≡◌, Bool, false, List, [], ◌∷◌, ◌++◌, ℕ, suc, ◌+◌, ◌*◌, ◌-◌, ◌≤◌, ◌<◌, length, take, drop}
use Rattle.std.proofs.Common.{sym, ap, subst, ◌∙◌, append_assoc, arith, zero-add, add-zero, length-append, length-drop, take-append-drop, length-take-le, take_at, drop_at}
use Rattle.state.specs.WellFormed.{WellFormed}
use Rattle.rules.specs.Code.{Decides}
use Rattle.run.specs.Ran.{steps_in, OneRan, Ran, ended, full, onward}

-- The run up to here, from the state s₀ and the answers a₀ to s and a: n of the steps in t are taken, and whatever those left in u do from here,
-- all do from the start.
pub record SoFar (t u s₀ s a₀ a : List ℕ) (n : ℕ) : Type 0 where
  pub rest
      : {s₂ a₂ : List ℕ} {m : ℕ}
      → Ran (steps_in u) s s₂ (drop (160 * n) a) a₂ m
      → Ran (steps_in t) s₀ s₂ a₀ (take (160 * n) a ++ a₂) (n + m)

-- On a state that is not well formed.
pub record AllRefused (t a a' : List ℕ) (n : ℕ) : Type 0 where
  pub ran : (s : List ℕ) → (WellFormed s → ⊥) → Ran (steps_in t) s s a a' n

-- At the start.
pub so_far-start : {t s a : List ℕ} → SoFar t t s s a a 0
so_far-start {t} {s} {a} =
    record { rest = λ {s₂} {a₂} {m} q. subst (λ (x : ℕ). Ran (steps_in t) s s₂ a a₂ x) (sym (zero-add m)) q }

-- No more steps.
ran-end
    : {t u s₀ s a₀ a : List ℕ} {n : ℕ} → SoFar t u s₀ s a₀ a n → Ran (steps_in u) s s (drop (160 * n) a) (drop (160 * n) a) 0 → Ran (steps_in t) s₀ s a₀ a n
ran-end {t} {u} {s₀} {s} {a₀} {a} {n} f q =
    subst (λ (x : ℕ). Ran (steps_in t) s₀ s a₀ a x) (add-zero n)
    (subst (λ (x : List ℕ). Ran (steps_in t) s₀ s a₀ x (n + 0)) (take-append-drop (160 * n) a) (f.rest q))

-- No whole step is left.
pub ran-ended : {t u s₀ s a₀ a : List ℕ} {n : ℕ} → SoFar t u s₀ s a₀ a n → steps_in u ≡ [] → Ran (steps_in t) s₀ s a₀ a n
ran-ended {s = s} {a = a} {n = n} f e = ran-end f (subst (λ (x : List (List ℕ)). Ran x s s (drop (160 * n) a) (drop (160 * n) a) 0) (sym e) ended)

-- No room is left.
no_room : (bs : List (List ℕ)) {s a : List ℕ} → length a < 160 → Ran bs s s a a 0
no_room [] h = ended
no_room (b ∷ bs) h = full h

pub ran-full : {t u s₀ s a₀ a : List ℕ} {n m : ℕ} → SoFar t u s₀ s a₀ a n → length a - 160 * n < 160 → n ≡ m → Ran (steps_in t) s₀ s a₀ a m
ran-full {t} {u} {s₀} {s} {a₀} {a} f h e =
    subst (λ (x : ℕ). Ran (steps_in t) s₀ s a₀ a x) e (ran-end f (no_room (steps_in u) (rw length-drop h)))

-- A record of 160 bytes at k is exchanged for another.
record Exchanged (a a₁ r : List ℕ) (k : ℕ) : Type 0 where
  front : take (k + 160) a₁ ≡ take k a ++ r
  behind : drop (k + 160) a₁ ≡ drop 160 (drop k a)

exchanged
    : {a a₁ r : List ℕ} (k : ℕ)
    → k + 160 ≤ length a
    → length r ≡ length (take 160 (drop k a))
    → a₁ ≡ take k a ++ (r ++ drop 160 (drop k a))
    → Exchanged a a₁ r k
exchanged {a} {a₁} {r} k h l e =
    let t : List ℕ = drop k a in
    let u : length t ≡ length a - k = length-drop k a in
    let y : length (take k a ++ r) ≡ k + 160 =
    length-append (take k a) r ∙ omega (arith, length-take-le k a (omega arith), length-take-le 160 t (omega arith))
    in
    let d : a₁ ≡ (take k a ++ r) ++ drop 160 t = e ∙ sym (append_assoc (take k a) r (drop 160 t)) in
    record {
      front = ap (take (k + 160)) d ∙ take_at (take k a ++ r) (drop 160 t) (k + 160) y;
      behind = ap (drop (k + 160)) d ∙ drop_at (take k a ++ r) (drop 160 t) (k + 160) y;
    }

-- One step more, and the run goes on from there.
pub so_far_more
    : {t u v s₀ s s₁ a₀ a a₁ b r : List ℕ} {n : ℕ}
    → SoFar t u s₀ s a₀ a n
    → steps_in u ≡ b ∷ steps_in v
    → 160 * n + 160 ≤ length a
    → OneRan s s₁ b (take (160 * n + 160 - 160 * n) (drop (160 * n) a)) r
    → a₁ ≡ take (160 * n) a ++ (r ++ drop (160 * n + 160 - 160 * n) (drop (160 * n) a))
    → SoFar t v s₀ s₁ a₀ a₁ (n + 1)
so_far_more {t} {u} {v} {s₀} {s} {s₁} {a₀} {a} {a₁} {b} {r} {n} f w h o d =
    let x : 160 * n + 160 - 160 * n ≡ 160 = omega arith in
    let o₁ : OneRan s s₁ b (take 160 (drop (160 * n) a)) r = rw x at o in
    let g : Exchanged a a₁ r (160 * n) = exchanged (160 * n) h o₁.long (rw x at d) in
    let y : 160 ≤ length (drop (160 * n) a) = rw length-drop (omega (arith, h)) in
    let z : 160 * (n + 1) ≡ 160 * n + 160 = omega arith in
    record {
      rest = λ {s₂} {a₂} {m} q.
          let q₁ : Ran (steps_in v) s₁ s₂ (drop 160 (drop (160 * n) a)) a₂ m = rw (z, g.behind) at q in
          let q₂ : Ran (steps_in u) s s₂ (drop (160 * n) a) (r ++ a₂) (suc m) = rw w (onward y o₁ q₁) in
          let i : n + suc m ≡ n + 1 + m = omega arith in
          let j : take (160 * n) a ++ (r ++ a₂) ≡ take (160 * (n + 1)) a₁ ++ a₂ =
          sym (append_assoc (take (160 * n) a) r a₂) ∙ ap (λ (z : List ℕ). z ++ a₂) (sym (ap (λ (e : ℕ). take e a₁) z ∙ g.front))
          in
          subst (λ (z : ℕ). Ran (steps_in t) s₀ s₂ a₀ (take (160 * (n + 1)) a₁ ++ a₂) z) i
          (subst (λ (z : List ℕ). Ran (steps_in t) s₀ s₂ a₀ z (n + suc m)) j (f.rest q₂));
    }

-- The check said that the state is not well formed.
pub ran_refused
    : {t s a a' : List ℕ} {c : Bool} {n : ℕ}
    → c ≡ false
    → Decides c (WellFormed s)
    → AllRefused t a a' n
    → Ran (steps_in t) s s a a' n
ran_refused {s = s} e d r = r.ran s (subst (λ (x : Bool). Decides x (WellFormed s)) e d)
