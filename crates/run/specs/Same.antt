-- A run comes back in one way: it is the exported step again and again, and each of those comes back in one way.
use Rattle.std.specs.Prelude.{◌≡◌, refl, Bool, true, false, List, ◌++◌, ℕ, suc, ◌+◌, ◌-◌, ◌≤◌, ◌<◌, ltb, length, get_or, drop}
use Rattle.std.proofs.Common.{sym, ap, ap₂, subst, ◌∙◌, arith, ltb-true, ltb-false, ext_get_or, get_or-drop, get_or-append-add}
use Rattle.std.proofs.Math.ListN.{get_or-append, get_or-eq_default}
use Rattle.memory.specs.Le.{le}
use Rattle.determined.specs.Bytes.{Bytes, le_bytes}
use Rattle.step.specs.Words.{Lent}
use Rattle.step.specs.One.{SameBack, exported_one, exported_bytes}
use Rattle.run.specs.Ran.{words_at, Ran, ended, full, onward}

-- The parts of a list of bytes.
bytes-front : (r x : List ℕ) → Bytes (r ++ x) → Bytes r
bytes-front r x b = record { below = λ i. go i (ltb i (length r)) refl }
  where
    go : (i : ℕ) (y : Bool) → ltb i (length r) ≡ y → get_or r i 0 < 256
    go i true e = omega (arith, b.below i, get_or-append r x 0 i (ltb-true i (length r) e))
    go i false e = omega (arith, get_or-eq_default r 0 {n = i} (ltb-false i (length r) e))

bytes-behind : (r x : List ℕ) → Bytes (r ++ x) → Bytes x
bytes-behind r x b = record { below = λ i. omega (arith, b.below (length r + i), get_or-append-add r x i 0) }

-- Two records of an answer with the same numbers and the same bytes behind them.
module _ {r t : List ℕ} (b : Bytes r) (c : Bytes t) (number : le 8 r 0 ≡ le 8 t 0) (words : words_at r ≡ words_at t) (behind : drop 32 r ≡ drop 32 t) where
  front : (i : ℕ) → i < 32 → get_or r i 0 ≡ get_or t i 0
  front i l = go (ltb i 8) refl (ltb i 16) refl (ltb i 24) refl
    where
      go : (x : Bool) → ltb i 8 ≡ x → (y : Bool) → ltb i 16 ≡ y → (z : Bool) → ltb i 24 ≡ z → get_or r i 0 ≡ get_or t i 0
      go true x y y' z z' = le_bytes 8 r t 0 b c number i (omega arith) (omega (arith, ltb-true i 8 x))
      go false x true y z z' =
          le_bytes 8 r t 8 b c (ap (λ (w : Lent). w.first) words) i (ltb-false i 8 x) (omega (arith, ltb-true i 16 y))
      go false x false y true z =
          le_bytes 8 r t 16 b c (ap (λ (w : Lent). w.second) words) i (ltb-false i 16 y) (omega (arith, ltb-true i 24 z))
      go false x false y false z =
          le_bytes 8 r t 24 b c (ap (λ (w : Lent). w.length) words) i (ltb-false i 24 z) (omega (arith, l))

  back : (i : ℕ) → 32 ≤ i → get_or r i 0 ≡ get_or t i 0
  back i l =
      let e : 32 + (i - 32) ≡ i = omega (arith, l) in
      subst (λ (k : ℕ). get_or r k 0 ≡ get_or t k 0) e
      (sym (get_or-drop 32 r (i - 32) 0) ∙ ap (λ (x : List ℕ). get_or x (i - 32) 0) behind ∙ get_or-drop 32 t (i - 32) 0)

  same_record : length r ≡ length t → r ≡ t
  same_record e = ext_get_or 0 r t e (λ i _. go i (ltb i 32) refl)
    where
      go : (i : ℕ) (x : Bool) → ltb i 32 ≡ x → get_or r i 0 ≡ get_or t i 0
      go i true d = front i (ltb-true i 32 d)
      go i false d = back i (ltb-false i 32 d)

-- The state, the answers and the count of two runs are the same.
pub record SameRun (s₁ s₂ a₁ a₂ : List ℕ) (n₁ n₂ : ℕ) : Type 0 where
  pub state : s₁ ≡ s₂
  pub answers : a₁ ≡ a₂
  pub count : n₁ ≡ n₂

pub ran-one
    : {bs : List (List ℕ)} {s s₁ s₂ a a₁ a₂ : List ℕ} {n₁ n₂ : ℕ}
    → Bytes s
    → Bytes a₁
    → Bytes a₂
    → Ran bs s s₁ a a₁ n₁
    → Ran bs s s₂ a a₂ n₂
    → SameRun s₁ s₂ a₁ a₂ n₁ n₂
ran-one h b c ended ended = record { state = refl; answers = refl; count = refl }
ran-one h b c (full l) (full k) = record { state = refl; answers = refl; count = refl }
ran-one h b c (full l) (onward k o r) = absurd (omega (arith, l, k))
ran-one h b c (onward k o r) (full l) = absurd (omega (arith, l, k))
ran-one {s₂ = s''} {a = a} h b c (onward {bs = bs} {s₁ = s₁} {r = r₁} {a₂ = x₁} k o p) (onward {s₁ = t₁} {r = r₂} {a₂ = x₂} {n = n₂} l d q) =
    let e : SameBack s₁ t₁ (drop 32 r₁) (drop 32 r₂) (words_at r₁) (words_at r₂) (le 8 r₁ 0) (le 8 r₂ 0) = exported_one h o.step d.step in
    let y : r₁ ≡ r₂ =
    same_record (bytes-front r₁ x₁ b) (bytes-front r₂ x₂ c) e.number e.words e.message (o.long ∙ sym d.long)
    in
    let g =
    ran-one (exported_bytes h o.step) (bytes-behind r₁ x₁ b) (bytes-behind r₂ x₂ c) p
    (subst (λ (t : List ℕ). Ran bs t s'' (drop 160 a) x₂ n₂) (sym e.state) q)
    in
    record { state = g.state; answers = ap₂ (λ (u v : List ℕ). u ++ v) y g.answers; count = ap suc g.count }
