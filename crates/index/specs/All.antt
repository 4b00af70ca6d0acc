-- Two functions that are compared, from the first numbers on and then up to the last.
use Rattle.std.specs.Prelude.{◌≡◌, refl, Bool, true, false, IsTrue, ◌↔◌, ℕ, ◌≤◌, ◌<◌, ltb}
use Rattle.std.proofs.Common.{sym, ◌∙◌, arith, ltb-true, ltb-false}
use Rattle.std.proofs.lemmas.Bool.{false≢true}

-- Two functions that are compared below m, and from m on, where the second is 0, the first with 0.
pub compared-all
    : (f g : ℕ → ℕ) (m n : ℕ) (r t : Bool)
    → ((i : ℕ) → m ≤ i → g i ≡ 0)
    → m ≤ n
    → IsTrue r ↔ ((i : ℕ) → i < m → f i ≡ g i)
    → IsTrue t ↔ ((i : ℕ) → m ≤ i → i < n → f i ≡ 0)
    → r ≡ true
    → IsTrue t ↔ ((i : ℕ) → i < n → f i ≡ g i)
compared-all f g m n r t z b h k e =
    (λ u i l. go u i l (ltb i m) refl, λ a. k.1 (λ i p l. a i l ∙ z i p))
  where
    go : IsTrue t → (i : ℕ) → i < n → (x : Bool) → ltb i m ≡ x → f i ≡ g i
    go u i l true d = h.0 e i (ltb-true i m d)
    go u i l false d = k.0 u i (ltb-false i m d) l ∙ sym (z i (ltb-false i m d))

pub compared-not
    : (f g : ℕ → ℕ) (m n : ℕ) (r : Bool)
    → m ≤ n
    → IsTrue r ↔ ((i : ℕ) → i < m → f i ≡ g i)
    → r ≡ false
    → IsTrue r ↔ ((i : ℕ) → i < n → f i ≡ g i)
compared-not f g m n r b h e = (λ t. absurd (false≢true (sym e ∙ t)), λ a. h.1 (λ i l. a i (omega arith)))
