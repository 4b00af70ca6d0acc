-- What is asked of who a link leads to.
use Rattle.std.specs.Prelude.{◌≡◌, Bool, IsTrue, ◌↔◌, ℕ, suc}
use Rattle.std.proofs.Common.{sym, subst, arith}

pub link_some : {P : ℕ → Type 0} {l i : ℕ} {b : Bool} → suc i ≡ l → IsTrue b ↔ P i → IsTrue b ↔ ((j : ℕ) → l ≡ suc j → P j)
link_some {P} {l} {i} e d = (λ t j c. subst P (omega arith) (d.0 t), λ h. d.1 (h i (sym e)))
