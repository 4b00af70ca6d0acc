-- Tests that answer for a statement: what one that failed shows, what is as true, and what a field that is not 0 shows (the laws of state).
use Rattle.std.specs.Prelude.{◌≡◌, Bool, false, IsTrue, ◌↔◌}
use Rattle.std.proofs.Common.{sym, ◌∙◌}
use Rattle.std.proofs.lemmas.Bool.{false≢true}
pub use Rattle.state.specs.Reads.{set_test, unset_test, test_set, test_unset}

-- A test that failed answers for all that it is needed for.
pub fails : {P Q : Type 0} {b : Bool} → IsTrue b ↔ P → b ≡ false → (Q → P) → IsTrue b ↔ Q
fails d e f = (λ t. absurd (false≢true (sym e ∙ t)), λ q. d.1 (f q))

-- A test answers for what is as true.
pub as_true : {P Q : Type 0} {b : Bool} → IsTrue b ↔ P → (P → Q) → (Q → P) → IsTrue b ↔ Q
as_true d f g = (λ t. f (d.0 t), λ q. d.1 (g q))
