-- Steps leave what is behind the state.
use Rattle.std.specs.Prelude.{◌≡◌, refl, List, ℕ, length, drop}
use Rattle.std.proofs.Common.{◌∙◌}
use Rattle.state.specs.Places.{total_in}
use Rattle.state.specs.declared.Sizes.{Sizes}
use Rattle.holds.specs.Touched.{Spares, spares-length, spares-behind}
use Rattle.outcome.specs.Stepped.{Well}

-- The length stays, and every byte behind the state.
pub record Behind (z : Sizes) (s s' : List ℕ) : Type 0 where
  pub long : length s' ≡ length s
  pub bytes : drop (total_in z) s' ≡ drop (total_in z) s

-- By no step, by one, and by some after others.
pub behind-none : {z : Sizes} {s : List ℕ} → Behind z s s
behind-none = record { long = refl; bytes = refl }

pub behind-step : {z : Sizes} {s s' : List ℕ} → Well z s → Spares z s s' → Behind z s s'
behind-step w t = record { long = spares-length t; bytes = spares-behind w.holds t }

pub behind_join : {z : Sizes} {s s₁ s₂ : List ℕ} → Behind z s s₁ → Behind z s₁ s₂ → Behind z s s₂
behind_join p q = record { long = q.long ∙ p.long; bytes = q.bytes ∙ p.bytes }
