-- What is known of every field of a checked state.
use Rattle.std.specs.Prelude.{◌≡◌, refl, Bool, true, false, List, ℕ, ◌≤◌, leb}
use Rattle.std.proofs.Common.{arith, leb-true, leb-false}
use Rattle.std.proofs.lemmas.Grind.{not_there}
use Rattle.layout.specs.Memory.{Ranged}
use Rattle.state.specs.Fields.{most_of}
use Rattle.state.specs.Places.{sizes_in, mem_in}
use Rattle.state.specs.declared.Sizes.{Sizes}
use Rattle.rules.specs.Code.{Whole}

most-of-whole : {z : Sizes} {s : List ℕ} → Whole z s → (f i : ℕ) → mem_in z s f i ≤ most_of (sizes_in z) f
unfolding Ranged
most-of-whole w f i = w.state.ranged f i

-- It is at most its maximum.
pub field-most : {z : Sizes} {s : List ℕ} → ∥ Whole z s ∥₁ → (f i : ℕ) → mem_in z s f i ≤ most_of (sizes_in z) f
field-most {z} {s} w f i = go (leb (mem_in z s f i) (most_of (sizes_in z) f)) refl
  where
    go : (b : Bool) → leb (mem_in z s f i) (most_of (sizes_in z) f) ≡ b → mem_in z s f i ≤ most_of (sizes_in z) f
    go true e = leb-true _ _ e
    go false e = absurd (not_there w (λ (h : Whole z s). omega (arith, leb-false _ _ e, most-of-whole h f i)))
