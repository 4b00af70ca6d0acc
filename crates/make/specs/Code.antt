-- What the code shows on the way.
use Rattle.std.specs.Prelude.{◌≡◌, Option, Some, None, true, false, List, ◌++◌, ℕ, ◌≤◌, length, take, drop, replicate}
use Rattle.std.proofs.Common.{ap, ◌∙◌, arith, length-take-le}
use Rattle.layout.specs.Writes.{writes}
use Rattle.state.specs.Fields.{layout1, counts}
use Rattle.state.specs.Places.{sizes_in, total_in, Wrote}
use Rattle.make.specs.Fresh.{between, sizes_fit, sizes_for, fresh_stores, zeroed, fresh_bytes}
use Rattle.state.specs.declared.Sizes.{Sizes}

-- a number, where it is from 1 to the most
abbrev pub UpTo : ℕ → ℕ → Option ℕ → Type 0
UpTo most v None = between 1 most v ≡ false
UpTo most v (Some n) = (n ≡ v) × (between 1 most v ≡ true)

-- the code's sizes are these, where they are in range
abbrev pub SizesFor : (p r q k c hz : ℕ) → Option Sizes → Type 0
SizesFor p r q k c hz None = sizes_fit p r q k c hz ≡ false
SizesFor p r q k c hz (Some z) = (sizes_in z ≡ sizes_for p r q k c hz) × (sizes_fit p r q k c hz ≡ true)

-- a fresh state: its bytes are 0, and then the stores are made
pub filled
    : (z : Sizes) (s : List ℕ) {s₁ s' f : List ℕ} {n : ℕ}
    → n ≡ total_in z
    → total_in z ≤ length s
    → f ≡ replicate (length (take n s)) 0
    → s₁ ≡ f ++ drop n s
    → Wrote z s₁ s' (fresh_stores (sizes_in z))
    → s' ≡ fresh_bytes (sizes_in z) s
unfolding fresh_bytes zeroed
filled z s {s₁} {s'} {f} {n} e l c d w =
    w.bytes
    ∙ ap (λ (t : List ℕ). writes layout1 (counts (sizes_in z)) t (fresh_stores (sizes_in z)))
    (d
    ∙ ap (λ (x : List ℕ). x ++ drop n s) (c ∙ ap (λ (k : ℕ). replicate k 0) (length-take-le n s (omega arith)))
    ∙ ap (λ (k : ℕ). replicate k 0 ++ drop k s) e)
