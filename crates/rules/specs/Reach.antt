-- What is known of a checked state by numbers: how long it is, how many records its regions have, and that a field lies in it.
use Rattle.std.specs.Prelude.{◌≡◌, refl, Bool, true, false, List, ℕ, ◌≤◌, ◌<◌, leb, length}
use Rattle.std.proofs.Common.{arith, leb-true, leb-false}
use Rattle.std.proofs.lemmas.Grind.{not_there}
use Rattle.layout.specs.Table.{Slot, count}
use Rattle.layout.specs.Place.{Inside}
use Rattle.state.specs.Fields.{layout1, counts}
use Rattle.state.specs.Places.{sizes_in, total_in, ReachIn}
use Rattle.state.specs.declared.Sizes.{Sizes}
use Rattle.rules.specs.Code.{Whole}

-- A bound of what is known to hold.
within : {A : Type 0} (m n : ℕ) → ∥ A ∥₁ → (A → m ≤ n) → m ≤ n
within m n a f = go (leb m n) refl
  where
    go : (b : Bool) → leb m n ≡ b → m ≤ n
    go true e = leb-true m n e
    go false e = absurd (not_there a (λ x. omega (arith, leb-false m n e, f x)))

pub records-few : {z : Sizes} {s : List ℕ} → ∥ Whole z s ∥₁ → (1 ≤ z.processes) × (z.processes ≤ 4096)
records-few {z} w = (within 1 z.processes w (λ x. x.sizes.processes.0), within z.processes 4096 w (λ x. x.sizes.processes.1))

pub timers-few : {z : Sizes} {s : List ℕ} → ∥ Whole z s ∥₁ → (1 ≤ z.timers) × (z.timers ≤ 4096)
timers-few {z} w = (within 1 z.timers w (λ x. x.sizes.timers.0), within z.timers 4096 w (λ x. x.sizes.timers.1))

pub cells-few : {z : Sizes} {s : List ℕ} → ∥ Whole z s ∥₁ → (1 ≤ z.cells) × (z.cells ≤ 65000)
cells-few {z} w = (within 1 z.cells w (λ x. x.sizes.cells.0), within z.cells 65000 w (λ x. x.sizes.cells.1))

pub long : {z : Sizes} {s : List ℕ} → ∥ Whole z s ∥₁ → total_in z ≤ length s
long {z} {s} w = within (total_in z) (length s) w (λ x. x.state.long)

-- A field of a record that there is lies in the bytes.
pub reach
    : {z : Sizes} {s : List ℕ} {a : Slot} {i : ℕ}
    → ∥ Whole z s ∥₁
    → Inside layout1 a
    → i < count layout1 (counts (sizes_in z)) a.region
    → ReachIn z s a i
reach w a l = record { inside = a; index = l; long = long w }
