-- Every machine that a list of inputs reaches from a fresh one keeps the rules; so 14 is never met, and 13 never where C ≥ 128 × P.
use Rattle.std.specs.Prelude.{if◌then◌else◌, ◌≡◌, refl, Bool, true, false, List, [], ◌∷◌, ℕ, ◌*◌, ◌≤◌, ltb}
use Rattle.std.proofs.Common.{◌∙◌, arith}
use Rattle.std.proofs.Math.Option.{Option, none, some}
use Rattle.machine.specs.Machine.{Machine, Sizes, fresh}
use Rattle.machine.specs.Step.{Step}
use Rattle.machine.specs.Outcome.{refused}
use Rattle.machine.specs.StepOf.{step_of, outcome_of, refusing}
use Rattle.machine.specs.Good.{SizesInRange, Good}
use Rattle.kept.specs.Fresh.{good-fresh}
use Rattle.kept.proofs.Kept.{good-outcome}
use Rattle.kept.specs.Never.{never_13, never_14}
use Rattle.kept.specs.SizesKept.{sizes-outcome}
use Rattle.history.specs.History.{Input, gives, machine_after}

-- Whatever is handed in, a Good machine stays Good all along the list.
pub good_along : (m : Machine) (xs : List Input) → Good m → Good (machine_after m xs)
good_along m [] g = g
good_along m (x ∷ xs) g = good_along (gives m x).after xs (good-outcome m x.step x.buffer g)

pub good-after : (z : Sizes) → SizesInRange z → (xs : List Input) → Good (machine_after (fresh z) xs)
good-after z h xs = good_along (fresh z) xs (good-fresh z h)

-- A number that is not 2 is met by a step with a long enough message buffer.
by_step : (m : Machine) (o : Option Step) (buffer n : ℕ) → (n ≡ 2 → ⊥) → (outcome_of m o buffer).reply ≡ refused n → (s : Step) × ((step_of m s).reply ≡ refused n)
unfolding outcome_of refusing
by_step m none buffer n ne e = absurd (ne (cc))
by_step m (some s) buffer n ne e = go (ltb buffer 127) e
  where
    go : (b : Bool) → (if b then refusing 2 m else step_of m s).reply ≡ refused n → (s' : Step) × ((step_of m s').reply ≡ refused n)
    go true d = absurd (ne (cc))
    go false d = (s, d)

-- 14 never from a fresh state of sizes in range.
pub never_14_after : (z : Sizes) → SizesInRange z → (xs : List Input) (x : Input) → (gives (machine_after (fresh z) xs) x).reply ≡ refused 14 → ⊥
never_14_after z h xs x e =
    let m : Machine = machine_after (fresh z) xs in
    let r : (s : Step) × ((step_of m s).reply ≡ refused 14) = by_step m x.step x.buffer 14 (λ q. omega arith) e in
    never_14 m r.0 (good-after z h xs) r.1

-- The sizes are those that the machine was made with.
pub sizes_along : (m : Machine) (xs : List Input) → (machine_after m xs).sizes ≡ m.sizes
sizes_along m [] = refl
sizes_along m (x ∷ xs) = sizes_along (gives m x).after xs ∙ sizes-outcome m x.step x.buffer

pub sizes-after : (z : Sizes) (xs : List Input) → (machine_after (fresh z) xs).sizes ≡ z
unfolding fresh
sizes-after z xs = sizes_along (fresh z) xs

-- 13 never where the sizes are in range and C ≥ 128 × P.
pub never_13_after
    : (z : Sizes)
    → SizesInRange z
    → 128 * z.processes ≤ z.cells
    → (xs : List Input) (x : Input)
    → (gives (machine_after (fresh z) xs) x).reply ≡ refused 13
    → ⊥
never_13_after z h l xs x e =
    let m : Machine = machine_after (fresh z) xs in
    let r : (s : Step) × ((step_of m s).reply ≡ refused 13) = by_step m x.step x.buffer 13 (λ q. omega arith) e in
    never_13 m r.0 (good-after z h xs) (rw (sizes-after z xs) l) r.1
