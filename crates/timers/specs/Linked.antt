-- The links that the walks find: 0, or to a queued timer.
use Rattle.std.specs.Prelude.{if◌then◌else◌, Bool, true, false, List, [], ◌∷◌, refl, ℕ, zero, suc, ◌<◌, eqb, ltb}
use Rattle.std.proofs.Common.{arith, eq-eqb}
use Rattle.machine.specs.Basics.{count}
use Rattle.machine.specs.Good.{Each}
use Rattle.layout.specs.Memory.{Memory}
use Rattle.chain.specs.Lists.{all_map}
use Rattle.chain.specs.Ordered.{spot}
use Rattle.state.specs.Fields as fields
use Rattle.state.specs.declared.Sizes.{Sizes}
use Rattle.timers.specs.Find.{queue_in, spot_in}
use Rattle.timers.specs.Out.{before}
use Rattle.timers.specs.Seek.{before_in}
use Rattle.timers.specs.Flags.{Flagged}

-- A link that names nothing, or a timer whose flag is set.
abbrev pub LinkQueued : (ℕ → ℕ) → ℕ → Type 0
LinkQueued flag zero = Unit {0}
LinkQueued flag (suc p) = 0 < flag p

each-counted : (xs : List ℕ) → Each (λ y. 0 < count y xs) xs
unfolding count
each-counted [] = tt
each-counted (x ∷ xs) = (rw (eq-eqb x x refl) (omega arith), all_map (λ y h. omega (arith, h)) xs (each-counted xs))

each-queued : (z : Sizes) (m : Memory) → Flagged z m → Each (λ y. 0 < m fields.is_queued y) (queue_in z m)
each-queued z m f = all_map (λ y h. omega (arith, f y, h)) (queue_in z m) (each-counted (queue_in z m))

-- What holds at the first link and at each in a list holds at the spot, and before t.
spot-each : (P : ℕ → Type 0) (key : ℕ → ℕ) (k p : ℕ) (xs : List ℕ) → P p → Each (λ y. P (suc y)) xs → P (spot key k p xs)
spot-each P key k p [] h a = h
spot-each P key k p (x ∷ xs) h a = go (ltb k (key x)) (spot-each P key k (suc x) xs a.0 a.1)
  where
    go : (b : Bool) → P (spot key k (suc x) xs) → P (if b then p else spot key k (suc x) xs)
    go true r = h
    go false r = r

before-each : (P : ℕ → Type 0) (t p : ℕ) (xs : List ℕ) → P p → Each (λ y. P (suc y)) xs → P (before t p xs)
before-each P t p [] h a = h
before-each P t p (x ∷ xs) h a = go (eqb x t) (before-each P t (suc x) xs a.0 a.1)
  where
    go : (b : Bool) → P (before t (suc x) xs) → P (if b then p else before t (suc x) xs)
    go true r = h
    go false r = r

pub spot-queued : (z : Sizes) (m : Memory) (k : ℕ) → Flagged z m → LinkQueued (m fields.is_queued) (spot_in z m k)
spot-queued z m k f = spot-each (LinkQueued (m fields.is_queued)) (m fields.deadline) k 0 (queue_in z m) tt (each-queued z m f)

pub before-queued : (z : Sizes) (m : Memory) (t : ℕ) → Flagged z m → LinkQueued (m fields.is_queued) (before_in z m t)
before-queued z m t f = before-each (LinkQueued (m fields.is_queued)) t 0 (queue_in z m) tt (each-queued z m f)
