-- The walk that finds where a deadline stands in the timer queue.
use Rattle.std.specs.Prelude.{◌≡◌, refl, true, false, List, [], ◌∷◌, ℕ, suc, ◌+◌, ◌-◌, ◌≤◌, ◌<◌, ltb, length}
use Rattle.std.proofs.Common.{sym, subst, arith, lt-ltb, le-ltb}
use Rattle.machine.specs.Good.{SizesInRange}
use Rattle.layout.specs.Memory.{Memory}
use Rattle.layout.specs.Writes.{State}
use Rattle.chain.specs.Links.{walk, walk-links, Chain, chain-walk, chain-tail, chain_first}
use Rattle.chain.specs.Ordered.{spot}
use Rattle.state.specs.Fields as fields
use Rattle.state.specs.Abs.{timer_list}
use Rattle.state.specs.Places.{sizes_in, mem_in}
use Rattle.state.specs.declared.Sizes.{Sizes}

-- How many timers there are, the queued ones, and the list from a link.
abbrev pub timers_in : Sizes → ℕ
timers_in z = z.timers + z.processes

abbrev pub queue_in : Sizes → Memory → List ℕ
queue_in z m = timer_list (sizes_in z) m

abbrev pub from_link : Sizes → Memory → ℕ → List ℕ
from_link z m h = walk (timers_in z) (m fields.timer_next) h

-- The bytes are a state in range, and the timer queue's links end.
pub record TimersIn (z : Sizes) (s : List ℕ) : Type 0 where
  pub sizes : SizesInRange (sizes_in z)
  pub state : State fields.layout1 (fields.most_of (sizes_in z)) (fields.counts (sizes_in z)) s
  pub chain : Chain (timers_in z) (mem_in z s fields.timer_next) (mem_in z s fields.timer_head 0) (queue_in z (mem_in z s))

-- The link behind which a timer with deadline k goes, 0 for the front.
abbrev pub spot_in : Sizes → Memory → ℕ → ℕ
spot_in z m k = spot (m fields.deadline) k 0 (queue_in z m)

pub record Found (z : Sizes) (m : Memory) (k r : ℕ) : Type 0 where
  pub spot : r ≡ spot_in z m k
  pub range : r ≤ timers_in z

-- A link from which the links end.
pub record Chained (z : Sizes) (m : Memory) (h : ℕ) : Type 0 where
  pub chain : Chain (timers_in z) (m fields.timer_next) h (from_link z m h)

-- What the record of a link holds; of link 0 nothing is said.
pub record DeadlineOf (m : Memory) (link r : ℕ) : Type 0 where
  pub known : (link ≡ 0 → ⊥) → r ≡ m fields.deadline (link - 1)

pub record NextOf (m : Memory) (link r : ℕ) : Type 0 where
  pub known : (link ≡ 0 → ⊥) → r ≡ m fields.timer_next (link - 1)

-- The invariant: what is left to walk is a chain, and its spot is the one looked for.
pub record Finding (z : Sizes) (m : Memory) (k prev link : ℕ) : Type 0 where
  pub left : Chained z m link
  pub near : link ≤ timers_in z
  pub range : prev ≤ timers_in z
  pub same : spot (m fields.deadline) k prev (from_link z m link) ≡ spot_in z m k

pub find_start : {z : Sizes} {s : List ℕ} {k link : ℕ} → TimersIn z s → link ≡ mem_in z s fields.timer_head 0 → Finding z (mem_in z s) k 0 link
unfolding timer_list
find_start {z} {s} {k} {link} a e =
    subst (λ (h : ℕ). Finding z (mem_in z s) k 0 h) (sym e)
    (record { left = record { chain = a.chain }; near = chain_first a.chain; range = omega arith; same = refl })

-- What is left begins with the number of the link.
unroll
    : {z : Sizes} {m : Memory} {link : ℕ}
    → Chained z m link
    → (link ≡ 0 → ⊥)
    → (xs : List ℕ) × (from_link z m link ≡ (link - 1) ∷ xs) × Chain (timers_in z) (m fields.timer_next) (m fields.timer_next (link - 1)) xs
unroll {z} {m} {link} c ne = go (from_link z m link) refl c.chain
  where
    go
        : (ys : List ℕ)
        → from_link z m link ≡ ys
        → Chain (timers_in z) (m fields.timer_next) link ys
        → (xs : List ℕ) × (from_link z m link ≡ (link - 1) ∷ xs) × Chain (timers_in z) (m fields.timer_next) (m fields.timer_next (link - 1)) xs
    go [] e d = absurd (ne d.links)
    go (i ∷ xs) e d =
        let q : i ≡ link - 1 = omega (arith, d.links.0) in (
          xs,
          subst (λ (j : ℕ). from_link z m link ≡ j ∷ xs) q e,
          subst (λ (j : ℕ). Chain (timers_in z) (m fields.timer_next) (m fields.timer_next j) xs) q (chain-tail d),
        )

pub next-near : {z : Sizes} {m : Memory} {link link' : ℕ} → Chained z m link → (link ≡ 0 → ⊥) → NextOf m link link' → link' ≤ timers_in z
next-near c ne n = rw (n.known ne) (chain_first (unroll c ne).2)

pub next-left
    : {z : Sizes} {m : Memory} {link : ℕ}
    → Chained z m link
    → (link ≡ 0 → ⊥)
    → Chained z m (m fields.timer_next (link - 1)) × (from_link z m link ≡ (link - 1) ∷ from_link z m (m fields.timer_next (link - 1)))
next-left {z} {m} {link} c ne =
    let u : (xs : List ℕ) × (from_link z m link ≡ (link - 1) ∷ xs) × Chain (timers_in z) (m fields.timer_next) (m fields.timer_next (link - 1)) xs = unroll c ne in
    let w : from_link z m (m fields.timer_next (link - 1)) ≡ u.0 = chain-walk u.2 in
    (record { chain = rw w u.2 }, rw w u.1)

pub head_near : {z : Sizes} {s : List ℕ} {link : ℕ} → TimersIn z s → link ≡ mem_in z s fields.timer_head 0 → link ≤ timers_in z
head_near a e = rw e (chain_first a.chain)

-- A turn of the loop.
pub find_step
    : {z : Sizes} {m : Memory} {k prev link key link' : ℕ}
    → Finding z m k prev link
    → (link ≡ 0 → ⊥)
    → DeadlineOf m link key
    → key ≤ k
    → NextOf m link link'
    → Finding z m k link link'
find_step {z} {m} {k} {prev} {link} {key} {link'} f ne d h n =
    let l : Chained z m (m fields.timer_next (link - 1)) × (from_link z m link ≡ (link - 1) ∷ from_link z m (m fields.timer_next (link - 1))) = next-left f.left ne in
    let t : ltb k (m fields.deadline (link - 1)) ≡ false = le-ltb k (m fields.deadline (link - 1)) (rw (d.known ne) at h) in
    let o : suc (link - 1) ≡ link = omega arith in
    rw (n.known ne) (record { left = l.0; near = chain_first l.0.chain; range = f.near; same = rw (l.1, t, o) at f.same })

pub find_less
    : {z : Sizes} {m : Memory} {k prev link link' : ℕ}
    → Finding z m k prev link
    → (link ≡ 0 → ⊥)
    → NextOf m link link'
    → length (from_link z m link') < length (from_link z m link)
find_less {z} {m} {k} {prev} {link} {link'} f ne n = rw (n.known ne, (next-left f.left ne).1) (omega arith)

-- The two ways out: at the end, and before the first later timer.
pub find_end : {z : Sizes} {m : Memory} {k prev link : ℕ} → Finding z m k prev link → link ≡ 0 → Found z m k prev
find_end {z} {m} {k} {prev} {link} f e =
    let w : from_link z m 0 ≡ [] = walk-links (timers_in z) (m fields.timer_next) 0 [] refl (omega arith) in
    record { spot = rw (e, w) at f.same; range = f.range }

pub find_stop
    : {z : Sizes} {m : Memory} {k prev link key : ℕ}
    → Finding z m k prev link
    → (link ≡ 0 → ⊥)
    → DeadlineOf m link key
    → k < key
    → Found z m k prev
find_stop {z} {m} {k} {prev} {link} {key} f ne d h =
    let t : ltb k (m fields.deadline (link - 1)) ≡ true = lt-ltb k (m fields.deadline (link - 1)) (rw (d.known ne) at h) in
    record { spot = rw ((next-left f.left ne).1, t) at f.same; range = f.range }
