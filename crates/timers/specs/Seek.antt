-- The walk that finds the link to a timer.
use Rattle.std.specs.Prelude.{◌≡◌, refl, true, false, List, [], ◌∷◌, ℕ, suc, ◌+◌, ◌-◌, ◌≤◌, ◌<◌, eqb, length}
use Rattle.std.proofs.Common.{sym, subst, arith, eq-eqb, ne_eqb}
use Rattle.layout.specs.Memory.{Memory}
use Rattle.chain.specs.Links.{walk-links, chain_first}
use Rattle.state.specs.Fields as fields
use Rattle.state.specs.Abs.{timer_list}
use Rattle.state.specs.Places.{mem_in}
use Rattle.state.specs.declared.Sizes.{Sizes}
use Rattle.timers.specs.Find.{timers_in, queue_in, from_link, TimersIn, Chained, NextOf, next-left}
use Rattle.timers.specs.Out.{before}

-- The link to the timer before t, 0 where t is the first, and the last link where t is not queued.
abbrev pub before_in : Sizes → Memory → ℕ → ℕ
before_in z m t = before t 0 (queue_in z m)

pub record Sought (z : Sizes) (m : Memory) (t r : ℕ) : Type 0 where
  pub place : r ≡ before_in z m t
  pub range : r ≤ timers_in z

-- The invariant: what is left to walk is a chain, and the link before t in it is the one looked for.
pub record Seeking (z : Sizes) (m : Memory) (t prev link : ℕ) : Type 0 where
  pub left : Chained z m link
  pub near : link ≤ timers_in z
  pub range : prev ≤ timers_in z
  pub same : before t prev (from_link z m link) ≡ before_in z m t

pub seek_start : {z : Sizes} {s : List ℕ} {t link : ℕ} → TimersIn z s → link ≡ mem_in z s fields.timer_head 0 → Seeking z (mem_in z s) t 0 link
unfolding timer_list
seek_start {z} {s} {t} {link} a e =
    subst (λ (h : ℕ). Seeking z (mem_in z s) t 0 h) (sym e)
    (record { left = record { chain = a.chain }; near = chain_first a.chain; range = omega arith; same = refl })

-- A turn of the loop.
pub seek_step
    : {z : Sizes} {m : Memory} {t prev link : ℕ}
    → Seeking z m t prev link
    → (link ≡ 0 → ⊥)
    → (link ≡ t + 1 → ⊥)
    → Seeking z m t link (m fields.timer_next (link - 1))
seek_step {z} {m} {t} {prev} {link} f ne no-t =
    let l : Chained z m (m fields.timer_next (link - 1)) × (from_link z m link ≡ (link - 1) ∷ from_link z m (m fields.timer_next (link - 1))) = next-left f.left ne in
    let q : eqb (link - 1) t ≡ false = ne_eqb (link - 1) t (λ e. no-t (omega (arith, e))) in
    let o : suc (link - 1) ≡ link = omega arith in
    record { left = l.0; near = chain_first l.0.chain; range = f.near; same = rw (l.1, q, o) at f.same }

-- The two ways out: at the end, and at t.
pub seek_end : {z : Sizes} {m : Memory} {t prev link : ℕ} → Seeking z m t prev link → link ≡ 0 → Sought z m t prev
seek_end {z} {m} {t} {prev} {link} f e =
    let w : from_link z m 0 ≡ [] = walk-links (timers_in z) (m fields.timer_next) 0 [] refl (omega arith) in
    record { place = rw (e, w) at f.same; range = f.range }

pub seek_stop : {z : Sizes} {m : Memory} {t prev link : ℕ} → Seeking z m t prev link → (link ≡ 0 → ⊥) → link ≡ t + 1 → Sought z m t prev
seek_stop {z} {m} {t} {prev} {link} f ne e =
    let q : eqb (link - 1) t ≡ true = eq-eqb (link - 1) t (omega (arith, e)) in
    record { place = rw ((next-left f.left ne).1, q) at f.same; range = f.range }

-- The loop holds a link that is passed; the one behind it is looked at.
pub record Passed (z : Sizes) (m : Memory) (t link : ℕ) : Type 0 where
  pub some : link ≡ 0 → ⊥
  pub behind : Seeking z m t link (m fields.timer_next (link - 1))

abbrev pub behind_in : Sizes → Memory → ℕ → List ℕ
behind_in z m link = from_link z m (m fields.timer_next (link - 1))

pub passed_first
    : {z : Sizes} {s : List ℕ} {t link : ℕ}
    → TimersIn z s
    → link ≡ mem_in z s fields.timer_head 0
    → (link ≡ 0 → ⊥)
    → (link ≡ t + 1 → ⊥)
    → Passed z (mem_in z s) t link
passed_first a e ne no-t = record { some = ne; behind = seek_step (seek_start a e) ne no-t }

module _ {z : Sizes} {m : Memory} {t link next : ℕ} (p : Passed z m t link) (n : NextOf m link next) where
  on : Seeking z m t link next
  on = rw (n.known p.some) p.behind

  pub passed-step : (next ≡ 0 → ⊥) → (next ≡ t + 1 → ⊥) → Passed z m t next
  passed-step ne no-t = record { some = ne; behind = seek_step on ne no-t }

  pub passed-less : (next ≡ 0 → ⊥) → length (behind_in z m next) < length (behind_in z m link)
  passed-less ne = rw (← n.known p.some, (next-left on.left ne).1) (omega arith)

  pub passed-end : next ≡ 0 → Sought z m t link
  passed-end e = seek_end on e

  pub passed-stop : (next ≡ 0 → ⊥) → next ≡ t + 1 → Sought z m t link
  passed-stop ne e = seek_stop on ne e

-- The ways out before the loop.
pub front-end : {z : Sizes} {s : List ℕ} {t link : ℕ} → TimersIn z s → link ≡ mem_in z s fields.timer_head 0 → link ≡ 0 → Sought z (mem_in z s) t 0
front-end a e h = seek_end (seek_start a e) h

pub front-stop
    : {z : Sizes} {s : List ℕ} {t link : ℕ}
    → TimersIn z s
    → link ≡ mem_in z s fields.timer_head 0
    → (link ≡ 0 → ⊥)
    → link ≡ t + 1
    → Sought z (mem_in z s) t 0
front-stop a e ne h = seek_stop (seek_start a e) ne h
