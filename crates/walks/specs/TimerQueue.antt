-- What the walk of the timer queue shows.
use Rattle.std.specs.Prelude.{◌≡◌, Option, List, [], ◌∷◌, ◌++◌, ℕ, suc, ◌+◌, ◌≤◌, ◌<◌, length}
use Rattle.std.proofs.Common.{sym, subst, ◌∙◌, arith}
use Rattle.chain.specs.Links.{walk, Chain, chain-walk}
use Rattle.state.specs.Fields as fields
use Rattle.state.specs.Abs.{timer_list}
use Rattle.state.specs.Places.{sizes_in}
use Rattle.state.specs.declared.Sizes.{Sizes}
use Rattle.rules.specs.Facts.{TimersOk}
use Rattle.rules.specs.Code.{mem_in, Whole}
use Rattle.rules.specs.Read.{field-most}
use Rattle.walks.specs.Counts.{Counts}
use Rattle.walks.specs.Order.{Trail, trail-start, trail_more, trail-long, trail-bad, trail-chain, trail-split, Ordered, sorted_of, ordered_of, each_of, Ranked, ranked-start, ranked-more, ranked-bad}

-- What is to be decided and counted.
abbrev pub TimerCounts : Sizes → List ℕ → Option ℕ → Type 0
TimerCounts z s r = Counts (TimersOk (sizes_in z) (mem_in z s)) (length (timer_list (sizes_in z) (mem_in z s))) r

-- k timers were met, the last of deadline d; the next link is `link`.
pub record TimerWalking (z : Sizes) (s : List ℕ) (link k d : ℕ) : Type 0 where
  pub last : ℕ
  pub seen : List ℕ
  pub trail : Trail (mem_in z s fields.timer_next) (λ t. mem_in z s fields.is_queued t ≡ 1) (mem_in z s fields.timer_head 0) link last k seen
  pub ranked : Ranked (mem_in z s fields.deadline) (mem_in z s fields.deadline) 0 d seen
  pub range : link ≤ z.timers + z.processes
  pub few : k ≤ z.timers + z.processes

pub timer-start : {z : Sizes} {s : List ℕ} {link : ℕ} → ∥ Whole z s ∥₁ → link ≡ mem_in z s fields.timer_head 0 → TimerWalking z s link 0 0
timer-start {z} {s} {link} w e =
    record {
      last = 0;
      seen = [];
      trail = rw e trail-start;
      ranked = ranked-start;
      range = omega (arith, e, field-most w fields.timer_head 0);
      few = omega arith;
    }

module _ {z : Sizes} {s : List ℕ} {i k d : ℕ} (t : TimerWalking z s (suc i) k d) where
  pub timer-index : i < z.timers + z.processes
  timer-index = omega (arith, t.range)

  pub timer-more
      : {q d' link' : ℕ}
      → ∥ Whole z s ∥₁
      → (k ≡ z.timers + z.processes → ⊥)
      → q ≡ mem_in z s fields.is_queued i
      → q ≡ 1
      → d' ≡ mem_in z s fields.deadline i
      → d ≤ d'
      → link' ≡ mem_in z s fields.timer_next i
      → TimerWalking z s link' (k + 1) d'
  timer-more {q} {d'} {link'} w nf e f g l n =
      record {
        last = suc i;
        seen = t.seen ++ i ∷ [];
        trail = trail_more t.trail (sym e ∙ f) n;
        ranked = rw g (ranked-more i (omega arith) t.ranked (omega (arith, g, l)));
        range = omega (arith, n, field-most w fields.timer_next i);
        few = omega (arith, t.few, nf);
      }

  -- no more than there are
  pub timer-long : k ≡ z.timers + z.processes → TimersOk (sizes_in z) (mem_in z s) → ⊥
  timer-long e o = trail-long t.trail (omega (arith, e)) o.chain

  pub timer_unqueued : {q : ℕ} → q ≡ mem_in z s fields.is_queued i → (q ≡ 1 → ⊥) → TimersOk (sizes_in z) (mem_in z s) → ⊥
  timer_unqueued e f o = trail-bad t.trail (λ h. f (e ∙ h)) o.chain o.queued

  pub timer_early : {d' : ℕ} → d' ≡ mem_in z s fields.deadline i → d' < d → TimersOk (sizes_in z) (mem_in z s) → ⊥
  timer_early {d'} e l o =
      let r : (vs : List ℕ) × (timer_list (sizes_in z) (mem_in z s) ≡ t.seen ++ i ∷ vs) = trail-split t.trail o.chain.links in
      let key : ℕ → ℕ = mem_in z s fields.deadline in
      ranked-bad i r.0 t.ranked (omega (arith, e, l))
      (each_of {P = λ y. 0 ≤ key y} (λ y. omega arith) (t.seen ++ i ∷ r.0))
      (subst (λ (xs : List ℕ). Ordered key key xs) r.1 (ordered_of key (timer_list (sizes_in z) (mem_in z s)) o.sorted))

pub timer-end
    : {z : Sizes} {s : List ℕ} {k d : ℕ}
    → ∥ Whole z s ∥₁
    → TimerWalking z s 0 k d
    → TimersOk (sizes_in z) (mem_in z s) × (k ≡ length (timer_list (sizes_in z) (mem_in z s)))
unfolding timer_list
timer-end {z} {s} w t =
    let c : Chain (z.timers + z.processes) (mem_in z s fields.timer_next) (mem_in z s fields.timer_head 0) t.seen =
    trail-chain t.trail (field-most w fields.timer_head 0) (λ i. field-most w fields.timer_next i)
    in
    let q : walk (z.timers + z.processes) (mem_in z s fields.timer_next) (mem_in z s fields.timer_head 0) ≡ t.seen = chain-walk c in (
      record { chain = rw q c; queued = rw q t.trail.each; sorted = rw q (sorted_of (mem_in z s fields.deadline) t.seen t.ranked.ordered) },
      rw q (sym t.trail.count),
    )
