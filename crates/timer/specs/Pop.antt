-- The head of the queue is taken off.
use Rattle.std.specs.Prelude.{◌≡◌, refl, true, not, List, ◌∷◌, ℕ, suc, ◌-◌, ◌<◌}
use Rattle.std.proofs.Common.{sym, ap, subst, ◌∙◌, arith, eq-eqb, ne_eqb, lit<}
use Rattle.machine.specs.Basics.{count, filter}
use Rattle.machine.specs.Timers.{remove}
use Rattle.layout.specs.Memory.{Memory, Ranged}
use Rattle.layout.specs.Table.{slot}
use Rattle.chain.specs.Lists.{Absent, filter-absent}
use Rattle.state.specs.Fields as fields
use Rattle.state.specs.Abs.{is_set, timer_list}
use Rattle.state.specs.Places.{mem_in, ReachIn, Wrote}
use Rattle.state.specs.declared.Sizes.{Sizes}
use Rattle.timers.specs.Find.{timers_in, queue_in, from_link, Chained, next-left}
use Rattle.timers.specs.Entries.{entries}
use Rattle.timers.specs.Out.{without, before, remove-entries}
use Rattle.timers.specs.Insert.{LinkAsks}
use Rattle.timers.specs.Remove.{remove_stores, removed-one}
use Rattle.timers.specs.Seek.{Sought}
use Rattle.timer.specs.Only.{Owing}
use Rattle.timer.specs.Del.{TimerAsks, Deleted, remove-asks, deleted}

-- Timer t is the head of the queue.
pub record PopAsks (z : Sizes) (s : List ℕ) (t : ℕ) : Type 0 where
  pub owing : Owing z s
  pub index : t < timers_in z
  pub head : mem_in z s fields.timer_head 0 ≡ suc t

-- The header's link, where it is not 0, names such a timer, whose deadline can be read.
pub pop-asks : {z : Sizes} {s : List ℕ} {link : ℕ} → Owing z s → link ≡ mem_in z s fields.timer_head 0 → (link ≡ 0 → ⊥) → PopAsks z s (link - 1)
unfolding Ranged
pop-asks {z} {s} {link} o e ne =
    record { owing = o; index = omega (arith, e, o.holds.state.ranged fields.timer_head 0); head = sym e ∙ omega arith }

pub pop-reach
    : {z : Sizes} {s : List ℕ} {link : ℕ} → Owing z s → link ≡ mem_in z s fields.timer_head 0 → (link ≡ 0 → ⊥) → ReachIn z s (slot 5 0 8) (link - 1)
pop-reach o e ne =
    record {
      inside = record { region = lit< tt; end = lit< tt };
      index = (pop-asks o e ne).index;
      long = o.holds.state.long;
    }

-- The queue from its head on.
pub split-head
    : (z : Sizes) (s : List ℕ) (t : ℕ)
    → Owing z s
    → mem_in z s fields.timer_head 0 ≡ suc t
    → queue_in z (mem_in z s) ≡ t ∷ from_link z (mem_in z s) (mem_in z s fields.timer_next t)
unfolding timer_list
split-head z s t o e =
    let m : Memory = mem_in z s in
    let c : Chained z m (m fields.timer_head 0) = record { chain = o.holds.keeps.timed.chain } in
    let q : m fields.timer_head 0 - 1 ≡ t = omega (arith, e) in
    subst (λ (k : ℕ). queue_in z m ≡ k ∷ from_link z m (m fields.timer_next k)) q (next-left c (λ x. absurd (omega (arith, e, x)))).1

-- The head stands in the queue, behind no link, and without it the rest is left.
count_head : (t : ℕ) (ys : List ℕ) → 0 < count t (t ∷ ys)
unfolding count
count_head t ys = rw (eq-eqb t t refl) (omega arith)

pub head-on : {z : Sizes} {s : List ℕ} {t : ℕ} → PopAsks z s t → 0 < mem_in z s fields.is_queued t
head-on {z} {s} {t} a =
    let ys : List ℕ = from_link z (mem_in z s) (mem_in z s fields.timer_next t) in
    omega (arith, a.owing.holds.keeps.timed.queued t, ap (λ (l : List ℕ). count t l) (split-head z s t a.owing a.head), count_head t ys)

before_head : (t : ℕ) (ys : List ℕ) → before t 0 (t ∷ ys) ≡ 0
before_head t ys = rw (eq-eqb t t refl)

without-head : (t : ℕ) (ys : List ℕ) → Absent t ys → without t (t ∷ ys) ≡ ys
unfolding filter
without-head t ys a = rw (eq-eqb t t refl) (filter-absent t ys a)

pub remove-head : (key : ℕ → ℕ) (t : ℕ) (ys : List ℕ) → Absent t ys → remove t (entries key (t ∷ ys)) ≡ entries key ys
remove-head key t ys a = sym (remove-entries key t (t ∷ ys)) ∙ ap (entries key) (without-head t ys a)

-- What the code of `pop` shows: the head is taken out from behind no link.
pub popped
    : {z : Sizes} {s s₁ : List ℕ} {t : ℕ} → PopAsks z s t → Wrote z s s₁ (remove_stores (mem_in z s) 1 0 t) → Deleted z s s₁ t
popped {z} {s} {s₁} {t} a w =
    let m : Memory = mem_in z s in
    let ys : List ℕ = from_link z m (m fields.timer_next t) in
    let q : queue_in z m ≡ t ∷ ys = split-head z s t a.owing a.head in
    let b : Sought z m t 0 = record { place = sym (ap (λ (l : List ℕ). before t 0 l) q ∙ before_head t ys); range = omega arith } in
    let on : is_set (m fields.is_queued t) ≡ true = ap not (ne_eqb (m fields.is_queued t) 0 (λ e. absurd (omega (arith, head-on a, e)))) in
    let asks : TimerAsks z s t = record { owing = a.owing; index = a.index } in
    deleted asks (removed-one (remove-asks asks) refl on b w)

pub pop-link : {z : Sizes} {s : List ℕ} {t : ℕ} → PopAsks z s t → LinkAsks z s 0 t
pop-link a = record { sizes = a.owing.holds.sizes; long = a.owing.holds.state.long; range = omega arith; index = a.index }
