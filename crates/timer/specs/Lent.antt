-- The laws of the timer queue as the operations on a lent state meet them.
use Rattle.std.specs.Prelude.{◌≡◌, refl, List, ℕ, suc, ◌-◌, ◌≤◌, ◌<◌}
use Rattle.std.proofs.Common.{subst, sym, ap, ◌∙◌, arith}
use Rattle.layout.specs.Table.{slot}
use Rattle.state.specs.Fields as fields
use Rattle.state.specs.Lent.{Same}
use Rattle.state.specs.Places.{mem_in, ReachIn}
use Rattle.state.specs.declared.Sizes.{Sizes}
use Rattle.state.specs.declared.lent.State.{State}
use Rattle.timer.specs.Only.{Owing}
use Rattle.timer.specs.Del.{TimerAsks, Deleted}
use Rattle.timer.specs.Add.{QueueAsks, QueuedAt, Added, queue-asks, added}
use Rattle.timer.specs.Pop.{PopAsks, pop-asks, pop-reach}
use Rattle.timer.specs.Due.{PoppedDue, popped-none, popped-later, popped-due}

-- `add`: a timer that was taken off is put on.
pub off-asks : {s s₁ : State} {t : ℕ} → TimerAsks s.sizes s.bytes.now t → Same s s₁ → Deleted s.sizes s.bytes.now s₁.bytes.now t → QueueAsks s₁.sizes s₁.bytes.now t
off-asks a k d = rw k.sizes (queue-asks a d)

pub added-to
    : {s s₁ : State} {s₂ : List ℕ} {t d : ℕ}
    → TimerAsks s.sizes s.bytes.now t
    → Same s s₁
    → Deleted s.sizes s.bytes.now s₁.bytes.now t
    → QueuedAt s₁.sizes s₁.bytes.now s₂ t d
    → Added s.sizes s.bytes.now s₂ t d
added-to a k o q = added a o (rw k.sizes at q)

-- `pop_due`: the header's link is to timer t.
module _ {z : Sizes} {s : List ℕ} {t : ℕ} (o : Owing z s) (e : suc t ≡ mem_in z s fields.timer_head 0) where
  one-back : suc t - 1 ≡ t
  one-back = omega arith

  some-link : suc t ≡ 0 → ⊥
  some-link q = absurd (omega arith)

  pub head-asks : PopAsks z s t
  head-asks = subst (PopAsks z s) one-back (pop-asks o e some-link)

  pub head-reach : ReachIn z s (slot 5 0 8) t
  head-reach = subst (ReachIn z s (slot 5 0 8)) one-back (pop-reach o e some-link)

  pub head-later : {reading deadline : ℕ} → deadline ≡ mem_in z s fields.deadline t → reading < deadline → PoppedDue z s s reading 0
  head-later d l = popped-later o e some-link (d ∙ ap (mem_in z s fields.deadline) (sym one-back)) l

  pub head-popped
      : {s' : List ℕ} {reading deadline : ℕ}
      → deadline ≡ mem_in z s fields.deadline t
      → deadline ≤ reading
      → Deleted z s s' t
      → PoppedDue z s s' reading (suc t)
  head-popped {s'} d l k = popped-due o e some-link (d ∙ ap (mem_in z s fields.deadline) (sym one-back)) l (subst (Deleted z s s') (sym one-back) k)

pub head-none : {z : Sizes} {s : List ℕ} {reading : ℕ} → Owing z s → 0 ≡ mem_in z s fields.timer_head 0 → PoppedDue z s s reading 0
head-none o e = popped-none o e refl

-- A link that was popped is small.
pub due-small : {z : Sizes} {s s' : List ℕ} {reading t : ℕ} → Owing z s → PoppedDue z s s' reading (suc t) → t < 65535
due-small o p = omega (arith, p.range, o.holds.sizes.timers.1, o.holds.sizes.processes.1)
