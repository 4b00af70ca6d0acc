-- A turn of the loop on a lent state: the head is taken off and fires, or nothing is due.
use Rattle.std.specs.Prelude.{true, false, List, ℕ, suc}
use Rattle.state.specs.Lent.{Same}
use Rattle.state.specs.declared.lent.State.{State}
use Rattle.timer.specs.Due.{PoppedDue}
use Rattle.proc_intr.specs.Fire.{FireAsks, Fired}
use Rattle.proc_intr.specs.Due.{FiredDue, due-none, due-fire, due-fired}
use Rattle.proc_intr.specs.Interrupt.{Interrupting}

-- The state s₀ is s after n firings; s₁ is s where timer t was taken off.
module _ {s₀ s : State} {reading n : ℕ} (k : Same s₀ s) (i : Interrupting s₀.sizes s₀.bytes.now s.bytes.now reading n) where
  pub turn-fire : {s₁ : State} {t : ℕ} → Same s s₁ → PoppedDue s.sizes s.bytes.now s₁.bytes.now reading (suc t) → FireAsks s₁.sizes s₁.bytes.now t
  turn-fire k₁ p = rw (k₁.sizes, k.sizes) (due-fire i.asks (rw k.sizes at p))

  pub turn-fired
      : {s₁ : State} {s₂ : List ℕ} {t : ℕ}
      → Same s s₁
      → PoppedDue s.sizes s.bytes.now s₁.bytes.now reading (suc t)
      → Fired s₁.sizes s₁.bytes.now s₂ t
      → FiredDue s₀.sizes s.bytes.now s₂ reading true
  turn-fired k₁ p f = due-fired i.asks (rw k.sizes at p) (rw (k₁.sizes, k.sizes) at f)

  pub turn-none : {s₁ : List ℕ} → PoppedDue s.sizes s.bytes.now s₁ reading 0 → FiredDue s₀.sizes s.bytes.now s₁ reading false
  turn-none p = due-none i.asks (rw k.sizes at p)
