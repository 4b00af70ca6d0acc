-- The laws of quanta and settings as the operations on a lent state meet them.
use Rattle.std.specs.Prelude.{◌≡◌, refl, Bool, true, false, Option, None, Some, is_some, List, ℕ, suc, ◌-◌, ◌≤◌, ◌<◌}
use Rattle.std.proofs.Common.{subst, sym, ap, ◌∙◌, arith, ne_eqb}
use Rattle.std.specs.Int.{from_bool}
use Rattle.lists.specs.Lists.{bit}
use Rattle.machine.specs.Update.{with_setting}
use Rattle.memory.specs.Link.{link}
use Rattle.layout.specs.Table.{slot}
use Rattle.state.specs.Fields as fields
use Rattle.state.specs.Abs.{is_set}
use Rattle.state.specs.Lent.{Same}
use Rattle.state.specs.Places.{mem_in, ReachIn, PutIn}
use Rattle.state.specs.declared.Sizes.{Sizes}
use Rattle.state.specs.declared.lent.State.{State}
use Rattle.timer.specs.Only.{Owing}
use Rattle.timer.specs.Del.{machine_in}
use Rattle.clockwork.specs.Stores.{Became}
use Rattle.clockwork.specs.Settings.{setting_stores, setting_of, SettingAsks, setting-made}
use Rattle.clockwork.specs.Preempt.{PreemptDue, up-reach, due-nobody, due_early, due-queued}

-- Two stores of a setting.
pub setting-stored
    : {s s₁ : State} {s₂ : List ℕ} {t p r : ℕ}
    → SettingAsks s.sizes s.bytes.now t p r
    → Same s s₁
    → PutIn s.sizes s.bytes.now s₁.bytes.now (slot 5 8 8) t p
    → PutIn s₁.sizes s₁.bytes.now s₂ (slot 5 16 2) t r
    → Became s.sizes s.bytes.now s₂ (setting_stores t p r) (with_setting t (setting_of p r) (machine_in s.sizes s.bytes.now))
setting-stored a k p₁ p₂ = setting-made a p₁ (rw k.sizes at p₂)

-- A truth value as a number.
pub from_bit : (v : Bool) {w : ℕ} → w ≡ from_bool v → w ≡ bit v
from_bit true e = e
from_bit false e = e

-- Whether a link is there, by its number.
link-there : (o : Option ℕ) → is_set (link o) ≡ is_some o
link-there None = refl
link-there (Some i) = rw (ne_eqb (suc i) 0 (λ q. absurd (omega (arith, q))))

-- `preempt_due`: nobody runs; record i runs, its quantum is not over, or the run queue decides.
pub nobody-up : {z : Sizes} {s : List ℕ} → 0 ≡ mem_in z s fields.up 0 → PreemptDue z s false
nobody-up e = due-nobody e refl

module _ {z : Sizes} {s : List ℕ} {i : ℕ} (o : Owing z s) (e : suc i ≡ mem_in z s fields.up 0) where
  one-back : suc i - 1 ≡ i
  one-back = omega arith

  some-link : suc i ≡ 0 → ⊥
  some-link q = absurd (omega arith)

  pub runs-reach : ReachIn z s (slot 1 16 8) i
  runs-reach = subst (ReachIn z s (slot 1 16 8)) one-back (up-reach o e some-link)

  pub runs-on : {end ticks : ℕ} → end ≡ mem_in z s fields.quantum_end i → ticks ≡ mem_in z s fields.ticks 0 → ticks < end → PreemptDue z s false
  runs-on q t l = due_early o e some-link (q ∙ ap (mem_in z s fields.quantum_end) (sym one-back)) t l

  pub ready-decides
      : {end ticks : ℕ} (first : Option ℕ) {r : Bool}
      → end ≡ mem_in z s fields.quantum_end i
      → ticks ≡ mem_in z s fields.ticks 0
      → end ≤ ticks
      → link first ≡ mem_in z s fields.run_head 0
      → r ≡ is_some first
      → PreemptDue z s r
  ready-decides first {r} q t l f d =
      let p : PreemptDue z s (is_set (link first)) = due-queued o e some-link (q ∙ ap (mem_in z s fields.quantum_end) (sym one-back)) t l f in
      subst (PreemptDue z s) (link-there first ∙ sym d) p
