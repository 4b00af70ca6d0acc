-- The laws of the exits as the operations on a lent state meet them.
use Rattle.std.specs.Prelude.{◌≡◌, List, ℕ, suc, ◌+◌, ◌-◌, ◌<◌}
use Rattle.std.proofs.Common.{subst, sym, arith, add-one}
use Rattle.layout.specs.Table.{slot}
use Rattle.state.specs.Fields as fields
use Rattle.state.specs.Lent.{Same}
use Rattle.state.specs.Places.{mem_in, PutIn, Wrote}
use Rattle.state.specs.declared.Sizes.{Sizes}
use Rattle.state.specs.declared.lent.State.{State}
use Rattle.free.specs.UseCell.{DropCellAsks, DropCellDone}
use Rattle.waitq.specs.Push.{head_stores, Filled}
use Rattle.waitq.specs.PushCode.{PushAsks, PushDone, push-index, pushed}
use Rattle.waitq.specs.PopCode.{PopAsks, PopDone, Unlinked, unlinked, popped, pop-some, pop-cell}
use Rattle.waitq.specs.Take.{TakeAsks, TakeDone}
use Rattle.waitq.specs.TakeCode.{take_some, take-drop, took}

-- `push`: the cell and the head.
pub pushed-onto
    : {s s₁ : State} {s₂ : List ℕ} {i c pid n first number : ℕ}
    → PushAsks s.sizes s.bytes.now i c n
    → Same s s₁
    → Filled s.sizes s.bytes.now s₁.bytes.now c pid first (suc i) n
    → Wrote s₁.sizes s₁.bytes.now s₂ (head_stores i (suc c) (number + 1))
    → first ≡ mem_in s.sizes s.bytes.now fields.exits i
    → number ≡ mem_in s.sizes s.bytes.now fields.nexits i
    → PushDone s.sizes s.bytes.now s₂ i c pid n
pushed-onto {s} {s₁} {s₂} {i} {c} {pid} {n} {first} {number} a k f w e d =
    pushed a (subst (λ (x : ℕ). Filled s.sizes s.bytes.now s₁.bytes.now c pid first x n) (sym (add-one i)) f)
    (subst (λ (x : ℕ). Wrote s.sizes s₁.bytes.now s₂ (head_stores i x (number + 1))) (sym (add-one c)) (rw k.sizes at w)) e d

pub push-owner : {z : Sizes} {s : List ℕ} {i c n : ℕ} → PushAsks z s i c n → i < 65535
push-owner a = omega (arith, push-index a, a.cells.sizes.processes.1)

pub push-first : {z : Sizes} {s : List ℕ} {i c n : ℕ} → PushAsks z s i c n → c < 65535
push-first a = omega (arith, a.pushable.index, a.cells.sizes.cells.1)

-- `unlink`: two stores.
pub unlinked-from
    : {s s₁ : State} {s₂ : List ℕ} {c r : ℕ}
    → Same s s₁
    → r ≡ mem_in s.sizes s.bytes.now fields.cell_next c
    → PutIn s.sizes s.bytes.now s₁.bytes.now (slot 6 8 2) c 0
    → PutIn s₁.sizes s₁.bytes.now s₂ (slot 6 10 2) c 0
    → Unlinked s.sizes s.bytes.now s₂ c r
unlinked-from k e p q = unlinked e p (rw k.sizes at q)

one-back : (c : ℕ) → suc c - 1 ≡ c
one-back c = omega arith

-- `pop`: the record's link is to cell c.
module _ (s : State) {i : ℕ} (a : PopAsks s.sizes s.bytes.now i) where
  pub pop-never : 0 ≡ mem_in s.sizes s.bytes.now fields.exits i → ⊥
  pop-never e = omega (arith, pop-some a, e)

  pub pop-there : {c : ℕ} → suc c ≡ mem_in s.sizes s.bytes.now fields.exits i → c < s.sizes.cells
  pop-there {c} e = omega (arith, (pop-cell a e).index)

  pub popped-off
      : {s₁ : State} {s₂ : List ℕ} {c next number : ℕ}
      → Same s s₁
      → suc c ≡ mem_in s.sizes s.bytes.now fields.exits i
      → Unlinked s.sizes s.bytes.now s₁.bytes.now c next
      → Wrote s₁.sizes s₁.bytes.now s₂ (head_stores i next (number - 1))
      → number ≡ mem_in s.sizes s.bytes.now fields.nexits i
      → PopDone s.sizes s.bytes.now s₂ i (suc c)
  popped-off {s₁} {s₂} {c} {next} k e w₁ w₂ d =
      popped a e (subst (λ (x : ℕ). Unlinked s.sizes s.bytes.now s₁.bytes.now x next) (sym (one-back c)) w₁) (rw k.sizes at w₂) d

-- `take`: the cell is marked, and then taken off.
module _ {z : Sizes} {s : List ℕ} {i : ℕ} (a : TakeAsks z s i) where
  pub take-never : 0 ≡ mem_in z s fields.exits i → ⊥
  take-never e = omega (arith, take_some a, e)

  pub take-mark : {c : ℕ} → suc c ≡ mem_in z s fields.exits i → DropCellAsks z s c
  take-mark {c} e = subst (DropCellAsks z s) (one-back c) (take-drop a e)

  pub take-off : {s₁ s₂ : List ℕ} {c r : ℕ} → suc c ≡ mem_in z s fields.exits i → DropCellDone z s s₁ c → PopDone z s₁ s₂ i r → TakeDone z s s₂ i r
  take-off {s₁} {s₂} {c} e d p = took a e (subst (DropCellDone z s s₁) (sym (one-back c)) d) p
