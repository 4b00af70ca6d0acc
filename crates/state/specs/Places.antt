-- The layout at the sizes that the code carries.
use Rattle.std.specs.Prelude.{◌≡◌, ℕ, ◌≤◌, length, List, [], ◌∷◌, ◌++◌}
use Rattle.std.proofs.Common.{sym, ap, ◌∙◌}
use Rattle.machine.specs.Machine as machine
use Rattle.layout.specs.Table.{Slot, field, place, start, total}
use Rattle.layout.specs.Memory.{Memory, mem, Reach, Put, cell, write}
use Rattle.layout.specs.Writes.{Write, to, writes, writes_join}
use Rattle.state.specs.Fields.{layout1, counts}
use Rattle.state.specs.declared.Sizes.{Sizes}

abbrev pub sizes_in : Sizes → machine.Sizes
sizes_in z =
    record {
      processes = z.processes;
      rendez = z.rendez;
      locks = z.locks;
      timers = z.timers;
      cells = z.cells;
      hz = z.hz;
    }

-- Where a region starts, where a slot of a record lies, and how many bytes the state takes.
abbrev pub start_in : Sizes → ℕ → ℕ
start_in z r = start layout1 (counts (sizes_in z)) r

abbrev pub place_in : Sizes → Slot → ℕ → ℕ
place_in z a i = place layout1 (counts (sizes_in z)) a i

abbrev pub total_in : Sizes → ℕ
total_in z = total layout1 (counts (sizes_in z))

-- The memory of the bytes.
abbrev pub mem_in : Sizes → List ℕ → Memory
mem_in z s = mem layout1 (counts (sizes_in z)) s

-- What is in a slot of a record; that it lies within the bytes; and what a store there ensures.
abbrev pub cell_in : Sizes → List ℕ → Slot → ℕ → ℕ
cell_in z s a i = cell layout1 (counts (sizes_in z)) s a i

abbrev pub ReachIn : Sizes → List ℕ → Slot → ℕ → Type 0
ReachIn z s a i = Reach layout1 (counts (sizes_in z)) s a i

abbrev pub PutIn : Sizes → List ℕ → List ℕ → Slot → ℕ → ℕ → Type 0
PutIn z s s' a i v = Put layout1 (counts (sizes_in z)) s s' a i v

-- What a run of stores ensures: the bytes, and what the next access asks.
pub record Wrote (z : Sizes) (s s' : List ℕ) (ws : List Write) : Type 0 where
  pub bytes : s' ≡ writes layout1 (counts (sizes_in z)) s ws
  pub long : total_in z ≤ length s'

-- One store more, with the bytes before it known.
pub wrote-more
    : (z : Sizes) {s₁ s₂ : List ℕ} {a : Slot} {i v : ℕ} (t : List ℕ)
    → s₁ ≡ t
    → PutIn z s₁ s₂ a i v
    → s₂ ≡ write layout1 (counts (sizes_in z)) t a i v
wrote-more z {s₁} {s₂} {a} {i} {v} t e p = p.bytes ∙ ap (λ (x : List ℕ). write layout1 (counts (sizes_in z)) x a i v) e

-- Three stores, and four, one after another.
pub wrote_3
    : {z : Sizes} {s s₁ s₂ s₃ : List ℕ} {f₁ f₂ f₃ i₁ i₂ i₃ v₁ v₂ v₃ : ℕ}
    → PutIn z s s₁ (field layout1 f₁) i₁ v₁
    → PutIn z s₁ s₂ (field layout1 f₂) i₂ v₂
    → PutIn z s₂ s₃ (field layout1 f₃) i₃ v₃
    → Wrote z s s₃ (to f₁ i₁ v₁ ∷ to f₂ i₂ v₂ ∷ to f₃ i₃ v₃ ∷ [])
wrote_3 {z} p₁ p₂ p₃ = record { bytes = wrote-more z _ (wrote-more z _ p₁.bytes p₂) p₃; long = p₃.long }

pub wrote_4
    : {z : Sizes} {s s₁ s₂ s₃ s₄ : List ℕ} {f₁ f₂ f₃ f₄ i₁ i₂ i₃ i₄ v₁ v₂ v₃ v₄ : ℕ}
    → PutIn z s s₁ (field layout1 f₁) i₁ v₁
    → PutIn z s₁ s₂ (field layout1 f₂) i₂ v₂
    → PutIn z s₂ s₃ (field layout1 f₃) i₃ v₃
    → PutIn z s₃ s₄ (field layout1 f₄) i₄ v₄
    → Wrote z s s₄ (to f₁ i₁ v₁ ∷ to f₂ i₂ v₂ ∷ to f₃ i₃ v₃ ∷ to f₄ i₄ v₄ ∷ [])
wrote_4 {z} p₁ p₂ p₃ p₄ =
    record { bytes = wrote-more z _ (wrote-more z _ (wrote-more z _ p₁.bytes p₂) p₃) p₄; long = p₄.long }

-- A run of stores after another.
pub wrote_join
    : (z : Sizes) {s s₁ s₂ : List ℕ} (ws ws' : List Write)
    → Wrote z s s₁ ws
    → Wrote z s₁ s₂ ws'
    → Wrote z s s₂ (ws ++ ws')
wrote_join z {s} {s₁} {s₂} ws ws' a b =
    record {
      bytes =
          b.bytes
          ∙ ap (λ (x : List ℕ). writes layout1 (counts (sizes_in z)) x ws') a.bytes
          ∙ sym (writes_join layout1 (counts (sizes_in z)) s ws ws');
      long = b.long;
    }

pub wrote-runs
    : {z : Sizes} {s s₁ s₂ s₃ : List ℕ} {ws ws' ws'' : List Write}
    → Wrote z s s₁ ws
    → Wrote z s₁ s₂ ws'
    → Wrote z s₂ s₃ ws''
    → Wrote z s s₃ (ws ++ ws' ++ ws'')
wrote-runs {z} {ws = ws} {ws' = ws'} {ws'' = ws''} a b d = wrote_join z (ws ++ ws') ws'' (wrote_join z ws ws' a b) d
