-- Stores to a lent state, one after another: what a run of them ensures of its bytes.
use Rattle.std.specs.Prelude.{List, [], ◌∷◌, ◌++◌, ℕ}
use Rattle.std.proofs.Common.{◌∙◌}
use Rattle.layout.specs.Table.{Slot, field}
use Rattle.layout.specs.Writes.{Write, to}
use Rattle.state.specs.Fields.{layout1}
use Rattle.state.specs.Places.{PutIn, Wrote, wrote-more, wrote_3, wrote_4, wrote-runs}
use Rattle.state.specs.Lent.{Same}
use Rattle.state.specs.declared.lent.State.{State}

-- From a lent state to bytes: what one store ensures, and what a run of them does.
abbrev pub Set : State → List ℕ → Slot → ℕ → ℕ → Type 0
Set s t a i v = PutIn s.sizes s.bytes.now t a i v

abbrev pub Stores : State → List ℕ → List Write → Type 0
Stores s t ws = Wrote s.sizes s.bytes.now t ws

pub same_join : {s t u : State} → Same s t → Same t u → Same s u
same_join a b = record { sizes = b.sizes ∙ a.sizes; lender = b.lender ∙ a.lender }

pub sets_2
    : {s s₁ : State} {t : List ℕ} {f₁ f₂ i₁ i₂ v₁ v₂ : ℕ}
    → Same s s₁
    → Set s s₁.bytes.now (field layout1 f₁) i₁ v₁
    → Set s₁ t (field layout1 f₂) i₂ v₂
    → Stores s t (to f₁ i₁ v₁ ∷ to f₂ i₂ v₂ ∷ [])
sets_2 {s} k p₁ p₂ = let q = rw k.sizes at p₂ in record { bytes = wrote-more s.sizes _ p₁.bytes q; long = q.long }

pub sets_3
    : {s s₁ s₂ : State} {t : List ℕ} {f₁ f₂ f₃ i₁ i₂ i₃ v₁ v₂ v₃ : ℕ}
    → Same s s₁
    → Same s₁ s₂
    → Set s s₁.bytes.now (field layout1 f₁) i₁ v₁
    → Set s₁ s₂.bytes.now (field layout1 f₂) i₂ v₂
    → Set s₂ t (field layout1 f₃) i₃ v₃
    → Stores s t (to f₁ i₁ v₁ ∷ to f₂ i₂ v₂ ∷ to f₃ i₃ v₃ ∷ [])
sets_3 k₁ k₂ p₁ p₂ p₃ = wrote_3 p₁ (rw k₁.sizes at p₂) (rw (k₂.sizes ∙ k₁.sizes) at p₃)

pub sets_4
    : {s s₁ s₂ s₃ : State} {t : List ℕ} {f₁ f₂ f₃ f₄ i₁ i₂ i₃ i₄ v₁ v₂ v₃ v₄ : ℕ}
    → Same s s₁
    → Same s₁ s₂
    → Same s₂ s₃
    → Set s s₁.bytes.now (field layout1 f₁) i₁ v₁
    → Set s₁ s₂.bytes.now (field layout1 f₂) i₂ v₂
    → Set s₂ s₃.bytes.now (field layout1 f₃) i₃ v₃
    → Set s₃ t (field layout1 f₄) i₄ v₄
    → Stores s t (to f₁ i₁ v₁ ∷ to f₂ i₂ v₂ ∷ to f₃ i₃ v₃ ∷ to f₄ i₄ v₄ ∷ [])
sets_4 k₁ k₂ k₃ p₁ p₂ p₃ p₄ =
    wrote_4 p₁ (rw k₁.sizes at p₂) (rw (k₂.sizes ∙ k₁.sizes) at p₃) (rw (k₃.sizes ∙ k₂.sizes ∙ k₁.sizes) at p₄)

pub stores-runs
    : {s s₁ s₂ : State} {t : List ℕ} {ws ws' ws'' : List Write}
    → Same s s₁
    → Same s₁ s₂
    → Stores s s₁.bytes.now ws
    → Stores s₁ s₂.bytes.now ws'
    → Stores s₂ t ws''
    → Stores s t (ws ++ ws' ++ ws'')
stores-runs k₁ k₂ a b d = wrote-runs a (rw k₁.sizes at b) (rw (k₂.sizes ∙ k₁.sizes) at d)
