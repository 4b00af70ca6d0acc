-- The link behind a link, and the store that changes it: the header's first link for link 0.
use Rattle.std.specs.Prelude.{◌≡◌, refl, List, [], ◌∷◌, ◌++◌, ℕ, zero, suc}
use Rattle.layout.specs.Memory.{Memory}
use Rattle.layout.specs.Table.{slot}
use Rattle.layout.specs.Writes.{Write, to}
use Rattle.state.specs.Fields as fields
use Rattle.state.specs.Lent.{Same}
use Rattle.state.specs.Places.{mem_in, PutIn, Wrote, wrote_join}
use Rattle.state.specs.declared.Sizes.{Sizes}
use Rattle.state.specs.declared.lent.State.{State}
use Rattle.timers.specs.Insert.{link_stores, Inserted, InsertAsks, inserted}
use Rattle.timers.specs.Find.{Found}
use Rattle.timers.specs.Remove.{out_stores, remove_stores}
use Rattle.std.proofs.Common.{Fits, ◌∙◌, subst}
use Rattle.std.specs.Int.{w64}

abbrev pub link_behind : Memory → ℕ → ℕ
link_behind m zero = m fields.timer_head 0
link_behind m (suc p) = m fields.timer_next p

abbrev pub behind_store : ℕ → ℕ → List Write
behind_store zero v = to fields.timer_head 0 v ∷ []
behind_store (suc p) v = to fields.timer_next p v ∷ []

-- one store, as a run
one : {z : Sizes} {s s' : List ℕ} {t v : ℕ} → PutIn z s s' (slot 12 0 2) t v → Wrote z s s' (to fields.timer_next t v ∷ [])
one p = record { bytes = p.bytes; long = p.long }

joined-in : (m : Memory) (at t : ℕ) → (to fields.timer_next t (link_behind m at) ∷ []) ++ behind_store at (suc t) ≡ link_stores m at t
joined-in m zero t = refl
joined-in m (suc p) t = refl

joined-out : (m : Memory) (at t : ℕ) → behind_store at (m fields.timer_next t) ++ (to fields.timer_next t 0 ∷ []) ≡ out_stores m at t
joined-out m zero t = refl
joined-out m (suc p) t = refl

-- What the code of `link_in` and of `link_out` shows.
pub linked
    : (s s₁ : State) {s₂ : List ℕ} (at t : ℕ) {n : ℕ}
    → Same s s₁
    → n ≡ link_behind (mem_in s.sizes s.bytes.now) at
    → PutIn s.sizes s.bytes.now s₁.bytes.now (slot 12 0 2) t n
    → Wrote s₁.sizes s₁.bytes.now s₂ (behind_store at (suc t))
    → Wrote s.sizes s.bytes.now s₂ (link_stores (mem_in s.sizes s.bytes.now) at t)
linked s s₁ at t k e p w =
    let m : Memory = mem_in s.sizes s.bytes.now in
    let d = rw e at p in
    subst (Wrote s.sizes s.bytes.now _) (joined-in m at t)
    (wrote_join s.sizes (to fields.timer_next t (link_behind m at) ∷ []) (behind_store at (suc t)) (one d) (rw k.sizes at w))

pub unlinked
    : (s s₁ : State) {s₂ : List ℕ} (at t : ℕ) {n : ℕ}
    → Same s s₁
    → n ≡ mem_in s.sizes s.bytes.now fields.timer_next t
    → Wrote s.sizes s.bytes.now s₁.bytes.now (behind_store at n)
    → PutIn s₁.sizes s₁.bytes.now s₂ (slot 12 0 2) t 0
    → Wrote s.sizes s.bytes.now s₂ (out_stores (mem_in s.sizes s.bytes.now) at t)
unlinked s s₁ at t k e w p =
    let m : Memory = mem_in s.sizes s.bytes.now in
    let d = rw e at w in
    let q = rw k.sizes at p in
    subst (Wrote s.sizes s.bytes.now _) (joined-out m at t)
    (wrote_join s.sizes (behind_store at (m fields.timer_next t)) (to fields.timer_next t 0 ∷ []) d (one q))

-- What the code of `insert` and of `take_out` shows.
pub inserted-into
    : {s s₁ s₂ : State} {s₃ : List ℕ} {t d at : ℕ}
    → InsertAsks s.sizes s.bytes.now t
    → Same s s₁
    → Same s₁ s₂
    → Found s.sizes (mem_in s.sizes s.bytes.now) d at
    → Wrote s.sizes s.bytes.now s₁.bytes.now (link_stores (mem_in s.sizes s.bytes.now) at t)
    → PutIn s₁.sizes s₁.bytes.now s₂.bytes.now (slot 5 0 8) t d
    → PutIn s₂.sizes s₂.bytes.now s₃ (slot 5 20 1) t 1
    → Fits w64 d
    → Inserted s.sizes s.bytes.now s₃ t d
inserted-into a k₁ k₂ f w p₁ p₂ b = inserted a f w (rw k₁.sizes at p₁) (rw (k₂.sizes ∙ k₁.sizes) at p₂) b

pub taken-out
    : {s s₁ : State} {s₂ : List ℕ} (at t : ℕ)
    → Same s s₁
    → Wrote s.sizes s.bytes.now s₁.bytes.now (out_stores (mem_in s.sizes s.bytes.now) at t)
    → PutIn s₁.sizes s₁.bytes.now s₂ (slot 5 20 1) t 0
    → Wrote s.sizes s.bytes.now s₂ (remove_stores (mem_in s.sizes s.bytes.now) 1 at t)
taken-out {s} at t k w p =
    let q = rw k.sizes at p in
    wrote_join s.sizes (out_stores (mem_in s.sizes s.bytes.now) at t) (to fields.is_queued t 0 ∷ []) w (record { bytes = q.bytes; long = q.long })
