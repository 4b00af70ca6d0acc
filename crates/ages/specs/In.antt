-- What `age_in` does: to the bytes and to the memory.
use Rattle.std.specs.Prelude.{◌≡◌, refl, List, [], ◌∷◌, ◌++◌, ℕ, zero, suc, ◌≤◌, ◌<◌}
use Rattle.std.proofs.Common.{ap, ◌∙◌, arith}
use Rattle.layout.specs.Table.{slot}
use Rattle.layout.specs.Memory.{Memory, upd, Ranged}
use Rattle.layout.specs.Writes.{Write, to, updates, Writable}
use Rattle.state.specs.Fields as fields
use Rattle.state.specs.Places.{sizes_in, mem_in, PutIn, Wrote, wrote-runs}
use Rattle.state.specs.declared.Sizes.{Sizes}
use Rattle.ages.specs.Ties.{tie_stores, tie_mem, updates_tie, updates_join, Stored, stores-done}
use Rattle.ages.specs.Kept.{AgesIn}

-- The stores that put record i behind the youngest, which the link t names.
abbrev in_stores : ℕ → ℕ → List Write
in_stores t i = to fields.older i t ∷ [] ++ tie_stores fields.younger fields.oldest t (suc i) i ++ to fields.youngest 0 (suc i) ∷ []

abbrev pub age_in_stores : Memory → ℕ → List Write
age_in_stores m i = in_stores (m fields.youngest 0) i

-- The memory then.
abbrev in_mem : Memory → ℕ → ℕ → Memory
in_mem m t i = upd (tie_mem (upd m fields.older i t) fields.younger fields.oldest t (suc i) i) fields.youngest 0 (suc i)

abbrev pub age_in_mem : Memory → ℕ → Memory
age_in_mem m i = in_mem m (m fields.youngest 0) i

-- The bytes are in range, the links of age are right, and record i is free.
pub record AgeInAsks (z : Sizes) (s : List ℕ) (i : ℕ) : Type 0 where
  pub aged : AgesIn z s
  pub index : i < z.processes
  pub free : mem_in z s fields.pid i ≡ 0

-- The bytes and the memory after. `ages_in` says what follows once the record has its pid.
abbrev pub AgedIn : Sizes → List ℕ → List ℕ → ℕ → Type 0
AgedIn z s s' i = Stored z s s' (age_in_stores (mem_in z s) i) (age_in_mem (mem_in z s) i)

-- The stores are in range, and make that memory.
writable
    : (z : Sizes) (t i : ℕ)
    → t ≤ z.processes
    → i < z.processes
    → Writable fields.layout1 (fields.most_of (sizes_in z)) (fields.counts (sizes_in z)) (in_stores t i)
writable z zero i l h = omega arith
writable z (suc t) i l h = omega arith

updates_in : (m : Memory) (t i : ℕ) → updates m (in_stores t i) ≡ in_mem m t i
updates_in m t i =
    let n : Memory = upd m fields.older i t in
    updates_join n (tie_stores fields.younger fields.oldest t (suc i) i) (to fields.youngest 0 (suc i) ∷ [])
    ∙ ap (λ (k : Memory). upd k fields.youngest 0 (suc i)) (updates_tie fields.younger fields.oldest refl n t (suc i) i)

-- What the code shows.
pub aged_in
    : {z : Sizes} {s s₁ s₂ s₃ : List ℕ} {i t : ℕ}
    → AgeInAsks z s i
    → t ≡ mem_in z s fields.youngest 0
    → PutIn z s s₁ (slot 1 26 2) i t
    → Wrote z s₁ s₂ (tie_stores fields.younger fields.oldest t (suc i) i)
    → PutIn z s₂ s₃ (slot 0 38 2) 0 (suc i)
    → AgedIn z s s₃ i
unfolding Ranged
aged_in {z} {s} {s₁} {s₂} {s₃} {i} {t} a e p₁ w p₃ =
    let one : Wrote z s s₁ (to fields.older i t ∷ []) = record { bytes = p₁.bytes; long = p₁.long } in
    let last : Wrote z s₂ s₃ (to fields.youngest 0 (suc i) ∷ []) = record { bytes = p₃.bytes; long = p₃.long } in
    let t' : ℕ = mem_in z s fields.youngest 0 in
    stores-done a.aged.whole
    (writable z t' i (a.aged.whole.state.ranged fields.youngest 0) a.index)
    (rw e at (wrote-runs one w last))
    (updates_in (mem_in z s) t' i)
