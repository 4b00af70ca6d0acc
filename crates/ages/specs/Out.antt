-- What `age_out` does: to the bytes and to the memory.
use Rattle.std.specs.Prelude.{◌≡◌, refl, List, ◌++◌, ℕ, zero, suc, ◌≤◌, ◌<◌}
use Rattle.std.proofs.Common.{ap, subst₂, ◌∙◌, arith}
use Rattle.layout.specs.Memory.{Memory, Ranged}
use Rattle.layout.specs.Writes.{Write, updates, Writable}
use Rattle.state.specs.Fields as fields
use Rattle.state.specs.Places.{sizes_in, mem_in, Wrote, wrote_join}
use Rattle.state.specs.declared.Sizes.{Sizes}
use Rattle.ages.specs.Ties.{tie_stores, tie_mem, updates_tie, updates_join, Stored, stores-done}
use Rattle.ages.specs.Kept.{LivingIn}

-- The stores that tie the links p and n of record i, to the next older and the next younger, to each other, and clear them.
abbrev out_stores : ℕ → ℕ → ℕ → List Write
out_stores p n i = tie_stores fields.younger fields.oldest p n i ++ tie_stores fields.older fields.youngest n p i

abbrev pub age_out_stores : Memory → ℕ → List Write
age_out_stores m i = out_stores (m fields.older i) (m fields.younger i) i

-- The memory then.
abbrev out_mem : Memory → ℕ → ℕ → ℕ → Memory
out_mem m p n i = tie_mem (tie_mem m fields.younger fields.oldest p n i) fields.older fields.youngest n p i

abbrev pub age_out_mem : Memory → ℕ → Memory
age_out_mem m i = out_mem m (m fields.older i) (m fields.younger i) i

-- The bytes and the memory after. `ages_out` says what follows once the record has no pid.
abbrev pub AgedOut : Sizes → List ℕ → List ℕ → ℕ → Type 0
AgedOut z s s' i = Stored z s s' (age_out_stores (mem_in z s) i) (age_out_mem (mem_in z s) i)

-- The stores are in range, and make that memory.
writable
    : (z : Sizes) (p n i : ℕ)
    → p ≤ z.processes
    → n ≤ z.processes
    → i < z.processes
    → Writable fields.layout1 (fields.most_of (sizes_in z)) (fields.counts (sizes_in z)) (out_stores p n i)
writable z zero zero i l k h = omega arith
writable z zero (suc n) i l k h = omega arith
writable z (suc p) zero i l k h = omega arith
writable z (suc p) (suc n) i l k h = omega arith

updates_out : (m : Memory) (p n i : ℕ) → updates m (out_stores p n i) ≡ out_mem m p n i
updates_out m p n i =
    let old : List Write = tie_stores fields.older fields.youngest n p i in
    updates_join m (tie_stores fields.younger fields.oldest p n i) old
    ∙ ap (λ (k : Memory). updates k old) (updates_tie fields.younger fields.oldest refl m p n i)
    ∙ updates_tie fields.older fields.youngest refl (tie_mem m fields.younger fields.oldest p n i) n p i

-- What the code shows.
pub aged_out
    : {z : Sizes} {s s₁ s₂ : List ℕ} {i p n : ℕ}
    → LivingIn z s i
    → p ≡ mem_in z s fields.older i
    → n ≡ mem_in z s fields.younger i
    → Wrote z s s₁ (tie_stores fields.younger fields.oldest p n i)
    → Wrote z s₁ s₂ (tie_stores fields.older fields.youngest n p i)
    → AgedOut z s s₂ i
unfolding Ranged
aged_out {z} {s} {s₁} {s₂} {i} {p} {n} a e d w₁ w₂ =
    let m : Memory = mem_in z s in
    let r : (f j : ℕ) → m f j ≤ fields.most_of (sizes_in z) f = a.aged.whole.state.ranged in
    stores-done a.aged.whole
    (writable z (m fields.older i) (m fields.younger i) i (r fields.older i) (r fields.younger i) a.index)
    (subst₂ (λ (x y : ℕ). Wrote z s s₂ (out_stores x y i)) e d
    (wrote_join z (tie_stores fields.younger fields.oldest p n i) (tie_stores fields.older fields.youngest n p i) w₁ w₂))
    (updates_out m (m fields.older i) (m fields.younger i) i)
