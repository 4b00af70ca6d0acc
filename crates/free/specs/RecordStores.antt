-- The stores to the words of records: what they make of the bytes and the memory.
use Rattle.std.specs.Prelude.{◌≡◌, refl, Bool, true, false, List, ℕ, ◌≤◌, ◌<◌}
use Rattle.std.proofs.Common.{sym, ap, ◌∙◌, arith}
use Rattle.machine.specs.Good.{SizesInRange}
use Rattle.layout.specs.Table.{slot}
use Rattle.layout.specs.Memory.{Memory, alter, set_field, set_same, In, Ranged}
use Rattle.layout.specs.Writes.{updates, Writable, written, stored, state-writes}
use Rattle.state.specs.Fields as fields
use Rattle.state.proofs.Ranges.{ranges}
use Rattle.state.specs.Places.{sizes_in, mem_in, PutIn, wrote-more}
use Rattle.state.specs.declared.Sizes.{Sizes}
use Rattle.free.specs.Asks.{StateIn, writes_in}
use Rattle.free.specs.UseRecord.{record_writes, record_mem}

-- The memory after such stores.
record_updates : (m : Memory) (w v : ℕ) (t : Bool) (u : ℕ) → updates m (record_writes w v t u) ≡ record_mem m w v t u
record_updates m w v true u = refl
record_updates m w v false u = sym (set_same (set_field m fields.used_records (alter (m fields.used_records) w v)) fields.full_records)

word-field : (z : Sizes) (w : ℕ) → w < 64 → In fields.layout1 (fields.counts (sizes_in z)) fields.used_records w
word-field z w h = record { listed = omega arith; index = h }

-- The values fit.
pub record RecordFits (w v : ℕ) (t : Bool) (u : ℕ) : Type 0 where
  pub index : w < 64
  pub word : v ≤ 18446744073709551615
  pub above : t ≡ true → u ≤ 18446744073709551615

pub record_writable
    : (z : Sizes) (w v : ℕ) (t : Bool) (u : ℕ)
    → RecordFits w v t u
    → Writable fields.layout1 (fields.most_of (sizes_in z)) (fields.counts (sizes_in z)) (record_writes w v t u)
record_writable z w v true u f =
    (word-field z w f.index, f.word, (record { listed = omega arith; index = omega arith }, f.above refl, tt))
record_writable z w v false u f = (word-field z w f.index, f.word, tt)

module _ {z : Sizes} {s : List ℕ} {w v : ℕ} {t : Bool} {u : ℕ} (r : SizesInRange (sizes_in z)) (b : StateIn z s) (f : RecordFits w v t u) where
  pub record_done : {s' : List ℕ} → s' ≡ writes_in z s (record_writes w v t u) → StateIn z s' × (mem_in z s' ≡ record_mem (mem_in z s) w v t u)
  record_done {s'} e = (
    rw e (state-writes (ranges (sizes_in z) r) b (record_writes w v t u) (record_writable z w v t u f)),
    ap (λ (x : List ℕ). mem_in z x) e
        ∙ written (ranges (sizes_in z) r) b (record_writes w v t u) (record_writable z w v t u f)
        ∙ record_updates (mem_in z s) w v t u,
  )

  module _ {s₁ : List ℕ} (p : PutIn z s s₁ (slot 9 0 8) w v) where
    -- The first store leaves the word above as it was.
    pub above_kept : mem_in z s₁ fields.full_records 0 ≡ mem_in z s fields.full_records 0
    above_kept =
        ap (λ (x : List ℕ). mem_in z x fields.full_records 0) p.bytes
        ∙ ap (λ (m : Memory). m fields.full_records 0)
        (stored (ranges (sizes_in z) r) b fields.used_records w v (word-field z w f.index) f.word)

    pub one_store : t ≡ false → s₁ ≡ writes_in z s (record_writes w v t u)
    one_store e = rw e p.bytes

    pub two-stores : {s₂ : List ℕ} → t ≡ true → PutIn z s₁ s₂ (slot 0 64 8) 0 u → s₂ ≡ writes_in z s (record_writes w v t u)
    two-stores e q = rw e (wrote-more z _ p.bytes q)

pub above-range : (z : Sizes) {s : List ℕ} → StateIn z s → mem_in z s fields.full_records 0 ≤ 18446744073709551615
unfolding Ranged
above-range z a = a.ranged fields.full_records 0
