-- The stores that tie one link to another, one way: what they make of the memory, and what the code that makes them shows.
use Rattle.std.specs.Prelude.{if◌then◌else◌, ◌≡◌, refl, Bool, true, false, List, [], ◌∷◌, ◌++◌, ℕ, zero, suc, ◌≤◌, ◌<◌, eqb, length}
use Rattle.std.proofs.Common.{sym, ap, subst, ◌∙◌, arith, eqb-true, eq-eqb}
use Rattle.std.proofs.Math.Path.{fun_ext}
use Rattle.machine.specs.Machine as machine
use Rattle.layout.specs.Memory.{Memory, alter, upd, set_field, set_same, set_twice, Ranged}
use Rattle.layout.specs.Writes.{State, Write, to, writes, updates, Writable, written, state-writes}
use Rattle.state.specs.Fields as fields
use Rattle.state.proofs.Ranges.{ranges}
use Rattle.state.specs.Places.{sizes_in, total_in, mem_in, Wrote}
use Rattle.state.specs.declared.Sizes.{Sizes}
use Rattle.rules.specs.Code.{Whole}
use Rattle.ages.specs.Both.{tie_links, tie_first}

-- The link of record i is cleared, and the link `at` is tied to v: field f of its record, and field e of the header where `at` is 0.
abbrev pub tie_stores : ℕ → ℕ → ℕ → ℕ → ℕ → List Write
tie_stores f e zero v i = to f i 0 ∷ to e 0 v ∷ []
tie_stores f e (suc t) v i = to f i 0 ∷ to f t v ∷ []

-- The memory then: each field as a whole.
abbrev pub tie_mem : Memory → ℕ → ℕ → ℕ → ℕ → ℕ → Memory
tie_mem m f e at v i = set_field (set_field m f (tie_links (m f) at v i)) e (alter (m e) 0 (tie_first (m e 0) at v))

-- A field that is set where it is to what it was.
alter-kept : (g : ℕ → ℕ) (t : ℕ) → alter g t (g t) ≡ g
alter-kept g t = fun_ext (λ j. go j (eqb t j) refl)
  where
    go : (j : ℕ) (b : Bool) → eqb t j ≡ b → (if b then g t else g j) ≡ g j
    go j true q = ap g (eqb-true t j q)
    go j false q = refl

-- The stores make that memory.
pub updates_tie : (f e : ℕ) → eqb f e ≡ false → (m : Memory) (at v i : ℕ) → updates m (tie_stores f e at v i) ≡ tie_mem m f e at v i
updates_tie f e ne m zero v i = rw ne
updates_tie f e ne m (suc t) v i =
    let g : ℕ → ℕ = alter (m f) i 0 in
    let n : Memory = set_field m f (alter g t v) in
    let same : n e ≡ m e = rw ne in
    rw (eq-eqb f f refl)
    (set_twice m f g (alter g t v)
    ∙ sym (ap (set_field n e) (alter-kept (m e) 0 ∙ sym same) ∙ set_same n e))

-- Stores after stores.
pub updates_join : (m : Memory) (ws ws' : List Write) → updates m (ws ++ ws') ≡ updates (updates m ws) ws'
updates_join m [] ws' = refl
updates_join m (w ∷ ws) ws' = updates_join (upd m w.field w.index w.value) ws ws'

-- What stores in range ensure: the bytes are in range after, and are what the stores make; and so is the memory.
pub record Stored (z : Sizes) (s s' : List ℕ) (ws : List Write) (m : Memory) : Type 0 where
  pub state : State fields.layout1 (fields.most_of (sizes_in z)) (fields.counts (sizes_in z)) s'
  pub bytes : s' ≡ writes fields.layout1 (fields.counts (sizes_in z)) s ws
  pub writable : Writable fields.layout1 (fields.most_of (sizes_in z)) (fields.counts (sizes_in z)) ws
  pub memory : mem_in z s' ≡ m

pub stores-done
    : {z : Sizes} {s s' : List ℕ} {ws : List Write} {m : Memory}
    → Whole z s
    → Writable fields.layout1 (fields.most_of (sizes_in z)) (fields.counts (sizes_in z)) ws
    → Wrote z s s' ws
    → updates (mem_in z s) ws ≡ m
    → Stored z s s' ws m
stores-done {z} {s} {s'} {ws} {m} h ok w e =
    record {
      state =
          subst (State fields.layout1 (fields.most_of (sizes_in z)) (fields.counts (sizes_in z))) (sym w.bytes)
          (state-writes (ranges (sizes_in z) h.sizes) h.state ws ok);
      bytes = w.bytes;
      writable = ok;
      memory = ap (mem_in z) w.bytes ∙ written (ranges (sizes_in z) h.sizes) h.state ws ok ∙ e;
    }

-- There are bytes enough, i is a record, and the link is one to a record.
pub record TieAsks (z : Sizes) (s : List ℕ) (at i : ℕ) : Type 0 where
  pub long : total_in z ≤ length s
  pub index : i < z.processes
  pub link : at ≤ z.processes

-- A link that was read from a field of links to records.
pub tie_asks
    : (f : ℕ)
    → ((y : machine.Sizes) → fields.most_of y f ≡ y.processes)
    → {z : Sizes} {s s₁ : List ℕ} {t i : ℕ} (j : ℕ)
    → Whole z s
    → t ≡ mem_in z s f j
    → total_in z ≤ length s₁
    → i < z.processes
    → TieAsks z s₁ t i
unfolding Ranged
tie_asks f most {z} {s} {s₁} {t} {i} j w e l h =
    record { long = l; index = h; link = omega (arith, e, w.state.ranged f j, most (sizes_in z)) }
