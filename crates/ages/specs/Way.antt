-- One way through the living by its two slots: a links a record to the next, and b of the header links to the first.
use Rattle.std.specs.Prelude.{◌≡◌, Option, Some, None, List, ℕ, zero, suc, ◌≤◌, ◌<◌, length}
use Rattle.std.proofs.Common.{arith}
use Rattle.memory.specs.Link.{link}
use Rattle.layout.specs.Table.{Slot, slot, field}
use Rattle.layout.specs.Memory.{write}
use Rattle.state.specs.Fields as fields
use Rattle.state.specs.Lent.{Same}
use Rattle.state.specs.Places.{sizes_in, total_in, ReachIn, PutIn, Wrote, wrote-more}
use Rattle.state.specs.declared.Sizes.{Sizes}
use Rattle.state.specs.declared.lent.State.{State as Lent}
use Rattle.ages.specs.Ties.{tie_stores, TieAsks}

-- The slots lie within the bytes, of record i and of the one that `at` leads to.
pub record WayAsks (z : Sizes) (s : List ℕ) (a b : Slot) (at : Option ℕ) (i : ℕ) : Type 0 where
  pub own : ReachIn z s a i
  pub first : ReachIn z s b 0
  pub before : (j : ℕ) → at ≡ Some j → ReachIn z s a j

-- The bytes after the link of record i was cleared, and the one of `at` was tied to v.
abbrev pub tied_bytes : Sizes → List ℕ → Slot → Slot → ℕ → ℕ → ℕ → List ℕ
tied_bytes z s a b zero v i = write fields.layout1 (fields.counts (sizes_in z)) (write fields.layout1 (fields.counts (sizes_in z)) s a i 0) b 0 v
tied_bytes z s a b (suc j) v i = write fields.layout1 (fields.counts (sizes_in z)) (write fields.layout1 (fields.counts (sizes_in z)) s a i 0) a j v

pub record Tied (z : Sizes) (s s' : List ℕ) (a b : Slot) (at v i : ℕ) : Type 0 where
  pub bytes : s' ≡ tied_bytes z s a b at v i
  pub long : total_in z ≤ length s'

-- What the second store asks.
pub way-first
    : {s t : Lent} {a b : Slot} {at : Option ℕ} {i v : ℕ}
    → WayAsks s.sizes s.bytes.now a b at i
    → Same s t
    → PutIn s.sizes s.bytes.now t.bytes.now a i v
    → ReachIn t.sizes t.bytes.now b 0
way-first w k p = rw k.sizes (record { inside = w.first.inside; index = w.first.index; long = p.long })

pub way-before
    : {s t : Lent} {a b : Slot} {at : Option ℕ} {i j v : ℕ}
    → WayAsks s.sizes s.bytes.now a b at i
    → at ≡ Some j
    → Same s t
    → PutIn s.sizes s.bytes.now t.bytes.now a i v
    → ReachIn t.sizes t.bytes.now a j
way-before {j = j} w e k p =
    let r = w.before j e in
    rw k.sizes (record { inside = r.inside; index = r.index; long = p.long })

-- What the code shows at each return.
pub tied-first
    : {s t : Lent} (u : Lent) {a b : Slot} {at : Option ℕ} {v i : ℕ}
    → at ≡ None
    → Same s t
    → PutIn s.sizes s.bytes.now t.bytes.now a i 0
    → PutIn t.sizes t.bytes.now u.bytes.now b 0 v
    → Tied s.sizes s.bytes.now u.bytes.now a b (link at) v i
tied-first {s} {t} u {a} {b} {at} {v} {i} e k p₁ p₂ =
    let p : PutIn s.sizes t.bytes.now u.bytes.now b 0 v = rw k.sizes at p₂ in
    rw e (record { bytes = wrote-more s.sizes _ p₁.bytes p; long = p.long })

pub tied-before
    : {s t : Lent} (u : Lent) {a b : Slot} {at : Option ℕ} {v i j : ℕ}
    → at ≡ Some j
    → Same s t
    → PutIn s.sizes s.bytes.now t.bytes.now a i 0
    → PutIn t.sizes t.bytes.now u.bytes.now a j v
    → Tied s.sizes s.bytes.now u.bytes.now a b (link at) v i
tied-before {s} {t} u {a} {b} {at} {v} {i} {j} e k p₁ p₂ =
    let p : PutIn s.sizes t.bytes.now u.bytes.now a j v = rw k.sizes at p₂ in
    rw e (record { bytes = wrote-more s.sizes _ p₁.bytes p; long = p.long })

-- By the numbers of the fields f and e of the two slots.
pub tied-wrote
    : (f e : ℕ) {z : Sizes} {s s' : List ℕ} {at v i : ℕ}
    → Tied z s s' (field fields.layout1 f) (field fields.layout1 e) at v i
    → Wrote z s s' (tie_stores f e at v i)
tied-wrote f e {at = zero} t = record { bytes = t.bytes; long = t.long }
tied-wrote f e {at = suc j} t = record { bytes = t.bytes; long = t.long }

-- What the ways to the younger and to the older ask.
reaches : (z : Sizes) {s : List ℕ} {j : ℕ} (k : ℕ) → k ≤ 46 → total_in z ≤ length s → j < z.processes → ReachIn z s (slot 1 k 2) j
reaches z k small l h = record { inside = record { region = omega arith; end = omega arith }; index = h; long = l }

ends : (z : Sizes) {s : List ℕ} (k : ℕ) → k ≤ 78 → total_in z ≤ length s → ReachIn z s (slot 0 k 2) 0
ends z k small l = record { inside = record { region = omega arith; end = omega arith }; index = omega arith; long = l }

linked : {at : Option ℕ} {j n : ℕ} → link at ≤ n → at ≡ Some j → j < n
linked {at} {j} {n} l e = let m : link (Some j) ≤ n = rw e at l in m

way-asks
    : {z : Sizes} {s : List ℕ} {at : Option ℕ} {i : ℕ} (k l : ℕ)
    → k ≤ 46
    → l ≤ 78
    → TieAsks z s (link at) i
    → WayAsks z s (slot 1 k 2) (slot 0 l 2) at i
way-asks {z} k l small less a =
    record { own = reaches z k small a.long a.index; first = ends z l less a.long; before = λ j e. reaches z k small a.long (linked a.link e) }

pub to_younger : {z : Sizes} {s : List ℕ} {at : Option ℕ} {i : ℕ} → TieAsks z s (link at) i → WayAsks z s (slot 1 28 2) (slot 0 36 2) at i
to_younger a = way-asks 28 36 (omega arith) (omega arith) a

pub to_older : {z : Sizes} {s : List ℕ} {at : Option ℕ} {i : ℕ} → TieAsks z s (link at) i → WayAsks z s (slot 1 26 2) (slot 0 38 2) at i
to_older a = way-asks 26 38 (omega arith) (omega arith) a
