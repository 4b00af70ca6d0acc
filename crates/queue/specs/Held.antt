-- A queue whose first and last stand in the fields a and b of record i.
use Rattle.std.specs.Prelude.{◌≡◌, List, ℕ, ◌≤◌, length}
use Rattle.layout.specs.Table.{Slot, slot}
use Rattle.layout.specs.Memory.{write}
use Rattle.state.specs.Fields as fields
use Rattle.state.specs.Places.{sizes_in, total_in, cell_in, ReachIn, PutIn, wrote-more}
use Rattle.state.specs.Lent.{Same}
use Rattle.state.specs.declared.Sizes.{Sizes}
use Rattle.state.specs.declared.lent.State.{State as Lent}
use Rattle.queue.specs.Ends.{Ends}

-- The fields lie within the bytes.
pub record HeldAsks (z : Sizes) (s : List ℕ) (a b : Slot) (i : ℕ) : Type 0 where
  pub head : ReachIn z s a i
  pub tail : ReachIn z s b i

-- The queue is what they hold, and the count of those asleep.
pub record Held (z : Sizes) (s : List ℕ) (a b : Slot) (i : ℕ) (q : Ends) : Type 0 where
  pub head : q.head ≡ cell_in z s a i
  pub tail : q.tail ≡ cell_in z s b i
  pub asleep : q.asleep ≡ cell_in z s (slot 0 32 2) 0

-- The bytes after its first and its last were stored.
pub record HeldStored (z : Sizes) (s s' : List ℕ) (a b : Slot) (i : ℕ) (q : Ends) : Type 0 where
  pub bytes : s' ≡ write fields.layout1 (fields.counts (sizes_in z)) (write fields.layout1 (fields.counts (sizes_in z)) s a i q.head) b i q.tail
  pub long : total_in z ≤ length s'

-- What the second store asks.
pub held-reach
    : {s t : Lent} {a b : Slot} {i v : ℕ}
    → HeldAsks s.sizes s.bytes.now a b i
    → Same s t
    → PutIn s.sizes s.bytes.now t.bytes.now a i v
    → ReachIn t.sizes t.bytes.now b i
held-reach {s} {t} {a} {b} {i} {v} h k p = rw k.sizes (record { inside = h.tail.inside; index = h.tail.index; long = p.long })

-- What the code shows.
pub held-stored
    : {s t : Lent} (u : Lent) {a b : Slot} {i : ℕ} {q : Ends}
    → Same s t
    → PutIn s.sizes s.bytes.now t.bytes.now a i q.head
    → PutIn t.sizes t.bytes.now u.bytes.now b i q.tail
    → HeldStored s.sizes s.bytes.now u.bytes.now a b i q
held-stored {s} {t} u k p₁ p₂ =
    let p : PutIn s.sizes t.bytes.now u.bytes.now _ _ _ = rw k.sizes at p₂ in
    record { bytes = wrote-more s.sizes _ p₁.bytes p; long = p.long }
