-- What `push` does: to the bytes, to the memory, and to the list.
use Rattle.std.specs.Prelude.{◌≡◌, refl, Some, None, List, [], ◌∷◌, ◌++◌, ℕ, zero, suc, ◌≤◌, ◌<◌}
use Rattle.std.proofs.Common.{sym, ap, subst, subst₂, ◌∙◌, arith}
use Rattle.machine.specs.Good.{SizesInRange}
use Rattle.layout.specs.Table.{slot}
use Rattle.layout.specs.Memory.{Memory, alter, set_field, set_twice}
use Rattle.layout.specs.Writes.{Write, to, Writable, written, state-writes}
use Rattle.chain.specs.Lists.{Absent}
use Rattle.chain.specs.Links.{walk, Queue, push_links, push_first, queue-push, chain-walk}
use Rattle.state.specs.Fields as fields
use Rattle.state.proofs.Ranges.{ranges}
use Rattle.state.specs.Places.{sizes_in, mem_in, ReachIn, PutIn, wrote-more}
use Rattle.state.specs.declared.Sizes.{Sizes}
use Rattle.state.specs.declared.lent.State.{State as Lent}
use Rattle.state.specs.Lent.{Same}
use Rattle.memory.specs.Link.{link}
use Rattle.queue.specs.declared.RunQueue.{RunQueue}
use Rattle.queue.specs.Ends.{Ends, ends}
use Rattle.queue.specs.List.{StateIn, writes_in, next_in, list_of, Linked, linked-tail, linked-head}

-- The stores that put i behind the tail t.
abbrev pub push_writes : ℕ → ℕ → List Write
push_writes zero i = to fields.next i 0 ∷ []
push_writes (suc t) i = to fields.next i 0 ∷ to fields.next t (suc i) ∷ []

abbrev pub push_mem : Memory → ℕ → ℕ → Memory
push_mem m t i = set_field m fields.next (push_links (m fields.next) t i)

abbrev pub push_queue : Ends → ℕ → Ends
push_queue q i = record { head = push_first q.head q.tail i; tail = suc i; asleep = q.asleep }

-- The state is in range, the queue's links are sound, and i is a record that is not in it.
pub record PushAsks (z : Sizes) (s : List ℕ) (q : Ends) (i : ℕ) : Type 0 where
  pub sizes : SizesInRange (sizes_in z)
  pub state : StateIn z s
  pub linked : Linked z (mem_in z s) q
  pub index : i < z.processes
  pub absent : Absent i (list_of z (mem_in z s) q)

-- The state is in range after; the bytes, the queue and the memory; i is last in the list, and the links are sound; and the ranges.
pub record PushDone (z : Sizes) (s s' : List ℕ) (q : Ends) (i : ℕ) (r : Ends) : Type 0 where
  pub state : StateIn z s'
  pub bytes : s' ≡ writes_in z s (push_writes q.tail i)
  pub queue : r ≡ push_queue q i
  pub memory : mem_in z s' ≡ push_mem (mem_in z s) q.tail i
  pub list : list_of z (mem_in z s') r ≡ list_of z (mem_in z s) q ++ i ∷ []
  pub linked : Linked z (mem_in z s') r
  pub asleep : r.asleep ≡ q.asleep
  pub head : r.head ≤ z.processes
  pub tail : r.tail ≤ z.processes

pub push-writable
    : (z : Sizes) (t i : ℕ)
    → t ≤ z.processes
    → i < z.processes
    → Writable fields.layout1 (fields.most_of (sizes_in z)) (fields.counts (sizes_in z)) (push_writes t i)
push-writable z zero i l h = (next_in z i h, omega arith, tt)
push-writable z (suc t) i l h = (next_in z i h, omega arith, (next_in z t l, h, tt))

push-memory : (z : Sizes) (s : List ℕ) (t i : ℕ) → SizesInRange (sizes_in z) → StateIn z s → t ≤ z.processes → i < z.processes
    → mem_in z (writes_in z s (push_writes t i)) ≡ push_mem (mem_in z s) t i
push-memory z s zero i r a l h = written (ranges (sizes_in z) r) a (push_writes zero i) (push-writable z zero i l h)
push-memory z s (suc t) i r a l h =
    written (ranges (sizes_in z) r) a (push_writes (suc t) i) (push-writable z (suc t) i l h)
    ∙ set_twice (mem_in z s) fields.next (alter (mem_in z s fields.next) i 0) (alter (alter (mem_in z s fields.next) i 0) t (suc i))

pub push-done : {z : Sizes} {s : List ℕ} {q : Ends} {i : ℕ} → PushAsks z s q i → PushDone z s (writes_in z s (push_writes q.tail i)) q i (push_queue q i)
push-done {z} {s} {q} {i} a =
    let m : Memory = mem_in z s in
    let s' : List ℕ = writes_in z s (push_writes q.tail i) in
    let t : q.tail ≤ z.processes = linked-tail a.linked in
    let e : mem_in z s' ≡ push_mem m q.tail i = push-memory z s q.tail i a.sizes a.state t a.index in
    let g : mem_in z s' fields.next ≡ push_links (m fields.next) q.tail i = ap (λ (k : Memory). k fields.next) e in
    let c : Queue z.processes (mem_in z s' fields.next) (push_first q.head q.tail i) (suc i) (list_of z m q ++ i ∷ []) =
    subst (λ (k : ℕ → ℕ). Queue z.processes k (push_first q.head q.tail i) (suc i) (list_of z m q ++ i ∷ [])) (sym g)
    (queue-push i a.index a.absent a.linked.queue)
    in
    let w : walk z.processes (mem_in z s' fields.next) (push_first q.head q.tail i) ≡ list_of z m q ++ i ∷ [] = chain-walk c.chain in
    let l : Linked z (mem_in z s') (push_queue q i) = record { queue = rw w c } in
    record {
      state = state-writes (ranges (sizes_in z) a.sizes) a.state (push_writes q.tail i) (push-writable z q.tail i t a.index);
      bytes = refl;
      queue = refl;
      memory = e;
      list = w;
      linked = l;
      asleep = refl;
      head = linked-head l;
      tail = linked-tail l;
    }

push_by
    : {z : Sizes} {s s' : List ℕ} {q r : Ends} {i : ℕ}
    → PushAsks z s q i
    → s' ≡ writes_in z s (push_writes q.tail i)
    → r ≡ push_queue q i
    → PushDone z s s' q i r
push_by {z} {s} {s'} {q} {r} {i} a b f = subst₂ (λ (t : List ℕ) (p : Ends). PushDone z s t q i p) (sym b) (sym f) (push-done a)

-- What the second store asks.
pub push-reach
    : {s t : Lent} (q : RunQueue) {i l v : ℕ}
    → PushAsks s.sizes s.bytes.now (ends q) i
    → q.tail ≡ Some l
    → Same s t
    → PutIn s.sizes s.bytes.now t.bytes.now (slot 1 24 2) i v
    → ReachIn t.sizes t.bytes.now (slot 1 24 2) l
push-reach {s} {t} q {i} {l} {v} a e k p =
    let low : link (Some l) ≤ s.sizes.processes = rw e at (linked-tail a.linked) in
    rw k.sizes
    (record {
      inside = record { region = omega arith; end = omega arith };
      index = low;
      long = p.long;
    })

-- What the code shows at each return.
pub pushed_none
    : {z : Sizes} {s s' : List ℕ} (q : RunQueue) {i : ℕ}
    → PushAsks z s (ends q) i
    → q.tail ≡ None
    → PutIn z s s' (slot 1 24 2) i 0
    → PushDone z s s' (ends q) i (ends (record { head = Some i; tail = Some i; asleep = q.asleep }))
pushed_none {z} {s} {s'} q {i} a e p = push_by a (rw e p.bytes) (rw e)

pub pushed-some
    : {s t : Lent} (u : Lent) (q : RunQueue) {i l : ℕ}
    → PushAsks s.sizes s.bytes.now (ends q) i
    → q.tail ≡ Some l
    → Same s t
    → PutIn s.sizes s.bytes.now t.bytes.now (slot 1 24 2) i 0
    → PutIn t.sizes t.bytes.now u.bytes.now (slot 1 24 2) l (suc i)
    → PushDone s.sizes s.bytes.now u.bytes.now (ends q) i (ends (record { head = q.head; tail = Some i; asleep = q.asleep }))
pushed-some {s} {t} u q {i} {l} a e k p₁ p₂ =
    push_by a (rw e (wrote-more s.sizes _ p₁.bytes (rw k.sizes at p₂))) (rw e)
