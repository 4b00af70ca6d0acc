-- What `pop` does: to the bytes, to the memory, and to the list.
use Rattle.std.specs.Prelude.{◌≡◌, refl, Option, Some, None, List, [], ◌∷◌, ℕ, zero, suc, ◌≤◌}
use Rattle.std.proofs.Common.{sym, ap, subst, subst₂, ◌∙◌, arith}
use Rattle.std.specs.Option.{option_and}
use Rattle.machine.specs.Good.{SizesInRange}
use Rattle.layout.specs.Table.{slot}
use Rattle.layout.specs.Memory.{Memory, upd, set_field, set_same}
use Rattle.layout.specs.Writes.{Write, to, stored, state-store}
use Rattle.chain.specs.Links.{walk, Queue, pop_last, pop_links, first_link, rest, queue-pop, queue-none, chain-walk, chain_first}
use Rattle.state.specs.Fields as fields
use Rattle.state.proofs.Ranges.{ranges}
use Rattle.state.specs.Places.{sizes_in, mem_in, cell_in, ReachIn, PutIn}
use Rattle.state.specs.declared.Sizes.{Sizes}
use Rattle.memory.specs.Link.{link}
use Rattle.queue.specs.declared.RunQueue.{RunQueue}
use Rattle.queue.specs.Ends.{Ends, ends, Popped, popped, taken}
use Rattle.queue.specs.List.{StateIn, writes_in, next_in, list_of, Linked, linked-head, linked-tail}

-- The stores that take off the process of the link h.
abbrev pub pop_writes : ℕ → List Write
pop_writes zero = []
pop_writes (suc i) = to fields.next i 0 ∷ []

abbrev pub pop_mem : Memory → ℕ → Memory
pop_mem m h = set_field m fields.next (pop_links (m fields.next) h)

abbrev pub pop_head : Memory → ℕ → ℕ
pop_head m zero = 0
pop_head m (suc i) = m fields.next i

abbrev pub pop_queue : Memory → Ends → Ends
pop_queue m q = record { head = pop_head m q.head; tail = pop_last (pop_head m q.head) q.tail; asleep = q.asleep }

-- The state is in range, and the queue's links are sound.
pub record PopAsks (z : Sizes) (s : List ℕ) (q : Ends) : Type 0 where
  pub sizes : SizesInRange (sizes_in z)
  pub state : StateIn z s
  pub linked : Linked z (mem_in z s) q

-- The state is in range after; the bytes, the queue, the link and the memory; the link names the first of the list, the queue holds the
-- rest, and its links are sound; and the ranges.
pub record PopDone (z : Sizes) (s s' : List ℕ) (q : Ends) (r : Popped) : Type 0 where
  pub state : StateIn z s'
  pub bytes : s' ≡ writes_in z s (pop_writes q.head)
  pub queue : r.queue ≡ pop_queue (mem_in z s) q
  pub taken : r.link ≡ q.head
  pub memory : mem_in z s' ≡ pop_mem (mem_in z s) q.head
  pub first : r.link ≡ first_link (list_of z (mem_in z s) q)
  pub list : list_of z (mem_in z s') r.queue ≡ rest (list_of z (mem_in z s) q)
  pub linked : Linked z (mem_in z s') r.queue
  pub asleep : r.queue.asleep ≡ q.asleep
  pub link : r.link ≤ z.processes
  pub head : r.queue.head ≤ z.processes
  pub tail : r.queue.tail ≤ z.processes

-- By the list that the queue holds.
pop-list
    : {z : Sizes} {s : List ℕ} {q : Ends}
    → PopAsks z s q
    → (xs : List ℕ)
    → list_of z (mem_in z s) q ≡ xs
    → Queue z.processes (mem_in z s fields.next) q.head q.tail xs
    → PopDone z s (writes_in z s (pop_writes q.head)) q (popped q.head (pop_queue (mem_in z s) q))
pop-list {z} {s} {q} a [] e c =
    let h : q.head ≡ 0 = c.chain.links in
    let c' : Queue z.processes (mem_in z s fields.next) 0 0 [] =
    record { chain = record { links = refl; distinct = tt; below = tt }; ends = refl }
    in
    let w : walk z.processes (mem_in z s fields.next) 0 ≡ [] = chain-walk c'.chain in
    let l : Linked z (mem_in z (writes_in z s (pop_writes q.head))) (pop_queue (mem_in z s) q) = record { queue = rw (h, w) c' } in
    record {
      state = rw h a.state;
      bytes = refl;
      queue = refl;
      taken = refl;
      memory = rw h (sym (set_same (mem_in z s) fields.next));
      first = rw e h;
      list = rw (e, h) w;
      linked = l;
      asleep = refl;
      link = chain_first c.chain;
      head = linked-head l;
      tail = linked-tail l;
    }
pop-list {z} {s} {q} a (i ∷ ys) e c =
    let h : q.head ≡ suc i = c.chain.links.0 in
    let s' : List ℕ = writes_in z s (pop_writes (suc i)) in
    let n : ℕ = mem_in z s fields.next i in
    let m : mem_in z s' ≡ upd (mem_in z s) fields.next i 0 =
    stored (ranges (sizes_in z) a.sizes) a.state fields.next i 0 (next_in z i c.chain.below.0) (omega arith)
    in
    let c' : Queue z.processes (mem_in z s' fields.next) n (pop_last n q.tail) ys =
    subst (λ (k : Memory). Queue z.processes (k fields.next) n (pop_last n q.tail) ys) (sym m) (queue-pop c)
    in
    let w : walk z.processes (mem_in z s' fields.next) n ≡ ys = chain-walk c'.chain in
    let l : Linked z (mem_in z (writes_in z s (pop_writes q.head))) (pop_queue (mem_in z s) q) = record { queue = rw (h, w) c' } in
    record {
      state = rw h (state-store (ranges (sizes_in z) a.sizes) a.state fields.next i 0 (next_in z i c.chain.below.0) (omega arith));
      bytes = refl;
      queue = refl;
      taken = refl;
      memory = rw h m;
      first = rw e h;
      list = rw (e, h) w;
      linked = l;
      asleep = refl;
      link = chain_first c.chain;
      head = linked-head l;
      tail = linked-tail l;
    }

pub pop-done
    : {z : Sizes} {s : List ℕ} {q : Ends}
    → PopAsks z s q
    → PopDone z s (writes_in z s (pop_writes q.head)) q (popped q.head (pop_queue (mem_in z s) q))
pop-done {z} {s} {q} a = pop-list a (list_of z (mem_in z s) q) refl a.linked.queue

pop_by
    : {z : Sizes} {s s' : List ℕ} {q : Ends} {r : Popped}
    → PopAsks z s q
    → s' ≡ writes_in z s (pop_writes q.head)
    → r ≡ popped q.head (pop_queue (mem_in z s) q)
    → PopDone z s s' q r
pop_by {z} {s} {s'} {q} {r} a b f = subst₂ (λ (t : List ℕ) (p : Popped). PopDone z s t q p) (sym b) (sym f) (pop-done a)

-- What the read and the store ask.
pub pop-reach : {z : Sizes} {s : List ℕ} (q : RunQueue) {i : ℕ} → PopAsks z s (ends q) → q.head ≡ Some i → ReachIn z s (slot 1 24 2) i
pop-reach {z} {s} q {i} a e =
    let low : link (Some i) ≤ z.processes = rw e at (linked-head a.linked) in
    record {
      inside = record { region = omega arith; end = omega arith };
      index = low;
      long = a.state.long;
    }

-- What the code shows at each return.
pub popped-none
    : {z : Sizes} {s : List ℕ} (q : RunQueue) {r : Option (ℕ × RunQueue)}
    → PopAsks z s (ends q)
    → q.head ≡ None
    → r ≡ None
    → PopDone z s s (ends q) (taken q r)
popped-none {z} {s} q {r} a e d =
    let h : (ends q).head ≡ 0 = rw e in
    let t : (ends q).tail ≡ 0 = (queue-none a.linked.queue h).1 in
    let p : ends q ≡ record { head = 0; tail = 0; asleep = q.asleep } = λ j. record { head = h j; tail = t j; asleep = q.asleep } in
    rw d (pop_by a (rw h) (ap (popped 0) p ∙ rw h))

-- The tail stays where there is a next.
tail-and : (n t : Option ℕ) → link (option_and n t) ≡ pop_last (link n) (link t)
tail-and None t = refl
tail-and (Some i) t = refl

pub popped-some
    : {z : Sizes} {s s' : List ℕ} (q : RunQueue) {i : ℕ} (n : Option ℕ) {t : Option ℕ}
    → PopAsks z s (ends q)
    → q.head ≡ Some i
    → link n ≡ cell_in z s (slot 1 24 2) i
    → PutIn z s s' (slot 1 24 2) i 0
    → t ≡ option_and n q.tail
    → PopDone z s s' (ends q) (popped (suc i) (ends (record { head = n; tail = t; asleep = q.asleep })))
popped-some {z} {s} {s'} q {i} n {t} a e g p d =
    pop_by a (rw e p.bytes) (rw (d, tail-and n q.tail, g, e))
