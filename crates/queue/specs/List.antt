-- The list that a queue of processes holds, and when its links are sound.
use Rattle.std.specs.Prelude.{◌≡◌, refl, Bool, true, false, List, [], ℕ, ◌≤◌, ◌<◌}
use Rattle.std.proofs.Common.{ap, ◌∙◌, arith}
use Rattle.layout.specs.Memory.{Memory, In}
use Rattle.layout.specs.Writes.{State, Write, writes}
use Rattle.chain.specs.Links.{walk, Queue, first_link, queue-last, queue-none, chain_first, chain_head, chain-walk}
use Rattle.state.specs.Fields as fields
use Rattle.state.specs.Abs.{run_list, waiter_list}
use Rattle.state.specs.Places.{sizes_in}
use Rattle.state.specs.declared.Sizes.{Sizes}
use Rattle.queue.specs.Ends.{Ends}

-- The bytes hold a whole state in range, and the bytes after stores.
abbrev pub StateIn : Sizes → List ℕ → Type 0
StateIn z s = State fields.layout1 (fields.most_of (sizes_in z)) (fields.counts (sizes_in z)) s

abbrev pub writes_in : Sizes → List ℕ → List Write → List ℕ
writes_in z s ws = writes fields.layout1 (fields.counts (sizes_in z)) s ws

-- Record i has the field `next`.
pub next_in : (z : Sizes) (i : ℕ) → i < z.processes → In fields.layout1 (fields.counts (sizes_in z)) fields.next i
next_in z i h = record { listed = omega arith; index = h }

-- Who is in the queue, first to last.
abbrev pub list_of : Sizes → Memory → Ends → List ℕ
list_of z m q = walk z.processes (m fields.next) q.head

-- At the head that the header names this is the run queue, and at the head that lock k names these are its waiters.
pub list-run : (z : Sizes) (m : Memory) (q : Ends) → q.head ≡ m fields.run_head 0 → list_of z m q ≡ run_list (sizes_in z) m
unfolding run_list
list-run z m q e = rw e

pub list-waiters : (z : Sizes) (m : Memory) (q : Ends) (k : ℕ) → q.head ≡ m fields.lock_head k → list_of z m q ≡ waiter_list (sizes_in z) m k
unfolding waiter_list
list-waiters z m q k e = rw e

-- Its links run from head to tail once.
pub record Linked (z : Sizes) (m : Memory) (q : Ends) : Type 0 where
  pub queue : Queue z.processes (m fields.next) q.head q.tail (list_of z m q)

-- A well-formed state has these queues (`Queues` of state's WellFormed): the run queue, and the waiters of lock k.
pub linked-run
    : (z : Sizes) (m : Memory) (q : Ends)
    → q.head ≡ m fields.run_head 0
    → q.tail ≡ m fields.run_tail 0
    → Queue z.processes (m fields.next) (m fields.run_head 0) (m fields.run_tail 0) (run_list (sizes_in z) m)
    → Linked z m q
unfolding run_list
linked-run z m q h t c = record { queue = rw (h, t) c }

pub linked-waiters
    : (z : Sizes) (m : Memory) (q : Ends) (k : ℕ)
    → q.head ≡ m fields.lock_head k
    → q.tail ≡ m fields.lock_tail k
    → Queue z.processes (m fields.next) (m fields.lock_head k) (m fields.lock_tail k) (waiter_list (sizes_in z) m k)
    → Linked z m q
unfolding waiter_list
linked-waiters z m q k h t c = record { queue = rw (h, t) c }

-- A queue with nobody in it.
pub linked-none : (z : Sizes) (m : Memory) (a : ℕ) → Linked z m (record { head = 0; tail = 0; asleep = a })
linked-none z m a =
    let c : Queue z.processes (m fields.next) 0 0 [] =
    record { chain = record { links = refl; distinct = tt; below = tt }; ends = refl }
    in
    let w : walk z.processes (m fields.next) 0 ≡ [] = chain-walk c.chain in
    record { queue = rw w c }

pub linked-tail : {z : Sizes} {m : Memory} {q : Ends} → Linked z m q → q.tail ≤ z.processes
linked-tail l = queue-last l.queue

pub linked-head : {z : Sizes} {m : Memory} {q : Ends} → Linked z m q → q.head ≤ z.processes
linked-head l = chain_first l.queue.chain

-- What `is_empty` decides: whether there is a first. It is whether the list is empty.
abbrev pub IsEmpty : Bool → Ends → Type 0
IsEmpty true q = q.head ≡ 0
IsEmpty false q = q.head ≡ 0 → ⊥

pub empty-list : {z : Sizes} {m : Memory} {q : Ends} → Linked z m q → IsEmpty true q → list_of z m q ≡ []
empty-list l e = (queue-none l.queue e).0

pub filled-list : {z : Sizes} {m : Memory} {q : Ends} → Linked z m q → IsEmpty false q → list_of z m q ≡ [] → ⊥
filled-list l ne e = ne (chain_head l.queue.chain ∙ ap first_link e)
