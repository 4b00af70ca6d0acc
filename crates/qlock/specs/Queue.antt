-- The queue of a lock: what `enqueue` and `dequeue` ask and ensure.
use Rattle.std.specs.Prelude.{◌≡◌, refl, List, [], ◌∷◌, ◌++◌, ℕ, zero, suc, ◌-◌, ◌≤◌, ◌<◌, length}
use Rattle.std.proofs.Common.{sym, ap, ap₂, subst, ◌∙◌, arith, lit<}
use Rattle.machine.specs.Machine.{Machine, Lock, lock}
use Rattle.machine.specs.Update.{with_lock}
use Rattle.layout.specs.Table.{slot}
use Rattle.layout.specs.Memory.{Memory, alter, set_twice}
use Rattle.layout.specs.Writes.{Write, to, updates}
use Rattle.chain.specs.Links.{push_first, pop_last, first_link}
use Rattle.state.specs.Fields as fields
use Rattle.state.specs.Abs.{waiter_list}
use Rattle.state.specs.Places.{sizes_in, mem_in, total_in, PutIn, Wrote, wrote_join}
use Rattle.state.specs.declared.Sizes.{Sizes}
use Rattle.exact.specs.Bounds.{InBounds, inside, at_most}
use Rattle.exact.specs.Parts.{lock_of}
use Rattle.queue.specs.Ends.{Ends, Popped}
use Rattle.queue.specs.Held.{HeldAsks, Held, HeldStored}
use Rattle.queue.specs.Field.{PushAtAsks, PushedAt, PopAtAsks, PoppedAt}
use Rattle.queue.specs.List.{Linked, linked-waiters, list-waiters, empty-list}
use Rattle.queue.specs.Push.{push_writes, push-writable, PushAsks, PushDone}
use Rattle.queue.specs.Pop.{pop_writes, pop_head, PopAsks, PopDone}
use Rattle.holds.specs.Holds.{Holds}
use Rattle.holds.specs.Whole.{holds-bounds}
use Rattle.holds.specs.Use.{used_by, EachInUse, before, in_use-runs, same_use}
use Rattle.holds.specs.Did.{Did, did, did_join, did_as, machine_in, same, more, WritableIn, writes_in, wrote_1, writable_join}
use Rattle.places.specs.Nowhere.{Nowhere}
use Rattle.places.specs.Others.{others, keeps_with}
use Rattle.places.specs.Machines.{lock_with}
use Rattle.places.specs.Own.{asleep_mem, asleep-nowhere}
use Rattle.places.specs.Stores.{lock-last-used, push-in_use}
use Rattle.places.specs.Lock.{CallsLock, enqueue_mem, enqueue-machine, enqueue-placed, dequeue_mem, dequeue-machine, dequeue-placed, dequeue-nowhere}
use Rattle.dat.specs.Asleep.{asleep_in, MoreAsks, More}

-- Lock q lies within the bytes.
pub record LockLong (z : Sizes) (s : List ℕ) (q : ℕ) : Type 0 where
  pub index : q < z.locks
  pub long : total_in z ≤ length s

-- Its waiters as the lock holds them.
pub record LockLoaded (z : Sizes) (s : List ℕ) (q : ℕ) (r : Ends) : Type 0 where
  pub head : r.head ≡ mem_in z s fields.lock_head q
  pub tail : r.tail ≡ mem_in z s fields.lock_tail q

abbrev pub lock_stores : ℕ → Ends → List Write
lock_stores q r = to fields.lock_head q r.head ∷ to fields.lock_tail q r.tail ∷ []

-- What `queue::Fields` loads and stores at the lock's fields.
pub lock-loaded : {z : Sizes} {s : List ℕ} {q : ℕ} {r : Ends} → Held z s (slot 4 2 2) (slot 4 4 2) q r → LockLoaded z s q r
lock-loaded h = record { head = h.head; tail = h.tail }

pub lock-stored : {z : Sizes} {s s' : List ℕ} {q : ℕ} {r : Ends} → HeldStored z s s' (slot 4 2 2) (slot 4 4 2) q r → Wrote z s s' (lock_stores q r)
lock-stored h = record { bytes = h.bytes; long = h.long }

-- The lock's fields lie within the bytes.
waiters-held : {z : Sizes} {s : List ℕ} {q : ℕ} → LockLong z s q → HeldAsks z s (slot 4 2 2) (slot 4 4 2) q
waiters-held l =
    record {
      head = record { inside = record { region = lit< tt; end = lit< tt }; index = l.index; long = l.long };
      tail = record { inside = record { region = lit< tt; end = lit< tt }; index = l.index; long = l.long };
    }

linked : {z : Sizes} {s : List ℕ} {n : ℕ} (q : ℕ) {r : Ends} → Holds z s n → LockLoaded z s q r → Linked z (mem_in z s) r
linked {z} {s} {n} q {r} h l = linked-waiters z (mem_in z s) r q l.head l.tail (h.keeps.placed.locks q)

-- i, whose call is a `qlock` of q, is queued there last.
pub record EnqueueAsks (z : Sizes) (s : List ℕ) (q i : ℕ) : Type 0 where
  pub owed : ℕ
  pub holds : Holds z s owed
  pub nowhere : Nowhere (sizes_in z) (mem_in z s) i
  pub call : CallsLock (mem_in z s) q i
  pub index : q < z.locks
  pub room : asleep_in (mem_in z s) < 65535

-- The stores to the queue, and to the count before.
abbrev pub last_stores : Memory → ℕ → ℕ → List Write
last_stores m q i =
    push_writes (m fields.lock_tail q) i
    ++ to fields.lock_head q (push_first (m fields.lock_head q) (m fields.lock_tail q) i)
    ∷ to fields.lock_tail q (suc i)
    ∷ to fields.state_of i 3
    ∷ []

abbrev pub enqueue_stores : Memory → ℕ → ℕ → List Write
enqueue_stores m q i = to fields.asleep_count 0 (suc (asleep_in m)) ∷ last_stores m q i

abbrev pub enqueued_mem : Memory → ℕ → ℕ → Memory
enqueued_mem m q i = enqueue_mem (asleep_mem m (suc (asleep_in m))) q i

pub record Enqueued (z : Sizes) (s s' : List ℕ) (q i : ℕ) : Type 0 where
  pub did
      : Did z s s' same same (enqueue_stores (mem_in z s) q i) (enqueued_mem (mem_in z s) q i)
      (with_lock q (record { held = (lock (machine_in z s) q).held; waiters = (lock (machine_in z s) q).waiters ++ i ∷ [] }) (machine_in z s))

pub enqueue-more : {z : Sizes} {s : List ℕ} {q i : ℕ} → EnqueueAsks z s q i → MoreAsks z s
enqueue-more a = record { owed = a.owed; holds = a.holds; room = a.room }

pub enqueue-low : {z : Sizes} {s : List ℕ} {q i : ℕ} → EnqueueAsks z s q i → i < z.processes
enqueue-low {i = i} a = inside (holds-bounds a.holds) fields.pid i a.nowhere.used

pub enqueue-long : {z : Sizes} {s s₁ : List ℕ} {q i : ℕ} → EnqueueAsks z s q i → More z s s₁ → LockLong z s₁ q
enqueue-long a o = record { index = a.index; long = (o.did.holds a.owed a.holds).state.long }

-- What holds once the count is raised.
record Ready (z : Sizes) (s s₁ : List ℕ) (q i : ℕ) : Type 0 where
  owed : ℕ
  holds : Holds z s₁ (suc owed)
  nowhere : Nowhere (sizes_in z) (mem_in z s₁) i
  call : CallsLock (mem_in z s₁) q i
  memory : mem_in z s₁ ≡ asleep_mem (mem_in z s) (suc (asleep_in (mem_in z s)))

counted : {z : Sizes} {s s₁ : List ℕ} {q i : ℕ} → EnqueueAsks z s q i → More z s s₁ → Ready z s s₁ q i
counted {z} {s} {s₁} {q} {i} a o =
    let m : Memory = mem_in z s in
    let e : mem_in z s₁ ≡ asleep_mem m (suc (asleep_in m)) = o.did.memory in
    record {
      owed = a.owed;
      holds = o.did.holds a.owed a.holds;
      nowhere = subst (λ (k : Memory). Nowhere (sizes_in z) k i) (sym e) (asleep-nowhere (suc (asleep_in m)) a.nowhere);
      call = subst (λ (k : Memory). CallsLock k q i) (sym e) (record { kind = a.call.kind; object = a.call.object });
      memory = e;
    }

pub enqueue-push
    : {z : Sizes} {s s₁ : List ℕ} {q i : ℕ} {r : Ends}
    → EnqueueAsks z s q i
    → More z s s₁
    → LockLoaded z s₁ q r
    → PushAsks z s₁ r i
enqueue-push {z} {s} {s₁} {q} {i} {r} a o l =
    let c : Ready z s s₁ q i = counted a o in
    record {
      sizes = a.holds.sizes;
      state = c.holds.state;
      linked = linked q c.holds l;
      index = enqueue-low a;
      absent = rw (list-waiters z (mem_in z s₁) r q l.head) (c.nowhere.locks q);
    }

pub enqueue-push-at
    : {z : Sizes} {s s₁ : List ℕ} {q i : ℕ} → EnqueueAsks z s q i → More z s s₁ → PushAtAsks z s₁ (slot 4 2 2) (slot 4 4 2) q i
enqueue-push-at a o = record { held = waiters-held (enqueue-long a o); asks = λ h. enqueue-push a o (lock-loaded h) }

first-low : (n h t i : ℕ) → h ≤ n → i < n → push_first h t i ≤ n
first-low n h zero i a b = b
first-low n h (suc t) i a b = a

last-updates : (m : Memory) (q t i : ℕ) → m fields.lock_tail q ≡ t → updates m (last_stores m q i) ≡ enqueue_mem m q i
last-updates m q zero i e = rw e
last-updates m q (suc t) i e =
    rw e
    (ap
    (λ (k : Memory). updates k (to fields.lock_head q (push_first (m fields.lock_head q) (suc t) i) ∷ to fields.lock_tail q (suc i) ∷ to fields.state_of i 3 ∷ []))
    (set_twice m fields.next (alter (m fields.next) i 0) (alter (alter (m fields.next) i 0) t (suc i))))

-- What its stores come to.
pub enqueued
    : {z : Sizes} {s s₁ s₂ s₃ s₄ : List ℕ} {q i : ℕ} {r t : Ends}
    → EnqueueAsks z s q i
    → More z s s₁
    → LockLoaded z s₁ q r
    → PushDone z s₁ s₂ r i t
    → Wrote z s₂ s₃ (lock_stores q t)
    → PutIn z s₃ s₄ (slot 1 37 1) i 3
    → Enqueued z s s₄ q i
unfolding used_by
enqueued {z} {s} {s₁} {s₂} {s₃} {s₄} {q} {i} {r} {t} a o l d w p =
    let m : Memory = mem_in z s₁ in
    let c : Ready z s s₁ q i = counted a o in
    let b : InBounds (sizes_in z) m = holds-bounds c.holds in
    let low : i < z.processes = enqueue-low a in
    let v : Lock = lock_with (m fields.held q) (waiter_list (sizes_in z) m q ++ i ∷ []) in
    let first : Wrote z s₁ s₂ (push_writes r.tail i) = record { bytes = d.bytes; long = d.state.long } in
    let all : Wrote z s₁ s₄ (push_writes r.tail i ++ to fields.lock_head q t.head ∷ to fields.lock_tail q t.tail ∷ to fields.state_of i 3 ∷ []) =
    wrote_join z (push_writes r.tail i) (to fields.lock_head q t.head ∷ to fields.lock_tail q t.tail ∷ to fields.state_of i 3 ∷ []) first
    (wrote_join z (lock_stores q t) (to fields.state_of i 3 ∷ []) w (wrote_1 p))
    in
    let h : t.head ≡ push_first (m fields.lock_head q) (m fields.lock_tail q) i =
    ap (λ (x : Ends). x.head) d.queue ∙ ap₂ (λ (x y : ℕ). push_first x y i) l.head l.tail
    in
    let u : t.tail ≡ suc i = ap (λ (x : Ends). x.tail) d.queue in
    let ok : WritableIn z (last_stores m q i) =
    writable_join z (push_writes (m fields.lock_tail q) i)
    (to fields.lock_head q (push_first (m fields.lock_head q) (m fields.lock_tail q) i) ∷ to fields.lock_tail q (suc i) ∷ to fields.state_of i 3 ∷ [])
    (push-writable z (m fields.lock_tail q) i (at_most b fields.lock_tail q) low) (
      record { listed = omega arith; index = a.index },
      first-low z.processes (m fields.lock_head q) (m fields.lock_tail q) i (at_most b fields.lock_head q) low,
      (record { listed = omega arith; index = a.index }, low, (record { listed = omega arith; index = low }, omega arith, tt)),
    )
    in
    let g : Did z s₁ s₄ more same (last_stores m q i) (enqueue_mem m q i) (with_lock q v (machine_in z s₁)) =
    did (last_stores m q i) (enqueue_mem m q i) (with_lock q v (machine_in z s₁)) c.holds
    (rw (l.tail, h, u) at all.bytes) ok
    (last-updates m q (m fields.lock_tail q) i refl)
    (λ n k. keeps_with (others k) (enqueue-placed b k.placed c.nowhere c.call low a.index))
    (enqueue-machine b c.holds.keeps.placed c.nowhere c.call low a.index)
    (in_use-runs (push-in_use (m fields.lock_tail q) i c.nowhere.used (lock-last-used c.holds.keeps.placed q))
    (EachInUse.more (before (omega arith)) (EachInUse.more (before (omega arith)) (EachInUse.more (before c.nowhere.used) EachInUse.none))))
    in
    let locked : v ≡ record { held = (lock (machine_in z s) q).held; waiters = (lock (machine_in z s) q).waiters ++ i ∷ [] } =
    ap (λ (x : Lock). record { held = x.held; waiters = x.waiters ++ i ∷ [] }) (sym (lock_of b q) ∙ ap (λ (x : Machine). lock x q) o.did.machine)
    in
    record {
      did =
          did_as (did_join o.did g (same_use refl refl refl refl refl refl refl refl refl))
          (ap (λ (k : Memory). to fields.asleep_count 0 (suc (asleep_in (mem_in z s))) ∷ last_stores k q i) c.memory)
          (ap (λ (k : Memory). enqueue_mem k q i) c.memory)
          (ap₂ (λ (x : Lock) (y : Machine). with_lock q x y) locked o.did.machine);
    }

-- What the code of `enqueue` shows.
pub enqueued-at
    : {z : Sizes} {s s₁ s₂ s₃ : List ℕ} {q i : ℕ}
    → EnqueueAsks z s q i
    → More z s s₁
    → PushedAt z s₁ s₂ (slot 4 2 2) (slot 4 4 2) q i
    → PutIn z s₂ s₃ (slot 1 37 1) i 3
    → Enqueued z s s₃ q i
enqueued-at a o d p = enqueued a o (lock-loaded d.held) d.pushed (lock-stored d.stored) p

-- `dequeue`: the first waiter is taken off.
pub record LockAsks (z : Sizes) (s : List ℕ) (q : ℕ) : Type 0 where
  pub owed : ℕ
  pub holds : Holds z s owed
  pub index : q < z.locks

abbrev pub dequeue_stores : Memory → ℕ → ℕ → List Write
dequeue_stores m q i =
    to fields.next i 0
    ∷ to fields.lock_head q (m fields.next i)
    ∷ to fields.lock_tail q (pop_last (m fields.next i) (m fields.lock_tail q))
    ∷ []

pub record DequeuedOne (z : Sizes) (s s' : List ℕ) (q i : ℕ) : Type 0 where
  pub rest : List ℕ
  pub split : waiter_list (sizes_in z) (mem_in z s) q ≡ i ∷ rest
  pub did
      : Did z s s' same more (dequeue_stores (mem_in z s) q i) (dequeue_mem (mem_in z s) q i)
      (with_lock q (lock_with (mem_in z s fields.held q) rest) (machine_in z s))
  pub nowhere : Nowhere (sizes_in z) (mem_in z s') i

-- The link l names the first waiter; it is 0 where there is none, and then nothing is stored.
pub record Dequeued (z : Sizes) (s s' : List ℕ) (q l : ℕ) : Type 0 where
  pub nobody : l ≡ 0 → (waiter_list (sizes_in z) (mem_in z s) q ≡ []) × (s' ≡ s)
  pub somebody : (l ≡ 0 → ⊥) → DequeuedOne z s s' q (l - 1)
  pub range : l ≤ z.processes
  pub long : total_in z ≤ length s'

pub dequeue-long : {z : Sizes} {s : List ℕ} {q : ℕ} → LockAsks z s q → LockLong z s q
dequeue-long a = record { index = a.index; long = a.holds.state.long }

pub dequeue-pop : {z : Sizes} {s : List ℕ} {q : ℕ} {r : Ends} → LockAsks z s q → LockLoaded z s q r → PopAsks z s r
dequeue-pop {q = q} a l = record { sizes = a.holds.sizes; state = a.holds.state; linked = linked q a.holds l }

pub dequeue-store : {z : Sizes} {s s₁ : List ℕ} {q : ℕ} {r : Ends} {t : Popped} → LockAsks z s q → PopDone z s s₁ r t → LockLong z s₁ q
dequeue-store a d = record { index = a.index; long = d.state.long }

pub dequeued_none : {z : Sizes} {s s₁ : List ℕ} {q : ℕ} {r : Ends} {t : Popped} → LockAsks z s q → LockLoaded z s q r → PopDone z s s₁ r t → t.link ≡ 0 → Dequeued z s s₁ q 0
dequeued_none {z} {s} {s₁} {q} {r} {t} a l d e =
    record {
      nobody = λ _. (
        sym (list-waiters z (mem_in z s) r q l.head) ∙ empty-list (linked q a.holds l) (sym d.taken ∙ e),
        d.bytes ∙ ap (λ (h : ℕ). writes_in z s (pop_writes h)) (sym d.taken ∙ e),
      );
      somebody = λ ne. absurd (ne refl);
      range = omega arith;
      long = d.state.long;
    }

pub dequeued_one
    : {z : Sizes} {s s₁ s₂ : List ℕ} {q : ℕ} {r : Ends} {t : Popped}
    → LockAsks z s q
    → LockLoaded z s q r
    → PopDone z s s₁ r t
    → (t.link ≡ 0 → ⊥)
    → Wrote z s₁ s₂ (lock_stores q t.queue)
    → Dequeued z s s₂ q t.link
unfolding used_by
dequeued_one {z} {s} {s₁} {s₂} {q} {r} {t} a l d ne w =
    record { nobody = λ e. absurd (ne e); somebody = λ _. go (waiter_list (sizes_in z) m q) refl; range = d.link; long = w.long }
  where
    m : Memory
    m = mem_in z s

    go : (xs : List ℕ) → waiter_list (sizes_in z) m q ≡ xs → DequeuedOne z s s₂ q (t.link - 1)
    go [] e = absurd (ne (d.first ∙ ap first_link (list-waiters z m r q l.head ∙ e)))
    go (i ∷ xs) e = subst (DequeuedOne z s s₂ q) (omega (arith, link)) one
      where
        link : t.link ≡ suc i
        link = d.first ∙ ap first_link (list-waiters z m r q l.head ∙ e)

        head : r.head ≡ suc i
        head = sym d.taken ∙ link

        low : i < z.processes
        low = omega (arith, link, d.link)

        first : Wrote z s s₁ (to fields.next i 0 ∷ [])
        first = record { bytes = d.bytes ∙ ap (λ (h : ℕ). writes_in z s (pop_writes h)) head; long = d.state.long }

        new_head : t.queue.head ≡ m fields.next i
        new_head = ap (λ (x : Ends). x.head) d.queue ∙ ap (λ (h : ℕ). pop_head m h) head

        new_tail : t.queue.tail ≡ pop_last (m fields.next i) (m fields.lock_tail q)
        new_tail = ap (λ (x : Ends). x.tail) d.queue ∙ ap₂ (λ (h y : ℕ). pop_last (pop_head m h) y) head l.tail

        all : Wrote z s s₂ (to fields.next i 0 ∷ lock_stores q t.queue)
        all = wrote_join z (to fields.next i 0 ∷ []) (lock_stores q t.queue) first w

        b : InBounds (sizes_in z) m
        b = holds-bounds a.holds

        last-low : (n y : ℕ) → y ≤ z.processes → pop_last n y ≤ z.processes
        last-low zero y h = omega arith
        last-low (suc n) y h = h

        ok : WritableIn z (dequeue_stores m q i)
        ok = (
          record { listed = omega arith; index = low },
          omega arith,
          (
            record { listed = omega arith; index = a.index },
            at_most b fields.next i,
            (record { listed = omega arith; index = a.index }, last-low (m fields.next i) (m fields.lock_tail q) (at_most b fields.lock_tail q), tt),
          ),
        )

        done : Did z s s₂ same more (dequeue_stores m q i) (dequeue_mem m q i) (with_lock q (lock_with (m fields.held q) xs) (machine_in z s))
        done =
            did (dequeue_stores m q i) (dequeue_mem m q i) (with_lock q (lock_with (m fields.held q) xs) (machine_in z s)) a.holds
            (rw (new_head, new_tail) at all.bytes) ok refl
            (λ n k. keeps_with (others k) (dequeue-placed b k.placed q xs e))
            (dequeue-machine b a.holds.keeps.placed q xs e)
            (EachInUse.more (before (dequeue-nowhere b a.holds.keeps.placed q xs e).used) (EachInUse.more (before (omega arith)) (EachInUse.more (before (omega arith)) EachInUse.none)))

        one : DequeuedOne z s s₂ q i
        one =
            record {
              rest = xs;
              split = e;
              did = done;
              nowhere =
                  subst (λ (k : Memory). Nowhere (sizes_in z) k i) (sym done.memory) (dequeue-nowhere b a.holds.keeps.placed q xs e);
            }

pub dequeue-pop-at : {z : Sizes} {s : List ℕ} {q : ℕ} → LockAsks z s q → PopAtAsks z s (slot 4 2 2) (slot 4 4 2) q
dequeue-pop-at a = record { held = waiters-held (dequeue-long a); asks = λ h. dequeue-pop a (lock-loaded h) }

pub dequeued-at : {z : Sizes} {s s' : List ℕ} {q l : ℕ} → LockAsks z s q → PoppedAt z s s' (slot 4 2 2) (slot 4 4 2) q l → Dequeued z s s' q l
dequeued-at {z} {s} {s'} {q} {l = zero} a p =
    subst (λ (t : List ℕ). Dequeued z s t q 0) (sym (p.none refl)) (dequeued_none a (lock-loaded p.held) p.popped refl)
dequeued-at {z} {s} {s'} {q} {l = suc k} a p =
    dequeued_one a (lock-loaded p.held) p.popped (λ e. absurd (omega (arith, e))) (lock-stored (p.one (λ e. absurd (omega (arith, e)))))
