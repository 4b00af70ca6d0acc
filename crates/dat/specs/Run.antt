-- The run queue: what `ready` and `next_ready` ask and ensure.
use Rattle.std.specs.Prelude.{◌≡◌, refl, List, [], ◌∷◌, ◌++◌, ℕ, zero, suc, ◌-◌, ◌≤◌, ◌<◌}
use Rattle.std.proofs.Common.{sym, ap, ap₂, subst, ◌∙◌, arith, lit<}
use Rattle.machine.specs.Update.{with_run}
use Rattle.machine.specs.Places.{ready}
use Rattle.layout.specs.Table.{slot}
use Rattle.layout.specs.Memory.{Memory, alter, set_twice}
use Rattle.layout.specs.Writes.{Write, to, updates}
use Rattle.chain.specs.Links.{push_first, pop_last, first_link}
use Rattle.state.specs.Fields as fields
use Rattle.state.specs.Abs.{run_list}
use Rattle.state.specs.Places.{sizes_in, mem_in, PutIn, Wrote, wrote_join}
use Rattle.state.specs.declared.Sizes.{Sizes}
use Rattle.rules.specs.Code.{Long}
use Rattle.exact.specs.Bounds.{InBounds, inside, at_most}
use Rattle.queue.specs.Ends.{Ends, Popped}
use Rattle.queue.specs.Held.{HeldAsks, Held, HeldStored}
use Rattle.queue.specs.Field.{PushAtAsks, PushedAt, PopAtAsks, PoppedAt}
use Rattle.queue.specs.List.{Linked, linked-run, list-run, empty-list}
use Rattle.queue.specs.Push.{push_writes, push-writable, PushAsks, PushDone}
use Rattle.queue.specs.Pop.{pop_writes, pop_head, PopAsks, PopDone}
use Rattle.holds.specs.Holds.{Holds}
use Rattle.holds.specs.Whole.{holds-bounds}
use Rattle.holds.specs.Use.{used_by, EachInUse, before, in_use-runs}
use Rattle.holds.specs.Did.{Did, did, machine_in, same, WritableIn, writes_in, wrote_1, writable_join}
use Rattle.places.specs.Nowhere.{Nowhere}
use Rattle.places.specs.Others.{others, keeps_with}
use Rattle.places.specs.Stores.{run-last-used, push-in_use}
use Rattle.places.specs.Run.{ready_mem, ready-machine, ready-placed, next_mem, next-machine, next-placed, next-nowhere}

-- The queue as the header holds it.
pub record RunLoaded (z : Sizes) (s : List ℕ) (q : Ends) : Type 0 where
  pub head : q.head ≡ mem_in z s fields.run_head 0
  pub tail : q.tail ≡ mem_in z s fields.run_tail 0
  pub asleep : q.asleep ≡ mem_in z s fields.asleep_count 0

-- The stores of its first and last.
abbrev pub run_stores : Ends → List Write
run_stores q = to fields.run_head 0 q.head ∷ to fields.run_tail 0 q.tail ∷ []

-- What `queue::Fields` loads and stores at the header's fields.
pub run-loaded : {z : Sizes} {s : List ℕ} {q : Ends} → Held z s (slot 0 28 2) (slot 0 30 2) 0 q → RunLoaded z s q
run-loaded h = record { head = h.head; tail = h.tail; asleep = h.asleep }

pub run-stored : {z : Sizes} {s s' : List ℕ} {q : Ends} → HeldStored z s s' (slot 0 28 2) (slot 0 30 2) 0 q → Wrote z s s' (run_stores q)
run-stored h = record { bytes = h.bytes; long = h.long }

-- The stores by which i is readied.
abbrev pub ready_stores : Memory → ℕ → List Write
ready_stores m i =
    push_writes (m fields.run_tail 0) i
    ++ to fields.run_head 0 (push_first (m fields.run_head 0) (m fields.run_tail 0) i)
    ∷ to fields.run_tail 0 (suc i)
    ∷ to fields.state_of i 2
    ∷ []

-- i is in no place.
pub record ReadyAsks (z : Sizes) (s : List ℕ) (i : ℕ) : Type 0 where
  pub owed : ℕ
  pub holds : Holds z s owed
  pub nowhere : Nowhere (sizes_in z) (mem_in z s) i

pub record Readied (z : Sizes) (s s' : List ℕ) (i : ℕ) : Type 0 where
  pub did : Did z s s' same same (ready_stores (mem_in z s) i) (ready_mem (mem_in z s) i) (ready i (machine_in z s))

-- What the calls ask.
pub holds-long : {z : Sizes} {s : List ℕ} {n : ℕ} → Holds z s n → Long z s
holds-long h = record { sizes = h.sizes; long = h.state.long }

pub ready-long : {z : Sizes} {s : List ℕ} {i : ℕ} → ReadyAsks z s i → Long z s
ready-long a = holds-long a.holds

linked : {z : Sizes} {s : List ℕ} {n : ℕ} {q : Ends} → Holds z s n → RunLoaded z s q → Linked z (mem_in z s) q
linked {z} {s} {n} {q} h l = linked-run z (mem_in z s) q l.head l.tail h.keeps.placed.run.queue

pub ready-push : {z : Sizes} {s : List ℕ} {i : ℕ} {q : Ends} → ReadyAsks z s i → RunLoaded z s q → PushAsks z s q i
ready-push {z} {s} {i} {q} a l =
    record {
      sizes = a.holds.sizes;
      state = a.holds.state;
      linked = linked a.holds l;
      index = inside (holds-bounds a.holds) fields.pid i a.nowhere.used;
      absent = rw (list-run z (mem_in z s) q l.head) a.nowhere.run;
    }

-- The header's fields lie within the bytes.
run-held : {z : Sizes} {s : List ℕ} {n : ℕ} → Holds z s n → HeldAsks z s (slot 0 28 2) (slot 0 30 2) 0
run-held h =
    record {
      head = record { inside = record { region = lit< tt; end = lit< tt }; index = omega arith; long = h.state.long };
      tail = record { inside = record { region = lit< tt; end = lit< tt }; index = omega arith; long = h.state.long };
    }

pub ready-push-at : {z : Sizes} {s : List ℕ} {i : ℕ} → ReadyAsks z s i → PushAtAsks z s (slot 0 28 2) (slot 0 30 2) 0 i
ready-push-at a = record { held = run-held a.holds; asks = λ h. ready-push a (run-loaded h) }

-- The record is one of the table.
pub ready-low : {z : Sizes} {s : List ℕ} {i : ℕ} → ReadyAsks z s i → i < z.processes
ready-low {i = i} a = inside (holds-bounds a.holds) fields.pid i a.nowhere.used

-- The stores are in range, and make that memory.
ready-writable : {z : Sizes} {s : List ℕ} {i : ℕ} → ReadyAsks z s i → WritableIn z (ready_stores (mem_in z s) i)
ready-writable {z} {s} {i} a =
    let b : InBounds (sizes_in z) (mem_in z s) = holds-bounds a.holds in
    let l : i < z.processes = inside b fields.pid i a.nowhere.used in
    writable_join z (push_writes (mem_in z s fields.run_tail 0) i)
    (to fields.run_head 0 (push_first (mem_in z s fields.run_head 0) (mem_in z s fields.run_tail 0) i) ∷ to fields.run_tail 0 (suc i) ∷ to fields.state_of i 2 ∷ [])
    (push-writable z (mem_in z s fields.run_tail 0) i (at_most b fields.run_tail 0) l) (
      record { listed = omega arith; index = omega arith },
      first-low (mem_in z s fields.run_head 0) (mem_in z s fields.run_tail 0) i (at_most b fields.run_head 0) l,
      (record { listed = omega arith; index = omega arith }, l, (record { listed = omega arith; index = l }, omega arith, tt)),
    )
  where
    first-low : (h t i : ℕ) → h ≤ z.processes → i < z.processes → push_first h t i ≤ z.processes
    first-low h zero i a b = b
    first-low h (suc t) i a b = a

ready-updates : (m : Memory) (t i : ℕ) → m fields.run_tail 0 ≡ t → updates m (ready_stores m i) ≡ ready_mem m i
ready-updates m zero i e = rw e
ready-updates m (suc t) i e =
    rw e
    (ap
    (λ (k : Memory). updates k (to fields.run_head 0 (push_first (m fields.run_head 0) (suc t) i) ∷ to fields.run_tail 0 (suc i) ∷ to fields.state_of i 2 ∷ []))
    (set_twice m fields.next (alter (m fields.next) i 0) (alter (alter (m fields.next) i 0) t (suc i))))

-- What its stores come to.
pub readied
    : {z : Sizes} {s s₁ s₂ s₃ : List ℕ} {i : ℕ} {q r : Ends}
    → ReadyAsks z s i
    → RunLoaded z s q
    → PushDone z s s₁ q i r
    → Wrote z s₁ s₂ (run_stores r)
    → PutIn z s₂ s₃ (slot 1 37 1) i 2
    → Readied z s s₃ i
unfolding used_by
readied {z} {s} {s₁} {s₂} {s₃} {i} {q} {r} a l d w p =
    let m : Memory = mem_in z s in
    let b : InBounds (sizes_in z) m = holds-bounds a.holds in
    let low : i < z.processes = inside b fields.pid i a.nowhere.used in
    let first : Wrote z s s₁ (push_writes q.tail i) = record { bytes = d.bytes; long = d.state.long } in
    let all : Wrote z s s₃ (push_writes q.tail i ++ to fields.run_head 0 r.head ∷ to fields.run_tail 0 r.tail ∷ to fields.state_of i 2 ∷ []) =
    wrote_join z (push_writes q.tail i) (to fields.run_head 0 r.head ∷ to fields.run_tail 0 r.tail ∷ to fields.state_of i 2 ∷ []) first
    (wrote_join z (run_stores r) (to fields.state_of i 2 ∷ []) w (wrote_1 p))
    in
    let h : r.head ≡ push_first (m fields.run_head 0) (m fields.run_tail 0) i =
    ap (λ (x : Ends). x.head) d.queue ∙ ap₂ (λ (x y : ℕ). push_first x y i) l.head l.tail
    in
    let t : r.tail ≡ suc i = ap (λ (x : Ends). x.tail) d.queue in
    record {
      did =
          did (ready_stores m i) (ready_mem m i) (ready i (machine_in z s)) a.holds
          (rw (l.tail, h, t) at all.bytes)
          (ready-writable a)
          (ready-updates m (m fields.run_tail 0) i refl)
          (λ n k. keeps_with (others k) (ready-placed k.placed a.nowhere low))
          (ready-machine a.holds.keeps.placed a.nowhere low)
          (in_use-runs (push-in_use (m fields.run_tail 0) i a.nowhere.used (run-last-used a.holds.keeps.placed))
          (EachInUse.more (before (omega arith)) (EachInUse.more (before (omega arith)) (EachInUse.more (before a.nowhere.used) EachInUse.none))));
    }

-- What the code of `ready` shows.
pub readied-at : {z : Sizes} {s s₁ s₂ : List ℕ} {i : ℕ} → ReadyAsks z s i → PushedAt z s s₁ (slot 0 28 2) (slot 0 30 2) 0 i → PutIn z s₁ s₂ (slot 1 37 1) i 2 → Readied z s s₂ i
readied-at a d p = readied a (run-loaded d.held) d.pushed (run-stored d.stored) p

-- The stores by which the first, i, is taken off.
abbrev pub next_stores : Memory → ℕ → List Write
next_stores m i =
    to fields.next i 0
    ∷ to fields.run_head 0 (m fields.next i)
    ∷ to fields.run_tail 0 (pop_last (m fields.next i) (m fields.run_tail 0))
    ∷ []

pub record NextAsks (z : Sizes) (s : List ℕ) : Type 0 where
  pub owed : ℕ
  pub holds : Holds z s owed

-- The first, i, is taken off, and is nowhere then.
pub record NextOne (z : Sizes) (s s' : List ℕ) (i : ℕ) : Type 0 where
  pub rest : List ℕ
  pub split : run_list (sizes_in z) (mem_in z s) ≡ i ∷ rest
  pub did : Did z s s' same same (next_stores (mem_in z s) i) (next_mem (mem_in z s) i) (with_run rest (machine_in z s))
  pub nowhere : Nowhere (sizes_in z) (mem_in z s') i

-- The link r names the first; it is 0 where nobody is ready, and then nothing is stored.
pub record NextTaken (z : Sizes) (s s' : List ℕ) (r : ℕ) : Type 0 where
  pub none : r ≡ 0 → (run_list (sizes_in z) (mem_in z s) ≡ []) × (s' ≡ s)
  pub one : (r ≡ 0 → ⊥) → NextOne z s s' (r - 1)
  pub range : r ≤ z.processes

pub next-long : {z : Sizes} {s : List ℕ} → NextAsks z s → Long z s
next-long a = holds-long a.holds

pub next-pop : {z : Sizes} {s : List ℕ} {q : Ends} → NextAsks z s → RunLoaded z s q → PopAsks z s q
next-pop a l = record { sizes = a.holds.sizes; state = a.holds.state; linked = linked a.holds l }

pub pop-long : {z : Sizes} {s s₁ : List ℕ} {q : Ends} {t : Popped} → NextAsks z s → PopDone z s s₁ q t → Long z s₁
pop-long a d = record { sizes = a.holds.sizes; long = d.state.long }

-- What the code of `next_ready` shows: nobody is ready, or the first is taken off.
pub next-none : {z : Sizes} {s s₁ : List ℕ} {q : Ends} {t : Popped} → NextAsks z s → RunLoaded z s q → PopDone z s s₁ q t → t.link ≡ 0 → NextTaken z s s₁ 0
next-none {z} {s} {s₁} {q} {t} a l d e =
    record {
      none = λ _. (
        sym (list-run z (mem_in z s) q l.head) ∙ empty-list (linked a.holds l) (sym d.taken ∙ e),
        d.bytes ∙ ap (λ (h : ℕ). writes_in z s (pop_writes h)) (sym d.taken ∙ e),
      );
      one = λ ne. absurd (ne refl);
      range = omega arith;
    }

pub next_one
    : {z : Sizes} {s s₁ s₂ : List ℕ} {q : Ends} {t : Popped}
    → NextAsks z s
    → RunLoaded z s q
    → PopDone z s s₁ q t
    → (t.link ≡ 0 → ⊥)
    → Wrote z s₁ s₂ (run_stores t.queue)
    → NextTaken z s s₂ t.link
unfolding used_by
next_one {z} {s} {s₁} {s₂} {q} {t} a l d ne w =
    record { none = λ e. absurd (ne e); one = λ _. go (run_list (sizes_in z) m) refl; range = d.link }
  where
    m : Memory
    m = mem_in z s

    go : (xs : List ℕ) → run_list (sizes_in z) m ≡ xs → NextOne z s s₂ (t.link - 1)
    go [] e = absurd (ne (d.first ∙ ap first_link (list-run z m q l.head ∙ e)))
    go (i ∷ xs) e = subst (NextOne z s s₂) (omega (arith, link)) one
      where
        link : t.link ≡ suc i
        link = d.first ∙ ap first_link (list-run z m q l.head ∙ e)

        head : q.head ≡ suc i
        head = sym d.taken ∙ link

        low : i < z.processes
        low = omega (arith, link, d.link)

        first : Wrote z s s₁ (to fields.next i 0 ∷ [])
        first = record { bytes = d.bytes ∙ ap (λ (h : ℕ). writes_in z s (pop_writes h)) head; long = d.state.long }

        new_head : t.queue.head ≡ m fields.next i
        new_head = ap (λ (x : Ends). x.head) d.queue ∙ ap (λ (h : ℕ). pop_head m h) head

        new_tail : t.queue.tail ≡ pop_last (m fields.next i) (m fields.run_tail 0)
        new_tail =
            ap (λ (x : Ends). x.tail) d.queue ∙ ap₂ (λ (h y : ℕ). pop_last (pop_head m h) y) head l.tail

        all : Wrote z s s₂ (to fields.next i 0 ∷ run_stores t.queue)
        all = wrote_join z (to fields.next i 0 ∷ []) (run_stores t.queue) first w

        b : InBounds (sizes_in z) m
        b = holds-bounds a.holds

        ok : WritableIn z (next_stores m i)
        ok = (
          record { listed = omega arith; index = low },
          omega arith,
          (
            record { listed = omega arith; index = omega arith },
            at_most b fields.next i,
            (
              record { listed = omega arith; index = omega arith },
              last-low (m fields.next i) (m fields.run_tail 0) (at_most b fields.run_tail 0),
              tt,
            ),
          ),
        )
          where
            last-low : (n y : ℕ) → y ≤ z.processes → pop_last n y ≤ z.processes
            last-low zero y h = omega arith
            last-low (suc n) y h = h

        done : Did z s s₂ same same (next_stores m i) (next_mem m i) (with_run xs (machine_in z s))
        done =
            did (next_stores m i) (next_mem m i) (with_run xs (machine_in z s)) a.holds
            (rw (new_head, new_tail) at all.bytes) ok refl
            (λ n k. keeps_with (others k) (next-placed k.placed xs e))
            (next-machine a.holds.keeps.placed xs e)
            (EachInUse.more (before (next-nowhere a.holds.keeps.placed xs e).used) (EachInUse.more (before (omega arith)) (EachInUse.more (before (omega arith)) EachInUse.none)))

        one : NextOne z s s₂ i
        one =
            record {
              rest = xs;
              split = e;
              did = done;
              nowhere =
                  subst (λ (k : Memory). Nowhere (sizes_in z) k i) (sym done.memory) (next-nowhere a.holds.keeps.placed xs e);
            }

pub next-pop-at : {z : Sizes} {s : List ℕ} → NextAsks z s → PopAtAsks z s (slot 0 28 2) (slot 0 30 2) 0
next-pop-at a = record { held = run-held a.holds; asks = λ h. next-pop a (run-loaded h) }

pub next-taken : {z : Sizes} {s s' : List ℕ} {l : ℕ} → NextAsks z s → PoppedAt z s s' (slot 0 28 2) (slot 0 30 2) 0 l → NextTaken z s s' l
next-taken {z} {s} {s'} {l = zero} a p = subst (λ (t : List ℕ). NextTaken z s t 0) (sym (p.none refl)) (next-none a (run-loaded p.held) p.popped refl)
next-taken {z} {s} {s'} {l = suc k} a p =
    next_one a (run-loaded p.held) p.popped (λ e. absurd (omega (arith, e))) (run-stored (p.one (λ e. absurd (omega (arith, e)))))
