-- What `insert` does: to the bytes, to the memory, to the queue, and to the machine's queue.
use Rattle.std.specs.Prelude.{◌≡◌, refl, List, [], ◌∷◌, ◌++◌, ℕ, zero, suc, ◌+◌, ◌-◌, ◌≤◌, ◌<◌, length}
use Rattle.std.proofs.Common.{sym, ap, subst, ◌∙◌, arith, add-one, Fits}
use Rattle.std.specs.Int.{w64}
use Rattle.machine.specs.Good.{SizesInRange}
use Rattle.machine.specs.Machine.{Queued}
use Rattle.machine.specs.Timers.{insert}
use Rattle.layout.specs.Table.{slot, field}
use Rattle.layout.specs.Memory.{Memory, alter, set_field, set_same, set_twice, Ranged}
use Rattle.layout.specs.Writes.{State, Write, to, updates, Writable, written, state-writes}
use Rattle.chain.specs.Lists.{Absent}
use Rattle.chain.specs.Links.{Chain, chain-walk, alter-same}
use Rattle.chain.specs.Ordered.{insert_by, spot, linked, first_of, chain-insert, Sorted, sorted_insert}
use Rattle.state.specs.Fields as fields
use Rattle.state.proofs.Ranges.{ranges}
use Rattle.state.specs.Abs.{timer_list, machine_of}
use Rattle.state.specs.Places.{sizes_in, mem_in, total_in, PutIn, Wrote, wrote-more, wrote_join}
use Rattle.state.specs.declared.Sizes.{Sizes}
use Rattle.timers.specs.Find.{timers_in, queue_in, TimersIn, spot_in, Found}
use Rattle.timers.specs.Flags.{Counted, Flagged, counted-insert}
use Rattle.timers.specs.Entries.{entries, Alike, alike_absent, spot_alike, sorted_alike, insert-entries}

-- The stores that link timer t in behind the link p, and all stores of an insertion.
abbrev pub link_stores : Memory → ℕ → ℕ → List Write
link_stores m zero t = to fields.timer_next t (m fields.timer_head 0) ∷ to fields.timer_head 0 (suc t) ∷ []
link_stores m (suc p) t = to fields.timer_next t (m fields.timer_next p) ∷ to fields.timer_next p (suc t) ∷ []

abbrev pub due_stores : ℕ → ℕ → List Write
due_stores t d = to fields.deadline t d ∷ to fields.is_queued t 1 ∷ []

abbrev pub insert_stores : Memory → ℕ → ℕ → ℕ → List Write
insert_stores m p t d = link_stores m p t ++ due_stores t d

-- The memory then: each field as a whole.
abbrev pub head_field : Memory → ℕ → ℕ → ℕ → ℕ
head_field m zero t = alter (m fields.timer_head) 0 (suc t)
head_field m (suc p) t = m fields.timer_head

abbrev pub link_mem : Memory → ℕ → ℕ → Memory
link_mem m p t =
    set_field (set_field m fields.timer_next (linked (m fields.timer_next) (m fields.timer_head 0) p t)) fields.timer_head (head_field m p t)

abbrev pub insert_mem : Memory → ℕ → ℕ → ℕ → Memory
insert_mem m p t d =
    set_field (set_field (link_mem m p t) fields.deadline (alter (m fields.deadline) t d)) fields.is_queued (alter (m fields.is_queued) t 1)

-- The queue with deadlines, as the machine has it.
abbrev pub queued_in : Sizes → Memory → List Queued
queued_in z m = entries (m fields.deadline) (queue_in z m)

-- It is the queue of the machine that the memory holds.
pub queued-machine : (z : Sizes) (m : Memory) → (machine_of (sizes_in z) m).queued ≡ queued_in z m
unfolding machine_of
queued-machine z m = refl

-- What `link_in` and `link_out` ask: the sizes are in range, the bytes long enough, the link and the timer in range.
pub record LinkAsks (z : Sizes) (s : List ℕ) (at t : ℕ) : Type 0 where
  pub sizes : SizesInRange (sizes_in z)
  pub long : total_in z ≤ length s
  pub range : at ≤ timers_in z
  pub index : t < timers_in z

-- The queue is a chain, the timer is in range, and it is not queued.
pub record InsertAsks (z : Sizes) (s : List ℕ) (t : ℕ) : Type 0 where
  pub timers : TimersIn z s
  pub index : t < timers_in z
  pub absent : Absent t (queue_in z (mem_in z s))

-- What becomes of the queue.
pub record Entered (z : Sizes) (m m' : Memory) (t d : ℕ) : Type 0 where
  pub chain : Chain (timers_in z) (m' fields.timer_next) (m' fields.timer_head 0) (queue_in z m')
  pub list : queue_in z m' ≡ insert_by (m' fields.deadline) t (queue_in z m)
  pub sorted : Sorted (m fields.deadline) (queue_in z m) → Sorted (m' fields.deadline) (queue_in z m')
  pub queued : queued_in z m' ≡ insert (record { timer = t; deadline = d }) (queued_in z m)
  pub flagged : Flagged z m → Flagged z m'

pub record Inserted (z : Sizes) (s s' : List ℕ) (t d : ℕ) : Type 0 where
  pub timers : TimersIn z s'
  pub wrote : Wrote z s s' (insert_stores (mem_in z s) (spot_in z (mem_in z s) d) t d)
  pub writable : Writable fields.layout1 (fields.most_of (sizes_in z)) (fields.counts (sizes_in z)) (insert_stores (mem_in z s) (spot_in z (mem_in z s) d) t d)
  pub memory : mem_in z s' ≡ insert_mem (mem_in z s) (spot_in z (mem_in z s) d) t d
  pub entered : Entered z (mem_in z s) (mem_in z s') t d

-- Two stores, one after another.
pub wrote_2
    : {z : Sizes} {s s₁ s₂ : List ℕ} {f₁ f₂ i₁ i₂ v₁ v₂ : ℕ}
    → PutIn z s s₁ (field fields.layout1 f₁) i₁ v₁
    → PutIn z s₁ s₂ (field fields.layout1 f₂) i₂ v₂
    → Wrote z s s₂ (to f₁ i₁ v₁ ∷ to f₂ i₂ v₂ ∷ [])
wrote_2 {z} p₁ p₂ = record { bytes = wrote-more z _ p₁.bytes p₂; long = p₂.long }

-- What the code of `link_in` shows at each return.
pub linked-front
    : {z : Sizes} {s s₁ s₂ : List ℕ} {at t h : ℕ}
    → LinkAsks z s at t
    → at ≡ 0
    → h ≡ mem_in z s fields.timer_head 0
    → PutIn z s s₁ (slot 12 0 2) t h
    → PutIn z s₁ s₂ (slot 0 34 2) 0 (t + 1)
    → Wrote z s s₂ (link_stores (mem_in z s) at t)
linked-front {z} {s} {s₁} {s₂} {at} {t} {h} a e q p₁ p₂ =
    rw e
    (wrote_2 (subst (λ (v : ℕ). PutIn z s s₁ (slot 12 0 2) t v) q p₁) (subst (λ (v : ℕ). PutIn z s₁ s₂ (slot 0 34 2) 0 v) (add-one t) p₂))

pub linked-behind
    : {z : Sizes} {s s₁ s₂ : List ℕ} {at t n : ℕ}
    → LinkAsks z s at t
    → (at ≡ 0 → ⊥)
    → n ≡ mem_in z s fields.timer_next (at - 1)
    → PutIn z s s₁ (slot 12 0 2) t n
    → PutIn z s₁ s₂ (slot 12 0 2) (at - 1) (t + 1)
    → Wrote z s s₂ (link_stores (mem_in z s) at t)
linked-behind {z} {s} {s₁} {s₂} {at} {t} {n} a ne q p₁ p₂ =
    let w : Wrote z s s₂ (to fields.timer_next t (mem_in z s fields.timer_next (at - 1)) ∷ to fields.timer_next (at - 1) (suc t) ∷ []) =
    wrote_2
    (subst (λ (v : ℕ). PutIn z s s₁ (slot 12 0 2) t v) q p₁)
    (subst (λ (v : ℕ). PutIn z s₁ s₂ (slot 12 0 2) (at - 1) v) (add-one t) p₂)
    in
    go at ne w
  where
    go
        : (k : ℕ)
        → (k ≡ 0 → ⊥)
        → Wrote z s s₂ (to fields.timer_next t (mem_in z s fields.timer_next (k - 1)) ∷ to fields.timer_next (k - 1) (suc t) ∷ [])
        → Wrote z s s₂ (link_stores (mem_in z s) k t)
    go zero ne₁ w = absurd (ne₁ refl)
    go (suc k) ne₁ w = let d : suc k - 1 ≡ k = omega arith in rw d at w

-- The stores are in range, and make that memory.
writable
    : (z : Sizes) (m : Memory) (p t d : ℕ)
    → m fields.timer_head 0 ≤ timers_in z
    → ((i : ℕ) → m fields.timer_next i ≤ timers_in z)
    → p ≤ timers_in z
    → t < timers_in z
    → d ≤ 18446744073709551615
    → Writable fields.layout1 (fields.most_of (sizes_in z)) (fields.counts (sizes_in z)) (insert_stores m p t d)
writable z m zero t d h g l i b = omega arith
writable z m (suc p) t d h g l i b = omega (arith, g p)

updates_insert : (m : Memory) (p t d : ℕ) → updates m (insert_stores m p t d) ≡ insert_mem m p t d
updates_insert m zero t d = refl
updates_insert m (suc p) t d =
    let k : ℕ → ℕ = linked (m fields.timer_next) (m fields.timer_head 0) (suc p) t in
    ap
    (λ (n : Memory). set_field (set_field n fields.deadline (alter (m fields.deadline) t d)) fields.is_queued (alter (m fields.is_queued) t 1))
    (set_twice m fields.timer_next (alter (m fields.timer_next) t (m fields.timer_next p)) k
    ∙ sym (set_same (set_field m fields.timer_next k) fields.timer_head))

first_head : (m : Memory) (p t : ℕ) → first_of (m fields.timer_head 0) p t ≡ head_field m p t 0
first_head m zero t = refl
first_head m (suc p) t = refl

-- The queue of that memory.
entered
    : (z : Sizes) (m : Memory) (t d : ℕ)
    → Chain (timers_in z) (m fields.timer_next) (m fields.timer_head 0) (queue_in z m)
    → t < timers_in z
    → Absent t (queue_in z m)
    → Entered z m (insert_mem m (spot_in z m d) t d) t d
unfolding timer_list
entered z m t d c i a =
    let p : ℕ = spot_in z m d in
    let key : ℕ → ℕ = alter (m fields.deadline) t d in
    let same : Alike (m fields.deadline) key (queue_in z m) = alike_absent (m fields.deadline) t d (queue_in z m) a in
    let at : key t ≡ d = alter-same (m fields.deadline) t d in
    let e : spot key (key t) 0 (queue_in z m) ≡ p =
    ap (λ (k : ℕ). spot key k 0 (queue_in z m)) at ∙ spot_alike (m fields.deadline) key d 0 (queue_in z m) same
    in
    let c₁ : Chain (timers_in z) (linked (m fields.timer_next) (m fields.timer_head 0) p t) (first_of (m fields.timer_head 0) p t) (insert_by key t (queue_in z m)) =
    subst
    (λ (k : ℕ). Chain (timers_in z) (linked (m fields.timer_next) (m fields.timer_head 0) k t) (first_of (m fields.timer_head 0) k t) (insert_by key t (queue_in z m)))
    e
    (chain-insert key t i a c)
    in
    let c₂ : Chain (timers_in z) (linked (m fields.timer_next) (m fields.timer_head 0) p t) (head_field m p t 0) (insert_by key t (queue_in z m)) =
    subst (λ (h : ℕ). Chain (timers_in z) (linked (m fields.timer_next) (m fields.timer_head 0) p t) h (insert_by key t (queue_in z m))) (first_head m p t) c₁
    in
    let w : queue_in z (insert_mem m p t d) ≡ insert_by key t (queue_in z m) = chain-walk c₂ in
    record {
      chain =
          subst (λ (xs : List ℕ). Chain (timers_in z) (linked (m fields.timer_next) (m fields.timer_head 0) p t) (head_field m p t 0) xs) (sym w) c₂;
      list = w;
      sorted = λ s.
          subst (Sorted key) (sym w)
          (sorted_insert key t (queue_in z m) (sorted_alike (m fields.deadline) key (queue_in z m) same s));
      queued =
          ap (entries key) w
          ∙ insert-entries (m fields.deadline) key t (queue_in z m) same
          ∙ ap (λ (k : ℕ). insert (record { timer = t; deadline = k }) (queued_in z m)) at;
      flagged = λ f.
          subst (Counted (alter (m fields.is_queued) t 1)) (sym w) (counted-insert key (m fields.is_queued) t (queue_in z m) a f);
    }

-- What the code of `insert` shows.
pub inserted
    : {z : Sizes} {s s₁ s₂ s₃ : List ℕ} {t d at : ℕ}
    → InsertAsks z s t
    → Found z (mem_in z s) d at
    → Wrote z s s₁ (link_stores (mem_in z s) at t)
    → PutIn z s₁ s₂ (slot 5 0 8) t d
    → PutIn z s₂ s₃ (slot 5 20 1) t 1
    → Fits w64 d
    → Inserted z s s₃ t d
unfolding Ranged
inserted {z} {s} {s₁} {s₂} {s₃} {t} {d} {at} a f w p₁ p₂ b =
    let m : Memory = mem_in z s in
    let p : ℕ = spot_in z m d in
    let r : (g i : ℕ) → m g i ≤ fields.most_of (sizes_in z) g = a.timers.state.ranged in
    let ok : Writable fields.layout1 (fields.most_of (sizes_in z)) (fields.counts (sizes_in z)) (insert_stores m p t d) =
    writable z m p t d (r fields.timer_head 0) (r fields.timer_next) (rw f.spot at f.range) a.index (omega (arith, b))
    in
    let all : Wrote z s s₃ (insert_stores m p t d) =
    rw f.spot at (wrote_join z (link_stores m at t) (due_stores t d) w (wrote_2 p₁ p₂))
    in
    let e : mem_in z s₃ ≡ insert_mem m p t d =
    ap (λ (x : List ℕ). mem_in z x) all.bytes
    ∙ written (ranges (sizes_in z) a.timers.sizes) a.timers.state (insert_stores m p t d) ok
    ∙ updates_insert m p t d
    in
    let n : Entered z m (mem_in z s₃) t d =
    subst (λ (k : Memory). Entered z m k t d) (sym e) (entered z m t d a.timers.chain a.index a.absent)
    in
    record {
      timers =
          record {
            sizes = a.timers.sizes;
            state =
                subst (λ (x : List ℕ). State fields.layout1 (fields.most_of (sizes_in z)) (fields.counts (sizes_in z)) x) (sym all.bytes)
                (state-writes (ranges (sizes_in z) a.timers.sizes) a.timers.state (insert_stores m p t d) ok);
            chain = n.chain;
          };
      wrote = all;
      writable = ok;
      memory = e;
      entered = n;
    }
