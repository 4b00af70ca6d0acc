-- What `remove` does: to the bytes, to the memory, to the queue, and to the machine's queue.
use Rattle.std.specs.Prelude.{if◌then◌else◌, ◌≡◌, refl, Bool, true, false, List, [], ◌∷◌, ◌++◌, ℕ, zero, suc, ◌-◌, ◌≤◌, ◌<◌, eqb}
use Rattle.std.proofs.Common.{sym, ap, subst, ◌∙◌, arith, eqb-true}
use Rattle.std.proofs.lemmas.Bool.{both_ways}
use Rattle.std.proofs.Math.Path.{fun_ext}
use Rattle.machine.specs.Basics.{count}
use Rattle.machine.specs.Timers.{remove}
use Rattle.layout.specs.Table.{slot}
use Rattle.layout.specs.Memory.{Memory, alter, set_field, set_same, set_twice, Ranged}
use Rattle.layout.specs.Writes.{State, Write, to, updates, Writable, written, state-writes}
use Rattle.chain.specs.Lists.{Absent, none-absent, filter-absent}
use Rattle.chain.specs.Links.{Chain, chain-walk}
use Rattle.chain.specs.Ordered.{Sorted}
use Rattle.state.specs.Fields as fields
use Rattle.state.proofs.Ranges.{ranges}
use Rattle.state.specs.Abs.{is_set, timer_list}
use Rattle.state.specs.Reads.{test_unset}
use Rattle.state.specs.Places.{sizes_in, mem_in, PutIn, Wrote}
use Rattle.state.specs.declared.Sizes.{Sizes}
use Rattle.timers.specs.Find.{timers_in, queue_in, TimersIn}
use Rattle.timers.specs.Entries.{entries}
use Rattle.timers.specs.Flags.{Counted, Flagged, count_out, counted-without}
use Rattle.timers.specs.Insert.{LinkAsks, queued_in, wrote_2}
use Rattle.timers.specs.Out.{without, next_out, first_out, chain-without, before-bound, sorted-without, remove-entries}
use Rattle.timers.specs.Seek.{before_in, Sought}

-- The stores that take timer t out from behind the link p, and those of a removal: none where the flag is 0.
abbrev pub out_stores : Memory → ℕ → ℕ → List Write
out_stores m zero t = to fields.timer_head 0 (m fields.timer_next t) ∷ to fields.timer_next t 0 ∷ []
out_stores m (suc p) t = to fields.timer_next p (m fields.timer_next t) ∷ to fields.timer_next t 0 ∷ []

abbrev pub remove_stores : Memory → ℕ → ℕ → ℕ → List Write
remove_stores m zero p t = []
remove_stores m (suc flag) p t = out_stores m p t ++ to fields.is_queued t 0 ∷ []

-- The memory then: each field as a whole.
abbrev pub head_out : Memory → ℕ → ℕ → ℕ → ℕ → ℕ
head_out m zero p t = m fields.timer_head
head_out m (suc flag) zero t = alter (m fields.timer_head) 0 (m fields.timer_next t)
head_out m (suc flag) (suc p) t = m fields.timer_head

abbrev pub links_out : Memory → ℕ → ℕ → ℕ → ℕ → ℕ
links_out m zero p t = m fields.timer_next
links_out m (suc flag) p t = next_out (m fields.timer_next) p t

abbrev pub remove_mem : Memory → ℕ → ℕ → ℕ → Memory
remove_mem m flag p t =
    set_field (set_field (set_field m fields.timer_head (head_out m flag p t)) fields.timer_next (links_out m flag p t)) fields.is_queued (alter (m fields.is_queued) t 0)

-- The queue is a chain, the timer is in range, and its flag says whether it is queued.
pub record RemoveAsks (z : Sizes) (s : List ℕ) (t : ℕ) : Type 0 where
  pub timers : TimersIn z s
  pub index : t < timers_in z
  pub flag : mem_in z s fields.is_queued t ≡ count t (queue_in z (mem_in z s))

-- What becomes of the queue.
pub record Left (z : Sizes) (m m' : Memory) (t : ℕ) : Type 0 where
  pub chain : Chain (timers_in z) (m' fields.timer_next) (m' fields.timer_head 0) (queue_in z m')
  pub list : queue_in z m' ≡ without t (queue_in z m)
  pub absent : Absent t (queue_in z m')
  pub sorted : Sorted (m fields.deadline) (queue_in z m) → Sorted (m' fields.deadline) (queue_in z m')
  pub queued : queued_in z m' ≡ remove t (queued_in z m)
  pub flagged : Flagged z m → Flagged z m'

pub record Removed (z : Sizes) (s s' : List ℕ) (t : ℕ) : Type 0 where
  pub timers : TimersIn z s'
  pub wrote : Wrote z s s' (remove_stores (mem_in z s) (mem_in z s fields.is_queued t) (before_in z (mem_in z s) t) t)
  pub writable : Writable fields.layout1 (fields.most_of (sizes_in z)) (fields.counts (sizes_in z)) (remove_stores (mem_in z s) (mem_in z s fields.is_queued t) (before_in z (mem_in z s) t) t)
  pub memory : mem_in z s' ≡ remove_mem (mem_in z s) (mem_in z s fields.is_queued t) (before_in z (mem_in z s) t) t
  pub left : Left z (mem_in z s) (mem_in z s') t

-- What the code of `link_out` shows at each return.
pub out_first
    : {z : Sizes} {s s₁ s₂ : List ℕ} {at t n : ℕ}
    → LinkAsks z s at t
    → at ≡ 0
    → n ≡ mem_in z s fields.timer_next t
    → PutIn z s s₁ (slot 0 34 2) 0 n
    → PutIn z s₁ s₂ (slot 12 0 2) t 0
    → Wrote z s s₂ (out_stores (mem_in z s) at t)
out_first {z} {s} {s₁} {s₂} {at} {t} {n} a e q p₁ p₂ =
    rw e (wrote_2 (subst (λ (v : ℕ). PutIn z s s₁ (slot 0 34 2) 0 v) q p₁) p₂)

pub out_later
    : {z : Sizes} {s s₁ s₂ : List ℕ} {at t n : ℕ}
    → LinkAsks z s at t
    → (at ≡ 0 → ⊥)
    → n ≡ mem_in z s fields.timer_next t
    → PutIn z s s₁ (slot 12 0 2) (at - 1) n
    → PutIn z s₁ s₂ (slot 12 0 2) t 0
    → Wrote z s s₂ (out_stores (mem_in z s) at t)
out_later {z} {s} {s₁} {s₂} {at} {t} {n} a ne q p₁ p₂ =
    go at ne (wrote_2 (subst (λ (v : ℕ). PutIn z s s₁ (slot 12 0 2) (at - 1) v) q p₁) p₂)
  where
    go
        : (k : ℕ)
        → (k ≡ 0 → ⊥)
        → Wrote z s s₂ (to fields.timer_next (k - 1) (mem_in z s fields.timer_next t) ∷ to fields.timer_next t 0 ∷ [])
        → Wrote z s s₂ (out_stores (mem_in z s) k t)
    go zero ne₁ w = absurd (ne₁ refl)
    go (suc k) ne₁ w = let d : suc k - 1 ≡ k = omega arith in rw d at w

-- The stores are in range, and make that memory.
writable
    : (z : Sizes) (m : Memory) (flag p t : ℕ)
    → ((i : ℕ) → m fields.timer_next i ≤ timers_in z)
    → p ≤ timers_in z
    → t < timers_in z
    → Writable fields.layout1 (fields.most_of (sizes_in z)) (fields.counts (sizes_in z)) (remove_stores m flag p t)
writable z m zero p t g l i = tt
writable z m (suc flag) zero t g l i = omega (arith, g t)
writable z m (suc flag) (suc p) t g l i = omega (arith, g t)

alter-kept : (g : ℕ → ℕ) (t v : ℕ) → g t ≡ v → alter g t v ≡ g
alter-kept g t v e = fun_ext (λ j. go j (eqb t j) refl)
  where
    go : (j : ℕ) (b : Bool) → eqb t j ≡ b → (if b then v else g j) ≡ g j
    go j true q = sym e ∙ ap g (eqb-true t j q)
    go j false q = refl

updates_remove : (m : Memory) (flag p t : ℕ) → m fields.is_queued t ≡ flag → updates m (remove_stores m flag p t) ≡ remove_mem m flag p t
updates_remove m zero p t e =
    sym
    (ap (λ (k : ℕ → ℕ). set_field (set_field (set_field m fields.timer_head (m fields.timer_head)) fields.timer_next (m fields.timer_next)) fields.is_queued k) (alter-kept (m fields.is_queued) t 0 e)
    ∙ ap (λ (n : Memory). set_field (set_field n fields.timer_next (m fields.timer_next)) fields.is_queued (m fields.is_queued)) (set_same m fields.timer_head)
    ∙ ap (λ (n : Memory). set_field n fields.is_queued (m fields.is_queued)) (set_same m fields.timer_next)
    ∙ set_same m fields.is_queued)
updates_remove m (suc flag) zero t e = refl
updates_remove m (suc flag) (suc p) t e =
    ap (λ (n : Memory). set_field n fields.is_queued (alter (m fields.is_queued) t 0))
    (set_twice m fields.timer_next (alter (m fields.timer_next) p (m fields.timer_next t)) (next_out (m fields.timer_next) (suc p) t)
    ∙ sym (ap (λ (n : Memory). set_field n fields.timer_next (next_out (m fields.timer_next) (suc p) t)) (set_same m fields.timer_head)))

first_head
    : (m : Memory) (flag p t : ℕ) → first_out (m fields.timer_next) (m fields.timer_head 0) p t ≡ head_out m (suc flag) p t 0
first_head m flag zero t = refl
first_head m flag (suc p) t = refl

-- The queue of that memory.
left_by
    : (z : Sizes) (m m' : Memory) (t : ℕ)
    → m' fields.deadline ≡ m fields.deadline
    → m' fields.is_queued ≡ alter (m fields.is_queued) t 0
    → Chain (timers_in z) (m' fields.timer_next) (m' fields.timer_head 0) (without t (queue_in z m))
    → Left z m m' t
unfolding timer_list
left_by z m m' t e d c =
    let w : queue_in z m' ≡ without t (queue_in z m) = chain-walk c in
    record {
      chain = subst (λ (xs : List ℕ). Chain (timers_in z) (m' fields.timer_next) (m' fields.timer_head 0) xs) (sym w) c;
      list = w;
      absent = subst (Absent t) (sym w) (none-absent t (without t (queue_in z m)) (count_out t (queue_in z m)));
      sorted = λ s.
          subst (λ (k : ℕ → ℕ). Sorted k (queue_in z m')) (sym e)
          (subst (Sorted (m fields.deadline)) (sym w) (sorted-without (m fields.deadline) t (queue_in z m) s));
      queued =
          ap (λ (k : ℕ → ℕ). entries k (queue_in z m')) e
          ∙ ap (entries (m fields.deadline)) w
          ∙ remove-entries (m fields.deadline) t (queue_in z m);
      flagged = λ f.
          subst (λ (k : ℕ → ℕ). Counted k (queue_in z m')) (sym d)
          (subst (Counted (alter (m fields.is_queued) t 0)) (sym w) (counted-without (m fields.is_queued) t (queue_in z m) f));
    }

left
    : (z : Sizes) (m : Memory) (flag t : ℕ)
    → Chain (timers_in z) (m fields.timer_next) (m fields.timer_head 0) (queue_in z m)
    → flag ≡ count t (queue_in z m)
    → Left z m (remove_mem m flag (before_in z m t) t) t
left z m zero t c e =
    left_by z m (remove_mem m zero (before_in z m t) t) t refl refl
    (subst (λ (xs : List ℕ). Chain (timers_in z) (m fields.timer_next) (m fields.timer_head 0) xs)
    (sym (filter-absent t (queue_in z m) (none-absent t (queue_in z m) (sym e))))
    c)
left z m (suc flag) t c e =
    left_by z m (remove_mem m (suc flag) (before_in z m t) t) t refl refl
    (subst
    (λ (h : ℕ). Chain (timers_in z) (next_out (m fields.timer_next) (before_in z m t) t) h (without t (queue_in z m)))
    (first_head m flag (before_in z m t) t)
    (chain-without t (λ q. absurd (omega (arith, e, q))) c))

-- What any run of these stores shows.
removed
    : (z : Sizes) (s s' : List ℕ) (t : ℕ)
    → RemoveAsks z s t
    → Wrote z s s' (remove_stores (mem_in z s) (mem_in z s fields.is_queued t) (before_in z (mem_in z s) t) t)
    → Removed z s s' t
unfolding Ranged
removed z s s' t a w =
    let m : Memory = mem_in z s in
    let p : ℕ = before_in z m t in
    let flag : ℕ = m fields.is_queued t in
    let r : (g i : ℕ) → m g i ≤ fields.most_of (sizes_in z) g = a.timers.state.ranged in
    let b : p ≤ timers_in z = before-bound (timers_in z) t 0 (queue_in z m) (omega arith) a.timers.chain.below in
    let ok : Writable fields.layout1 (fields.most_of (sizes_in z)) (fields.counts (sizes_in z)) (remove_stores m flag p t) =
    writable z m flag p t (r fields.timer_next) b a.index
    in
    let e : mem_in z s' ≡ remove_mem m flag p t =
    ap (λ (x : List ℕ). mem_in z x) w.bytes
    ∙ written (ranges (sizes_in z) a.timers.sizes) a.timers.state (remove_stores m flag p t) ok
    ∙ updates_remove m flag p t refl
    in
    let n : Left z m (mem_in z s') t =
    subst (λ (k : Memory). Left z m k t) (sym e) (left z m flag t a.timers.chain a.flag)
    in
    record {
      timers =
          record {
            sizes = a.timers.sizes;
            state =
                subst (λ (x : List ℕ). State fields.layout1 (fields.most_of (sizes_in z)) (fields.counts (sizes_in z)) x) (sym w.bytes)
                (state-writes (ranges (sizes_in z) a.timers.sizes) a.timers.state (remove_stores m flag p t) ok);
            chain = n.chain;
          };
      wrote = w;
      writable = ok;
      memory = e;
      left = n;
    }

-- What the code of `remove` shows at each return: v says whether t is queued.
some-flag : (n : ℕ) → is_set n ≡ true → suc (n - 1) ≡ n
some-flag zero e = absurd (both_ways _ refl e)
some-flag (suc n) e = omega arith

pub removed-none
    : {z : Sizes} {s : List ℕ} {t : ℕ} {v : Bool} → RemoveAsks z s t → v ≡ is_set (mem_in z s fields.is_queued t) → v ≡ false → Removed z s s t
removed-none {z} {s} {t} {v} a e q =
    removed z s s t a
    (subst (λ (f : ℕ). Wrote z s s (remove_stores (mem_in z s) f (before_in z (mem_in z s) t) t)) (sym (test_unset _ (sym e ∙ q)))
    (record { bytes = refl; long = a.timers.state.long }))

pub removed-one
    : {z : Sizes} {s s₁ : List ℕ} {t at : ℕ} {v : Bool}
    → RemoveAsks z s t
    → v ≡ is_set (mem_in z s fields.is_queued t)
    → v ≡ true
    → Sought z (mem_in z s) t at
    → Wrote z s s₁ (remove_stores (mem_in z s) 1 at t)
    → Removed z s s₁ t
removed-one {z} {s} {s₁} {t} {at} {v} a e q f w =
    let all : Wrote z s s₁ (remove_stores (mem_in z s) 1 (before_in z (mem_in z s) t) t) = rw f.place at w in
    removed z s s₁ t a
    (subst (λ (k : ℕ). Wrote z s s₁ (remove_stores (mem_in z s) k (before_in z (mem_in z s) t) t)) (some-flag _ (sym e ∙ q)) all)
