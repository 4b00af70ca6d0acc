-- A lock held, handed over or freed: what `canqlock`, `qunlock` and `give_up` ask and ensure.
use Rattle.std.specs.Prelude.{◌≡◌, refl, Option, Some, None, Bool, true, false, not, List, [], ◌∷◌, ◌++◌, ℕ, suc, ◌≤◌, ◌<◌}
use Rattle.std.proofs.Common.{sym, ap, subst, ◌∙◌, arith, ne_eqb}
use Rattle.std.proofs.lemmas.Bool.{both_ways}
use Rattle.machine.specs.Machine.{Machine, Lock, lock, pid_of}
use Rattle.machine.specs.Update.{with_lock}
use Rattle.machine.specs.Places.{ready, hand_over}
use Rattle.layout.specs.Table.{slot}
use Rattle.layout.specs.Memory.{Memory}
use Rattle.layout.specs.Writes.{to}
use Rattle.state.specs.Fields as fields
use Rattle.state.specs.Abs.{is_set, waiter_list}
use Rattle.state.specs.Places.{sizes_in, mem_in, PutIn}
use Rattle.state.specs.declared.Sizes.{Sizes}
use Rattle.exact.specs.Parts.{lock_of, pid_of_lem}
use Rattle.holds.specs.Holds.{Holds}
use Rattle.holds.specs.Whole.{holds-bounds}
use Rattle.holds.specs.Use.{used_by, EachInUse, before, same_use}
use Rattle.holds.specs.Did.{Did, did, did_join, did_as, machine_in, same}
use Rattle.holds.specs.Touched.{Touched, touched-did}
use Rattle.places.specs.Others.{others, keeps_with}
use Rattle.places.specs.Machines.{lock_with}
use Rattle.places.specs.Lock.{held_mem, held-machine, held-placed, dequeue_mem}
use Rattle.dat.specs.Asleep.{AwakenAsks, Awakened, awaken_mem, awaken_stores}
use Rattle.dat.specs.Rendez.{pids_of}
use Rattle.qlock.specs.Queue.{LockAsks, Dequeued, DequeuedOne, dequeue_stores}
use Rattle.memory.specs.Link.{link}

-- The store that holds or frees a lock.
held-did
    : {z : Sizes} {s s₁ : List ℕ} {q v : ℕ}
    → LockAsks z s q
    → v ≤ 1
    → PutIn z s s₁ (slot 4 0 2) q v
    → Did z s s₁ same same (to fields.held q v ∷ []) (held_mem (mem_in z s) q v) (with_lock q (lock_with v (waiter_list (sizes_in z) (mem_in z s) q)) (machine_in z s))
unfolding used_by
held-did {z} {s} {s₁} {q} {v} a l p =
    did (to fields.held q v ∷ []) (held_mem (mem_in z s) q v) (with_lock q (lock_with v (waiter_list (sizes_in z) (mem_in z s) q)) (machine_in z s)) a.holds p.bytes
    (record { listed = omega arith; index = a.index }, l, tt)
    refl
    (λ n k. keeps_with (others k) (held-placed (holds-bounds a.holds) k.placed a.index v))
    (held-machine a.holds.keeps.placed q v)
    (EachInUse.more (before (omega arith)) EachInUse.none)

-- `canqlock` takes it only if free, and says whether it did.
pub record Tried (z : Sizes) (s s' : List ℕ) (q : ℕ) (t : Bool) : Type 0 where
  pub answer : t ≡ not (lock (machine_in z s) q).held
  pub no : t ≡ false → s' ≡ s
  pub yes
      : t ≡ true
      → Did z s s' same same (to fields.held q 1 ∷ []) (held_mem (mem_in z s) q 1)
      (with_lock q (record { held = true; waiters = (lock (machine_in z s) q).waiters }) (machine_in z s))

held-is : {z : Sizes} {s : List ℕ} {q : ℕ} → LockAsks z s q → (lock (machine_in z s) q).held ≡ is_set (mem_in z s fields.held q)
held-is {q = q} a = ap (λ (x : Lock). x.held) (lock_of (holds-bounds a.holds) q)

pub held-said : {z : Sizes} {s : List ℕ} {q v : ℕ} → LockAsks z s q → v ≡ mem_in z s fields.held q → is_set v ≡ (lock (machine_in z s) q).held
held-said a e = ap is_set e ∙ sym (held-is a)

waiters_are : {z : Sizes} {s : List ℕ} {q : ℕ} → LockAsks z s q → (lock (machine_in z s) q).waiters ≡ waiter_list (sizes_in z) (mem_in z s) q
waiters_are {q = q} a = ap (λ (x : Lock). x.waiters) (lock_of (holds-bounds a.holds) q)

pub tried_held : {z : Sizes} {s : List ℕ} {q : ℕ} {v : Bool} → LockAsks z s q → v ≡ (lock (machine_in z s) q).held → v ≡ true → Tried z s s q false
tried_held {z} {s} {q} {v} a e d =
    record {
      answer = sym (ap not (sym e ∙ d));
      no = λ _. refl;
      yes = λ x. absurd (both_ways _ (sym x) refl);
    }

pub tried_free
    : {z : Sizes} {s s₁ : List ℕ} {q : ℕ} {v : Bool}
    → LockAsks z s q
    → v ≡ (lock (machine_in z s) q).held
    → v ≡ false
    → PutIn z s s₁ (slot 4 0 2) q 1
    → Tried z s s₁ q true
tried_free {z} {s} {s₁} {q} {v} a e d p =
    record {
      answer = sym (ap not (sym e ∙ d));
      no = λ x. absurd (both_ways _ x refl);
      yes = λ _.
          did_as (held-did a (omega arith) p) refl refl
          (ap (λ (xs : List ℕ). with_lock q (record { held = true; waiters = xs }) (machine_in z s)) (sym (waiters_are a)));
    }

-- A lock with waiters is held.
pub record HandAsks (z : Sizes) (s : List ℕ) (q : ℕ) : Type 0 where
  pub owed : ℕ
  pub holds : Holds z s owed
  pub index : q < z.locks
  pub held : mem_in z s fields.held q ≡ 0 → waiter_list (sizes_in z) (mem_in z s) q ≡ []

-- The link l names the first waiter, who is readied and the lock stays held; it is 0 where there is none, and the lock is freed. Either
-- is the machine's.
pub record Handed (z : Sizes) (s s' : List ℕ) (q l : ℕ) : Type 0 where
  pub nobody : l ≡ 0 → Did z s s' same same (to fields.held q 0 ∷ []) (held_mem (mem_in z s) q 0) (hand_over q (machine_in z s)).machine
  pub somebody
      : (i : ℕ)
      → l ≡ suc i
      → Did z s s' same same (dequeue_stores (mem_in z s) q i ++ awaken_stores (dequeue_mem (mem_in z s) q i) i)
      (awaken_mem (dequeue_mem (mem_in z s) q i) i) (hand_over q (machine_in z s)).machine
  pub holds : (n : ℕ) → Holds z s n → Holds z s' n
  pub machine : machine_in z s' ≡ (hand_over q (machine_in z s)).machine
  pub readied : pids_of (mem_in z s) l ≡ (hand_over q (machine_in z s)).readied
  pub range : l ≤ z.processes
  pub touched : Touched z s s'

hand_none : (m : Machine) (q : ℕ) → (lock m q).waiters ≡ [] → ((hand_over q m).machine ≡ with_lock q (record { held = false; waiters = [] }) m) × ((hand_over q m).readied ≡ [])
unfolding hand_over
hand_none m q e = (rw e, rw e)

hand_some
    : (m : Machine) (q i : ℕ) (rest : List ℕ)
    → (lock m q).waiters ≡ i ∷ rest
    → ((hand_over q m).machine ≡ ready i (with_lock q (record { held = true; waiters = rest }) m)) × ((hand_over q m).readied ≡ pid_of m i ∷ [])
unfolding hand_over
hand_some m q i rest e = (rw e, rw e)

pub hand_lock : {z : Sizes} {s : List ℕ} {q : ℕ} → HandAsks z s q → LockAsks z s q
hand_lock a = record { owed = a.owed; holds = a.holds; index = a.index }

-- nobody waits
pub handed-none : {z : Sizes} {s s₁ s₂ : List ℕ} {q l : ℕ} → HandAsks z s q → Dequeued z s s₁ q l → l ≡ 0 → PutIn z s₁ s₂ (slot 4 0 2) q 0 → Handed z s s₂ q 0
handed-none {z} {s} {s₁} {s₂} {q} {l} a d e p =
    let x : (waiter_list (sizes_in z) (mem_in z s) q ≡ []) × (s₁ ≡ s) = d.nobody e in
    let o : LockAsks z s q = hand_lock a in
    let h : ((hand_over q (machine_in z s)).machine ≡ with_lock q (record { held = false; waiters = [] }) (machine_in z s)) × ((hand_over q (machine_in z s)).readied ≡ []) =
    hand_none (machine_in z s) q (waiters_are o ∙ x.0)
    in
    let y : Did z s s₂ same same (to fields.held q 0 ∷ []) (held_mem (mem_in z s) q 0) (hand_over q (machine_in z s)).machine =
    did_as (held-did o (omega arith) (subst (λ (t : List ℕ). PutIn z t s₂ (slot 4 0 2) q 0) x.1 p)) refl refl
    (ap (λ (xs : List ℕ). with_lock q (record { held = false; waiters = xs }) (machine_in z s)) x.0 ∙ sym h.0)
    in
    record {
      nobody = λ _. y;
      somebody = λ i f. absurd (omega (arith, f));
      holds = y.holds;
      machine = y.machine;
      readied = sym h.1;
      range = omega arith;
      touched = touched-did y (same_use refl refl refl refl refl refl refl refl refl);
    }

-- the first is taken off
first-off : {z : Sizes} {s s₁ : List ℕ} {q i : ℕ} → Dequeued z s s₁ q (suc i) → DequeuedOne z s s₁ q i
first-off {z} {s} {s₁} {q} {i} d = subst (DequeuedOne z s s₁ q) (omega arith) (d.somebody (λ e. absurd (omega (arith, e))))

pub hand_awaken : {z : Sizes} {s s₁ : List ℕ} {q i : ℕ} → HandAsks z s q → Dequeued z s s₁ q (suc i) → AwakenAsks z s₁ i
hand_awaken {z} {s} {s₁} {q} {i} a d =
    let o : DequeuedOne z s s₁ q i = first-off d in
    record { owed = a.owed; holds = o.did.holds a.owed a.holds; nowhere = o.nowhere }

-- the first is handed the lock
pub handed-one : {z : Sizes} {s s₁ s₂ : List ℕ} {q i : ℕ} → HandAsks z s q → Dequeued z s s₁ q (suc i) → Awakened z s₁ s₂ i → Handed z s s₂ q (suc i)
handed-one {z} {s} {s₁} {s₂} {q} {i} a d w =
    let m : Memory = mem_in z s in
    let o : DequeuedOne z s s₁ q i = first-off d in
    let k : LockAsks z s q = hand_lock a in
    let h : ((hand_over q (machine_in z s)).machine ≡ ready i (with_lock q (record { held = true; waiters = o.rest }) (machine_in z s))) × ((hand_over q (machine_in z s)).readied ≡ pid_of (machine_in z s) i ∷ []) =
    hand_some (machine_in z s) q i o.rest (waiters_are k ∙ o.split)
    in
    let t : is_set (m fields.held q) ≡ true = ap not (ne_eqb (m fields.held q) 0 (λ e. none-some (sym o.split ∙ a.held e))) in
    let y : Did z s s₂ same same (dequeue_stores m q i ++ awaken_stores (dequeue_mem m q i) i) (awaken_mem (dequeue_mem m q i) i) (hand_over q (machine_in z s)).machine =
    did_as (did_join o.did w.did (same_use refl refl refl refl refl refl refl refl refl))
    (ap (λ (x : Memory). dequeue_stores m q i ++ awaken_stores x i) o.did.memory)
    (ap (λ (x : Memory). awaken_mem x i) o.did.memory)
    (ap (ready i) (o.did.machine ∙ ap (λ (x : Bool). with_lock q (record { held = x; waiters = o.rest }) (machine_in z s)) t) ∙ sym h.0)
    in
    record {
      nobody = λ x. absurd (omega (arith, x));
      somebody = λ j x.
          subst
          (λ (n : ℕ). Did z s s₂ same same (dequeue_stores m q n ++ awaken_stores (dequeue_mem m q n) n) (awaken_mem (dequeue_mem m q n) n) (hand_over q (machine_in z s)).machine)
          (omega (arith, x)) y;
      holds = y.holds;
      machine = y.machine;
      readied = ap (λ (x : ℕ). x ∷ []) (sym (pid_of_lem (holds-bounds a.holds) i)) ∙ sym h.1;
      range = d.range;
      touched = touched-did y (same_use refl refl refl refl refl refl refl refl refl);
    }
  where
    none-some : {x : ℕ} {xs : List ℕ} → x ∷ xs ≡ [] → ⊥
    none-some e = let d : ◌≡◌ {A = ℕ} 0 1 = cc in omega arith

-- What `give_up` answers: that the lock was not held, and nothing changed; or what `qunlock` does.
pub record GivenUp (z : Sizes) (s s' : List ℕ) (q : ℕ) (held : Bool) (l : ℕ) : Type 0 where
  pub answer : held ≡ (lock (machine_in z s) q).held
  pub no : held ≡ false → s' ≡ s
  pub yes : held ≡ true → Handed z s s' q l

abbrev pub was_held : Option (Option ℕ) → Bool
was_held None = false
was_held (Some l) = true

abbrev pub link_given : Option (Option ℕ) → ℕ
link_given None = 0
link_given (Some l) = link l

pub given-no : {z : Sizes} {s : List ℕ} {q : ℕ} {v : Bool} → HandAsks z s q → v ≡ (lock (machine_in z s) q).held → v ≡ false → GivenUp z s s q false 0
given-no a e d = record { answer = sym (sym e ∙ d); no = λ _. refl; yes = λ x. absurd (both_ways _ (sym x) refl) }

pub given-up
    : {z : Sizes} {s s₁ : List ℕ} {q l : ℕ} {v : Bool} → HandAsks z s q → v ≡ (lock (machine_in z s) q).held → v ≡ true → Handed z s s₁ q l → GivenUp z s s₁ q true l
given-up a e d h = record { answer = sym (sym e ∙ d); no = λ x. absurd (both_ways _ x refl); yes = λ _. h }
