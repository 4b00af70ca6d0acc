-- A timer is queued by its deadline; one that is queued already is moved.
use Rattle.std.specs.Prelude.{◌≡◌, refl, List, ◌++◌, ℕ, ◌<◌}
use Rattle.std.proofs.Common.{sym, ap, subst, ◌∙◌}
use Rattle.machine.specs.Machine.{Machine, Queued}
use Rattle.machine.specs.Timers.{insert, add, delete}
use Rattle.machine.specs.Update.{with_queued}
use Rattle.layout.specs.Memory.{Memory, alter}
use Rattle.layout.specs.Writes.{Write}
use Rattle.chain.specs.Lists.{none-absent}
use Rattle.state.specs.Fields as fields
use Rattle.state.specs.Abs.{run_list, waiter_list, exit_list, waits_on, exit_at, process_at, machine_of}
use Rattle.state.specs.Places.{sizes_in, mem_in, Wrote, wrote_join}
use Rattle.state.specs.declared.Sizes.{Sizes}
use Rattle.timers.specs.Find.{timers_in, queue_in, spot_in}
use Rattle.timers.specs.Insert.{insert_stores, insert_mem, link_mem, head_field, queued_in, InsertAsks, Inserted, Entered}
use Rattle.timers.specs.Linked.{spot-queued}
use Rattle.holds.specs.Holds.{Holds}
use Rattle.holds.specs.Use.{SameKin, kin_at, kin_join, Between}
use Rattle.holds.specs.Leftover.{alive-kin}
use Rattle.holds.specs.Touched.{Spares, spares-stores, spares-fewer}
use Rattle.timer.specs.Only.{Owing, owing-after, aside, Only, only_none, only_set}
use Rattle.timer.specs.Aside.{holds-aside}
use Rattle.timer.specs.Use.{insert-uses, insert-ceased, insert-in_use}
use Rattle.timer.specs.Del.{machine_in, del_stores, del_mem, TimerAsks, Deleted, timers_of_lem}

-- The stores that queue timer t at deadline d, and the memory then.
abbrev pub queue_stores : Sizes → Memory → ℕ → ℕ → List Write
queue_stores z m t d = insert_stores m (spot_in z m d) t d

abbrev pub queue_mem : Sizes → Memory → ℕ → ℕ → Memory
queue_mem z m t d = insert_mem m (spot_in z m d) t d

-- It is taken off first.
abbrev pub add_stores : Sizes → Memory → ℕ → ℕ → List Write
add_stores z m t d = del_stores z m t ++ queue_stores z (del_mem z m t) t d

abbrev pub add_mem : Sizes → Memory → ℕ → ℕ → Memory
add_mem z m t d = queue_mem z (del_mem z m t) t d

-- There is a timer t, and it is off the queue.
pub record QueueAsks (z : Sizes) (s : List ℕ) (t : ℕ) : Type 0 where
  pub owing : Owing z s
  pub index : t < timers_in z
  pub off : mem_in z s fields.is_queued t ≡ 0

-- The machine's queue has it at deadline d.
pub record QueuedAt (z : Sizes) (s s' : List ℕ) (t d : ℕ) : Type 0 where
  pub holds : (n : ℕ) → Holds z s n → Holds z s' n
  pub owing : Owing z s'
  pub wrote : Wrote z s s' (queue_stores z (mem_in z s) t d)
  pub memory : mem_in z s' ≡ queue_mem z (mem_in z s) t d
  pub machine : machine_in z s' ≡ with_queued (insert (record { timer = t; deadline = d }) (machine_in z s).queued) (machine_in z s)
  pub spares : Spares z s s'
  pub kin : SameKin (mem_in z s) (mem_in z s')
  -- no more is used than before, and in a memory in which timer t is queued
  pub uses : (k : Memory) → 0 < k fields.is_queued t → Between z k (mem_in z s') (mem_in z s)

pub record Added (z : Sizes) (s s' : List ℕ) (t d : ℕ) : Type 0 where
  pub holds : (n : ℕ) → Holds z s n → Holds z s' n
  pub owing : Owing z s'
  pub wrote : Wrote z s s' (add_stores z (mem_in z s) t d)
  pub memory : mem_in z s' ≡ add_mem z (mem_in z s) t d
  pub machine : machine_in z s' ≡ add t d (machine_in z s)
  pub spares : Spares z s s'
  pub kin : SameKin (mem_in z s) (mem_in z s')

pub insert-asks : {z : Sizes} {s : List ℕ} {t : ℕ} → QueueAsks z s t → InsertAsks z s t
insert-asks {z} {s} {t} a =
    record {
      timers = timers_of_lem a.owing;
      index = a.index;
      absent = none-absent t (queue_in z (mem_in z s)) (sym (a.owing.holds.keeps.timed.queued t) ∙ a.off);
    }

-- An insertion changes the machine's queue and nothing else of it.
machine-entered
    : (z : Sizes) (m : Memory) (p t d : ℕ)
    → machine_of (sizes_in z) (insert_mem m p t d) ≡ with_queued (queued_in z (insert_mem m p t d)) (machine_of (sizes_in z) m)
unfolding machine_of with_queued run_list waiter_list process_at exit_list exit_at waits_on
machine-entered z m p t d = refl

machine-insert
    : (z : Sizes) (m : Memory) (p t d : ℕ)
    → Entered z m (insert_mem m p t d) t d
    → machine_of (sizes_in z) (insert_mem m p t d)
    ≡ with_queued (insert (record { timer = t; deadline = d }) (machine_of (sizes_in z) m).queued) (machine_of (sizes_in z) m)
unfolding machine_of
machine-insert z m p t d n =
    machine-entered z m p t d ∙ ap (λ (q : List Queued). with_queued q (machine_of (sizes_in z) m)) n.queued

only-insert : (m : Memory) (p t d : ℕ) → Only aside m (insert_mem m p t d)
only-insert m p t d =
    only_set fields.is_queued (alter (m fields.is_queued) t 1) refl
    (only_set fields.deadline (alter (m fields.deadline) t d) refl
    (only_set fields.timer_head (head_field m p t) refl (only_set fields.timer_next (link_mem m p t fields.timer_next) refl (only_none aside m))))

-- What the code of `queue` shows, and that of `add`.
pub queued : {z : Sizes} {s s' : List ℕ} {t d : ℕ} → QueueAsks z s t → Inserted z s s' t d → QueuedAt z s s' t d
queued {z} {s} {s'} {t} {d} a r =
    let m : Memory = mem_in z s in
    let e : mem_in z s' ≡ queue_mem z m t d = r.memory in
    let k : (n : ℕ) → Holds z s n → Holds z s' n =
    λ n h.
    holds-aside r.timers.state (subst (Only aside m) (sym e) (only-insert m (spot_in z m d) t d))
    (record { chain = r.entered.chain; queued = r.entered.flagged h.keeps.timed.queued })
    n h
    in
    record {
      holds = k;
      owing = owing-after a.owing k;
      wrote = r.wrote;
      memory = e;
      machine =
          ap (λ (k : Memory). machine_of (sizes_in z) k) e
          ∙ machine-insert z m (spot_in z m d) t d (subst (λ (k : Memory). Entered z m k t d) e r.entered);
      spares =
          spares-stores a.owing.holds r.wrote.bytes r.writable e
          (insert-in_use z m (spot_in z m d) t d (spot-queued z m d a.owing.holds.keeps.timed.queued))
          (insert-ceased m (spot_in z m d) t d);
      kin = kin_at e (record { pids = refl });
      uses = λ k h. subst (λ (x : Memory). Between z k x m) (sym e) (insert-uses z m (spot_in z m d) t d k h);
    }

pub queue-asks : {z : Sizes} {s s₁ : List ℕ} {t : ℕ} → TimerAsks z s t → Deleted z s s₁ t → QueueAsks z s₁ t
queue-asks a d = record { owing = d.owing; index = a.index; off = d.off }

machine-add : (t d : ℕ) (m : Machine) → with_queued (insert (record { timer = t; deadline = d }) (delete t m).queued) (delete t m) ≡ add t d m
unfolding add delete with_queued
machine-add t d m = refl

pub added : {z : Sizes} {s s₁ s₂ : List ℕ} {t d : ℕ} → TimerAsks z s t → Deleted z s s₁ t → QueuedAt z s₁ s₂ t d → Added z s s₂ t d
added {z} {s} {s₁} {s₂} {t} {d} a o q =
    let m : Memory = mem_in z s in
    record {
      holds = λ n h. q.holds n (o.holds n h);
      owing = q.owing;
      wrote =
          wrote_join z (del_stores z m t) (queue_stores z (del_mem z m t) t d) o.wrote
          (subst (λ (k : Memory). Wrote z s₁ s₂ (queue_stores z k t d)) o.memory q.wrote);
      memory = q.memory ∙ ap (λ (k : Memory). queue_mem z k t d) o.memory;
      machine =
          q.machine
          ∙ ap (λ (x : Machine). with_queued (insert (record { timer = t; deadline = d }) x.queued) x) o.machine
          ∙ machine-add t d (machine_in z s);
      spares = spares-fewer o.spares o.fewer q.spares (alive-kin q.kin);
      kin = kin_join o.fewer.kin q.kin;
    }
