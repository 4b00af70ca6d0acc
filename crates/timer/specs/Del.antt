-- A timer is taken off the queue.
use Rattle.std.specs.Prelude.{◌≡◌, refl, List, ℕ, ◌<◌}
use Rattle.std.proofs.Common.{sym, ap, subst, ◌∙◌}
use Rattle.machine.specs.Machine.{Machine, Queued}
use Rattle.machine.specs.Timers.{delete}
use Rattle.machine.specs.Update.{with_queued}
use Rattle.layout.specs.Memory.{Memory}
use Rattle.layout.specs.Writes.{Write}
use Rattle.chain.specs.Links.{alter-same}
use Rattle.state.specs.Fields as fields
use Rattle.state.specs.Abs.{run_list, waiter_list, exit_list, waits_on, exit_at, process_at, machine_of}
use Rattle.state.specs.Places.{sizes_in, mem_in, Wrote}
use Rattle.state.specs.declared.Sizes.{Sizes}
use Rattle.timers.specs.Find.{timers_in, TimersIn}
use Rattle.timers.specs.Insert.{queued_in}
use Rattle.timers.specs.Remove.{remove_stores, remove_mem, head_out, links_out, RemoveAsks, Removed, Left}
use Rattle.timers.specs.Seek.{before_in}
use Rattle.timers.specs.Linked.{before-queued}
use Rattle.holds.specs.Holds.{Holds}
use Rattle.holds.specs.Use.{Fewer}
use Rattle.holds.specs.Touched.{Spares, spares-stores}
use Rattle.timer.specs.Only.{Owing, owing-after, aside, Only, only_none, only_set}
use Rattle.timer.specs.Aside.{holds-aside}
use Rattle.timer.specs.Use.{remove-fewer, remove-ceased, remove-in_use}

-- The machine of the bytes at the sizes that the code carries.
abbrev pub machine_in : Sizes → List ℕ → Machine
machine_in z s = machine_of (sizes_in z) (mem_in z s)

-- The stores of a removal, and the memory then.
abbrev pub del_stores : Sizes → Memory → ℕ → List Write
del_stores z m t = remove_stores m (m fields.is_queued t) (before_in z m t) t

abbrev pub del_mem : Sizes → Memory → ℕ → Memory
del_mem z m t = remove_mem m (m fields.is_queued t) (before_in z m t) t

-- There is a timer t.
pub record TimerAsks (z : Sizes) (s : List ℕ) (t : ℕ) : Type 0 where
  pub owing : Owing z s
  pub index : t < timers_in z

-- The machine deleted it, and it is off the queue.
pub record Deleted (z : Sizes) (s s' : List ℕ) (t : ℕ) : Type 0 where
  pub holds : (n : ℕ) → Holds z s n → Holds z s' n
  pub owing : Owing z s'
  pub wrote : Wrote z s s' (del_stores z (mem_in z s) t)
  pub memory : mem_in z s' ≡ del_mem z (mem_in z s) t
  pub machine : machine_in z s' ≡ delete t (machine_in z s)
  pub off : mem_in z s' fields.is_queued t ≡ 0
  pub spares : Spares z s s'
  pub fewer : Fewer z (mem_in z s) (mem_in z s')

-- What the queue of timers alone asks.
pub timers_of_lem : {z : Sizes} {s : List ℕ} → Owing z s → TimersIn z s
timers_of_lem o = record { sizes = o.holds.sizes; state = o.holds.state; chain = o.holds.keeps.timed.chain }

pub remove-asks : {z : Sizes} {s : List ℕ} {t : ℕ} → TimerAsks z s t → RemoveAsks z s t
remove-asks {z} {s} {t} a =
    record { timers = timers_of_lem a.owing; index = a.index; flag = a.owing.holds.keeps.timed.queued t }

-- A removal changes the machine's queue and nothing else of it.
machine-left
    : (z : Sizes) (m : Memory) (flag p t : ℕ)
    → machine_of (sizes_in z) (remove_mem m flag p t) ≡ with_queued (queued_in z (remove_mem m flag p t)) (machine_of (sizes_in z) m)
unfolding machine_of with_queued run_list waiter_list process_at exit_list exit_at waits_on
machine-left z m flag p t = refl

machine-delete
    : (z : Sizes) (m : Memory) (flag p t : ℕ)
    → Left z m (remove_mem m flag p t) t
    → machine_of (sizes_in z) (remove_mem m flag p t) ≡ delete t (machine_of (sizes_in z) m)
unfolding delete machine_of
machine-delete z m flag p t l =
    machine-left z m flag p t ∙ ap (λ (q : List Queued). with_queued q (machine_of (sizes_in z) m)) l.queued

only-remove : (m : Memory) (flag p t : ℕ) → Only aside m (remove_mem m flag p t)
only-remove m flag p t =
    only_set fields.is_queued _ refl
    (only_set fields.timer_next (links_out m flag p t) refl (only_set fields.timer_head (head_out m flag p t) refl (only_none aside m)))

-- What the code of `del` shows.
pub deleted : {z : Sizes} {s s' : List ℕ} {t : ℕ} → TimerAsks z s t → Removed z s s' t → Deleted z s s' t
deleted {z} {s} {s'} {t} a r =
    let m : Memory = mem_in z s in
    let e : mem_in z s' ≡ del_mem z m t = r.memory in
    let k : (n : ℕ) → Holds z s n → Holds z s' n =
    λ n h.
    holds-aside r.timers.state
    (subst (Only aside m) (sym e) (only-remove m (m fields.is_queued t) (before_in z m t) t))
    (record { chain = r.left.chain; queued = r.left.flagged h.keeps.timed.queued })
    n h
    in
    record {
      holds = k;
      owing = owing-after a.owing k;
      wrote = r.wrote;
      memory = e;
      machine =
          ap (λ (k : Memory). machine_of (sizes_in z) k) e
          ∙ machine-delete z m (m fields.is_queued t) (before_in z m t) t (subst (λ (k : Memory). Left z m k t) e r.left);
      off = ap (λ (k : Memory). k fields.is_queued t) e ∙ alter-same (m fields.is_queued) t 0;
      spares =
          spares-stores a.owing.holds r.wrote.bytes r.writable e
          (remove-in_use z m (m fields.is_queued t) (before_in z m t) t refl (before-queued z m t a.owing.holds.keeps.timed.queued))
          (remove-ceased m (m fields.is_queued t) (before_in z m t) t refl);
      fewer = subst (Fewer z m) (sym e) (remove-fewer z m (m fields.is_queued t) (before_in z m t) t);
    }
