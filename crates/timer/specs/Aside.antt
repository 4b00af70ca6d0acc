-- No group of what a state keeps reads those fields, but the timer queue's.
use Rattle.std.specs.Prelude.{if◌then◌else◌, ◌≡◌, refl, Bool, true, false, ◌||◌, List, ◌∷◌, ◌++◌, ℕ, zero, suc, ◌+◌, eqb, length}
use Rattle.std.proofs.Common.{sym, ap, subst, ◌∙◌}
use Rattle.std.proofs.Math.Path.{fun_ext}
use Rattle.machine.specs.Basics.{numbers_from, concat_map, present}
use Rattle.machine.specs.Machine as machine
use Rattle.layout.specs.Memory.{Memory}
use Rattle.layout.specs.Writes.{State}
use Rattle.state.specs.Fields as fields
use Rattle.state.specs.Abs.{table, run_list, waiter_list, timer_list, exit_list, waits_on, process_at, machine_of}
use Rattle.state.specs.WellFormed.{age_list, in_use}
use Rattle.state.specs.Places.{sizes_in, mem_in}
use Rattle.state.specs.declared.Sizes.{Sizes}
use Rattle.rules.specs.Facts.{SleepsHere, WaitsHere}
use Rattle.lists.specs.Lists.{each_map}
use Rattle.holds.specs.Holds.{Placed, Timed, Keeps, Holds}
use Rattle.timer.specs.Only.{of_queue, plain, aside, Only}

-- The memory with those fields from another: what it holds at any closed field computes.
abbrev over : Memory → Memory → Memory
over m m' f = if aside f then m' f else m f

over-only : {m m' : Memory} → Only aside m m' → over m m' ≡ m'
over-only {m} {m'} b = fun_ext (λ f. go f (aside f) refl)
  where
    go : (f : ℕ) (c : Bool) → aside f ≡ c → (if c then m' f else m f) ≡ m' f
    go f true e = refl
    go f false e = sym (b.same f e)

-- Who sleeps on its waitr is read off other fields.
numbers-same
    : (n k : ℕ) (f g : ℕ → machine.Process)
    → ((i : ℕ) → (g i).on_waitr ≡ (f i).on_waitr)
    → numbers_from k (λ (p : machine.Process). p.on_waitr) (table n g) ≡ numbers_from k (λ (p : machine.Process). p.on_waitr) (table n f)
unfolding numbers_from table
numbers-same zero k f g e = refl
numbers-same (suc n) k f g e =
    λ j. if e 0 j
    then k ∷ numbers-same n (suc k) (λ i. f (suc i)) (λ i. g (suc i)) (λ i. e (suc i)) j
    else numbers-same n (suc k) (λ i. f (suc i)) (λ i. g (suc i)) (λ i. e (suc i)) j

waitr_of : (c : Bool) (d p q : machine.Process) → p.on_waitr ≡ q.on_waitr → (if c then d else p).on_waitr ≡ (if c then d else q).on_waitr
waitr_of true d p q e = refl
waitr_of false d p q e = e

waitr-over : (m m' : Memory) (i : ℕ) → (process_at (over m m') i).on_waitr ≡ (process_at m i).on_waitr
unfolding process_at waits_on
waitr-over m m' i = waitr_of (eqb (m fields.pid i) 0) machine.free _ _ refl

asleep-over : (z : machine.Sizes) (m m' : Memory) → machine.asleep (machine_of z (over m m')) ≡ machine.asleep (machine_of z m)
unfolding machine.asleep machine.asleep_on machine_of waiter_list
asleep-over z m m' =
    ap
    (λ (xs : List ℕ). length (present (machine_of z m).sleepers ++ xs ++ concat_map (λ (l : machine.Lock). l.waiters) (machine_of z m).locks))
    (numbers-same z.processes 0 (process_at m) (process_at (over m m')) (waitr-over m m'))

placed-over : {z : machine.Sizes} {m : Memory} {n : ℕ} (m' : Memory) → Placed z m n → Placed z (over m m') n
unfolding run_list waiter_list
placed-over {z} {m} {n} m' p =
    record {
      free = p.free;
      used = p.used;
      running = p.running;
      run = record { queue = p.run.queue; ready = p.run.ready };
      rendez = λ r i e. let s : SleepsHere m r i = p.rendez r i e in record { state = s.state; kind = s.kind; object = s.object };
      locks = p.locks;
      waiting = λ q. each_map (WaitsHere m q) (WaitsHere (over m m') q) (waiter_list z m q) (λ i w. record { state = w.state; kind = w.kind; object = w.object }) (p.waiting q);
      asleep = p.asleep ∙ ap (λ (k : ℕ). n + k) (sym (asleep-over z m m'));
      unlinked = p.unlinked;
      blanks = p.blanks;
    }

keeps-over : {z : machine.Sizes} {m : Memory} {n : ℕ} (m' : Memory) → Keeps z m n → Timed z (over m m') → Keeps z (over m m') n
unfolding exit_list age_list in_use
keeps-over {z} {m} {n} m' k t =
    record {
      header = record {
        mark = k.header.mark;
        layout = k.header.layout;
        processes = k.header.processes;
        rendez = k.header.rendez;
        locks = k.header.locks;
        timers = k.header.timers;
        cells = k.header.cells;
        hz = k.header.hz;
      };
      placed = placed-over m' k.placed;
      timed = t;
      cells = record { chain = k.cells.chain; counted = k.cells.counted; owned = k.cells.owned; owner = k.cells.owner };
      ages = record {
        younger = k.ages.younger;
        older = k.ages.older;
        rising = k.ages.rising;
        living = k.ages.living;
        parent_at = k.ages.parent_at;
        orphan = k.ages.orphan;
      };
      index = record {
        records = k.index.records;
        full_records = k.index.full_records;
        cells = k.index.cells;
        full_cell_words = k.index.full_cell_words;
        full_cells = k.index.full_cells;
      };
    }

-- A state whose other fields are as they were, and whose timer queue holds, keeps all groups.
pub holds-aside
    : {z : Sizes} {s s' : List ℕ}
    → State fields.layout1 (fields.most_of (sizes_in z)) (fields.counts (sizes_in z)) s'
    → Only aside (mem_in z s) (mem_in z s')
    → Timed (sizes_in z) (mem_in z s')
    → (n : ℕ)
    → Holds z s n
    → Holds z s' n
holds-aside {z} {s} {s'} st b t n h =
    let e : over (mem_in z s) (mem_in z s') ≡ mem_in z s' = over-only b in
    record {
      sizes = h.sizes;
      state = st;
      keeps = subst (λ (k : Memory). Keeps (sizes_in z) k n) e (keeps-over (mem_in z s') h.keeps (subst (Timed (sizes_in z)) (sym e) t));
    }

-- And one in which only fields changed that no group reads.
plain-aside : (f : ℕ) → aside f ≡ false → plain f ≡ false
plain-aside f e = go (plain f) e
  where
    go : (b : Bool) → b || of_queue f ≡ false → b ≡ false
    go true d = d
    go false d = refl

timed-same
    : {z : machine.Sizes} {m : Memory} (m' : Memory)
    → m' fields.timer_next ≡ m fields.timer_next
    → m' fields.timer_head ≡ m fields.timer_head
    → m' fields.is_queued ≡ m fields.is_queued
    → Timed z m
    → Timed z m'
unfolding timer_list
timed-same {z} {m} m' g h q t = record { chain = rw (g, h) t.chain; queued = λ i. rw (g, h, q) (t.queued i) }

pub holds-plain
    : {z : Sizes} {s s' : List ℕ}
    → State fields.layout1 (fields.most_of (sizes_in z)) (fields.counts (sizes_in z)) s'
    → Only plain (mem_in z s) (mem_in z s')
    → (n : ℕ)
    → Holds z s n
    → Holds z s' n
holds-plain {z} {s} {s'} st b n h =
    holds-aside st (record { same = λ f e. b.same f (plain-aside f e) })
    (timed-same (mem_in z s') (b.same fields.timer_next refl) (b.same fields.timer_head refl) (b.same fields.is_queued refl) h.keeps.timed)
    n h
