-- `Good` once more, in groups of clauses that read the same parts of a machine. Two things are open in it: a process on the way
-- from one place to another is in limbo, and children that are counted but not there, or no longer there, are owed.
use Rattle.std.specs.Prelude.{◌≡◌, refl, Bool, true, false, ◌&&◌, List, [], ◌++◌, map, ℕ, ◌+◌, ◌-◌, ◌^◌, ◌≤◌, ◌<◌, eqb, length, get_or}
use Rattle.std.proofs.Common.{sym, ap, arith, not-suc-le-zero}
use Rattle.std.proofs.Math.Option.{Option, none, some}
use Rattle.clock.specs.Counts.{counts_of}
use Rattle.machine.specs.Basics.{count, count_that, concat_map, numbers_from, present}
use Rattle.machine.specs.Machine.{Sizes, nothing, in_qlock, in_wait, Exit, Process, Lock, Setting, Queued, Machine, free, process, living, asleep_on, open_machine}
use Rattle.machine.specs.Exits.{cells_used}
use Rattle.machine.specs.Timers.{own_timer}
use Rattle.machine.specs.Good.{Good, Each, SizesInRange, ProcessInRange, SettingInRange, QueuedInRange, SleepsOn, ByDeadline, IsTsleep, running_in, places, children}
use Rattle.lists.specs.Lists.{bit, each-count, count-each, count-append, count-only, count_self, present_concat, count-numbers}

-- What stands at a number, in the lists of a machine.
abbrev pub at : List Process → ℕ → Process
at ps i = get_or ps i free

-- a lock that is free
abbrev pub unheld : Lock
unheld = record { held = false; waiters = [] }

-- the lock with a number
abbrev pub lock_at : List Lock → ℕ → Lock
lock_at ls q = get_or ls q unheld

-- the cells of a record's exits
abbrev pub cells_in : Process → List ℕ
cells_in p = map (λ (e : Exit). e.cell) p.exits

-- who waits for a lock
abbrev pub waiters_of : Lock → List ℕ
waiters_of l = l.waiters

-- the timers of a queue
abbrev pub timers_of : List Queued → List ℕ
timers_of qd = map (λ (x : Queued). x.timer) qd

-- whether a record is of a living child of a pid
abbrev pub is_child : ℕ → Process → Bool
is_child pid p = living p && eqb p.parent pid

-- The records: their fields, free ones, cells and quanta.
pub record Records (z : Sizes) (ps : List Process) (ticks : ℕ) : Type 0 where
  pub size : length ps ≡ z.processes
  pub each : Each (ProcessInRange z) ps
  pub freed : (i : ℕ) → (at ps i).pid ≡ 0 → at ps i ≡ free
  pub cells : (c : ℕ) → count c (concat_map cells_in ps) ≤ 1
  pub quantum : (i : ℕ) → (at ps i).quantum_end ≤ ticks + 10

-- Kinship: pids, parents and the numbers of children, with these children owed.
pub record Kin (owed : List ℕ) (ps : List Process) (next : ℕ) : Type 0 where
  pub nchild : (i : ℕ) → 0 < (at ps i).pid → (at ps i).nchild ≡ count_that (is_child (at ps i).pid) ps + count (at ps i).pid owed
  pub apart : (i j : ℕ) → 0 < (at ps i).pid → (at ps i).pid ≡ (at ps j).pid → i ≡ j
  pub below : (i : ℕ) → (at ps i).pid < next
  pub parent : (i : ℕ) → 0 < (at ps i).pid → (at ps i).parent < (at ps i).pid

-- The timers and the clock.
pub record Clockwork (z : Sizes) (st : List Setting) (qd : List Queued) (ticks last : ℕ) : Type 0 where
  pub size : length st ≡ z.timers
  pub settings : Each (SettingInRange z) st
  pub hzclock : (get_or st 0 (record { period = 0; rendez = 0 })).period ≡ counts_of z.hz 0 10000000
  pub queued : Each (QueuedInRange z) qd
  pub last_now : last ≤ 2 ^ 51 - 1
  pub by_deadline : ByDeadline qd
  pub once : (t : ℕ) → count t (timers_of qd) ≤ 1
  pub passed : ticks ≤ last
  pub tick : Each (λ (x : Queued). x.timer ≡ 0 → ticks < x.deadline) qd

-- A process's own timer is queued only while its `tsleep` has not returned.
abbrev pub Tsleeping : Sizes → List Process → List Queued → Type 0
Tsleeping z ps qd = (i : ℕ) → 1 ≤ count (z.timers + i) (timers_of qd) → IsTsleep (at ps i).resume

-- The places, with whoever is in limbo, and the calls that fit them.
pub record Spots (z : Sizes) (o up : Option ℕ) (run : List ℕ) (sl : List (Option ℕ)) (ps : List Process) (ls : List Lock) : Type 0 where
  pub rendez : length sl ≡ z.rendez
  pub locks : length ls ≡ z.locks
  pub placed : (k : ℕ) → count k (running_in o) + count k (running_in up) + count k run + count k (concat_map running_in sl) + bit (at ps k).on_waitr + count k (concat_map waiters_of ls) ≡ bit (living (at ps k))
  pub runner : (k : ℕ) → 1 ≤ count k (running_in up) → (at ps k).resume ≡ nothing
  pub sleeper : (r k : ℕ) → 1 ≤ count k (running_in (get_or sl r none)) → SleepsOn r (at ps k).resume
  pub waiter : (k : ℕ) → (at ps k).on_waitr ≡ true → (at ps k).resume ≡ in_wait
  pub queuer : (q k : ℕ) → 1 ≤ count k (lock_at ls q).waiters → (at ps k).resume ≡ in_qlock q
  pub held : (q : ℕ) → (lock_at ls q).held ≡ false → (lock_at ls q).waiters ≡ []

pub record Fine (o : Option ℕ) (owed : List ℕ) (m : Machine) : Type 0 where
  pub sizes : SizesInRange m.sizes
  pub next : (1 ≤ m.next_pid) × (m.next_pid ≤ 2 ^ 64 - 1)
  pub conditions : length m.conditions ≡ 256
  pub records : Records m.sizes m.processes m.ticks
  pub kin : Kin owed m.processes m.next_pid
  pub clockwork : Clockwork m.sizes m.settings m.queued m.ticks m.last_now
  pub tsleeping : Tsleeping m.sizes m.processes m.queued
  pub spots : Spots m.sizes o m.up m.run m.sleepers m.processes m.locks

-- Who stands in the list of an option is what is in it.
pub in_option : (o : Option ℕ) (k : ℕ) → 1 ≤ count k (running_in o) → o ≡ some k
unfolding running_in count
in_option none k h = absurd (not-suc-le-zero h)
in_option (some i) k h = ap {B = Option ℕ} some (sym (count-only k i h))

-- What is in an option stands in its list.
pub option_in : (o : Option ℕ) (k : ℕ) → o ≡ some k → 1 ≤ count k (running_in o)
unfolding running_in
option_in o k e = rw e (omega (arith, count_self k))

-- The places of a machine, counted place by place.
pub count-places : (m : Machine) (k : ℕ) → count k (places m) ≡ count k (running_in m.up) + count k m.run + count k (concat_map running_in m.sleepers) + bit (process m k).on_waitr + count k (concat_map waiters_of m.locks)
unfolding places asleep_on process free
count-places m k =
    let a : List ℕ = present m.sleepers in
    let b : List ℕ = numbers_from 0 (λ (p : Process). p.on_waitr) m.processes in
    let c : List ℕ = concat_map waiters_of m.locks in
    let u : List ℕ = running_in m.up in
    let e : count k (places m) ≡ count k ((u ++ m.run) ++ ((a ++ b) ++ c)) = refl in
    omega (arith, e, count-append k (u ++ m.run) ((a ++ b) ++ c), count-append k u m.run, count-append k (a ++ b) c, count-append k a b, ap (count k) (present_concat m.sleepers), count-numbers (λ (p : Process). p.on_waitr) free refl m.processes k)

-- A well-formed machine, group by group.
pub fine : (m : Machine) → Good m → Fine none [] m
unfolding open_machine own_timer cells_used children count running_in
fine m g =
    record {
      sizes = g.in_range.sizes;
      next = g.in_range.next_pid;
      conditions = g.in_range.conditions;
      records = record {
        size = g.in_range.processes;
        each = g.in_range.each;
        freed = g.in_range.freed;
        cells = g.cells;
        quantum = g.quantum;
      };
      kin = record { nchild = nchildren; apart = g.apart; below = g.below; parent = g.parent };
      clockwork = record {
        size = g.in_range.timers;
        settings = g.in_range.settings;
        hzclock = g.in_range.hzclock;
        queued = g.in_range.queued;
        last_now = g.in_range.last_now;
        by_deadline = g.by_deadline;
        once = g.queued_once;
        passed = g.ticks;
        tick = g.tick;
      };
      tsleeping = g.tsleeping;
      spots = record {
        rendez = g.in_range.rendez;
        locks = g.in_range.locks;
        placed = placed;
        runner = λ k h. g.calls_fit.runner k (in_option m.up k h);
        sleeper = λ r k h. g.calls_fit.sleeper r k (in_option (get_or m.sleepers r none) k h);
        waiter = g.calls_fit.waiter;
        queuer = λ q k h. each-count (λ i. (at m.processes i).resume ≡ in_qlock q) (lock_at m.locks q).waiters (g.calls_fit.queuer q) k h;
        held = g.held;
      };
    }
  where
    nchildren : (i : ℕ) → 0 < (at m.processes i).pid → (at m.processes i).nchild ≡ count_that (is_child (at m.processes i).pid) m.processes + count (at m.processes i).pid []
    nchildren i h = omega (arith, g.nchild i h)

    placed : (k : ℕ) → count k (running_in none) + count k (running_in m.up) + count k m.run + count k (concat_map running_in m.sleepers) + bit (at m.processes k).on_waitr + count k (concat_map waiters_of m.locks) ≡ bit (living (at m.processes k))
    placed k = omega (arith, g.in_one_place k, count-places m k)

-- And back: with nobody in limbo and nothing owed it is well formed.
pub good : (m : Machine) → Fine none [] m → Good m
unfolding open_machine own_timer cells_used children count running_in
good m f =
    record {
      in_range = record {
        sizes = f.sizes;
        processes = f.records.size;
        rendez = f.spots.rendez;
        locks = f.spots.locks;
        timers = f.clockwork.size;
        conditions = f.conditions;
        each = f.records.each;
        settings = f.clockwork.settings;
        hzclock = f.clockwork.hzclock;
        queued = f.clockwork.queued;
        next_pid = f.next;
        last_now = f.clockwork.last_now;
        freed = f.records.freed;
      };
      in_one_place = placed;
      calls_fit = record {
        runner = λ k e. f.spots.runner k (option_in m.up k e);
        sleeper = λ r k e. f.spots.sleeper r k (option_in (get_or m.sleepers r none) k e);
        waiter = f.spots.waiter;
        queuer = λ q. count-each (λ i. (at m.processes i).resume ≡ in_qlock q) (lock_at m.locks q).waiters (f.spots.queuer q);
      };
      by_deadline = f.clockwork.by_deadline;
      queued_once = f.clockwork.once;
      nchild = nchildren;
      cells = f.records.cells;
      apart = f.kin.apart;
      below = f.kin.below;
      parent = f.kin.parent;
      tsleeping = f.tsleeping;
      held = f.spots.held;
      ticks = f.clockwork.passed;
      tick = f.clockwork.tick;
      quantum = f.records.quantum;
    }
  where
    nchildren : (i : ℕ) → 0 < (at m.processes i).pid → (at m.processes i).nchild ≡ count_that (is_child (at m.processes i).pid) m.processes
    nchildren i h = omega (arith, f.kin.nchild i h)

    placed : (k : ℕ) → count k (places m) ≡ bit (living (at m.processes k))
    placed k = omega (arith, f.spots.placed k, count-places m k)
