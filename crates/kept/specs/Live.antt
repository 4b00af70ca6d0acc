-- Every row of the table is live where it can be: for each number but 1, 14 and 16 a list of steps on a fresh machine whose last step
-- meets it, computed; for 16, which no list is long enough to meet, a machine that keeps the rules and meets it.
use Rattle.std.specs.Prelude.{◌≡◌, refl, true, false, List, [], ◌∷◌, ℕ, ◌-◌, ◌^◌, ◌≤◌}
use Rattle.std.proofs.Common.{arith}
use Rattle.machine.specs.Machine.{Machine, Sizes, fresh, open_machine}
use Rattle.machine.specs.Update.{with_next_pid}
use Rattle.machine.specs.Step.{Step, Body, start, rfork, sched, yield, sleep, wakeup, qunlock, clock, tadd, exit, wait}
use Rattle.machine.specs.Outcome.{Reply, refused}
use Rattle.machine.specs.Exits.{cells_used}
use Rattle.machine.specs.Timers.{own_timer}
use Rattle.machine.specs.StepOf.{step_of}
use Rattle.machine.specs.Listing.{open_definitions}
use Rattle.machine.specs.Good.{Good, places, children}
use Rattle.kept.specs.Fresh.{good-fresh}

-- Three processes and one cell, at 1,000,000 Hz: a small machine on which all of them arise.
unfoldable pub small : Sizes
small = record { processes = 3; rendez = 1; locks = 1; timers = 2; cells = 1; hz = 1000000 }

-- A step, marked or not.
abbrev plain : Body → Step
plain b = record { marked = false; body = b }

abbrev marked : Body → Step
marked b = record { marked = true; body = b }

-- The reply to the last of some steps.
unfoldable pub last_reply : Machine → Step → List Step → Reply
last_reply m s [] = (step_of m s).reply
last_reply m s (x ∷ xs) = last_reply (step_of m s).after x xs

-- A number and steps, the last of which meets it.
pub record Row : Type 0 where
  pub number : ℕ
  pub first : Step
  pub rest : List Step

abbrev row : ℕ → Step → List Step → Row
row n s ss = record { number = n; first = s; rest = ss }

abbrev pub Met : List Row → Type 0
Met [] = Unit {0}
Met (r ∷ rs) = (last_reply (fresh small) r.first r.rest ≡ refused r.number) × Met rs

unfoldable pub live : List Row
live =
    row 2 (plain (wakeup 1)) []
    ∷ row 3 (marked (start 0)) []
    ∷ row 4 (plain yield) []
    ∷ row 5 (plain (start 0)) (plain (start 0) ∷ plain sched ∷ plain (sleep 0 0) ∷ plain sched ∷ plain (sleep 0 0) ∷ [])
    ∷ row 6 (plain (qunlock 0)) []
    ∷ row 7 (plain (tadd 1 0 0 0 0 0)) []
    ∷ row 8 (plain (clock 1)) (plain (clock 0) ∷ [])
    ∷ row 9 (plain (tadd 1 0 9223372036854 775807001 0 0)) []
    ∷ row 10 (plain (rfork 64 0)) []
    ∷ row 11 (plain (start 1)) []
    ∷ row 12 (plain (start 0)) (plain (start 0) ∷ plain (start 0) ∷ plain (start 0) ∷ [])
    ∷ row 13 (plain (start 0)) (plain sched ∷ plain (rfork 16 0) ∷ plain (rfork 16 0) ∷ plain yield ∷ plain sched ∷ plain (exit []) ∷ plain sched ∷ plain (exit []) ∷ [])
    ∷ row 15 (plain (start 0)) (plain sched ∷ plain wait ∷ [])
    ∷ row 17 (plain (start 0)) (plain sched ∷ plain sched ∷ [])
    ∷ []

pub live_met : Met live
unfolding open_definitions small last_reply live
live_met = (refl, (refl, (refl, (refl, (refl, (refl, (refl, (refl, (refl, (refl, (refl, (refl, (refl, (refl, tt))))))))))))))

-- A machine that keeps the rules keeps them with a later next pid.
pub good-later : (m : Machine) (v : ℕ) → Good m → m.next_pid ≤ v → v ≤ 2 ^ 64 - 1 → Good (with_next_pid v m)
unfolding with_next_pid open_machine places children cells_used own_timer
good-later m v g h l =
    record {
      in_range =
          record {
            sizes = g.in_range.sizes;
            processes = g.in_range.processes;
            rendez = g.in_range.rendez;
            locks = g.in_range.locks;
            timers = g.in_range.timers;
            conditions = g.in_range.conditions;
            each = g.in_range.each;
            settings = g.in_range.settings;
            hzclock = g.in_range.hzclock;
            queued = g.in_range.queued;
            next_pid = omega (arith, g.in_range.next_pid.0);
            last_now = g.in_range.last_now;
            freed = g.in_range.freed;
          };
      in_one_place = g.in_one_place;
      calls_fit =
          record {
            runner = g.calls_fit.runner;
            sleeper = g.calls_fit.sleeper;
            waiter = g.calls_fit.waiter;
            queuer = g.calls_fit.queuer;
          };
      by_deadline = g.by_deadline;
      queued_once = g.queued_once;
      nchild = g.nchild;
      cells = g.cells;
      apart = g.apart;
      below = λ i. omega (arith, g.below i);
      parent = g.parent;
      tsleeping = g.tsleeping;
      held = g.held;
      ticks = g.ticks;
      tick = g.tick;
      quantum = g.quantum;
    }

-- The machine on which 16 is met.
unfoldable pub last : Machine
last = with_next_pid (2 ^ 64 - 1) (fresh small)

pub last-good : Good last
unfolding last small fresh
last-good = good-later (fresh small) (2 ^ 64 - 1) (good-fresh small (omega arith)) (omega arith) (omega arith)

pub last_met : (step_of last (plain (start 0))).reply ≡ refused 16
unfolding open_definitions small last
last_met = refl
