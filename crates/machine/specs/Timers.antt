-- The timer queue, and `interrupt`.
use Rattle.std.specs.Prelude.{if◌then◌else◌, Bool, true, false, not, List, [], ◌∷◌, ◌++◌, ℕ, zero, suc, ◌+◌, ◌-◌, eqb, leb, ltb}
use Rattle.machine.specs.Basics.{is_some, filter, first_that}
use Rattle.machine.specs.Machine.{Machine, Queued, Resume, nothing, in_sleep, in_tsleep, in_qlock, in_wait, process, setting}
use Rattle.machine.specs.Update.{with_ticks, with_queued}
use Rattle.machine.specs.Places.{Woken, wake}

-- Queued by deadline. Insertion walks until the first timer with a later deadline, so equals stand in order of arrival.
unfoldable pub insert : Queued → List Queued → List Queued
insert t [] = t ∷ []
insert t (x ∷ xs) = if leb x.deadline t.deadline then x ∷ insert t xs else t ∷ x ∷ xs

-- The queue without timer t.
unfoldable pub remove : ℕ → List Queued → List Queued
remove t xs = filter (λ (x : Queued). not (eqb x.timer t)) xs

-- Adding a queued timer moves it.
unfoldable pub add : ℕ → ℕ → Machine → Machine
add t deadline m = with_queued (insert (record { timer = t; deadline = deadline }) (remove t m.queued)) m

-- A timer that is deleted is no longer queued.
unfoldable pub delete : ℕ → Machine → Machine
delete t m = with_queued (remove t m.queued) m

-- Whether timer t is queued.
unfoldable pub is_queued : ℕ → Machine → Bool
is_queued t m = is_some (first_that (λ (x : Queued). eqb x.timer t) m.queued)

-- The number of the `tsleep` timer of record i.
unfoldable pub own_timer : ℕ → Machine → ℕ
own_timer i m = m.sizes.timers + i

-- `twakeup` wakes whoever is then on that Rendez: the one that the `tsleep` names.
unfoldable pub twakeup : Resume → Machine → Woken
twakeup nothing m = record { machine = m; readied = [] }
twakeup (in_sleep r c) m = record { machine = m; readied = [] }
twakeup (in_tsleep r c) m = wake r m
twakeup (in_qlock q) m = record { machine = m; readied = [] }
twakeup in_wait m = record { machine = m; readied = [] }

-- Timer 0 adds one tick. Timers 1 to K − 1 each wake one Rendez. Each process has one more for `tsleep`.
unfoldable pub callback : ℕ → Machine → Woken
callback t m =
    if eqb t 0
    then record { machine = with_ticks (suc m.ticks) m; readied = [] }
    else if ltb t m.sizes.timers then wake (setting m t).rendez m else twakeup (process m (t - m.sizes.timers)).resume m

-- The period of a timer in counts, 0 for one that fires once.
unfoldable pub period_of : ℕ → Machine → ℕ
period_of t m = (setting m t).period

-- A periodic one returns at its deadline plus its period.
unfoldable pub readd : Queued → Machine → Machine
readd x m =
    if eqb (period_of x.timer m) 0
    then m
    else with_queued (insert (record { timer = x.timer; deadline = x.deadline + period_of x.timer m }) m.queued) m

-- What firing has done so far: the machine, how many timers fired, how often timer 0 did, and who was readied.
pub record Firing : Type 0 where
  pub machine : Machine
  pub count : ℕ
  pub ticks : ℕ
  pub readied : List ℕ

-- The head, taken off the queue, does what it does, and a periodic one returns.
unfoldable pub fire : Queued → List Queued → Firing → Firing
fire x rest f = go (callback x.timer (with_queued rest f.machine))
  where
    go : Woken → Firing
    go w =
        record {
          machine = readd x w.machine;
          count = suc f.count;
          ticks = if eqb x.timer 0 then suc f.ticks else f.ticks;
          readied = f.readied ++ w.readied;
        }

-- `interrupt` fires the head while its deadline is at or before the reading. The number n bounds the firings.
unfoldable pub fire_due : ℕ → ℕ → Firing → Firing
fire_due zero now f = f
fire_due (suc n) now f =
    elim f.machine.queued [
      | [] ↦ f
      | x ∷ rest ↦ elim (leb x.deadline now) [ true ↦ fire_due n now (fire x rest f) | false ↦ f ]
    ]

-- The firings are at most so many: each firing of a periodic timer moves its deadline by at least one count.
unfoldable pub firings_owed : ℕ → List Queued → ℕ
firings_owed now [] = 0
firings_owed now (x ∷ xs) = (suc now - x.deadline) + firings_owed now xs

-- `interrupt` at a reading of the clock.
unfoldable pub interrupt : ℕ → Machine → Firing
interrupt now m = fire_due (firings_owed now m.queued) now (record { machine = m; count = 0; ticks = 0; readied = [] })

-- All of this module, for whoever computes with it.
unfoldable pub open_timers : Unit {0}
unfolding insert remove add delete is_queued own_timer twakeup callback period_of readd fire fire_due firings_owed interrupt
open_timers = tt
