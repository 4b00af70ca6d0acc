-- The facts on queues that this crate decides together, named as in `Facts`, and what the tests of each group show.
use Rattle.std.specs.Prelude.{if◌then◌else◌, ◌≡◌, ℕ, ◌+◌, ◌<◌, eqb, length}
use Rattle.machine.specs.Machine as machine
use Rattle.layout.specs.Memory.{Memory}
use Rattle.state.specs.Fields as fields
use Rattle.state.specs.Abs.{is_set, timer_list}
use Rattle.state.specs.WellFormed.{Used, age_list}
use Rattle.rules.specs.Facts.{count_below, sum_below, TimerOk, TimersOk, ExitsOk, AgesOk, Facts}

-- The timers.
pub record TimerFacts (z : machine.Sizes) (m : Memory) : Type 0 where
  pub timers : (t : ℕ) → t < z.timers + z.processes → TimerOk z m t
  pub timer_queue : TimersOk z m
  pub all_queued : length (timer_list z m) ≡ count_below (z.timers + z.processes) (λ t. eqb (m fields.is_queued t) 1)

-- The exits.
pub record ExitFacts (z : machine.Sizes) (m : Memory) : Type 0 where
  pub exits : (i : ℕ) → i < z.processes → Used m i → ExitsOk z m i
  pub all_owned : sum_below z.processes (λ i. if is_set (m fields.pid i) then m fields.nexits i else 0) ≡ count_below z.cells (λ c. is_set (m fields.owner c))

-- The living by age.
pub record AgeFacts (z : machine.Sizes) (m : Memory) : Type 0 where
  pub ages : AgesOk z m
  pub all_living : length (age_list z m) ≡ count_below z.processes (λ i. is_set (m fields.pid i))

-- All of them.
pub record QueueFacts (z : machine.Sizes) (m : Memory) : Type 0 where
  pub timers : (t : ℕ) → t < z.timers + z.processes → TimerOk z m t
  pub timer_queue : TimersOk z m
  pub all_queued : length (timer_list z m) ≡ count_below (z.timers + z.processes) (λ t. eqb (m fields.is_queued t) 1)
  pub exits : (i : ℕ) → i < z.processes → Used m i → ExitsOk z m i
  pub all_owned : sum_below z.processes (λ i. if is_set (m fields.pid i) then m fields.nexits i else 0) ≡ count_below z.cells (λ c. is_set (m fields.owner c))
  pub ages : AgesOk z m
  pub all_living : length (age_list z m) ≡ count_below z.processes (λ i. is_set (m fields.pid i))

-- They are those of `Facts`.
pub queue-facts : {z : machine.Sizes} {m : Memory} → Facts z m → QueueFacts z m
queue-facts f =
    record {
      timers = f.timers;
      timer_queue = f.timer_queue;
      all_queued = f.all_queued;
      exits = f.exits;
      all_owned = f.all_owned;
      ages = f.ages;
      all_living = f.all_living;
    }

-- The three groups are the whole.
pub queues-all : {z : machine.Sizes} {m : Memory} → TimerFacts z m → ExitFacts z m → AgeFacts z m → QueueFacts z m
queues-all t x y =
    record {
      timers = t.timers;
      timer_queue = t.timer_queue;
      all_queued = t.all_queued;
      exits = x.exits;
      all_owned = x.all_owned;
      ages = y.ages;
      all_living = y.all_living;
    }

pub timers-of : {z : machine.Sizes} {m : Memory} → QueueFacts z m → TimerFacts z m
timers-of f = record { timers = f.timers; timer_queue = f.timer_queue; all_queued = f.all_queued }

pub exits-of : {z : machine.Sizes} {m : Memory} → QueueFacts z m → ExitFacts z m
exits-of f = record { exits = f.exits; all_owned = f.all_owned }

pub ages-of : {z : machine.Sizes} {m : Memory} → QueueFacts z m → AgeFacts z m
ages-of f = record { ages = f.ages; all_living = f.all_living }
