-- What a step comes back with.
use Rattle.std.specs.Prelude.{Bool, List, [], ◌∷◌, ℕ}
use Rattle.machine.specs.Machine.{Machine}

-- Answers: `pid N`, `run N`, `done`, `asleep`, `yes` or `no`, `fired F S`, `exit N BYTES`, `idle` (none ready, some asleep),
-- `end` (none of either). A finished wait gives `child N BYTES`, after `run N ` when it ends in `sched`.
pub data Answer : Type 0 where
  pid : (n : ℕ) → Answer
  run : (n : ℕ) → Answer
  run_child : (n child : ℕ) (message : List ℕ) → Answer
  done : Answer
  asleep : Answer
  yes_no : Bool → Answer
  fired : (f stuck : ℕ) → Answer
  exit : (n : ℕ) (status : List ℕ) → Answer
  child : (n : ℕ) (message : List ℕ) → Answer
  idle : Answer
  end : Answer

-- A step is done with an answer, or refused with a number of the table.
pub data Reply : Type 0 where
  answer : Answer → Reply
  refused : ℕ → Reply

-- The reply and the machine after; and what the history of a list of steps is read from: the pids of those whom the step
-- readied, in order, the pid of whom it dispatched, if anyone, and how often timer 0 fired.
pub record Outcome : Type 0 where
  pub reply : Reply
  pub after : Machine
  pub readied : List ℕ
  pub dispatched : List ℕ
  pub fired : ℕ

-- An outcome that readies and dispatches nobody.
unfoldable pub answered : Answer → Machine → Outcome
answered a m = record { reply = answer a; after = m; readied = []; dispatched = []; fired = 0 }

-- An outcome that readies these, in order.
unfoldable pub readying : List ℕ → Answer → Machine → Outcome
readying is a m = record { reply = answer a; after = m; readied = is; dispatched = []; fired = 0 }

-- An outcome that dispatches one.
unfoldable pub dispatching : ℕ → Answer → Machine → Outcome
dispatching i a m = record { reply = answer a; after = m; readied = []; dispatched = i ∷ []; fired = 0 }

-- All of this module, for whoever computes with it.
unfoldable pub open_outcome : Unit {0}
unfolding answered readying dispatching
open_outcome = tt
