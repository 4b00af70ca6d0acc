-- A step on a machine: refused where the table says, otherwise done.
use Rattle.std.specs.Prelude.{if◌then◌else◌, ◌&&◌, [], ℕ, suc, eqb, ltb}
use Rattle.std.proofs.Math.Option.{Option, none, some}
use Rattle.machine.specs.Machine.{Machine}
use Rattle.machine.specs.Update.{with_next_pid}
use Rattle.machine.specs.Step.{Step, Body}
use Rattle.machine.specs.Outcome.{Outcome, refused}
use Rattle.machine.specs.Table.{on, refusal}
use Rattle.machine.specs.Perform.{perform}

-- All return only the number; all leave everything, but for 11: next pid rises by one where M = 3.
unfoldable pub left_by : ℕ → Body → Machine → Machine
left_by number b m =
    if eqb number 11 && on 2 "rfork" (λ F M. eqb M 3) b then with_next_pid (suc m.next_pid) m else m

-- A refused step returns only the number, and readies and dispatches nobody.
unfoldable pub refusing : ℕ → Machine → Outcome
refusing number m = record { reply = refused number; after = m; readied = []; dispatched = []; fired = 0 }

-- A step is refused where the table says, otherwise done.
unfoldable pub step_of : Machine → Step → Outcome
step_of m s = go (refusal m s)
  where
    go : Option ℕ → Outcome
    go none = perform s.body m
    go (some number) = refusing number (left_by number s.body m)

-- What is handed in is a step or none, with a message buffer of so many bytes. No such step, message buffer under 127: 2.
unfoldable pub outcome_of : Machine → Option Step → ℕ → Outcome
outcome_of m none buffer = refusing 2 m
outcome_of m (some s) buffer = if ltb buffer 127 then refusing 2 m else step_of m s

-- All of this module, for whoever computes with it.
unfoldable pub open_step_of : Unit {0}
unfolding left_by refusing step_of outcome_of
open_step_of = tt
