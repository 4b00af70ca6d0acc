-- `Demand3` holds of every list of steps from every fresh machine.
use Rattle.std.specs.Prelude.{◌≡◌, List}
use Rattle.std.proofs.Common.{◌∙◌}
use Rattle.std.proofs.Math.Nat.{zero-add}
use Rattle.machine.specs.Machine.{Sizes, fresh}
use Rattle.history.specs.History.{Input, history_from, machine_after, blank, fired_in}
use Rattle.history.specs.Demand3.{Demand3}
use Rattle.history.proofs.Sound.{Sound}
use Rattle.history.proofs.Fresh.{sound-fresh}
use Rattle.history.proofs.Turns.{sound-after, queue_from_lem, dispatched-from, fifo, turns}
use Rattle.history.proofs.Placed.{blank-agrees, places-read, agrees_from}
use Rattle.history.proofs.Entering.{gives-enters}
use Rattle.history.proofs.Bound.{Tells, ticks-from, ticks-bound}

module _ (z : Sizes) where
  sound : (xs : List Input) → Sound (machine_after (fresh z) xs)
  sound xs = sound-after (fresh z) (sound-fresh z) xs

  tells : (xs : List Input) → Tells (history_from (fresh z) xs) (machine_after (fresh z) xs)
  unfolding fresh
  tells xs = record { agrees = agrees_from (fresh z) (sound-fresh z) xs blank (blank-agrees z); queue = queue_from_lem (fresh z) (sound-fresh z) xs }

  counted : (xs : List Input) → (machine_after (fresh z) xs).ticks ≡ fired_in (history_from (fresh z) xs)
  unfolding fresh
  counted xs = ticks-from (fresh z) (sound-fresh z) xs ∙ zero-add (fired_in (history_from (fresh z) xs))

  pub demand3 : (xs : List Input) → Demand3 z xs
  demand3 xs =
      record {
        places = places-read (machine_after (fresh z) xs) (sound xs) (history_from (fresh z) xs) (tells xs).agrees (tells xs).queue;
        dispatches = dispatched-from (fresh z) (sound-fresh z) xs;
        enters = λ before x rest split.
            gives-enters (machine_after (fresh z) before) (sound before) (history_from (fresh z) before) (tells before).agrees x;
        fifo = λ before x rest split. fifo (machine_after (fresh z) before) (sound before) x (history_from (fresh z) before) (tells before).queue;
        turns = λ before x stay rest split n ahead s.
            turns (history_from (fresh z) before) (machine_after (fresh z) before) (sound before) (tells before).queue x stay n ahead s;
        counted = counted xs;
        ticks = λ before x stay rest split n ahead s one w.
            ticks-bound (history_from (fresh z) before) (machine_after (fresh z) before) (sound before) (tells before) x stay n ahead s one w;
      }
