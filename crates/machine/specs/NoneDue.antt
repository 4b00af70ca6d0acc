-- When no timer is due: `interrupt-ends` of proofs/TimersLaws.antt speaks of it.
use Rattle.std.specs.Prelude.{List, [], ◌∷◌, ℕ, ◌<◌}
use Rattle.machine.specs.Machine.{Queued}

-- The head of a queue, if any, has a deadline after the reading.
abbrev pub NoneDue : ℕ → List Queued → Type 0
NoneDue now [] = Unit {0}
NoneDue now (x ∷ xs) = now < x.deadline
