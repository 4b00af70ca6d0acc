-- `run::refuse_all` meets its contract: step by step.
use Rattle.std.specs.Prelude.{◌≡◌, List, ℕ, length}
use Rattle.state.specs.WellFormed.{WellFormed}
use Rattle.run.specs.Loop.{SoFar}
use Rattle.run.proofs.refuse_all.Given as goal

abbrev pub invariant-loop-i : goal.invariant-loop-i
invariant-loop-i l =
    (length l.answers ≡ length l.initial.answers)
    × ((s : List ℕ) → (WellFormed s → ⊥) → SoFar l.steps l.left s s l.initial.answers l.answers l.i)
