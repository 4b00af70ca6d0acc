-- `run::run_formed` meets its contract: step by step.
use Rattle.std.specs.Prelude.{◌≡◌, length}
use Rattle.state.specs.Lent.{Same}
use Rattle.step.specs.After.{WellIn}
use Rattle.run.specs.Loop.{SoFar}
use Rattle.run.proofs.run_formed.Given as goal

abbrev pub invariant-loop-i : goal.invariant-loop-i
invariant-loop-i l =
    WellIn l.s.sizes l.s.bytes.now
    × Same l.initial.s l.s
    × (length l.answers ≡ length l.initial.answers)
    × SoFar l.steps l.left l.initial.s.bytes.now l.s.bytes.now l.initial.answers l.answers l.i
