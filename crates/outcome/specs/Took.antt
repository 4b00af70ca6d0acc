-- What a step that asks nothing of the interrupt mark ensures.
use Rattle.std.specs.Prelude.{Bool, List, [], ℕ, Result}
use Rattle.machine.specs.Step.{Body}
use Rattle.state.specs.declared.Sizes.{Sizes}
use Rattle.outcome.specs.declared.Reply.{Reply}
use Rattle.outcome.specs.declared.Refusal.{Refusal}
use Rattle.outcome.specs.Stepped.{Stepped}
use Rattle.outcome.specs.Refusals.{step}

-- Whether the step is marked or not, this is what it does.
pub record Took (z : Sizes) (s s' : List ℕ) (b : Body) (r : Result Reply Refusal) : Type 0 where
  pub stepped : (k : Bool) → Stepped z s s' (step k b) [] r
