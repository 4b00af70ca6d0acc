-- `run::split_step` meets its contract: each need by its law.
use Rattle.run.specs.Steps.{split-short, split-rest}
use Rattle.run.proofs.split_step.Goals as goal

pub returns-in_err-head : goal.returns-in_err-head
returns-in_err-head c = rw c.from_residual.ensures (split-short _ c.in_err-head.ensures.cases)

pub returns : goal.returns
returns c = split-rest _ _ c.in_ok-head.ensures.cases c.load-length.ensures.value c.split_at_checked-2.ensures.cases
