-- `step::step` meets its contract: a refusal leaves the words.
use Rattle.step.specs.Exported.{exported_refused}
use Rattle.step.proofs.step.Goals as goal

pub returns-else-w-ge-DONE : goal.returns-else-w-ge-DONE
returns-else-w-ge-DONE c = search exported_refused
