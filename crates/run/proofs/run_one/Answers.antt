-- `run::run_one` meets its contract: each need by its law.
use Rattle.std.proofs.Common.{rules}
use Rattle.run.specs.One.{one-done}
use Rattle.run.proofs.run_one.Goals as goal

pub returns-clause-done : goal.returns-clause-done
returns-clause-done c = search (rules, one-done)
