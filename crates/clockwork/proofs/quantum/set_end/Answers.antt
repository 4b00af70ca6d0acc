-- `clockwork::quantum::set_end` meets its contract: by its law of specs/Quantum.antt.
use Rattle.clockwork.specs.Quantum.{quantum-set}
use Rattle.clockwork.proofs.quantum.set_end.Goals as goal

pub returns-clause-became : goal.returns-clause-became
returns-clause-became c = search quantum-set
