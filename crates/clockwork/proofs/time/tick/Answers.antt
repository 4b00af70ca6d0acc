-- `clockwork::time::tick` meets its contract: by its law of specs/Clock.antt.
use Rattle.clockwork.specs.Clock.{tick-made}
use Rattle.clockwork.proofs.time.tick.Goals as goal

pub returns-clause-became : goal.returns-clause-became
returns-clause-became c = search tick-made
