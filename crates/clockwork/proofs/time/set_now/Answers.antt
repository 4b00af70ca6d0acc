-- `clockwork::time::set_now` meets its contract: by its law of specs/Clock.antt.
use Rattle.clockwork.specs.Clock.{now_set}
use Rattle.clockwork.proofs.time.set_now.Goals as goal

pub returns-clause-became : goal.returns-clause-became
returns-clause-became c = search now_set
