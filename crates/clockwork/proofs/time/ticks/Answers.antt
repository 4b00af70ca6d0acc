-- `clockwork::time::ticks` meets its contract: by its law of specs/Clock.antt.
use Rattle.clockwork.specs.Clock.{ticks_are}
use Rattle.clockwork.proofs.time.ticks.Goals as goal

pub returns : goal.returns
returns c = search ticks_are
