-- `timer::by_deadline::is_queued` meets its contract: by its law of specs/Queued.antt.
use Rattle.timer.specs.Queued.{is_queued_lem}
use Rattle.timer.proofs.by_deadline.is_queued.Goals as goal

pub returns : goal.returns
returns c = search is_queued_lem
