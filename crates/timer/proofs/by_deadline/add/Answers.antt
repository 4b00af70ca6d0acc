-- `timer::by_deadline::add` meets its contract: by its law of specs/Lent.antt.
use Rattle.std.proofs.Common.{rules}
use Rattle.timer.specs.Lent.{off-asks, added-to}
use Rattle.timer.proofs.by_deadline.add.Goals as goal

pub enqueue-requires : goal.enqueue-requires
enqueue-requires c = off-asks c.requires c.del.ensures.same c.del.ensures.deleted

pub returns-clause-added : goal.returns-clause-added
returns-clause-added c =
    let done =
    added-to c.requires c.del.ensures.same c.del.ensures.deleted c.enqueue.ensures.queued
    in search rules
