-- `timer::by_deadline::pop_due` meets its contract: each return cites its law of specs/Lent.antt.
use Rattle.timer.specs.Lent.{head-asks, head-reach, head-later, head-popped, head-none}
use Rattle.timer.proofs.by_deadline.pop_due.Goals as goal

pub returns-in_err-t-clause-popped : goal.returns-in_err-t-clause-popped
returns-in_err-t-clause-popped c = rw c.from_residual.ensures (head-none c.requires c.in_err-t.ensures.value)

pub get-requires-2 : goal.get-requires-2
get-requires-2 c = head-reach c.requires c.in_ok-t.ensures.value

pub returns-then-reading-get-clause-popped : goal.returns-then-reading-get-clause-popped
returns-then-reading-get-clause-popped c = head-later c.requires c.in_ok-t.ensures.value c.get-2.ensures.value c.if-reading-get.true

pub pop-requires : goal.pop-requires
pop-requires c = head-asks c.requires c.in_ok-t.ensures.value

pub returns-clause-popped : goal.returns-clause-popped
returns-clause-popped c = head-popped c.requires c.in_ok-t.ensures.value c.get-2.ensures.value c.if-reading-get.false c.pop.ensures.deleted
