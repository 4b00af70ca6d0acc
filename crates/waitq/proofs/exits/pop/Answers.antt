-- `waitq::exits::pop` meets its contract: by its law of specs/Lent.antt.
use Rattle.waitq.specs.Stored.{exits-reach, nexits-reach}
use Rattle.waitq.specs.PopCode.{pop-index}
use Rattle.waitq.specs.Lent.{pop-never, pop-there, popped-off}
use Rattle.waitq.proofs.exits.pop.Goals as goal

pub get-requires : goal.get-requires
get-requires c = search exits-reach

pub returns-in_err-c-clause-popped : goal.returns-in_err-c-clause-popped
returns-in_err-c-clause-popped c = absurd (pop-never c.args.s.now c.requires c.in_err-c.ensures.value)

pub get-nexits-requires : goal.get-nexits-requires
get-nexits-requires c = search nexits-reach

pub unlink-next-requires : goal.unlink-next-requires
unlink-next-requires c = pop-there c.args.s.now c.requires c.in_ok-c.ensures.value

pub set_head-requires-clause-there : goal.set_head-requires-clause-there
set_head-requires-clause-there c = rw c.unlink-next.ensures.same.sizes (pop-index c.requires)

pub returns-clause-popped : goal.returns-clause-popped
returns-clause-popped c =
    popped-off c.args.s.now c.requires c.unlink-next.ensures.same c.in_ok-c.ensures.value c.unlink-next.ensures.unlinked c.set_head.ensures.stored
    c.get-nexits.ensures.value
