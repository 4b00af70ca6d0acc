-- `waitq::exits::take` meets its contract: by its law of specs/Lent.antt.
use Rattle.std.proofs.Common.{rules}
use Rattle.waitq.specs.TakeCode.{take-reach, take-pop}
use Rattle.waitq.specs.Lent.{take-never, take-mark, take-off}
use Rattle.waitq.proofs.exits.take.Goals as goal

pub get-requires : goal.get-requires
get-requires c = search take-reach

pub returns-in_err-c-clause-taken : goal.returns-in_err-c-clause-taken
returns-in_err-c-clause-taken c = absurd (take-never c.requires c.in_err-c.ensures.value)

pub drop_cell-requires : goal.drop_cell-requires
drop_cell-requires c = take-mark c.requires c.in_ok-c.ensures.value

pub pop-requires : goal.pop-requires
pop-requires c = rw c.drop_cell.ensures.same.sizes (take-pop c.requires c.drop_cell.ensures.done)

pub returns-clause-taken : goal.returns-clause-taken
returns-clause-taken c =
    let done =
    take-off c.requires c.in_ok-c.ensures.value c.drop_cell.ensures.done (rw c.drop_cell.ensures.same.sizes at c.pop.ensures.popped)
    in search rules
