-- `dat::on_waitr` meets its contract: each need by its law.
use Rattle.dat.specs.Waitr.{on-awake, on_call}
use Rattle.dat.proofs.on_waitr.Goals as goal

pub returns-then-get-number : goal.returns-then-get-number
returns-then-get-number c =
    rw c.number-then-get-number.ensures (on_call c.requires c.get.ensures.value (rw c.number.ensures at c.if-get-number.true) c.get-then-get-number.ensures.value)

pub returns-else-get-number : goal.returns-else-get-number
returns-else-get-number c = rw c.number.ensures (on-awake c.requires c.get.ensures.value (rw c.number.ensures at c.if-get-number.false))
