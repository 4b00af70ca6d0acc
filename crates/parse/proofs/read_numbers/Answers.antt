-- `parse::read_numbers` meets its contract: the numbers so far are there, and `rest` follows them.
use Rattle.std.proofs.Common.{ap, arith}
use Rattle.parse.specs.Words.{rest_of}
use Rattle.parse.specs.Fields.{filling_start, filled-few, filled-end, filled-many, filled-none, filling_more}
use Rattle.parse.proofs.read_numbers.Goals as goal

pub loop-n-init : goal.loop-n-init
loop-n-init c = filling_start

pub returns-in_err-rest-clause-unread : goal.returns-in_err-rest-clause-unread
returns-in_err-rest-clause-unread c =
    let e = c.in_err-rest.was in
    rw c.from_residual.ensures (filled-few c.loop-n.invariant c.loop-n.auto.numbers (omega arith) (ap rest_of e))

pub returns-in_err-value-clause-unread : goal.returns-in_err-value-clause-unread
returns-in_err-value-clause-unread c =
    let e = c.in_ok-rest.was in
    rw c.from_residual-in_err-value.ensures
    (filled-none c.loop-n.invariant c.loop-n.auto.numbers _ (ap rest_of e) c.in_err-value.ensures.none)

pub loop-n-preserved : goal.loop-n-preserved
loop-n-preserved c =
    let e = c.in_ok-rest.was in
    rw c.in_ok-value.ensures.rest
    (filling_more c.loop-n.invariant c.loop-n.auto.numbers _ (ap rest_of e) (omega arith) c.in_ok-value.ensures.found)

pub returns-in-None-clause-read : goal.returns-in-None-clause-read
returns-in-None-clause-read c = filled-end c.loop-n.invariant c.loop-n.auto.numbers (omega arith) (ap rest_of c.in-None.is)

pub returns-in-Some-clause-unread : goal.returns-in-Some-clause-unread
returns-in-Some-clause-unread c = filled-many c.loop-n.invariant c.loop-n.auto.numbers _ (ap rest_of c.in-Some.is) (omega arith)
