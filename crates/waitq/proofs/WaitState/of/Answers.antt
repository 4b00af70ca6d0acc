-- `waitq::WaitState::of` meets its contract: each return cites its law of specs/WaitCode.antt.
use Rattle.waitq.specs.WaitCode.{wait-index, wait-in_use, wait-take, wait-alone, wait-sleep}
use Rattle.std.proofs.Common.{rules, arith}
use Rattle.waitq.proofs.WaitState.of.Goals as goal

pub get-requires : goal.get-requires
get-requires c = record { inside = search rules; index = omega (arith, wait-index); long = search rules }

pub returns-then-get-number : goal.returns-then-get-number
returns-then-get-number c = wait-in_use c.requires c.get.ensures.value (rw c.number.ensures at c.if-get-number.true)

pub get-nexits-requires : goal.get-nexits-requires
get-nexits-requires c = record { inside = search rules; index = omega (arith, wait-index); long = search rules }

pub returns-then-nexits-gt0 : goal.returns-then-nexits-gt0
returns-then-nexits-gt0 c =
    wait-take c.requires c.get.ensures.value (rw c.number.ensures at c.if-get-number.false) c.get-nexits.ensures.value c.if-nexits-gt0.true

pub get-nchild-requires : goal.get-nchild-requires
get-nchild-requires c = record { inside = search rules; index = omega (arith, wait-index); long = search rules }

pub returns-then-nchild-eq0 : goal.returns-then-nchild-eq0
returns-then-nchild-eq0 c =
    wait-alone c.requires c.get.ensures.value (rw c.number.ensures at c.if-get-number.false) c.get-nexits.ensures.value c.if-nexits-gt0.false
    c.get-nchild.ensures.value c.if-nchild-eq0.true

pub returns : goal.returns
returns c =
    wait-sleep c.requires c.get.ensures.value (rw c.number.ensures at c.if-get-number.false) c.get-nexits.ensures.value c.if-nexits-gt0.false
    c.get-nchild.ensures.value c.if-nchild-eq0.false
