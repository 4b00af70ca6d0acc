-- `message::Text::move_back` meets its contract: from the byte below `n` the way back ends where it ends from 127.
use Rattle.std.proofs.Common.{arith}
use Rattle.message.specs.Cut.{move_start, move_stop, move_more, move_zero}
use Rattle.message.proofs.Text.move_back.Goals as goal

pub loop-n-init : goal.loop-n-init
loop-n-init c = move_start

pub returns-then-not-goes_on : goal.returns-then-not-goes_on
returns-then-not-goes_on c = move_stop c.loop-n.invariant (omega (arith, c.loop-n-test.true)) c.goes_on.ensures c.if-not-goes_on.true

pub loop-n-preserved : goal.loop-n-preserved
loop-n-preserved c = move_more c.loop-n.invariant (omega (arith, c.loop-n-test.true)) c.goes_on.ensures c.if-not-goes_on.false

pub returns : goal.returns
returns c = move_zero c.loop-n.invariant (omega (arith, c.loop-n-test.false))
