-- `walks::all_exits_ok` meets its contract: the records below i are in order and have n exits.
use Rattle.std.proofs.Common.{rules, arith}
use Rattle.rules.specs.Reach.{records-few}
use Rattle.walks.specs.AllExits.{exits-start, exits-more, exits-bad, exits-end}
use Rattle.walks.proofs.all_exits_ok.Goals as goal

pub loop-i-init : goal.loop-i-init
loop-i-init c = exits-start

pub returns-in_err-n : goal.returns-in_err-n
returns-in_err-n c = rw c.from_residual.ensures (exits-bad c.loop-i.invariant c.loop-i-test.true c.in_err-n.ensures)

pub overflow_add-n : goal.overflow_add-n
overflow_add-n c =
    omega (arith, c.loop-i.invariant.few, c.loop-i-test.true, (records-few c.args.v.now.whole).1, c.in_ok-n.ensures.2)

pub loop-i-preserved : goal.loop-i-preserved
loop-i-preserved c = exits-more c.loop-i.invariant c.loop-i-test.true c.in_ok-n.ensures

pub returns : goal.returns
returns c = exits-end c.loop-i.invariant (search rules)
