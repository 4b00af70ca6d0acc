-- `kin::count_children` meets its contract: the children below i are counted.
use Rattle.std.proofs.Common.{arith}
use Rattle.kin.specs.Count.{count-few, count-more}
use Rattle.rules.specs.Reach.{records-few}
use Rattle.kin.specs.Kin.{count-start}
use Rattle.kin.proofs.count_children.Goals as goal
use Rattle.kin.proofs.count_children.Goals.{in-Some, in_default}

pub loop-i-init : goal.loop-i-init
loop-i-init c = count-start (records-few c.args.v.now.whole).1 c.requires

pub overflow_add-children : goal.overflow_add-children
overflow_add-children c = rw c.from.ensures (omega (arith, count-few c.loop-i.invariant c.in-Some.j (omega (arith, c.in-Some.ensures.small))))

pub loop-i-preserved : goal.loop-i-preserved
loop-i-preserved c =
    elim c.match-parent_of.branch [
      | in-Some w ↦ count-more c.loop-i.invariant c.loop-i-test.true w.in-Some.ensures.value (rw w.from.ensures at w.children-is)
      | in_default w ↦ count-more c.loop-i.invariant c.loop-i-test.true w.in_default.ensures.value w.children-is
    ]
