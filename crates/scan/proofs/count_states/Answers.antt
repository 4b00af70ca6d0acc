-- `scan::count_states` meets its contract: at each turn the records below i are counted.
use Rattle.std.proofs.Common.{rules}
use Rattle.rules.specs.Reach.{reach}
use Rattle.scan.specs.Tallies.{counting_start, counting_more}
use Rattle.scan.proofs.count_states.Goals as goal

pub loop-i-init : goal.loop-i-init
loop-i-init c = counting_start

pub get-state-requires : goal.get-state-requires
get-state-requires c = reach c.args.v.now.whole (search rules) c.loop-i-test.true

pub loop-i-preserved : goal.loop-i-preserved
loop-i-preserved c =
    counting_more c.loop-i.invariant (rw (c.get-state.ensures.value, c.number.ensures) at c.tally-ready.ensures)
    (rw (c.get-state.ensures.value, c.number-in-loop-i.ensures) at c.tally-asleep.ensures)
    (rw c.queueing_at.ensures at c.tally-queueing.ensures)
