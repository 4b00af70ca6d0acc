-- `kin::fill_pids` meets its contract: the array holds the pids so far, and the links spell the rest.
use Rattle.std.proofs.Common.{rules}
use Rattle.kin.specs.Living.{fill_start, fill-room, fill-index, fill_more, fill_end}
use Rattle.rules.specs.Reach.{records-few, reach}
use Rattle.kin.proofs.fill_pids.Goals as goal

pub loop-at-init : goal.loop-at-init
loop-at-init c = fill_start c.requires.aged (records-few c.args.v.now.whole).1 c.requires.size c.get-at.ensures.value

pub get-requires : goal.get-requires
get-requires c = reach c.args.v.now.whole (search rules) (fill-index (rw c.in-Some.is at c.loop-at.invariant))

pub bounds-pids-n : goal.bounds-pids-n
bounds-pids-n c = fill-room (rw c.in-Some.is at c.loop-at.invariant)

pub get-at-requires-in-Some : goal.get-at-requires-in-Some
get-at-requires-in-Some c = reach c.args.v.now.whole (search rules) (fill-index (rw c.in-Some.is at c.loop-at.invariant))

pub loop-at-preserved : goal.loop-at-preserved
loop-at-preserved c = fill_more (rw c.in-Some.is at c.loop-at.invariant) c.get.ensures.value (search rules) c.get-at-in-Some.ensures.value

pub returns-clause-filled : goal.returns-clause-filled
returns-clause-filled c = (fill_end (rw c.in_default.is at c.loop-at.invariant)).1
