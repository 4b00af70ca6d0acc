-- `walks::ages_ok` meets its contract: n of the living were met, the last of them by the link `last`.
use Rattle.std.proofs.Common.{rules}
use Rattle.rules.specs.Reach.{reach}
use Rattle.walks.specs.Counts.{links-same, links-other, links-eq, links-ne}
use Rattle.walks.specs.Ages.{age_start, age-index, age-more, age_long, age_unlinked, age_low, age_other, age_end}
use Rattle.walks.proofs.ages_ok.Goals as goal

pub loop-at-init : goal.loop-at-init
loop-at-init c = age_start c.args.v.now.whole c.get-at.ensures.value

pub returns-then-n-v : goal.returns-then-n-v
returns-then-n-v c = age_long (rw c.in-Some.is at c.loop-at.invariant) c.if-n-v.true

pub get-requires : goal.get-requires
get-requires c = reach c.args.v.now.whole (search rules) (age-index (rw c.in-Some.is at c.loop-at.invariant))

pub returns-then-ne : goal.returns-then-ne
returns-then-ne c =
    age_unlinked (rw c.in-Some.is at c.loop-at.invariant) c.get.ensures.value (links-ne c.get.result c.loop-at.last c.ne.result c.ne.ensures c.if-ne.true)

pub get-p-requires : goal.get-p-requires
get-p-requires c = reach c.args.v.now.whole (search rules) (age-index (rw c.in-Some.is at c.loop-at.invariant))

pub returns-then-p-pid : goal.returns-then-p-pid
returns-then-p-pid c = age_low (rw c.in-Some.is at c.loop-at.invariant) c.get-p.ensures.value c.if-p-pid.true

pub get-at-requires-in-Some : goal.get-at-requires-in-Some
get-at-requires-in-Some c = reach c.args.v.now.whole (search rules) (age-index (rw c.in-Some.is at c.loop-at.invariant))

pub loop-at-preserved : goal.loop-at-preserved
loop-at-preserved c =
    age-more (rw c.in-Some.is at c.loop-at.invariant) c.args.v.now.whole c.if-n-v.false c.get.ensures.value (links-eq c.get.result c.loop-at.last c.ne.result c.ne.ensures c.if-ne.false)
    c.get-p.ensures.value c.if-p-pid.false c.get-at-in-Some.ensures.value

pub get-requires-2 : goal.get-requires-2
get-requires-2 c = reach c.args.v.now.whole (search rules) (search rules)

pub returns-then-eq : goal.returns-then-eq
returns-then-eq c =
    age_end c.args.v.now.whole (rw c.in_default.is at c.loop-at.invariant) c.get-2.ensures.value (links-same c.loop-at.last c.get-2.result c.eq.result c.eq.ensures c.if-eq.true)

pub returns-else-eq : goal.returns-else-eq
returns-else-eq c =
    age_other c.args.v.now.whole (rw c.in_default.is at c.loop-at.invariant) c.get-2.ensures.value (links-other c.loop-at.last c.get-2.result c.eq.result c.eq.ensures c.if-eq.false)
