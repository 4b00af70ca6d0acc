-- `walks::timer_queue_ok` meets its contract: n timers were met, the last of deadline `last`.
use Rattle.std.proofs.Common.{rules, arith}
use Rattle.rules.specs.Reach.{records-few, timers-few, reach}
use Rattle.walks.specs.TimerQueue.{timer-start, timer-index, timer-more, timer-long, timer_unqueued, timer_early, timer-end}
use Rattle.walks.proofs.timer_queue_ok.Goals as goal

pub loop-at-init : goal.loop-at-init
loop-at-init c = timer-start c.args.v.now.whole c.get-at.ensures.value

pub returns-then-n-most : goal.returns-then-n-most
returns-then-n-most c = timer-long (rw c.in-Some.is at c.loop-at.invariant) c.if-n-most.true

pub get-requires : goal.get-requires
get-requires c = reach c.args.v.now.whole (search rules) (timer-index (rw c.in-Some.is at c.loop-at.invariant))

pub returns-then-get-ne1 : goal.returns-then-get-ne1
returns-then-get-ne1 c = timer_unqueued (rw c.in-Some.is at c.loop-at.invariant) c.get.ensures.value c.if-get-ne1.true

pub get-due-requires : goal.get-due-requires
get-due-requires c = reach c.args.v.now.whole (search rules) (timer-index (rw c.in-Some.is at c.loop-at.invariant))

pub returns-then-due-last : goal.returns-then-due-last
returns-then-due-last c = timer_early (rw c.in-Some.is at c.loop-at.invariant) c.get-due.ensures.value c.if-due-last.true

pub get-at-requires-in-Some : goal.get-at-requires-in-Some
get-at-requires-in-Some c = reach c.args.v.now.whole (search rules) (timer-index (rw c.in-Some.is at c.loop-at.invariant))

pub overflow_add-n : goal.overflow_add-n
overflow_add-n c = omega (arith, c.loop-at.invariant.few, (timers-few c.args.v.now.whole).1, (records-few c.args.v.now.whole).1)

pub loop-at-preserved : goal.loop-at-preserved
loop-at-preserved c =
    timer-more (rw c.in-Some.is at c.loop-at.invariant) c.args.v.now.whole c.if-n-most.false c.get.ensures.value c.if-get-ne1.false c.get-due.ensures.value c.if-due-last.false
    c.get-at-in-Some.ensures.value

pub returns : goal.returns
returns c = timer-end c.args.v.now.whole (rw c.in_default.is at c.loop-at.invariant)
