-- `waitq::exits::push` meets its contract: by its law of specs/Lent.antt.
use Rattle.std.proofs.Common.{arith}
use Rattle.waitq.specs.Stored.{exits-reach, nexits-reach}
use Rattle.waitq.specs.PushCode.{push-index}
use Rattle.waitq.specs.Lent.{pushed-onto, push-owner, push-first}
use Rattle.waitq.proofs.exits.push.Goals as goal

pub get-next-requires : goal.get-next-requires
get-next-requires c = search exits-reach

pub get-nexits-requires : goal.get-nexits-requires
get-nexits-requires c = search nexits-reach

pub store-requires-clause-owner : goal.store-requires-clause-owner
store-requires-clause-owner c = push-owner c.requires

pub set_head-requires-clause-there : goal.set_head-requires-clause-there
set_head-requires-clause-there c = rw c.store.ensures.same.sizes (push-index c.requires)

pub set_head-requires-clause-first : goal.set_head-requires-clause-first
set_head-requires-clause-first c = push-first c.requires

pub returns-clause-pushed : goal.returns-clause-pushed
returns-clause-pushed c =
    pushed-onto c.requires c.store.ensures.same (record { wrote = c.store.ensures.stored; wide = omega (arith, c.ranges.pid) })
    c.set_head.ensures.stored c.get-next.ensures.value
    c.get-nexits.ensures.value
