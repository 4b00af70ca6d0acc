-- `ages::age_in` meets its contract: its return cites its law of specs/In.antt.
use Rattle.std.specs.Prelude.{refl}
use Rattle.state.specs.Fields.{younger, oldest, youngest}
use Rattle.ages.specs.Ties.{tie_asks}
use Rattle.ages.specs.Way.{tied-wrote, to_younger}
use Rattle.ages.specs.In.{aged_in}
use Rattle.ages.proofs.age_in.Goals as goal

pub tie-requires-clause-reach : goal.tie-requires-clause-reach
tie-requires-clause-reach c =
    rw c.set.ensures.same.sizes
    (to_younger (tie_asks youngest (λ y. refl) 0 c.requires.aged.whole c.get-last.ensures.value c.set.ensures.put.long c.requires.index))

pub returns-clause-done : goal.returns-clause-done
returns-clause-done c =
    let k = c.set.ensures.same.sizes in
    aged_in c.requires c.get-last.ensures.value c.set.ensures.put
    (tied-wrote younger oldest (rw k at c.tie.ensures.tied))
    (rw (c.tie.ensures.same.sizes, k) at c.set-2.ensures.put)
