-- `ages::age_out` meets its contract: its return cites its law of specs/Out.antt.
use Rattle.std.specs.Prelude.{refl}
use Rattle.state.specs.Fields.{younger, older, oldest, youngest}
use Rattle.ages.specs.Ties.{tie_asks}
use Rattle.ages.specs.Way.{tied-wrote, to_younger, to_older}
use Rattle.ages.specs.Out.{aged_out}
use Rattle.ages.proofs.age_out.Goals as goal

pub tie-requires-clause-reach : goal.tie-requires-clause-reach
tie-requires-clause-reach c =
    let w = c.requires.aged.whole in
    to_younger (tie_asks older (λ y. refl) c.args.i w c.get-older.ensures.value w.state.long c.requires.index)

pub tie-requires-2-clause-reach : goal.tie-requires-2-clause-reach
tie-requires-2-clause-reach c =
    rw c.tie.ensures.same.sizes
    (to_older (tie_asks younger (λ y. refl) c.args.i c.requires.aged.whole c.get-younger.ensures.value c.tie.ensures.tied.long c.requires.index))

pub returns-clause-done : goal.returns-clause-done
returns-clause-done c =
    aged_out c.requires c.get-older.ensures.value c.get-younger.ensures.value (tied-wrote younger oldest c.tie.ensures.tied)
    (tied-wrote older youngest (rw c.tie.ensures.same.sizes at c.tie-2.ensures.tied))
