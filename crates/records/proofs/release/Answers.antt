-- `records::release` meets its contract: each need by its law.
use Rattle.std.proofs.Common.{rules, ◌∙◌}
use Rattle.records.specs.ReleaseCode.{release_age, release-low, release-drop, released}
use Rattle.records.proofs.release.Goals as goal

pub age_out-requires : goal.age_out-requires
age_out-requires c = search release_age

pub drop_record-requires : goal.drop_record-requires
drop_record-requires c = rw c.age_out.ensures.same.sizes (release-drop c.requires c.age_out.ensures.done)

pub set-requires-clause-reach : goal.set-requires-clause-reach
set-requires-clause-reach c =
    rw (c.drop_record.ensures.same.sizes, c.age_out.ensures.same.sizes) (search (rules, release-low c.requires))

pub set-requires-2-clause-reach : goal.set-requires-2-clause-reach
set-requires-2-clause-reach c =
    rw (c.set.ensures.same.sizes, c.drop_record.ensures.same.sizes, c.age_out.ensures.same.sizes)
    (search (rules, release-low c.requires))

pub returns-clause-done : goal.returns-clause-done
returns-clause-done c =
    let done =
    let k = c.age_out.ensures.same.sizes in
    let l = c.drop_record.ensures.same.sizes ∙ k in
    released c.requires c.age_out.ensures.done (rw k at c.drop_record.ensures.done) (rw l at c.set.ensures.put)
    (rw (c.number.ensures, c.set.ensures.same.sizes, l) at c.set-2.ensures.put)
    in search rules
