-- `kin::kin_ok` meets its contract: nobody lives, or by its two parts.
use Rattle.kin.specs.Kin.{kin-all, kin-children, none_kin}
use Rattle.kin.proofs.kin_ok.Goals as goal

pub returns-then-is_none : goal.returns-then-is_none
returns-then-is_none c = none_kin c.get.result c.is_none.result c.requires c.get.ensures.value c.is_none.ensures c.if-is_none.true

pub returns-then-parents_ok : goal.returns-then-parents_ok
returns-then-parents_ok c =
    (λ t. kin-all (λ i l. (c.parents_ok.ensures.0 c.if-parents_ok.true i l).named) (c.child_counts_ok.ensures.0 t), λ k. c.child_counts_ok.ensures.1 (kin-children k))

pub returns-else-parents_ok : goal.returns-else-parents_ok
returns-else-parents_ok c = (λ t. absurd (cc), λ k. c.parents_ok.ensures.1 (λ i l. record { named = k.kin i l }))
