-- `kin::parent_ok` meets its contract, by the two tests that need the living: the link to the parent, and the search for its pid.
use Rattle.kin.specs.Kin.{parent-range}
use Rattle.kin.specs.Search.{named_some, none_link, named_search}
use Rattle.kin.proofs.parent_ok.Goals as goal

pub returns-then-is_some : goal.returns-then-is_some
returns-then-is_some c =
    named_some c.parent_of.result c.is_some.result c.requires.aged (parent-range c.args.v.now.whole) c.parent_of.ensures.value c.is_some.ensures c.if-is_some.true

pub returns-else-is_some : goal.returns-else-is_some
returns-else-is_some c =
    named_search c.binary_search.result c.is_err.result c.requires.aged c.requires.filled c.get.ensures.value c.if-get-eq0.false c.get-parent.ensures.value c.if-parent-eq0.false
    (none_link c.parent_of.result c.is_some.result c.parent_of.ensures.value c.is_some.ensures c.if-is_some.false) c.binary_search.ensures.position c.is_err.ensures.value
