-- `ages::find_parent` meets its contract: each return cites its law of specs/Parent.antt.
use Rattle.ages.specs.Parent.{parent-reach, parent-none, parent-unlinked, parent-here, parent-gone}
use Rattle.ages.proofs.find_parent.Goals as goal

pub returns-then-parent-eq0 : goal.returns-then-parent-eq0
returns-then-parent-eq0 c = search parent-none

pub returns-in_err-j : goal.returns-in_err-j
returns-in_err-j c = rw c.from_residual.ensures (parent-unlinked c.requires c.in_err-j.ensures.value)

pub get-requires-2 : goal.get-requires-2
get-requires-2 c = parent-reach c.requires c.in_ok-j.ensures.value

pub returns-then-get-parent : goal.returns-then-get-parent
returns-then-get-parent c = search (parent-here, c.in_ok-j.ensures.value)

pub returns-else-get-parent : goal.returns-else-get-parent
returns-else-get-parent c = search (parent-gone, c.in_ok-j.ensures.value)
