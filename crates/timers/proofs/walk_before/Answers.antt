-- `timers::walk_before` meets its contract. The invariant: what is left is a chain, its spot is the one looked for, and the key is the deadline
-- of its first. The measure is the length of what is left.
use Rattle.timers.specs.Find.{head_near, find_start, find_step, find_less, find_end, find_stop}
use Rattle.timers.specs.Read.{read_next}
use Rattle.std.proofs.Common.{rules}
use Rattle.timers.proofs.walk_before.Goals as goal

pub deadline_at-key-requires : goal.deadline_at-key-requires
deadline_at-key-requires c = search head_near

pub loop-link-init : goal.loop-link-init
loop-link-init c = search find_start

pub deadline_at-key-requires-in-loop-link : goal.deadline_at-key-requires-in-loop-link
deadline_at-key-requires-in-loop-link c = read_next (search rules) c.loop-link.invariant.0 c.if-link-eq0.false c.next_at-link.ensures

pub loop-link-smaller : goal.loop-link-smaller
loop-link-smaller c = search find_less

pub loop-link-preserved : goal.loop-link-preserved
loop-link-preserved c = search find_step

pub returns-then-link-eq0 : goal.returns-then-link-eq0
returns-then-link-eq0 c = search find_end

pub returns-then-deadline-key : goal.returns-then-deadline-key
returns-then-deadline-key c = search find_stop
