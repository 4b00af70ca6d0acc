-- `timers::walk_link` meets its contract. The invariant: `link` is passed, and the link before t, behind it, is the one looked for. The measure is
-- the length of what is behind.
use Rattle.timers.specs.Seek.{passed_first, passed-step, passed-less, passed-end, passed-stop, front-end, front-stop}
use Rattle.timers.proofs.walk_link.Goals as goal

pub returns-then-link-eq0 : goal.returns-then-link-eq0
returns-then-link-eq0 c = search front-end

pub returns-then-link-mine : goal.returns-then-link-mine
returns-then-link-mine c = search front-stop

pub loop-next-init : goal.loop-next-init
loop-next-init c = search passed_first

pub loop-next-smaller : goal.loop-next-smaller
loop-next-smaller c = search passed-less

pub loop-next-preserved : goal.loop-next-preserved
loop-next-preserved c = search passed-step

pub returns-then-next-eq0 : goal.returns-then-next-eq0
returns-then-next-eq0 c = search passed-end

pub returns-then-next-mine : goal.returns-then-next-mine
returns-then-next-mine c = search passed-stop
