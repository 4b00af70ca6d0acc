-- `walks::timer_queue_ok` meets its contract: n timers were met, the last of deadline `last`. The measure is how many more there may be.
use Rattle.std.specs.Prelude.{◌+◌, ◌-◌}
use Rattle.memory.specs.Link.{link}
use Rattle.walks.specs.TimerQueue.{TimerWalking}
use Rattle.walks.proofs.timer_queue_ok.Given as goal

abbrev pub invariant-loop-at : goal.invariant-loop-at
invariant-loop-at l = TimerWalking l.v.sizes l.v.bytes.now (link l.at) l.n l.last

abbrev pub decreases-loop-at : goal.decreases-loop-at
decreases-loop-at l = l.v.sizes.timers + l.v.sizes.processes - l.n
