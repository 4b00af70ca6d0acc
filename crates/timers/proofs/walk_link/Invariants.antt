-- `timers::walk_link` meets its contract. The invariant: `link` is passed, and the link before t, behind it, is the one looked for. The measure is
-- the length of what is behind.
use Rattle.timers.specs.Seek.{Passed, behind_in}
use Rattle.state.specs.Places.{mem_in}
use Rattle.std.specs.Prelude.{length}
use Rattle.timers.proofs.walk_link.Given as goal

abbrev pub invariant-loop-next : goal.invariant-loop-next
invariant-loop-next l = Passed l.v.sizes (mem_in l.v.sizes l.v.bytes.now) l.t l.link

abbrev pub decreases-loop-next : goal.decreases-loop-next
decreases-loop-next l = length (behind_in l.v.sizes (mem_in l.v.sizes l.v.bytes.now) l.link)
