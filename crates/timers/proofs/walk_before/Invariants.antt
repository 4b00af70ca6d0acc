-- `timers::walk_before` meets its contract. The invariant: what is left is a chain, its spot is the one looked for, and the key is the deadline
-- of its first. The measure is the length of what is left.
use Rattle.timers.specs.Find.{Finding, DeadlineOf, from_link}
use Rattle.state.specs.Places.{mem_in}
use Rattle.std.specs.Prelude.{length}
use Rattle.timers.proofs.walk_before.Given as goal

abbrev pub invariant-loop-link : goal.invariant-loop-link
invariant-loop-link l = Finding l.v.sizes (mem_in l.v.sizes l.v.bytes.now) l.deadline l.prev l.link × DeadlineOf (mem_in l.v.sizes l.v.bytes.now) l.link l.key

abbrev pub decreases-loop-link : goal.decreases-loop-link
decreases-loop-link l = length (from_link l.v.sizes (mem_in l.v.sizes l.v.bytes.now) l.link)
