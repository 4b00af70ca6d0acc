-- `scan::line_ok` meets its contract: n were met, each may stand in the queue, and the next link is `at`.
use Rattle.std.specs.Prelude.{◌-◌}
use Rattle.memory.specs.Link.{link}
use Rattle.state.specs.Places.{mem_in}
use Rattle.scan.specs.Lines.{Lining}
use Rattle.scan.proofs.line_ok.Given as goal

abbrev pub invariant-loop-at : goal.invariant-loop-at
invariant-loop-at l = Lining l.v.sizes.processes (mem_in l.v.sizes l.v.bytes.now) l.line l.most (link l.fn.head) (link l.at) (link l.last) l.n

abbrev pub decreases-loop-at : goal.decreases-loop-at
decreases-loop-at l = l.most - l.n
