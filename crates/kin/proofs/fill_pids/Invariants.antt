-- `kin::fill_pids` meets its contract: the array holds the pids so far, and the links spell the rest.
use Rattle.std.specs.Prelude.{◌-◌}
use Rattle.memory.specs.Link.{link}
use Rattle.state.specs.Places.{sizes_in}
use Rattle.rules.specs.Code.{mem_in}
use Rattle.kin.specs.Living.{Filling}
use Rattle.kin.proofs.fill_pids.Given as goal

abbrev pub invariant-loop-at : goal.invariant-loop-at
invariant-loop-at l = Filling (sizes_in l.v.sizes) (mem_in l.v.sizes l.v.bytes.now) l.pids (link l.at) l.n

abbrev pub decreases-loop-at : goal.decreases-loop-at
decreases-loop-at l = 4097 - l.n
