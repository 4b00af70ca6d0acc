-- `walks::ages_ok` meets its contract: n of the living were met, the last of them by the link `last`. The measure is how many more there may be.
use Rattle.std.specs.Prelude.{◌-◌}
use Rattle.memory.specs.Link.{link}
use Rattle.walks.specs.Ages.{AgeWalking}
use Rattle.walks.proofs.ages_ok.Given as goal

abbrev pub invariant-loop-at : goal.invariant-loop-at
invariant-loop-at l = AgeWalking l.v.sizes l.v.bytes.now (link l.at) (link l.last) l.pid l.n

abbrev pub decreases-loop-at : goal.decreases-loop-at
decreases-loop-at l = l.v.sizes.processes - l.n
