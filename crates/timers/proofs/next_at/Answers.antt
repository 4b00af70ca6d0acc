-- `timers::next_at` meets its contract: by its law of specs/Read.antt.
use Rattle.std.proofs.Common.{arith}
use Rattle.timers.specs.Read.{link-within, next_of}
use Rattle.timers.proofs.next_at.Goals as goal

pub load-requires : goal.load-requires
load-requires c = omega (arith, link-within)

pub returns : goal.returns
returns c = search next_of
