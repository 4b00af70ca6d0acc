-- `timers::deadline_at` meets its contract: by its law of specs/Read.antt.
use Rattle.std.proofs.Common.{arith}
use Rattle.timers.specs.Read.{record_within, deadline_of}
use Rattle.timers.proofs.deadline_at.Goals as goal

pub load-requires : goal.load-requires
load-requires c = omega (arith, record_within)

pub returns : goal.returns
returns c = search deadline_of
