-- `proc_start::begin` meets its contract: each need by its law.
use Rattle.std.proofs.Common.{rules}
use Rattle.proc_start.specs.Begin.{begin-ready, begun}
use Rattle.proc_start.proofs.begin.Goals as goal

pub ready-requires : goal.ready-requires
ready-requires c = rw c.in-Some.ensures.same.sizes (begin-ready c.requires c.in-Some.ensures.done)

pub returns-clause-done : goal.returns-clause-done
returns-clause-done c =
    let done =
    begun c.requires c.in-Some.ensures.done (rw c.in-Some.ensures.same.sizes at c.ready.ensures.done)
    in search rules
