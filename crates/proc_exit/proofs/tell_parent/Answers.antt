-- `proc_exit::tell_parent` meets its contract: each need by its law.
use Rattle.proc_exit.specs.Tell.{tell-add, tell-nchild, tell-nexits, told-fewer, told-queued}
use Rattle.proc_exit.proofs.tell_parent.Goals as goal

pub get-nchild-requires : goal.get-nchild-requires
get-nchild-requires c = tell-nchild c.requires

pub get-nexits-requires : goal.get-nexits-requires
get-nexits-requires c = tell-nexits c.requires

pub queue_exit-requires : goal.queue_exit-requires
queue_exit-requires c =
    rw c.set_nchild.ensures.same.sizes
    (tell-add c.requires c.get-nchild.ensures.value c.get-nexits.ensures.value c.set_nchild.ensures.done c.if-nexits-lt128.true)

pub returns-then-nexits-lt128-clause-done : goal.returns-then-nexits-lt128-clause-done
returns-then-nexits-lt128-clause-done c =
    told-queued c.requires c.get-nchild.ensures.value c.get-nexits.ensures.value c.set_nchild.ensures.done c.if-nexits-lt128.true
    (rw c.set_nchild.ensures.same.sizes at c.queue_exit.ensures.done)

pub returns-else-nexits-lt128-clause-done : goal.returns-else-nexits-lt128-clause-done
returns-else-nexits-lt128-clause-done c =
    told-fewer c.requires c.get-nchild.ensures.value c.get-nexits.ensures.value c.set_nchild.ensures.done c.if-nexits-lt128.false
