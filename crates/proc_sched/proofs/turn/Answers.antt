-- `proc_sched::turn` meets its contract: each need by its law.
use Rattle.proc_sched.specs.Turn.{turn-go, turn-quantum, turned}
use Rattle.proc_sched.proofs.turn.Goals as goal

pub set_end-requires : goal.set_end-requires
set_end-requires c = rw c.next_ready.ensures.same.sizes (turn-quantum c.requires c.next_ready.ensures.done)

pub go_on-requires : goal.go_on-requires
go_on-requires c =
    rw (c.set_end.ensures.same.sizes, c.next_ready.ensures.same.sizes)
    (turn-go c.requires c.next_ready.ensures.done (rw c.next_ready.ensures.same.sizes at c.set_end.ensures.became))

pub returns-clause-done : goal.returns-clause-done
returns-clause-done c =
    turned c.requires c.next_ready.ensures.done (rw c.next_ready.ensures.same.sizes at c.set_end.ensures.became)
    (rw (c.set_end.ensures.same.sizes, c.next_ready.ensures.same.sizes) at c.go_on.ensures.done)
