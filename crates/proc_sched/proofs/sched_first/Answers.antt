-- `proc_sched::sched_first` meets its contract: each need by its law.
use Rattle.proc_sched.specs.First.{first-again, first-low, first_taken, first-turn, first-turned}
use Rattle.proc_sched.proofs.sched_first.Goals as goal

pub load-c-requires : goal.load-c-requires
load-c-requires c = rw c.view-v.ensures.sizes (first-low c.requires)

pub taken_again-requires : goal.taken_again-requires
taken_again-requires c =
    rw (c.view-v.ensures.bytes, c.view-v.ensures.sizes) (first-again c.requires (rw (c.view-v.ensures.bytes, c.view-v.ensures.sizes) at c.load-c.ensures))

pub returns-then-taken_again-clause-done : goal.returns-then-taken_again-clause-done
returns-then-taken_again-clause-done c =
    first_taken c.requires (rw (c.view-v.ensures.bytes, c.view-v.ensures.sizes) at c.load-c.ensures)
    (rw (c.view-v.ensures.bytes, c.view-v.ensures.sizes) at c.taken_again.ensures) c.if-taken_again.true

pub turn-requires : goal.turn-requires
turn-requires c =
    first-turn c.requires (rw (c.view-v.ensures.bytes, c.view-v.ensures.sizes) at c.load-c.ensures)
    (rw (c.view-v.ensures.bytes, c.view-v.ensures.sizes) at c.taken_again.ensures) c.if-taken_again.false

pub returns-clause-done : goal.returns-clause-done
returns-clause-done c =
    first-turned c.requires (rw (c.view-v.ensures.bytes, c.view-v.ensures.sizes) at c.load-c.ensures)
    (rw (c.view-v.ensures.bytes, c.view-v.ensures.sizes) at c.taken_again.ensures) c.if-taken_again.false c.turn.ensures.done
