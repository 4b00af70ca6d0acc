-- `proc_fork::fork` meets its contract: each need by its law, of a child that is dissociated and of one that is not.
use Rattle.proc_fork.specs.Child.{fork-load, fork_off, fork_own, off-begin, off-done, own-begin, own-done}
use Rattle.proc_fork.proofs.fork.Goals as goal
use Rattle.proc_fork.proofs.fork.Goals.{then-off, else-off}

pub load-p-requires : goal.load-p-requires
load-p-requires c = rw c.view.ensures.sizes (fork-load c.requires).index

pub adopt-child-requires : goal.adopt-child-requires
adopt-child-requires c = record { fork = c.requires; loaded = rw (c.view.ensures.bytes, c.view.ensures.sizes) at c.load-p.ensures.loaded }

pub begin-requires : goal.begin-requires
begin-requires c =
    let l = rw (c.view.ensures.bytes, c.view.ensures.sizes) at c.load-p.ensures.loaded in
    elim c.if-off.branch [
      | then-off w ↦ rw (w.s-is, w.child-is) (off-begin c.requires l w.child_of-child.ensures)
      | else-off w ↦ rw (w.s-is, w.child-is, w.adopt-child.ensures.same.sizes) (own-begin c.requires l w.adopt-child.ensures.done)
    ]

pub returns-clause-done : goal.returns-clause-done
returns-clause-done c =
    let l = rw (c.view.ensures.bytes, c.view.ensures.sizes) at c.load-p.ensures.loaded in
    elim c.if-off.branch [
      | then-off w ↦ fork_off w.if-off.true (off-done c.requires l w.child_of-child.ensures (rw (w.s-is, w.child-is) at c.begin.ensures.done))
      | else-off w ↦ fork_own w.if-off.false
          (own-done c.requires l w.adopt-child.ensures.done (rw (w.s-is, w.child-is, w.adopt-child.ensures.same.sizes) at c.begin.ensures.done))
    ]
