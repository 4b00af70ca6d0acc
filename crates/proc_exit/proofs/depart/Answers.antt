-- `proc_exit::depart` meets its contract: each need by its law.
use Rattle.std.specs.Prelude.{refl}
use Rattle.proc_exit.specs.Depart.{depart-load, depart-tell, departed_alone, departed-told}
use Rattle.proc_exit.proofs.depart.Goals as goal

pub load-p-requires : goal.load-p-requires
load-p-requires c = rw c.view.ensures.sizes (depart-load c.requires).index

pub tell_parent-requires : goal.tell_parent-requires
tell_parent-requires c =
    rw c.leave.ensures.same.sizes (depart-tell (rw c.in-Some.is at c.requires) c.leave.ensures.done)

pub returns-in-Some-clause-done : goal.returns-in-Some-clause-done
returns-in-Some-clause-done c =
    departed-told (rw c.in-Some.is at c.requires) c.leave.ensures.done
    (rw (c.view.ensures.bytes, c.view.ensures.sizes) at c.load-p.ensures.loaded)
    (rw c.leave.ensures.same.sizes at c.tell_parent.ensures.done)

pub returns-in_default-clause-done : goal.returns-in_default-clause-done
returns-in_default-clause-done c =
    departed_alone (rw c.in_default.is at c.requires) c.leave.ensures.done
    (rw (c.view.ensures.bytes, c.view.ensures.sizes) at c.load-p.ensures.loaded) refl
