-- `proc_fork::adopt` meets its contract: each need by its law.
use Rattle.std.proofs.Common.{arith}
use Rattle.proc_fork.specs.Child.{adopt-lives, adopt-room}
use Rattle.proc_fork.proofs.adopt.Goals as goal

pub overflow_add-p : goal.overflow_add-p
overflow_add-p c = omega (arith, adopt-room)

pub set_nchild-requires : goal.set_nchild-requires
set_nchild-requires c = search adopt-lives
