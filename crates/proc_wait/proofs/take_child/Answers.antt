-- `proc_wait::take_child` meets its contract: each need by its law.
use Rattle.std.proofs.Common.{arith}
use Rattle.proc_wait.specs.Wait.{child-cell, child-copy, child-is, child-reach, child-some, took-child}
use Rattle.proc_wait.proofs.take_child.Goals as goal

pub get-requires : goal.get-requires
get-requires c = child-reach c.requires

pub unreachable-requires : goal.unreachable-requires
unreachable-requires c = omega (arith, c.in_default.ensures.value, child-some c.requires)

pub get-pid-requires : goal.get-pid-requires
get-pid-requires c = child-cell c.requires (child-is c.requires c.in-Some.ensures.value)

pub copy_message-length-requires : goal.copy_message-length-requires
copy_message-length-requires c =
    rw (c.view.ensures.bytes, c.view.ensures.sizes) (child-copy c.requires (child-is c.requires c.in-Some.ensures.value))

pub returns-clause-done : goal.returns-clause-done
returns-clause-done c =
    took-child c.requires (child-is c.requires c.in-Some.ensures.value) c.get-pid.ensures.value
    (rw (c.view.ensures.bytes, c.view.ensures.sizes) at c.copy_message-length.ensures) c.take.ensures.taken
