-- `proc_sched::ends` meets its contract: each need by its law.
use Rattle.std.proofs.Common.{arith}
use Rattle.proc_sched.specs.Check.{ends-fired, ends-holds, out_del, out_small}
use Rattle.proc_sched.proofs.ends.Goals as goal

pub overflow_add-own : goal.overflow_add-own
overflow_add-own c = omega (arith, out_small c.requires)

pub is_queued-requires : goal.is_queued-requires
is_queued-requires c = out_del c.requires

pub returns-then-not-is_queued : goal.returns-then-not-is_queued
returns-then-not-is_queued c = rw c.if-not-is_queued.true (ends-fired c.is_queued.ensures c.if-not-is_queued.true)

pub returns-else-not-is_queued : goal.returns-else-not-is_queued
returns-else-not-is_queued c = ends-holds c.is_queued.ensures c.if-not-is_queued.false c.holds.ensures
