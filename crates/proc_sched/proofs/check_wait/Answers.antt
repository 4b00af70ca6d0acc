-- `proc_sched::check_wait` meets its contract: each need by its law.
use Rattle.proc_sched.specs.Waits.{wait-low, wait-finished, wait-slept}
use Rattle.std.proofs.Common.{rules}
use Rattle.proc_sched.proofs.check_wait.Goals as goal

pub get-nexits-requires : goal.get-nexits-requires
get-nexits-requires c = search (rules, wait-low c.requires)

pub returns-then-nexits-eq0-clause-done : goal.returns-then-nexits-eq0-clause-done
returns-then-nexits-eq0-clause-done c = wait-slept c.requires c.get-nexits.ensures.value c.if-nexits-eq0.true c.wait_on.ensures.done

pub returns-clause-done : goal.returns-clause-done
returns-clause-done c = wait-finished c.requires c.get-nexits.ensures.value c.if-nexits-eq0.false c.finish_wait.ensures.done
