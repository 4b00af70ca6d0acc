-- `proc_sched::check_tsleep` meets its contract: each need by its law.
use Rattle.proc_sched.specs.Check.{tsleep-again, tsleep-ended, tsleep-sleeps}
use Rattle.proc_sched.proofs.check_tsleep.Goals as goal

pub returns-then-ends-clause-done : goal.returns-then-ends-clause-done
returns-then-ends-clause-done c =
    tsleep-ended (rw (c.view.ensures.bytes, c.view.ensures.sizes) at c.ends.ensures) c.if-ends.true c.return_tsleep.ensures.done

pub sleep_again-requires : goal.sleep_again-requires
sleep_again-requires c = tsleep-again c.requires (rw (c.view.ensures.bytes, c.view.ensures.sizes) at c.ends.ensures) c.if-ends.false

pub returns-clause-done : goal.returns-clause-done
returns-clause-done c =
    tsleep-sleeps (rw (c.view.ensures.bytes, c.view.ensures.sizes) at c.ends.ensures) c.if-ends.false c.sleep_again.ensures.done
