-- `proc_sched::check_sleep` meets its contract: each need by its law.
use Rattle.proc_sched.specs.Check.{check-again, check-runs, check-sleeps}
use Rattle.proc_sched.proofs.check_sleep.Goals as goal

pub returns-then-holds-clause-done : goal.returns-then-holds-clause-done
returns-then-holds-clause-done c = check-runs c.requires (rw (c.view.ensures.bytes, c.view.ensures.sizes) at c.holds.ensures) c.if-holds.true c.run_on.ensures.done

pub sleep_again-requires : goal.sleep_again-requires
sleep_again-requires c = check-again c.requires (rw (c.view.ensures.bytes, c.view.ensures.sizes) at c.holds.ensures) c.if-holds.false

pub returns-clause-done : goal.returns-clause-done
returns-clause-done c = check-sleeps c.requires (rw (c.view.ensures.bytes, c.view.ensures.sizes) at c.holds.ensures) c.if-holds.false c.sleep_again.ensures.done
