-- `proc_wait::pwait` meets its contract: each case by its law.
use Rattle.proc_wait.specs.Wait.{pwait-alone, pwait-asleep, pwait-child, pwait-in_use, pwait-no_child, pwait-state, pwait-took}
use Rattle.proc_wait.proofs.pwait.Goals as goal

pub of-w-requires : goal.of-w-requires
of-w-requires c = rw (c.view.ensures.bytes, c.view.ensures.sizes) (pwait-state c.requires)

pub take_child-child-requires : goal.take_child-child-requires
take_child-child-requires c = pwait-child c.requires (rw (c.view.ensures.bytes, c.view.ensures.sizes) at c.of-w.ensures) c.in-Take.is

pub wait_asleep-requires : goal.wait_asleep-requires
wait_asleep-requires c = pwait-alone c.requires

pub returns-in-InUse-clause-done : goal.returns-in-InUse-clause-done
returns-in-InUse-clause-done c = pwait-in_use c.requires (rw (c.view.ensures.bytes, c.view.ensures.sizes) at c.of-w.ensures) c.in-InUse.is

pub returns-in-NoChild-clause-done : goal.returns-in-NoChild-clause-done
returns-in-NoChild-clause-done c = pwait-no_child c.requires (rw (c.view.ensures.bytes, c.view.ensures.sizes) at c.of-w.ensures) c.in-NoChild.is

pub returns-in-Take-clause-done : goal.returns-in-Take-clause-done
returns-in-Take-clause-done c =
    pwait-took c.requires (rw (c.view.ensures.bytes, c.view.ensures.sizes) at c.of-w.ensures) c.in-Take.is c.take_child-child.ensures.done

pub returns-in-Sleep-clause-done : goal.returns-in-Sleep-clause-done
returns-in-Sleep-clause-done c =
    pwait-asleep c.requires (rw (c.view.ensures.bytes, c.view.ensures.sizes) at c.of-w.ensures) c.in-Sleep.is c.wait_asleep.ensures.done
