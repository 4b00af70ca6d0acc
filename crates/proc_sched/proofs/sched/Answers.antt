-- `proc_sched::sched` meets its contract: each need by its law.
use Rattle.std.proofs.Common.{sym, ◌∙◌}
use Rattle.memory.specs.Link.{link_there, link_nowhere}
use Rattle.proc_sched.specs.Sched.{sched-marked, sched_first, sched-rest, sched_rests, sched-runs, sched-turns}
use Rattle.proc_sched.proofs.sched.Goals as goal

pub returns-then-in_interrupt-clause-done : goal.returns-then-in_interrupt-clause-done
returns-then-in_interrupt-clause-done c = sched-marked c.requires c.if-in_interrupt.true

pub returns-then-is_some-clause-done : goal.returns-then-is_some-clause-done
returns-then-is_some-clause-done c =
    sched-runs c.requires c.if-in_interrupt.false c.get.ensures.value (link_there _ (sym c.is_some.ensures ∙ c.if-is_some.true))

pub rest-requires : goal.rest-requires
rest-requires c =
    rw (c.view.ensures.bytes, c.view.ensures.sizes)
    (sched-rest c.requires c.get.ensures.value (link_nowhere _ (sym c.is_some.ensures ∙ c.if-is_some.false)) c.in_default.ensures.value)

pub returns-in_default-clause-done : goal.returns-in_default-clause-done
returns-in_default-clause-done c = sched_rests c.requires c.if-in_interrupt.false (rw (c.view.ensures.bytes, c.view.ensures.sizes) at c.rest.ensures)

pub sched_first-requires : goal.sched_first-requires
sched_first-requires c =
    sched_first c.requires c.get.ensures.value (link_nowhere _ (sym c.is_some.ensures ∙ c.if-is_some.false)) c.in-Some.ensures.value

pub returns-clause-done : goal.returns-clause-done
returns-clause-done c = sched-turns c.requires c.if-in_interrupt.false c.sched_first.ensures.done
