-- `proc_sleep::sleep_false` meets its contract: each need by its law.
use Rattle.std.proofs.Common.{sym, ◌∙◌}
use Rattle.std.proofs.lemmas.Result.{err_from_is_err_and}
use Rattle.memory.specs.Link.{link_there, link_nowhere}
use Rattle.proc_sleep.specs.Sleep.{sleep-asleep, sleep-nobody, sleep-off, sleep-taken}
use Rattle.proc_sleep.proofs.sleep_false.Goals as goal

pub returns-then-is_some-clause-done : goal.returns-then-is_some-clause-done
returns-then-is_some-clause-done c = sleep-taken c.requires c.get.ensures.value (link_there _ (sym c.is_some.ensures ∙ c.if-is_some.true))

pub returns-in_err-i-clause-done : goal.returns-in_err-i-clause-done
returns-in_err-i-clause-done c =
    let p = err_from_is_err_and c.from_residual.result c.from_residual.ensures.1 in
    rw (p.1, p.2)
    (sleep-nobody c.requires c.get.ensures.value (link_nowhere _ (sym c.is_some.ensures ∙ c.if-is_some.false))
    (rw (c.view.ensures.bytes, c.view.ensures.sizes) at c.in_err-i.ensures.err))

pub fall_asleep-requires : goal.fall_asleep-requires
fall_asleep-requires c =
    sleep-off c.requires c.get.ensures.value (link_nowhere _ (sym c.is_some.ensures ∙ c.if-is_some.false))
    (rw (c.view.ensures.bytes, c.view.ensures.sizes) at c.in_ok-i.ensures.ok)

pub returns-clause-done : goal.returns-clause-done
returns-clause-done c =
    sleep-asleep c.requires c.get.ensures.value (link_nowhere _ (sym c.is_some.ensures ∙ c.if-is_some.false))
    (rw (c.view.ensures.bytes, c.view.ensures.sizes) at c.in_ok-i.ensures.ok) c.fall_asleep.ensures.done
