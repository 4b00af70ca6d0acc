-- `proc_timer::sleep_for` meets its contract: each need by its law.
use Rattle.std.proofs.Common.{sym, ◌∙◌}
use Rattle.memory.specs.Link.{link_there, link_nowhere}
use Rattle.proc_timer.specs.For.{for_5, for_asleep, for_done, for_until}
use Rattle.proc_timer.proofs.sleep_for.Goals as goal

pub returns-then-holds-clause-done : goal.returns-then-holds-clause-done
returns-then-holds-clause-done c =
    for_done (rw (c.view.ensures.bytes, c.view.ensures.sizes) at c.holds.ensures) c.if-holds.true c.return_at.ensures.done

pub returns-then-is_some-clause-done : goal.returns-then-is_some-clause-done
returns-then-is_some-clause-done c =
    for_5 c.requires (rw (c.view.ensures.bytes, c.view.ensures.sizes) at c.holds.ensures) c.if-holds.false c.get.ensures.value
    (link_there _ (sym c.is_some.ensures ∙ c.if-is_some.true))

pub sleep_until-requires : goal.sleep_until-requires
sleep_until-requires c = for_until c.requires c.get.ensures.value (link_nowhere _ (sym c.is_some.ensures ∙ c.if-is_some.false))

pub returns-clause-done : goal.returns-clause-done
returns-clause-done c =
    for_asleep c.requires (rw (c.view.ensures.bytes, c.view.ensures.sizes) at c.holds.ensures) c.if-holds.false c.get.ensures.value
    (link_nowhere _ (sym c.is_some.ensures ∙ c.if-is_some.false)) c.sleep_until.ensures.done
