-- `timers::remove` meets its contract: by its laws of specs/Remove.antt.
use Rattle.std.proofs.Common.{rules}
use Rattle.timers.specs.Remove.{removed-one, removed-none}
use Rattle.timers.proofs.remove.Goals as goal

pub returns-clause-removed : goal.returns-clause-removed
returns-clause-removed c =
    let done =
    removed-one c.requires (rw (c.view-v.ensures.bytes, c.view-v.ensures.sizes) at c.is_queued.ensures) c.if-not-is_queued.false
    (rw (c.view-v.ensures.bytes, c.view-v.ensures.sizes) at c.find_link-at.ensures) c.take_out.ensures.stored
    in search rules

pub returns-then-not-is_queued-clause-removed : goal.returns-then-not-is_queued-clause-removed
returns-then-not-is_queued-clause-removed c =
    let done =
    removed-none c.requires (rw (c.view-v.ensures.bytes, c.view-v.ensures.sizes) at c.is_queued.ensures) c.if-not-is_queued.true
    in search rules
