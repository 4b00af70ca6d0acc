-- `qlock::give_up` meets its contract: each need by its law.
use Rattle.qlock.specs.Hold.{hand_lock, given-no, given-up}
use Rattle.qlock.proofs.give_up.Goals as goal

pub is_held-requires : goal.is_held-requires
is_held-requires c = hand_lock c.requires

pub returns-then-not-is_held-clause-done : goal.returns-then-not-is_held-clause-done
returns-then-not-is_held-clause-done c = given-no c.requires c.is_held.ensures c.if-not-is_held.true

pub returns-clause-done : goal.returns-clause-done
returns-clause-done c = given-up c.requires c.is_held.ensures c.if-not-is_held.false c.qunlock.ensures.done
