-- `qlock::qunlock` meets its contract: each need by its law.
use Rattle.std.specs.Prelude.{refl}
use Rattle.qlock.specs.Hold.{hand_awaken, handed-none, handed-one}
use Rattle.qlock.proofs.qunlock.Goals as goal

pub returns-in_default-clause-done : goal.returns-in_default-clause-done
returns-in_default-clause-done c =
    handed-none c.requires c.in_default.ensures.done refl (rw c.in_default.ensures.same.sizes at c.set_held.ensures.put)

pub awaken-requires : goal.awaken-requires
awaken-requires c = rw c.in-Some.ensures.same.sizes (hand_awaken c.requires c.in-Some.ensures.done)

pub returns-clause-done : goal.returns-clause-done
returns-clause-done c = handed-one c.requires c.in-Some.ensures.done (rw c.in-Some.ensures.same.sizes at c.awaken.ensures.done)
