-- `dat::wakeup` meets its contract: each need by its law.
use Rattle.dat.specs.Rendez.{wake-awaken, woke_none, woke_one}
use Rattle.std.specs.Prelude.{refl}
use Rattle.dat.proofs.wakeup.Goals as goal

pub returns-in_err-i-clause-done : goal.returns-in_err-i-clause-done
returns-in_err-i-clause-done c = rw c.from_residual.ensures (woke_none c.requires c.in_err-i.ensures.value refl)

pub awaken-requires : goal.awaken-requires
awaken-requires c = rw c.set.ensures.same.sizes (wake-awaken c.requires c.in_ok-i.ensures.value c.set.ensures.put)

pub returns-clause-done : goal.returns-clause-done
returns-clause-done c =
    woke_one c.requires c.in_ok-i.ensures.value c.set.ensures.put (rw c.set.ensures.same.sizes at c.awaken.ensures.done)
