-- `proc_fork::name` meets its contract: each need by its law.
use Rattle.std.proofs.lemmas.Result.{err_from_is_err_and}
use Rattle.proc_fork.specs.Name.{name-asks, name_done, name-refused}
use Rattle.std.proofs.Common.{rules}
use Rattle.proc_fork.proofs.name.Goals as goal

pub running-requires : goal.running-requires
running-requires c = rw (c.view.ensures.bytes, c.view.ensures.sizes) (record { sizes = c.requires.well.holds.sizes; long = c.requires.well.holds.state.long })

pub returns-in_err-i-clause-done : goal.returns-in_err-i-clause-done
returns-in_err-i-clause-done c =
    let p = err_from_is_err_and c.from_residual.result c.from_residual.ensures.1 in
    rw (p.1, p.2)
    (name-refused c.requires (search rules)
    (rw (c.view.ensures.bytes, c.view.ensures.sizes) at c.in_err-i.ensures.err))

pub set_name-requires : goal.set_name-requires
set_name-requires c =
    name-asks c.requires (search rules)
    (rw (c.view.ensures.bytes, c.view.ensures.sizes) at c.in_ok-i.ensures.ok) c.padded.ensures

pub returns-clause-done : goal.returns-clause-done
returns-clause-done c =
    name_done c.requires (search rules)
    (rw (c.view.ensures.bytes, c.view.ensures.sizes) at c.in_ok-i.ensures.ok) c.padded.ensures c.set_name.ensures.done
