-- `proc_timer::tadd` meets its contract: each need by its law.
use Rattle.std.proofs.lemmas.Result.{err_from_is_err_and}
use Rattle.proc_timer.specs.Add.{tadd-done, tadd-refused, tadd-set}
use Rattle.proc_timer.proofs.tadd.Goals as goal

pub returns-in_err-at-clause-done : goal.returns-in_err-at-clause-done
returns-in_err-at-clause-done c =
    let p = err_from_is_err_and c.from_residual.result c.from_residual.ensures.1 in
    rw (p.1, p.2) (tadd-refused c.args.kind c.requires (rw (c.view.ensures.bytes, c.view.ensures.sizes) at c.in_err-at.ensures.err))

pub set_after-requires : goal.set_after-requires
set_after-requires c =
    tadd-set c.args.kind c.requires (rw (c.view.ensures.bytes, c.view.ensures.sizes) at c.in_ok-at.ensures.ok)

pub returns-clause-done : goal.returns-clause-done
returns-clause-done c =
    tadd-done c.args.kind c.requires (rw (c.view.ensures.bytes, c.view.ensures.sizes) at c.in_ok-at.ensures.ok)
    c.set_after.ensures.done
