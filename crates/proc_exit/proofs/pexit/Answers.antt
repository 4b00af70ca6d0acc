-- `proc_exit::pexit` meets its contract: each need by its law.
use Rattle.proc_exit.specs.Exit.{pexit-cell, pexit-depart, pexit-full, pexit-gone, pexit-parent}
use Rattle.proc_exit.proofs.pexit.Goals as goal

pub find_parent-parent-requires : goal.find_parent-parent-requires
find_parent-parent-requires c = rw (c.view.ensures.bytes, c.view.ensures.sizes) (pexit-parent c.requires)

pub no_cell-requires : goal.no_cell-requires
no_cell-requires c =
    rw (c.view-2.ensures.bytes, c.view-2.ensures.sizes)
    (pexit-cell c.requires (rw (c.view.ensures.bytes, c.view.ensures.sizes) at c.find_parent-parent.ensures))

pub returns-then-no_cell-clause-done : goal.returns-then-no_cell-clause-done
returns-then-no_cell-clause-done c =
    pexit-full c.requires (rw (c.view-2.ensures.bytes, c.view-2.ensures.sizes) at c.no_cell.ensures) c.if-no_cell.true

pub depart-pid-requires : goal.depart-pid-requires
depart-pid-requires c =
    pexit-depart c.requires (rw (c.view.ensures.bytes, c.view.ensures.sizes) at c.find_parent-parent.ensures)
    (rw (c.view-2.ensures.bytes, c.view-2.ensures.sizes) at c.no_cell.ensures) c.if-no_cell.false

pub returns-clause-done : goal.returns-clause-done
returns-clause-done c =
    pexit-gone c.requires (rw (c.view-2.ensures.bytes, c.view-2.ensures.sizes) at c.no_cell.ensures) c.if-no_cell.false
    c.depart-pid.ensures.done
