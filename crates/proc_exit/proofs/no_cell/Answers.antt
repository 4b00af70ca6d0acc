-- `proc_exit::no_cell` meets its contract: each need by its law.
use Rattle.std.specs.Prelude.{refl}
use Rattle.std.proofs.Common.{le-ltb}
use Rattle.proc_exit.specs.Cell.{no_cell-free, no_cell-full, no_cell-last, no_cell-orphan, no_cell-own, no_cell_find}
use Rattle.proc_exit.proofs.no_cell.Goals as goal

pub returns-in_default : goal.returns-in_default
returns-in_default c = no_cell-orphan (rw c.in_default.is at c.requires) refl

pub find_cell-requires : goal.find_cell-requires
find_cell-requires c = no_cell_find c.requires

pub get-requires-then-is_none : goal.get-requires-then-is_none
get-requires-then-is_none c = no_cell-own c.requires

pub returns-then-is_none : goal.returns-then-is_none
returns-then-is_none c =
    no_cell-last (rw c.in-Some.is at c.requires) c.get.ensures.value c.find_cell.result c.find_cell.ensures c.if-get-lt128.true
    c.if-is_none.ensures c.get-then-is_none.ensures.value

pub returns-else-is_none : goal.returns-else-is_none
returns-else-is_none c =
    rw c.if-is_none.false
    (no_cell-free (rw c.in-Some.is at c.requires) c.get.ensures.value c.find_cell.result c.find_cell.ensures c.if-get-lt128.true
    c.if-is_none.ensures)

pub returns-else-get-lt128 : goal.returns-else-get-lt128
returns-else-get-lt128 c =
    rw (le-ltb c.get.result 128 c.if-get-lt128.false)
    (no_cell-full (rw c.in-Some.is at c.requires) c.get.ensures.value c.if-get-lt128.false)
