-- `free::drop_cell` meets its contract: each return cites its law of specs/DropCellCode.antt.
use Rattle.free.specs.DropCellCode.{drop-first, drop-second, drop_third, dropped_3, dropped_2, dropped_1}
use Rattle.free.proofs.drop_cell.Goals as goal

pub clear_bit-full-requires : goal.clear_bit-full-requires
clear_bit-full-requires c = search drop-first

pub clear_bit-above-requires : goal.clear_bit-above-requires
clear_bit-above-requires c = rw c.clear_bit-full.ensures.same.sizes (drop-second c.requires c.clear_bit-full.ensures.done c.if-full.true)

pub clear_bit-requires : goal.clear_bit-requires
clear_bit-requires c =
    let k = c.clear_bit-full.ensures.same.sizes in
    rw (c.clear_bit-above.ensures.same.sizes, k)
    (drop_third c.requires c.clear_bit-full.ensures.done c.if-full.true (rw k at c.clear_bit-above.ensures.done) c.if-above.true)

pub returns-then-above-clause-done : goal.returns-then-above-clause-done
returns-then-above-clause-done c =
    let k = c.clear_bit-full.ensures.same.sizes in
    dropped_3 c.requires c.clear_bit-full.ensures.done c.if-full.true (rw k at c.clear_bit-above.ensures.done) c.if-above.true
    (rw (c.clear_bit-above.ensures.same.sizes, k) at c.clear_bit.ensures.done)

pub returns-else-above-clause-done : goal.returns-else-above-clause-done
returns-else-above-clause-done c =
    dropped_2 c.requires c.clear_bit-full.ensures.done c.if-full.true (rw c.clear_bit-full.ensures.same.sizes at c.clear_bit-above.ensures.done)
    c.if-above.false

pub returns-else-full-clause-done : goal.returns-else-full-clause-done
returns-else-full-clause-done c = search dropped_1
