-- `free::use_cell` meets its contract: each return cites its law of specs/UseCellCode.antt.
use Rattle.free.specs.UseCellCode.{use_first, use_second, use_third, used_3, used_2, used_1}
use Rattle.free.proofs.use_cell.Goals as goal

pub set_bit-full-requires : goal.set_bit-full-requires
set_bit-full-requires c = search use_first

pub set_bit-above-requires : goal.set_bit-above-requires
set_bit-above-requires c = rw c.set_bit-full.ensures.same.sizes (use_second c.requires c.set_bit-full.ensures.done c.if-full.true)

pub set_bit-requires : goal.set_bit-requires
set_bit-requires c =
    let k = c.set_bit-full.ensures.same.sizes in
    rw (c.set_bit-above.ensures.same.sizes, k)
    (use_third c.requires c.set_bit-full.ensures.done c.if-full.true (rw k at c.set_bit-above.ensures.done) c.if-above.true)

pub returns-then-above-clause-done : goal.returns-then-above-clause-done
returns-then-above-clause-done c =
    let k = c.set_bit-full.ensures.same.sizes in
    used_3 c.requires c.set_bit-full.ensures.done c.if-full.true (rw k at c.set_bit-above.ensures.done) c.if-above.true
    (rw (c.set_bit-above.ensures.same.sizes, k) at c.set_bit.ensures.done)

pub returns-else-above-clause-done : goal.returns-else-above-clause-done
returns-else-above-clause-done c =
    used_2 c.requires c.set_bit-full.ensures.done c.if-full.true (rw c.set_bit-full.ensures.same.sizes at c.set_bit-above.ensures.done)
    c.if-above.false

pub returns-else-full-clause-done : goal.returns-else-full-clause-done
returns-else-full-clause-done c = search used_1
