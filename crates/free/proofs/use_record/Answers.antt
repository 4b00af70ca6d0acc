-- `free::use_record` meets its contract: each return cites its law of specs/UseRecordCode.antt.
use Rattle.free.specs.UseRecordCode.{use_first, use_second, used-full, used-not_full}
use Rattle.free.proofs.use_record.Goals as goal

pub set_bit-full-requires : goal.set_bit-full-requires
set_bit-full-requires c = search use_first

pub set_bit-requires : goal.set_bit-requires
set_bit-requires c = rw c.set_bit-full.ensures.same.sizes (use_second c.requires c.set_bit-full.ensures.done c.if-full.true)

pub returns-then-full-clause-done : goal.returns-then-full-clause-done
returns-then-full-clause-done c =
    used-full c.requires c.set_bit-full.ensures.done c.if-full.true (rw c.set_bit-full.ensures.same.sizes at c.set_bit.ensures.done)

pub returns-else-full-clause-done : goal.returns-else-full-clause-done
returns-else-full-clause-done c = search used-not_full
