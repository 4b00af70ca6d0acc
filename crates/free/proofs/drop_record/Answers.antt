-- `free::drop_record` meets its contract: each return cites its law of specs/DropRecordCode.antt.
use Rattle.free.specs.DropRecordCode.{drop-first, drop-second, dropped-full, dropped-not_full}
use Rattle.free.proofs.drop_record.Goals as goal

pub clear_bit-full-requires : goal.clear_bit-full-requires
clear_bit-full-requires c = search drop-first

pub clear_bit-requires : goal.clear_bit-requires
clear_bit-requires c = rw c.clear_bit-full.ensures.same.sizes (drop-second c.requires c.clear_bit-full.ensures.done c.if-full.true)

pub returns-then-full-clause-done : goal.returns-then-full-clause-done
returns-then-full-clause-done c =
    dropped-full c.requires c.clear_bit-full.ensures.done c.if-full.true (rw c.clear_bit-full.ensures.same.sizes at c.clear_bit.ensures.done)

pub returns-else-full-clause-done : goal.returns-else-full-clause-done
returns-else-full-clause-done c = search dropped-not_full
