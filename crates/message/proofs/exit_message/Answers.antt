-- `message::exit_message` meets its contract: each way out cites its law of specs/Called.antt.
use Rattle.message.specs.Called.{part_fits, message-short, message-named, message-done}
use Rattle.std.proofs.Common.{arith, length-take-le}
use Rattle.message.proofs.exit_message.Goals as goal

pub returns-then-cell-lt-MESSAGE_SIZE : goal.returns-then-cell-lt-MESSAGE_SIZE
returns-then-cell-lt-MESSAGE_SIZE c = message-short (omega arith)

pub returns-then-name-gt-NAME_SIZE : goal.returns-then-name-gt-NAME_SIZE
returns-then-name-gt-NAME_SIZE c = message-named (omega arith) (omega arith)

pub slice_bounds-write_message-end-2 : goal.slice_bounds-write_message-end-2
slice_bounds-write_message-end-2 c = search length-take-le

pub write_message-requires : goal.write_message-requires
write_message-requires c = search part_fits

pub returns : goal.returns
returns c = rw c.from.ensures (message-done c.if-cell-lt-MESSAGE_SIZE.false c.if-name-gt-NAME_SIZE.false c.write_message.ensures)
