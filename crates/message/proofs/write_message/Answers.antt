-- `message::write_message` meets its contract: each return cites its law of specs/Answers.antt.
use Rattle.std.proofs.Common.{arith}
use Rattle.message.specs.Text.{ends-length}
use Rattle.message.specs.Cut.{copied_front}
use Rattle.message.specs.Answers.{parts_fit, written_none, written-some}
use Rattle.message.proofs.write_message.Goals as goal

pub returns-then-status-eq0 : goal.returns-then-status-eq0
returns-then-status-eq0 c = search written_none

pub slice_bounds-text-end : goal.slice_bounds-text-end
slice_bounds-text-end c = search ends-length

pub cut_len-n-requires : goal.cut_len-n-requires
cut_len-n-requires c = search parts_fit

pub returns : goal.returns
returns c =
    written-some c.if-status-eq0.false c.of-digits.ensures c.as_bytes.ensures c.name_len-end.ensures c.cut_len-n.ensures
    (copied_front (omega (arith, c.requires.cell_long, c.cut_len-n.ensures.within)) c.copy.ensures)
