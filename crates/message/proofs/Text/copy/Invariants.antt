-- `message::Text::copy` meets its contract: the first `i` bytes are there, and the rest are as they were.
use Rattle.std.specs.Prelude.{length}
use Rattle.message.specs.Cut.{Copying}
use Rattle.message.proofs.Text.copy.Given as goal

abbrev pub invariant-loop-i : goal.invariant-loop-i
invariant-loop-i l =
    Copying l.initial.cell l.self.name.now l.self.digits.now l.self.status.now (length l.initial.cell) l.cell l.i
