-- `message::Text::move_back` meets its contract: from the byte below `n` the way back ends where it ends from 127.
use Rattle.std.specs.Prelude.{◌-◌}
use Rattle.message.specs.Cut.{Moving}
use Rattle.message.proofs.Text.move_back.Given as goal

abbrev pub invariant-loop-n : goal.invariant-loop-n
invariant-loop-n l = Moving l.self.name.now l.self.digits.now l.self.status.now (l.n - 1)
