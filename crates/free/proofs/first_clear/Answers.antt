-- `free::first_clear` meets its contract: each return cites its law of specs/Bit.antt.
use Rattle.free.specs.Bit.{first-some, first-none}
use Rattle.free.proofs.first_clear.Goals as goal

pub returns-then-b-lt64-clause-some : goal.returns-then-b-lt64-clause-some
returns-then-b-lt64-clause-some c = first-some c.args.word c.trailing_ones-b.ensures c.if-b-lt64.true

pub returns-else-b-lt64-clause-none : goal.returns-else-b-lt64-clause-none
returns-else-b-lt64-clause-none c = first-none c.args.word c.trailing_ones-b.ensures c.if-b-lt64.false
