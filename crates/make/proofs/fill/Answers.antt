-- `make::fill` meets its contract: the state's bytes are 0, and then the stores of a fresh state are made.
use Rattle.std.specs.Prelude.{refl}
use Rattle.make.specs.Code.{filled}
use Rattle.make.proofs.fill.Goals as goal

pub returns-clause-fresh : goal.returns-clause-fresh
returns-clause-fresh c =
    filled c.args.s.now.sizes c.args.s.now.bytes.now c.total-n.ensures.value c.args.s.now.long (c.fill.ensures.after (λ y e. e)) refl c.put_header.ensures.stored
