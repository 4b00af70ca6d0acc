-- `clock::Duration::to_counts` meets its contract: the sum with the limit is the definition.
use Rattle.clock.specs.Shown.{counts-capped}
use Rattle.clock.proofs.Duration.to_counts.Goals as goal

pub returns : goal.returns
returns c =
    rw (c.saturating_add.ensures, c.saturating_mul.ensures, c.div_ceil-part.ensures, c.from-hz.ensures, c.from.ensures)
    (counts-capped c.args.hz c.args.self.secs c.args.self.nanos)
