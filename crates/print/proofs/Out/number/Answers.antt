-- `print::Out::number` meets its contract: one put after another.
use Rattle.print.specs.Put.{put_join}
use Rattle.print.proofs.Out.number.Goals as goal

pub returns-clause-put : goal.returns-clause-put
returns-clause-put c = put_join c.text.ensures.put c.decimal.ensures.put
