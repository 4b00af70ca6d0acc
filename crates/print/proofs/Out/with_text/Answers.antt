-- `print::Out::with_text` meets its contract: one put after another.
use Rattle.print.specs.Put.{put_join}
use Rattle.print.proofs.Out.with_text.Goals as goal

pub returns-clause-put : goal.returns-clause-put
returns-clause-put c = put_join (put_join c.number.ensures.put c.text.ensures.put) c.text-2.ensures.put
