-- `print::Out::fields` meets its contract: its law.
use Rattle.print.specs.Line.{fields-put}
use Rattle.print.proofs.Out.fields.Goals as goal

pub returns-clause-put : goal.returns-clause-put
returns-clause-put c = search fields-put
