-- `print::Out::line` meets its contract: its law.
use Rattle.print.specs.Line.{line-put}
use Rattle.print.proofs.Out.line.Goals as goal

pub returns-clause-put : goal.returns-clause-put
returns-clause-put c = search line-put
