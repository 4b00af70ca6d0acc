-- `print::Out::refused_line` meets its contract: its law.
use Rattle.print.specs.Line.{refused-put}
use Rattle.print.proofs.Out.refused_line.Goals as goal

pub returns-clause-put : goal.returns-clause-put
returns-clause-put c = search refused-put
