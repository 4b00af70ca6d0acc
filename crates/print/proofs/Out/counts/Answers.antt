-- `print::Out::counts` meets its contract: its law.
use Rattle.std.proofs.Common.{◌∙◌}
use Rattle.print.specs.Line.{counts-put}
use Rattle.print.proofs.Out.counts.Goals as goal

pub returns-clause-put : goal.returns-clause-put
returns-clause-put c =
    counts-put c.requires (c.from.ensures ∙ c.get.ensures.value) c.get-2.ensures.value c.decimal.ensures.put c.number.ensures.put c.text.ensures.put
