-- `print::Out::decimal` meets its contract: the digits stand at the front of what is free.
use Rattle.std.specs.Prelude.{refl}
use Rattle.print.specs.Decimal.{digits_put}
use Rattle.print.proofs.Out.decimal.Goals as goal

pub returns-clause-put : goal.returns-clause-put
returns-clause-put c = digits_put c.requires refl c.put_digits.ensures
