-- `print::put_digits` meets its contract: the digits behind `i` are there, and those of `m` are left. The measure is `m`.
use Rattle.print.specs.Decimal.{fill_start, fill_more, fill_end}
use Rattle.print.proofs.put_digits.Goals as goal

pub loop-m-init : goal.loop-m-init
loop-m-init c = search fill_start

pub loop-m-preserved : goal.loop-m-preserved
loop-m-preserved c = search fill_more

pub returns : goal.returns
returns c = search fill_end
