-- `print::width` meets its contract: `p` is the power of ten of so many digits. The measure is how far it is below `n`.
use Rattle.print.specs.Width.{count-start, count-more, count-end}
use Rattle.print.proofs.width.Goals as goal

pub loop-p-init : goal.loop-p-init
loop-p-init c = search count-start

pub loop-p-preserved : goal.loop-p-preserved
loop-p-preserved c = search count-more

pub returns : goal.returns
returns c = search count-end
