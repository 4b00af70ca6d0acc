-- `print::width` meets its contract: `p` is the power of ten of so many digits. The measure is how far it is below `n`.
use Rattle.print.specs.Width.{Counting}
use Rattle.std.specs.Prelude.{◌-◌}
use Rattle.print.proofs.width.Given as goal

abbrev pub invariant-loop-p : goal.invariant-loop-p
invariant-loop-p l = Counting l.n l.p l.k

abbrev pub decreases-loop-p : goal.decreases-loop-p
decreases-loop-p l = l.n - l.p
