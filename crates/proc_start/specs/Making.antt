-- The number that a step's bytes give to how the making of a process ends.
use Rattle.std.specs.Prelude.{ℕ, ◌≤◌}
use Rattle.std.proofs.Common.{arith}
use Rattle.proc_start.specs.declared.Making.{Making}
use Rattle.proc_start.specs.declared.Making.TheVariants.{Works, NoSpace, NoStack, NoCopy}

abbrev pub number : Making → ℕ
number Works = 0
number NoSpace = 1
number NoStack = 2
number NoCopy = 3

pub number-low : (m : Making) → number m ≤ 3
number-low Works = omega arith
number-low NoSpace = omega arith
number-low NoStack = omega arith
number-low NoCopy = omega arith
