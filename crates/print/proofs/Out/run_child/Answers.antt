-- `print::Out::run_child` meets its contract: one put after another.
use Rattle.std.proofs.Common.{arith, append_assoc}
use Rattle.machine.specs.Basics.{ascii}
use Rattle.machine.specs.Print.{print_answer}
use Rattle.print.specs.Put.{put_join, put_as}
use Rattle.print.proofs.Out.run_child.Goals as goal

pub returns-clause-put : goal.returns-clause-put
unfolding ascii print_answer
returns-clause-put c = put_as (put_join c.number.ensures.put c.with_text.ensures.put) (simp append_assoc) (omega arith)
