-- `print::Out::reply` meets its contract: an answer is put by its function, a refusal by its number.
use Rattle.machine.specs.Basics.{ascii}
use Rattle.machine.specs.Print.{print_reply}
use Rattle.print.specs.Reply.{reply-refused, reply-of}
use Rattle.print.proofs.Out.reply.Goals as goal

pub returns-in-Err-clause-put : goal.returns-in-Err-clause-put
unfolding ascii print_reply
returns-in-Err-clause-put c =
    let p = rw c.number.ensures at c.refused.ensures.put in reply-of c.in-Err.is (reply-refused p)
