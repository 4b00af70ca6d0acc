-- `walks::all_exits_ok` meets its contract: the records below i are in order and have n exits.
use Rattle.walks.specs.AllExits.{ExitsSumming}
use Rattle.walks.proofs.all_exits_ok.Given as goal

abbrev pub invariant-loop-i : goal.invariant-loop-i
invariant-loop-i l = ExitsSumming l.v.sizes l.v.bytes.now l.i l.n
