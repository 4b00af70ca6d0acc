-- `free::set_bit` meets its contract: its return cites its law of specs/Bit.antt.
use Rattle.free.specs.Bit.{bit-set}
use Rattle.free.proofs.set_bit.Goals as goal

pub returns-clause-done : goal.returns-clause-done
returns-clause-done c = search bit-set
