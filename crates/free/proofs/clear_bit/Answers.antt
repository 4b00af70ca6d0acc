-- `free::clear_bit` meets its contract: its return cites its law of specs/Bit.antt.
use Rattle.free.specs.Bit.{bit-cleared}
use Rattle.free.proofs.clear_bit.Goals as goal

pub returns-clause-done : goal.returns-clause-done
returns-clause-done c = search bit-cleared
