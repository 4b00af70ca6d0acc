-- `print::Out::rest` meets its contract: those that `at` leads to are left. The measure is how many they are.
use Rattle.std.specs.Prelude.{◌≡◌, length}
use Rattle.memory.specs.Link.{link}
use Rattle.print.specs.Rest.{from, Walking}
use Rattle.print.proofs.Out.rest.Given as goal

abbrev pub invariant-loop-at : goal.invariant-loop-at
invariant-loop-at l =
    record {
      walking : Walking l.v.sizes l.v.bytes.now l.i l.initial.self.bytes.now l.initial.self.used l.self.bytes.now l.self.used (link l.at);
      name : l.self.bytes.ghost_name ≡ l.initial.self.bytes.ghost_name;
    }

abbrev pub decreases-loop-at : goal.decreases-loop-at
decreases-loop-at l = length (from l.v.sizes l.v.bytes.now (link l.at))
