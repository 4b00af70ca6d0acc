-- `steps::take_all` meets its contract: it goes on so far.
use Rattle.std.specs.Prelude.{◌≡◌}
use Rattle.steps.specs.All.{Going}
use Rattle.steps.proofs.take_all.Given as goal

abbrev pub invariant-loop-turn : goal.invariant-loop-turn
invariant-loop-turn g l =
    record {
      going : Going l.initial.listing.machine.state.sizes l.listing.machine.state.bytes.now l.input l.listing.held l.buffer l.listing.have l.listing.number l.turn;
      sizes : l.listing.machine.state.sizes ≡ l.initial.listing.machine.state.sizes;
    }
