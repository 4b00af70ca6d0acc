-- `listing::Listing::feed` meets its contract: it has gone so far. The measure is what is left of the chunk.
use Rattle.std.specs.Prelude.{◌≡◌, length}
use Rattle.listing.specs.Fed.{fed}
use Rattle.listing.specs.Feeding.{Feeding}
use Rattle.listing.specs.Rest.{IsRest, passed}
use Rattle.state.specs.Lent.{Same}
use Rattle.listing.proofs.Listing.feed.Given as goal

abbrev pub invariant-loop-rest : goal.invariant-loop-rest
invariant-loop-rest l =
    record {
      feeding : Feeding l.initial.self.machine.state.sizes l.chunk l.initial.self.machine.state.bytes.now l.initial.self.held l.initial.out.bytes.now (fed 0 l.initial.self.have l.initial.self.number l.initial.out.used) l.self.machine.state.bytes.now l.self.held l.out.bytes.now (fed (passed l.chunk l.rest) l.self.have l.self.number l.out.used);
      rest : IsRest l.chunk l.rest;
      same : Same l.initial.self.machine.state l.self.machine.state;
      name : l.out.bytes.ghost_name ≡ l.initial.out.bytes.ghost_name;
    }

abbrev pub decreases-loop-rest : goal.decreases-loop-rest
decreases-loop-rest l = length l.rest
