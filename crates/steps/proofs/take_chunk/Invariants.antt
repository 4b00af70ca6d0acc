-- `steps::take_chunk` meets its contract: the chunk is taken so far. The measure is what is left of it.
use Rattle.std.specs.Prelude.{◌≡◌, length}
use Rattle.listing.specs.Rest.{IsRest, passed}
use Rattle.steps.specs.Taking.{Taking}
use Rattle.steps.proofs.take_chunk.Given as goal

abbrev pub invariant-loop-rest : goal.invariant-loop-rest
invariant-loop-rest g l =
    record {
      taking : Taking l.initial.listing.machine.state.sizes l.chunk l.initial.listing.machine.state.bytes.now l.initial.listing.held l.initial.listing.have l.initial.listing.number l.listing.machine.state.bytes.now l.listing.held l.out.bytes.now (passed l.chunk l.rest) l.listing.have l.listing.number;
      rest : IsRest l.chunk l.rest;
      empty : l.out.used ≡ 0;
      sizes : l.listing.machine.state.sizes ≡ l.initial.listing.machine.state.sizes;
    }

abbrev pub decreases-loop-rest : goal.decreases-loop-rest
decreases-loop-rest g l = length l.rest
