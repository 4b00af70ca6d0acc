-- `listing::Listing::feed` meets its contract: it has gone so far. The measure is what is left of the chunk.
use Rattle.std.specs.Prelude.{refl}
use Rattle.std.proofs.Common.{◌∙◌}
use Rattle.listing.specs.Feeding.{feed-more}
use Rattle.listing.specs.Rest.{feed-first, rest-whole, rest-turned, rest_join}
use Rattle.listing.proofs.Listing.feed.Goals as goal

pub loop-rest-init : goal.loop-rest-init
loop-rest-init c = record { feeding = feed-first c.requires; rest = rest-whole; same = record { sizes = refl; lender = refl }; name = refl }

pub loop-rest-preserved : goal.loop-rest-preserved
loop-rest-preserved c =
    let w = c.loop-rest.invariant in
    let t = rw w.same.sizes at c.turn-rest.ensures.turned in
    record {
      feeding = feed-more w.feeding (rest-turned w.rest c.turn-rest.ensures.rest t) t.went.behind.long (c.turn-rest.ensures.held ∙ w.feeding.asks.line);
      rest = rest_join w.rest c.turn-rest.ensures.rest;
      same = record { sizes = c.turn-rest.ensures.same.sizes ∙ w.same.sizes; lender = c.turn-rest.ensures.same.lender ∙ w.same.lender };
      name = c.turn-rest.ensures.out ∙ w.name;
    }
