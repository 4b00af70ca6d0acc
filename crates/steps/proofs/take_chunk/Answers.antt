-- `steps::take_chunk` meets its contract: a turn takes more of the chunk.
use Rattle.std.specs.Prelude.{◌≡◌, refl, length, List, ℕ}
use Rattle.std.proofs.Common.{◌∙◌, arith}
use Rattle.state.specs.declared.Sizes.{Sizes}
use Rattle.listing.specs.Rest.{rest-whole, rest_join}
use Rattle.steps.specs.Taking.{Taking, take-first, rest_more}
use Rattle.steps.proofs.take_chunk.Goals as goal

-- The same with another buffer that is as long.
taking-as
    : {z : Sizes} {chunk s₀ held₀ : List ℕ} {have₀ n₀ : ℕ} {s held : List ℕ} {from have n : ℕ} (xs ys : List ℕ)
    → length xs ≡ length ys
    → Taking z chunk s₀ held₀ have₀ n₀ s held ys from have n
    → Taking z chunk s₀ held₀ have₀ n₀ s held xs from have n
taking-as xs ys e t =
    record {
      asks =
          record {
            well = t.asks.well;
            line = t.asks.line;
            few = t.asks.few;
            within = t.asks.within;
            used = omega arith;
            numbers = t.asks.numbers;
          };
      room = omega (arith, e, t.room);
      numbers = t.numbers;
      goes = t.goes;
    }

pub loop-rest-init : goal.loop-rest-init
loop-rest-init g c = record { taking = take-first c.requires; rest = rest-whole; empty = refl; sizes = refl }

pub loop-rest-preserved : goal.loop-rest-preserved
loop-rest-preserved g c =
    let w = c.loop-rest.invariant in
    let e = rw (w.empty, w.sizes) at c.feed-rest.ensures.ends in
    record {
      taking = taking-as _ c.feed-rest.new.out.bytes.now (omega arith) (rest_more w.taking w.rest c.feed-rest.ensures.rest e (c.feed-rest.ensures.held ∙ w.taking.asks.line));
      empty = refl;
      rest = rest_join w.rest c.feed-rest.ensures.rest;
      sizes = c.feed-rest.ensures.same.sizes ∙ w.sizes;
    }
