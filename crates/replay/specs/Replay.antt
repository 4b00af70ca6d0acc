-- What the parts of the program ask and ensure.
use Rattle.std.specs.Prelude.{◌≡◌, Bool, true, List, ℕ, ◌-◌, ◌≤◌, ◌<◌, length}
use Rattle.std.proofs.Common.{arith}
use Rattle.state.specs.declared.Sizes.{Sizes}
use Rattle.state.specs.WellFormed.{WellFormed}
use Rattle.rules.specs.Code.{Decides}
use Rattle.verify.specs.Ways.{SizesRead}
use Rattle.outcome.specs.Stepped.{Well}
use Rattle.step.specs.Exported.{checked_well}
use Rattle.print.specs.Put.{Put}
use Rattle.machine.specs.Listing.{header}
use Rattle.line.specs.Line.{line_most}
use Rattle.listing.specs.Fed.{Fed, fed}
use Rattle.listing.specs.Held.{held_most}
use Rattle.listing.specs.Feed.{FeedAsks, FeedEnds}
use Rattle.listing.specs.Finish.{FinishAsks, Finished}

-- A well-formed state, and an input that is not too long.
pub record ListAsks (z : Sizes) (s input : List ℕ) : Type 0 where
  pub well : Well z s
  pub few : length input < 1000000000

pub list_feeds
    : {z : Sizes} {s input held out out₁ : List ℕ} {have n used : ℕ}
    → ListAsks z s input
    → length held ≡ held_most
    → have ≡ 0
    → n ≡ 1
    → Put 34 out 0 header out₁ used
    → FeedAsks z s input held out₁ (fed 0 have n used)
list_feeds a l e f p =
    record {
      well = a.well;
      line = l;
      few = omega arith;
      within = omega arith;
      used = omega (arith, p.within, p.long);
      numbers = omega (arith, a.few);
    }

pub list_finishes
    : {z : Sizes} {s s₁ input held held₁ out out₁ : List ℕ} {f : Fed} {from have n used most : ℕ}
    → FeedEnds z input s held out f s₁ held₁ out₁ (fed from have n used)
    → length held₁ ≡ held_most
    → most ≡ line_most z
    → most ≤ length out₁ - used
    → FinishAsks z s₁ held₁ out₁ (fed 0 have n used)
list_finishes g l e r =
    record {
      well = g.went.well;
      line = l;
      few = g.went.few;
      room = omega (arith, r, g.went.put.within, g.went.put.long);
    }

pub list-within
    : {z : Sizes} {s held out : List ℕ} {f : Fed} {s' out' : List ℕ} {r : ℕ} → Finished z s held out f s' out' r → r ≤ length out'
list-within g = omega (arith, g.put.within, g.put.long)

pub list-asks
    : {z : Sizes} {s input : List ℕ} {c : Bool}
    → c ≡ true
    → Decides c (WellFormed s)
    → SizesRead s z
    → length input < 1000000000
    → ListAsks z s input
list-asks e d r f = record { well = checked_well e d r; few = f }
