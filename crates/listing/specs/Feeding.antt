-- The loop of `feed`.
use Rattle.std.specs.Prelude.{◌≡◌, refl, List, ℕ, ◌-◌, ◌≤◌, ◌<◌, length}
use Rattle.std.proofs.Common.{◌∙◌, arith}
use Rattle.state.specs.declared.Sizes.{Sizes}
use Rattle.line.specs.Line.{line_most}
use Rattle.listing.specs.Fed.{Fed}
use Rattle.listing.specs.Held.{held_most, up_to}
use Rattle.listing.specs.Feed.{FeedAsks, Went, FeedEnds}
use Rattle.listing.specs.Turn.{TurnAsks, Turned}
use Rattle.listing.specs.Join.{went-none, went_join}

-- The loop: it has gone from f₀ to f, and may go on; where nothing is read, nothing is put.
pub record Feeding (z : Sizes) (chunk s₀ held₀ out₀ : List ℕ) (f₀ : Fed) (s held out : List ℕ) (f : Fed) : Type 0 where
  pub went : Went z chunk s₀ held₀ out₀ f₀ s held out f
  pub asks : FeedAsks z s chunk held out f
  pub long : length s ≡ length s₀
  pub room : length out ≡ length out₀
  pub still : f.from ≡ f₀.from → f.used ≡ f₀.used

pub feed-start
    : {z : Sizes} {s chunk held out : List ℕ} {f : Fed} → FeedAsks z s chunk held out f → Feeding z chunk s held out f s held out f
feed-start a = record { went = went-none a; asks = a; long = refl; room = refl; still = λ e. refl }

pub feed-turn
    : {z : Sizes} {chunk s₀ held₀ out₀ : List ℕ} {f₀ : Fed} {s held out : List ℕ} {f : Fed} {most : ℕ}
    → Feeding z chunk s₀ held₀ out₀ f₀ s held out f
    → f.from < length chunk
    → most ≡ line_most z
    → most ≤ length out - f.used
    → TurnAsks z s chunk held out f
feed-turn l h e k = record { asks = l.asks; more = h; room = omega (arith, l.asks.used) }

pub feed-more
    : {z : Sizes} {chunk s₀ held₀ out₀ : List ℕ} {f₀ : Fed} {s held out : List ℕ} {f : Fed} {s' held' out' : List ℕ} {f' : Fed}
    → Feeding z chunk s₀ held₀ out₀ f₀ s held out f
    → Turned z chunk s held out f s' held' out' f'
    → length s' ≡ length s
    → length held' ≡ held_most
    → Feeding z chunk s₀ held₀ out₀ f₀ s' held' out' f'
feed-more l t ls lh =
    record {
      went = went_join l.went t.went;
      asks =
          record {
            well = t.went.well;
            line = lh;
            few = t.went.few;
            within = t.went.within;
            used = omega (arith, t.went.put.within, t.went.put.long);
            numbers = omega (arith, l.asks.numbers, t.went.numbers, t.went.on, t.went.within);
          };
      long = ls ∙ l.long;
      room = t.went.put.long ∙ l.room;
      still = λ e. absurd (omega (arith, t.moved, l.went.on));
    }

-- The end.
feed-end
    : {z : Sizes} {chunk s₀ held₀ out₀ : List ℕ} {f₀ : Fed} {s held out : List ℕ} {f : Fed}
    → Feeding z chunk s₀ held₀ out₀ f₀ s held out f
    → (f.from < length chunk → length out - f.used < line_most z)
    → FeedEnds z chunk s₀ held₀ out₀ f₀ s held out f
feed-end {z} {chunk} {s₀} {held₀} {out₀} {f₀} {s} {held} {out} {f} l e =
    record {
      went = l.went;
      moved = λ h k.
          up_to f.from f₀.from
          (λ i.
          let j : f.from ≡ f₀.from = omega (arith, l.went.on) in
          absurd (omega (arith, e (omega arith), l.still j, l.room)))
          (λ i. i);
      ends = λ h. omega (arith, e h, l.room);
    }

-- There is no room for another line.
pub feed-full
    : {z : Sizes} {chunk s₀ held₀ out₀ : List ℕ} {f₀ : Fed} {s held out : List ℕ} {f : Fed} {most : ℕ}
    → Feeding z chunk s₀ held₀ out₀ f₀ s held out f
    → most ≡ line_most z
    → length out - f.used < most
    → FeedEnds z chunk s₀ held₀ out₀ f₀ s held out f
feed-full l e h = feed-end l (λ k. omega arith)

-- The chunk is used up.
pub feed-read
    : {z : Sizes} {chunk s₀ held₀ out₀ : List ℕ} {f₀ : Fed} {s held out : List ℕ} {f : Fed}
    → Feeding z chunk s₀ held₀ out₀ f₀ s held out f
    → length chunk ≤ f.from
    → FeedEnds z chunk s₀ held₀ out₀ f₀ s held out f
feed-read l h = feed-end l (λ k. absurd (omega arith))
