-- The loop that takes a chunk.
use Rattle.std.specs.Prelude.{◌≡◌, List, [], ◌++◌, ℕ, ◌+◌, ◌≤◌, ◌<◌, length}
use Rattle.std.proofs.Common.{sym, ap, subst, ◌∙◌, append_assoc, append-nil, arith}
use Rattle.state.specs.declared.Sizes.{Sizes}
use Rattle.line.specs.Line.{line_most}
use Rattle.listing.specs.Fed.{Fed, fed}
use Rattle.listing.specs.Held.{held_most}
use Rattle.listing.specs.Pieces.{piece, piece-none, piece_join, piece-rest}
use Rattle.listing.specs.Feed.{FeedAsks, FeedEnds}
use Rattle.listing.specs.Rest.{IsRest, passed, rest-within, rest-ends, asks_on}
use Rattle.listing.specs.Written.{Written, feeds}
use Rattle.steps.specs.Chunk.{ChunkAsks, More, ChunkTaken}

-- The loop: the chunk is taken up to `from`.
pub record Taking (z : Sizes) (chunk s₀ held₀ : List ℕ) (have₀ n₀ : ℕ) (s held out : List ℕ) (from have n : ℕ) : Type 0 where
  pub asks : FeedAsks z s chunk held out (fed from have n 0)
  pub room : line_most z ≤ length out
  pub numbers : n ≤ n₀ + from
  pub goes
      : (input output : List ℕ)
      → Written z s₀ held₀ have₀ n₀ input output
      → More z s held have n (input ++ piece chunk 0 from) output

pub take-start
    : {z : Sizes} {s chunk held out : List ℕ} {have n : ℕ}
    → ChunkAsks z s chunk held out have n
    → Taking z chunk s held have n s held out 0 have n
take-start {z} {s} {chunk} {held} {out} {have} {n} a =
    record {
      asks =
          record {
            well = a.asks.well;
            line = a.asks.line;
            few = a.asks.few;
            within = omega arith;
            used = omega arith;
            numbers = omega (arith, a.numbers);
          };
      room = a.asks.room;
      numbers = omega arith;
      goes = λ input output w.
          record {
            lines = [];
            written =
                rw (append-nil output)
                (subst (λ (xs : List ℕ). Written z s held have n xs output)
                (sym (ap (λ (xs : List ℕ). input ++ xs) (piece-none chunk 0) ∙ append-nil input))
                w);
          };
    }

module _ {z : Sizes} {chunk s₀ held₀ : List ℕ} {have₀ n₀ : ℕ} {s held out : List ℕ} {from have n : ℕ} (t : Taking z chunk s₀ held₀ have₀ n₀ s held out from have n) where
  module _ {s' held' out' : List ℕ} {f : Fed} (a : FeedEnds z chunk s held out (fed from have n 0) s' held' out' f) where
    pub take_more : length held' ≡ held_most → Taking z chunk s₀ held₀ have₀ n₀ s' held' out' f.from f.have f.n
    take_more lh =
        record {
          asks =
              record {
                well = a.went.well;
                line = lh;
                few = a.went.few;
                within = a.went.within;
                used = omega arith;
                numbers = omega (arith, t.asks.numbers, a.went.numbers, a.went.on, a.went.within);
              };
          room = omega (arith, t.room, a.went.put.long);
          numbers = omega (arith, t.numbers, a.went.numbers, a.went.on);
          goes = λ input output w.
              let g : More z s held have n (input ++ piece chunk 0 from) output = t.goes input output w in
              record {
                lines = g.lines ++ a.went.lines;
                written =
                    subst (λ (xs : List ℕ). Written z s' held' f.have f.n xs (output ++ (g.lines ++ a.went.lines)))
                    (append_assoc input (piece chunk 0 from) (piece chunk from f.from)
                    ∙ ap (λ (xs : List ℕ). input ++ xs) (piece_join chunk 0 from f.from (omega arith) a.went.on))
                    (rw (← append_assoc output g.lines a.went.lines) (feeds {f = fed from have n 0} {f' = f} g.written a.went));
              };
        }

  -- The chunk is used up.
  pub take-end : length chunk ≤ from → ChunkTaken z chunk s₀ held₀ have₀ n₀ s held have n
  take-end h =
      let e : from ≡ length chunk = omega (arith, t.asks.within) in
      record {
        well = t.asks.well;
        line = t.asks.line;
        few = t.asks.few;
        numbers = omega (arith, t.numbers);
        whole = λ input output w.
            let g : More z s held have n (input ++ piece chunk 0 from) output = t.goes input output w in
            record {
              lines = g.lines;
              written =
                  subst (λ (xs : List ℕ). Written z s held have n (input ++ xs) (output ++ g.lines))
                  (ap (λ (k : ℕ). piece chunk 0 k) e ∙ piece-rest chunk 0)
                  g.written;
            };
      }

-- The rest of the chunk, as a chunk of its own: what it asks, a turn, and the end.
pub take-first
    : {z : Sizes} {s chunk held out : List ℕ} {have n : ℕ}
    → ChunkAsks z s chunk held out have n
    → Taking z chunk s held have n s held out (passed chunk chunk) have n
take-first {z} {s} {chunk} {held} {out} {have} {n} a =
    let e : 0 ≡ passed chunk chunk = omega arith in
    subst (λ (k : ℕ). Taking z chunk s held have n s held out k have n) e (take-start a)

module _ {z : Sizes} {chunk s₀ held₀ : List ℕ} {have₀ n₀ : ℕ} {rest s held out : List ℕ} {have n : ℕ} (t : Taking z chunk s₀ held₀ have₀ n₀ s held out (passed chunk rest) have n) (r : IsRest chunk rest) where
  pub rest-asks : FeedAsks z s rest held out (fed 0 have n 0)
  rest-asks = asks_on r t.asks

  pub rest-taken : length rest ≡ 0 → ChunkTaken z chunk s₀ held₀ have₀ n₀ s held have n
  rest-taken h = take-end t (omega arith)

  module _ {more s' held' out' : List ℕ} {have' n' used' : ℕ} (q : IsRest rest more) (a : FeedEnds z rest s held out (fed 0 have n 0) s' held' out' (fed (passed rest more) have' n' used')) where
    pub rest_more : length held' ≡ held_most → Taking z chunk s₀ held₀ have₀ n₀ s' held' out' (passed chunk more) have' n'
    rest_more lh = take_more t (rest-ends r q a) lh

    pub rest_less : 0 < length rest → length more < length rest
    rest_less h = omega (arith, a.moved h (omega (arith, t.room)), rest-within q)

-- What was put is within the buffer.
pub rest-written
    : {z : Sizes} {chunk s held out : List ℕ} {f : Fed} {s' held' out' : List ℕ} {f' : Fed}
    → FeedEnds z chunk s held out f s' held' out' f'
    → f'.used ≤ length out'
rest-written a = omega (arith, a.went.put.within, a.went.put.long)
