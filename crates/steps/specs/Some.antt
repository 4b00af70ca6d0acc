-- One reading: a chunk is taken, or at the end of the input the last line.
use Rattle.std.specs.Prelude.{◌≡◌, Bool, true, false, List, ◌++◌, ℕ, ◌+◌, ◌^◌, ◌≤◌, ◌<◌, length}
use Rattle.std.proofs.lemmas.Bool.{false≢true}
use Rattle.std.proofs.Common.{ap, ◌∙◌, arith, true≢false}
use Rattle.machine.specs.Listing.{listing_at}
use Rattle.state.specs.Places.{sizes_in}
use Rattle.state.specs.declared.Sizes.{Sizes}
use Rattle.outcome.specs.Stepped.{Well}
use Rattle.listing.specs.Fed.{fed}
use Rattle.listing.specs.Held.{held_most}
use Rattle.listing.specs.Finish.{FinishAsks, Finished}
use Rattle.listing.specs.Written.{Written, written-listing}
use Rattle.steps.specs.Chunk.{Asks, ChunkAsks, ChunkTaken}

-- What is read at once.
abbrev pub chunk_most : ℕ
chunk_most = 65536

-- All is written: it is the listing of the input.
pub record Ended (z : Sizes) (input output : List ℕ) : Type 0 where
  pub lines : List ℕ
  pub whole : output ++ lines ≡ listing_at (sizes_in z) input

-- The input ended, and the last line was taken.
pub record LastTaken (z : Sizes) (s held : List ℕ) (have n : ℕ) (s' : List ℕ) : Type 0 where
  pub well : Well z s'
  pub ended : (input output : List ℕ) → Written z s held have n input output → Ended z input output

pub last-asks : {z : Sizes} {s held out : List ℕ} {have : ℕ} → Asks z s held out have → (n : ℕ) → FinishAsks z s held out (fed 0 have n 0)
last-asks a n = record { well = a.well; line = a.line; few = a.few; room = omega (arith, a.room) }

pub last_taken
    : {z : Sizes} {s held out : List ℕ} {have n : ℕ} {s' out' : List ℕ} {r : ℕ}
    → Finished z s held out (fed 0 have n 0) s' out' r
    → LastTaken z s held have n s'
last_taken {z} {s} {held} {out} {have} {n} e =
    record { well = e.well; ended = λ input output w. record { lines = e.lines; whole = written-listing {f = fed 0 have n 0} w e } }

pub last-within : {z : Sizes} {s held out : List ℕ} {have n : ℕ} {s' out' : List ℕ} {r : ℕ} → Finished z s held out (fed 0 have n 0) s' out' r → r ≤ length out'
last-within e = omega (arith, e.put.within, e.put.long)

-- A chunk is to be read, with numbers left for every line of it.
pub record SomeAsks (z : Sizes) (s input held out : List ℕ) (have n : ℕ) : Type 0 where
  pub asks : Asks z s held out have
  pub most : length input ≡ chunk_most
  pub numbers : n + chunk_most < 2 ^ 64

-- More was read and written.
pub record On (z : Sizes) (s held : List ℕ) (have n : ℕ) (input output : List ℕ) : Type 0 where
  pub chunk : List ℕ
  pub lines : List ℕ
  pub written : Written z s held have n (input ++ chunk) (output ++ lines)

-- Where the input goes on, a chunk was read and taken whole; else the last line was taken.
pub record SomeTaken (z : Sizes) (s held : List ℕ) (have n : ℕ) (s' held' : List ℕ) (have' n' : ℕ) (more : Bool) : Type 0 where
  pub well : Well z s'
  pub line : length held' ≡ held_most
  pub few : have' ≤ held_most
  pub numbers : n' ≤ n + chunk_most
  pub goes : more ≡ true → (input output : List ℕ) → Written z s held have n input output → On z s' held' have' n' input output
  pub last : more ≡ false → LastTaken z s held have n s'

pub some-chunk : {z : Sizes} {s input held out : List ℕ} {have n : ℕ} → SomeAsks z s input held out have n → (chunk : List ℕ) → length chunk ≤ chunk_most
    → ChunkAsks z s chunk held out have n
some-chunk a chunk h = record { asks = a.asks; numbers = omega (arith, a.numbers) }

pub some-taken
    : {z : Sizes} {s chunk held : List ℕ} {have n : ℕ} {s' held' : List ℕ} {have' n' : ℕ}
    → length chunk ≤ chunk_most
    → ChunkTaken z chunk s held have n s' held' have' n'
    → SomeTaken z s held have n s' held' have' n' true
some-taken {chunk = chunk} h t =
    record {
      well = t.well;
      line = t.line;
      few = t.few;
      numbers = omega (arith, t.numbers);
      goes = λ e input output w.
          record { chunk = chunk; lines = (t.whole input output w).lines; written = (t.whole input output w).written };
      last = λ e. absurd (true≢false e);
    }

pub some-last
    : {z : Sizes} {s input held out : List ℕ} {have n : ℕ} {s' held' : List ℕ} {have' n' : ℕ}
    → SomeAsks z s input held out have n
    → LastTaken z s held have n s'
    → held' ≡ held
    → have' ≡ have
    → n' ≡ n
    → SomeTaken z s held have n s' held' have' n' false
some-last a t e f g =
    record {
      well = t.well;
      line = ap length e ∙ a.asks.line;
      few = omega (arith, a.asks.few);
      numbers = omega arith;
      goes = λ q. absurd (false≢true q);
      last = λ q. t;
    }
