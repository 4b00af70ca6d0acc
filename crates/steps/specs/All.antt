-- Chunk after chunk: what it asks and ensures.
use Rattle.std.specs.Prelude.{◌≡◌, refl, true, List, [], ◌++◌, ℕ, ◌+◌, ◌-◌, ◌*◌, ◌^◌, ◌≤◌, ◌<◌, length}
use Rattle.std.proofs.Common.{ap, arith}
use Rattle.machine.specs.Machine as machine
use Rattle.machine.specs.Listing.{header, steps_sizes}
use Rattle.state.specs.declared.Sizes.{Sizes}
use Rattle.listing.specs.Held.{held_most}
use Rattle.listing.specs.Start.{state_size, Started}
use Rattle.listing.specs.Written.{Written, written_start}
use Rattle.steps.specs.Chunk.{Asks}
use Rattle.steps.specs.Some.{chunk_most, SomeAsks, On, SomeTaken}

-- Some input was read, and what is due for it was written.
pub record Read (z : Sizes) (s held : List ℕ) (have n : ℕ) : Type 0 where
  pub input : List ℕ
  pub output : List ℕ
  pub written : Written z s held have n input output

-- Nothing is read, and the first line is written.
pub record AllAsks (z : Sizes) (s input held out : List ℕ) (have n : ℕ) : Type 0 where
  pub asks : Asks z s held out have
  pub most : length input ≡ chunk_most
  pub read : Read z s held have n
  pub first : n ≡ 1

-- So many turns are over, and the numbers suffice for the others.
pub record Going (z : Sizes) (s input held out : List ℕ) (have n turn : ℕ) : Type 0 where
  pub asks : Asks z s held out have
  pub most : length input ≡ chunk_most
  pub read : Read z s held have n
  pub numbers : n + chunk_most * (2 ^ 47 - turn) ≤ 2 ^ 63 + 1

pub all_start : {z : Sizes} {s input held out : List ℕ} {have n : ℕ} → AllAsks z s input held out have n → Going z s input held out have n 0
all_start a = record { asks = a.asks; most = a.most; read = a.read; numbers = omega (arith, a.first) }

pub all-some
    : {z : Sizes} {s input held out : List ℕ} {have n turn : ℕ}
    → Going z s input held out have n turn
    → turn < 2 ^ 47
    → SomeAsks z s input held out have n
all-some g h = record { asks = g.asks; most = g.most; numbers = omega (arith, g.numbers) }

pub all-more
    : {z : Sizes} {s input held out : List ℕ} {have n turn : ℕ} {s' input' held' out' : List ℕ} {have' n' : ℕ}
    → Going z s input held out have n turn
    → turn < 2 ^ 47
    → SomeTaken z s held have n s' held' have' n' true
    → length input' ≡ length input
    → length out' ≡ length out
    → Going z s' input' held' out' have' n' (turn + 1)
all-more {z} {s} {held = held} {have = have} {n = n} {s' = s'} {held' = held'} {have' = have'} {n' = n'} g h t li lo =
    let o : On z s' held' have' n' g.read.input g.read.output = t.goes refl g.read.input g.read.output g.read.written in
    record {
      asks = record { well = t.well; line = t.line; room = omega (arith, g.asks.room); few = t.few };
      most = omega (arith, g.most);
      read = record { input = g.read.input ++ o.chunk; output = g.read.output ++ o.lines; written = o.written };
      numbers = omega (arith, g.numbers, t.numbers);
    }

-- Room for the state, for a chunk and for what is written at once.
pub record InputAsks (s input out : List ℕ) : Type 0 where
  pub state : state_size ≤ length s
  pub most : length input ≡ chunk_most
  pub room : length out ≡ chunk_most

-- A fresh state of 16 processes.
pub all-asks
    : {z : Sizes} {s s' input held out : List ℕ}
    → Started s s' z
    → length input ≡ chunk_most
    → length held ≡ held_most
    → length out ≡ chunk_most
    → AllAsks z s' input held out 0 1
unfolding steps_sizes
all-asks {z} t li lh lo =
    let p : z.processes ≡ 16 = ap (λ (y : machine.Sizes). y.processes) t.sizes in
    record {
      asks = record { well = t.well; line = lh; room = omega arith; few = omega arith };
      most = li;
      read = record { input = []; output = header; written = written_start t };
      first = refl;
    }
