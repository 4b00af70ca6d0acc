-- A chunk of the input taken: what it asks and ensures.
use Rattle.std.specs.Prelude.{◌≡◌, List, ◌++◌, ℕ, ◌+◌, ◌^◌, ◌≤◌, ◌<◌, length}
use Rattle.state.specs.declared.Sizes.{Sizes}
use Rattle.outcome.specs.Stepped.{Well}
use Rattle.line.specs.Line.{line_most}
use Rattle.listing.specs.Held.{held_most}
use Rattle.listing.specs.Written.{Written}

-- A well-formed state, and room for a line held and a line of the listing.
pub record Asks (z : Sizes) (s held out : List ℕ) (have : ℕ) : Type 0 where
  pub well : Well z s
  pub line : length held ≡ held_most
  pub room : line_most z ≤ length out
  pub few : have ≤ held_most

-- And numbers left for every line of a chunk.
pub record ChunkAsks (z : Sizes) (s chunk held out : List ℕ) (have n : ℕ) : Type 0 where
  pub asks : Asks z s held out have
  pub numbers : n + length chunk < 2 ^ 64

-- What was written goes on.
pub record More (z : Sizes) (s held : List ℕ) (have n : ℕ) (input output : List ℕ) : Type 0 where
  pub lines : List ℕ
  pub written : Written z s held have n input (output ++ lines)

-- The chunk was read whole.
pub record ChunkTaken (z : Sizes) (chunk s held : List ℕ) (have n : ℕ) (s' held' : List ℕ) (have' n' : ℕ) : Type 0 where
  pub well : Well z s'
  pub line : length held' ≡ held_most
  pub few : have' ≤ held_most
  pub numbers : n' ≤ n + length chunk
  pub whole : (input output : List ℕ) → Written z s held have n input output → More z s' held' have' n' (input ++ chunk) output
