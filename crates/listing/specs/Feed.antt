-- Lines taken from a chunk: what `feed` asks and ensures.
use Rattle.std.specs.Prelude.{◌≡◌, List, ◌++◌, ℕ, ◌+◌, ◌-◌, ◌^◌, ◌≤◌, ◌<◌, length}
use Rattle.machine.specs.Parse.{lines_of}
use Rattle.machine.specs.Listing.{print_from}
use Rattle.state.specs.declared.Sizes.{Sizes}
use Rattle.holds.specs.Did.{machine_in}
use Rattle.outcome.specs.Stepped.{Well}
use Rattle.print.specs.Put.{Put}
use Rattle.line.specs.Line.{line_most}
use Rattle.listing.specs.Fed.{Fed}
use Rattle.listing.specs.Behind.{Behind}
use Rattle.listing.specs.Lines.{machine_after}
use Rattle.listing.specs.Pieces.{piece}
use Rattle.listing.specs.Held.{held_most, HeldIs}

-- Room for the line begun, places within their buffers, and numbers left for every line of the chunk.
pub record FeedAsks (z : Sizes) (s chunk held out : List ℕ) (f : Fed) : Type 0 where
  pub well : Well z s
  pub line : length held ≡ held_most
  pub few : f.have ≤ held_most
  pub within : f.from ≤ length chunk
  pub used : f.used ≤ length out
  pub numbers : f.n + (length chunk - f.from) < 2 ^ 64

-- The line begun was h. Lines are taken, and another is begun: these are the lines of h and of the bytes read, whatever follows them;
-- the number and the machine are those after the lines, and the bytes put are their lines of the listing.
pub record Follows (z : Sizes) (chunk s : List ℕ) (f : Fed) (h lines s' held' : List ℕ) (f' : Fed) : Type 0 where
  pub taken : List (List ℕ)
  pub begun : List ℕ
  pub held : HeldIs held' f'.have begun
  pub split : (rest : List ℕ) → lines_of (h ++ piece chunk f.from f'.from ++ rest) ≡ taken ++ lines_of (begun ++ rest)
  pub number : f'.n ≡ f.n + length taken
  pub machine : machine_in z s' ≡ machine_after (machine_in z s) taken
  pub printed : lines ≡ print_from f.n (machine_in z s) taken

-- Bytes of the chunk were read and lines of the listing put into out, from f to f'. The bytes behind the state stay.
pub record Went (z : Sizes) (chunk s held out : List ℕ) (f : Fed) (s' held' out' : List ℕ) (f' : Fed) : Type 0 where
  pub well : Well z s'
  pub behind : Behind z s s'
  pub lines : List ℕ
  pub put : Put (length out) out f.used lines out' f'.used
  pub on : f.from ≤ f'.from
  pub within : f'.from ≤ length chunk
  pub few : f'.have ≤ held_most
  pub numbers : f'.n ≤ f.n + (f'.from - f.from)
  pub follows : (h : List ℕ) → HeldIs held f.have h → Follows z chunk s f h lines s' held' f'

-- `feed` ends where the chunk is used up or no line more has room. With a byte to read, and room, it reads one at least.
pub record FeedEnds (z : Sizes) (chunk s held out : List ℕ) (f : Fed) (s' held' out' : List ℕ) (f' : Fed) : Type 0 where
  pub went : Went z chunk s held out f s' held' out' f'
  pub moved : f.from < length chunk → f.used + line_most z ≤ length out → f.from < f'.from
  pub ends : f'.from < length chunk → length out < f'.used + line_most z
