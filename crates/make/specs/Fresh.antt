-- The bytes of a fresh state, and what `size` and `make` answer.
use Rattle.std.specs.Prelude.{if◌then◌else◌, Bool, not, ◌&&◌, List, [], ◌∷◌, ◌++◌, ℕ, leb, ltb, length, drop, replicate}
use Rattle.clock.specs.Counts.{counts_of}
use Rattle.machine.specs.Machine.{Sizes}
use Rattle.layout.specs.Table.{total}
use Rattle.layout.specs.Writes.{Write, to, writes}
use Rattle.state.specs.Fields as fields
use Rattle.state.specs.WellFormed.{mark_value}

abbrev pub between : ℕ → ℕ → ℕ → Bool
between a b v = leb a v && leb v b

-- P processes, R Rendez, Q locks and K kernel timers (1 to 4,096 each), C message cells (1 to 65,000).
unfoldable pub counts_fit : (p r q k c : ℕ) → Bool
counts_fit p r q k c = between 1 4096 p && between 1 4096 r && between 1 4096 q && between 1 4096 k && between 1 65000 c

-- And a frequency hz from 1 to 4,294,967,295.
unfoldable pub sizes_fit : (p r q k c hz : ℕ) → Bool
sizes_fit p r q k c hz = counts_fit p r q k c && between 1 4294967295 hz

abbrev pub sizes_for : (p r q k c hz : ℕ) → Sizes
sizes_for p r q k c hz = record { processes = p; rendez = r; locks = q; timers = k; cells = c; hz = hz }

-- How many bytes a state of these sizes takes.
abbrev pub total_for : Sizes → ℕ
total_for z = total fields.layout1 (fields.counts z)

-- `size` answers the bytes that a state takes, and 2 where the sizes are out of range.
unfoldable pub size_answer : (p r q k c : ℕ) → ℕ
size_answer p r q k c = if counts_fit p r q k c then total_for (sizes_for p r q k c 0) else 2

-- What a fresh state's bytes hold beside zeros: the mark and the layout's number, the sizes, the next pid 1, and timer 0's period.
abbrev pub marks_of : Sizes → List Write
marks_of z = to fields.mark 0 mark_value ∷ to fields.layout_number 0 1 ∷ to fields.hz 0 z.hz ∷ []

abbrev pub size_stores : Sizes → List Write
size_stores z =
    to fields.size_processes 0 z.processes
    ∷ to fields.size_rendez 0 z.rendez
    ∷ to fields.size_locks 0 z.locks
    ∷ to fields.size_timers 0 z.timers
    ∷ []

abbrev pub rest_stores : Sizes → List Write
rest_stores z =
    to fields.size_cells 0 z.cells ∷ to fields.next_pid 0 1 ∷ to fields.period 0 (counts_of z.hz 0 10000000) ∷ []

unfoldable pub fresh_stores : Sizes → List Write
fresh_stores z = marks_of z ++ size_stores z ++ rest_stores z

-- The state's own bytes are made anew; bytes past them are unchanged.
unfoldable pub zeroed : Sizes → List ℕ → List ℕ
zeroed z s = replicate (total_for z) 0 ++ drop (total_for z) s

unfoldable pub fresh_bytes : Sizes → List ℕ → List ℕ
fresh_bytes z s = writes fields.layout1 (fields.counts z) (zeroed z s) (fresh_stores z)

-- Making a state outside these ranges meets 2, then in too short a buffer 1, nothing written; 0 where it is made.
unfoldable pub make_answer : (p r q k c hz : ℕ) → List ℕ → ℕ
make_answer p r q k c hz s =
    if not (sizes_fit p r q k c hz) then 2 else if ltb (length s) (total_for (sizes_for p r q k c hz)) then 1 else 0

unfoldable pub make_bytes : (p r q k c hz : ℕ) → List ℕ → List ℕ
make_bytes p r q k c hz s =
    if not (sizes_fit p r q k c hz)
    then s
    else if ltb (length s) (total_for (sizes_for p r q k c hz)) then s else fresh_bytes (sizes_for p r q k c hz) s
