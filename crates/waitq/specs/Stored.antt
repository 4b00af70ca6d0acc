-- The lent state with its cells sound, and what stores ensure that keep them so.
use Rattle.std.specs.Prelude.{◌≡◌, List, ℕ, ◌≤◌, ◌<◌, length}
use Rattle.std.proofs.Common.{sym, subst, arith}
use Rattle.machine.specs.Good.{SizesInRange}
use Rattle.layout.specs.Table.{slot}
use Rattle.layout.specs.Memory.{Memory}
use Rattle.layout.specs.Writes.{State, Write, updates, Writable, written, state-writes}
use Rattle.state.specs.Fields as fields
use Rattle.state.proofs.Ranges.{ranges}
use Rattle.state.specs.Places.{sizes_in, total_in, mem_in, ReachIn, Wrote}
use Rattle.state.specs.WellFormed.{Used, Cells}
use Rattle.state.specs.declared.Sizes.{Sizes}
use Rattle.exact.specs.Bounds.{InBounds, in_bounds, inside}
use Rattle.waitq.specs.Change.{Changed}

-- The sizes and the bytes are in range, and the cells are sound.
pub record ExitsIn (z : Sizes) (s : List ℕ) : Type 0 where
  pub sizes : SizesInRange (sizes_in z)
  pub state : State fields.layout1 (fields.most_of (sizes_in z)) (fields.counts (sizes_in z)) s
  pub cells : Cells (sizes_in z) (mem_in z s)

pub cells-bounds : {z : Sizes} {s : List ℕ} → ExitsIn z s → InBounds (sizes_in z) (mem_in z s)
cells-bounds a = in_bounds a.sizes a.state

-- There is a cell c, and a record i, in the bytes.
pub record CellThere (z : Sizes) (s : List ℕ) (c : ℕ) : Type 0 where
  pub index : c < z.cells
  pub long : total_in z ≤ length s

pub record RecordThere (z : Sizes) (s : List ℕ) (i : ℕ) : Type 0 where
  pub index : i < z.processes
  pub long : total_in z ≤ length s

-- A record in use is there.
pub used-index : {z : Sizes} {s : List ℕ} {i : ℕ} → ExitsIn z s → Used (mem_in z s) i → i < z.processes
used-index a u = inside (cells-bounds a) fields.pid _ u

pub used-there : {z : Sizes} {s : List ℕ} {i : ℕ} → ExitsIn z s → Used (mem_in z s) i → RecordThere z s i
used-there a u = record { index = used-index a u; long = a.state.long }

-- What a read of its exits, or of their number, asks.
pub exits-reach : {z : Sizes} {s : List ℕ} {i : ℕ} → ExitsIn z s → Used (mem_in z s) i → ReachIn z s (slot 1 34 2) i
exits-reach a u =
    record { inside = record { region = omega arith; end = omega arith }; index = used-index a u; long = a.state.long }

pub nexits-reach : {z : Sizes} {s : List ℕ} {i : ℕ} → ExitsIn z s → Used (mem_in z s) i → ReachIn z s (slot 1 36 1) i
nexits-reach a u =
    record { inside = record { region = omega arith; end = omega arith }; index = used-index a u; long = a.state.long }

-- The stores are made, they make the memory that they say, and the cells of record i are ys then.
pub record Stored (z : Sizes) (s s' : List ℕ) (ws : List Write) (i : ℕ) (ys : List ℕ) : Type 0 where
  pub cells : ExitsIn z s'
  pub wrote : Wrote z s s' ws
  pub writable : Writable fields.layout1 (fields.most_of (sizes_in z)) (fields.counts (sizes_in z)) ws
  pub memory : mem_in z s' ≡ updates (mem_in z s) ws
  pub changed : Changed (sizes_in z) (mem_in z s) (mem_in z s') i ys

pub stored_by
    : {z : Sizes} {s s' : List ℕ} {ws : List Write} {i : ℕ} {ys : List ℕ}
    → ExitsIn z s
    → Wrote z s s' ws
    → Writable fields.layout1 (fields.most_of (sizes_in z)) (fields.counts (sizes_in z)) ws
    → Changed (sizes_in z) (mem_in z s) (updates (mem_in z s) ws) i ys
    → Stored z s s' ws i ys
stored_by {z} {s} {s'} {ws} {i} {ys} a w r d =
    let e : mem_in z s' ≡ updates (mem_in z s) ws =
    rw w.bytes (written (ranges (sizes_in z) a.sizes) a.state ws r)
    in
    let d' : Changed (sizes_in z) (mem_in z s) (mem_in z s') i ys =
    subst (λ (k : Memory). Changed (sizes_in z) (mem_in z s) k i ys) (sym e) d
    in
    record {
      cells =
          record {
            sizes = a.sizes;
            state = rw w.bytes (state-writes (ranges (sizes_in z) a.sizes) a.state ws r);
            cells = d'.cells;
          };
      wrote = w;
      writable = r;
      memory = e;
      changed = d';
    }
