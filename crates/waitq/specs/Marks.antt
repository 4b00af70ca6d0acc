-- The words that say which cells are in use: neither the cells nor the machine read them. And what keeps every group of a state.
use Rattle.std.specs.Prelude.{if◌then◌else◌, ◌≡◌, refl, Bool, true, false, List, [], ◌∷◌, map, ℕ, suc, ◌<◌, eqb, length}
use Rattle.std.proofs.Common.{sym, ap, ◌∙◌, arith, eqb-true}
use Rattle.machine.specs.Machine as machine
use Rattle.machine.specs.Machine.{Process, Exit, process, asleep}
use Rattle.machine.specs.Update.{with_process, with_exits}
use Rattle.layout.specs.Memory.{Memory, set_field}
use Rattle.state.specs.Fields as fields
use Rattle.state.specs.Abs.{exit_at, exit_list, process_at, machine_of, run_list, waiter_list, timer_list, waits_on}
use Rattle.state.specs.Places.{mem_in}
use Rattle.state.specs.Tables.{table-length}
use Rattle.state.specs.WellFormed.{Used, Cells, Index}
use Rattle.state.specs.declared.Sizes.{Sizes}
use Rattle.exact.specs.Bounds.{InBounds, inside}
use Rattle.exact.specs.Parts.{used_of}
use Rattle.holds.specs.Holds.{Keeps, Holds}
use Rattle.holds.specs.Whole.{holds-bounds}
use Rattle.holds.specs.Did.{machine_in}
use Rattle.holds.specs.Frames.{cells_same}
use Rattle.holds.specs.Parts.{asleep-process}
use Rattle.free.specs.UseCell.{use_cell_mem, drop_cell_mem}
use Rattle.waitq.specs.Same.{of_exits, Same, same_join, same-keeps}
use Rattle.waitq.specs.Change.{Changed}
use Rattle.waitq.specs.Stored.{ExitsIn}

-- Another value for one of the fields of exits.
pub same_set : (m : Memory) (f : ℕ) (k : ℕ → ℕ) → of_exits f ≡ true → Same m (set_field m f k)
same_set m f k t g e = go (eqb f g) refl
  where
    go : (b : Bool) → eqb f g ≡ b → (if b then k else m g) ≡ m g
    go true q = absurd (let d : true ≡ false = sym t ∙ ap of_exits (eqb-true f g q) ∙ e in let x : ◌≡◌ {A = ℕ} 0 1 = cc in omega arith)
    go false q = refl

marks_same : (m : Memory) (x y t : ℕ → ℕ) → Same m (set_field (set_field (set_field m fields.used_cells x) fields.full_cell_words y) fields.full_cells t)
marks_same m x y t =
    same_join (same_set m fields.used_cells x refl)
    (same_join (same_set (set_field m fields.used_cells x) fields.full_cell_words y refl)
    (same_set (set_field (set_field m fields.used_cells x) fields.full_cell_words y) fields.full_cells t refl))

-- A cell that is marked as in use, or as free.
module _ (z : machine.Sizes) (n : ℕ) (m : Memory) (c : ℕ) where
  pub used-same : Same m (use_cell_mem n m c)
  used-same = marks_same m (use_cell_mem n m c fields.used_cells) (use_cell_mem n m c fields.full_cell_words) (use_cell_mem n m c fields.full_cells)

  pub used_cells_lem : Cells z m → Cells z (use_cell_mem n m c)
  used_cells_lem h = cells_same refl refl refl refl refl h

  pub dropped-same : Same m (drop_cell_mem n m c)
  dropped-same = marks_same m (drop_cell_mem n m c fields.used_cells) (drop_cell_mem n m c fields.full_cell_words) (drop_cell_mem n m c fields.full_cells)

  pub dropped-cells : Cells z m → Cells z (drop_cell_mem n m c)
  dropped-cells h = cells_same refl refl refl refl refl h

  pub dropped-changed : {m' : Memory} {i : ℕ} {ys : List ℕ} → Changed z (drop_cell_mem n m c) m' i ys → Changed z m m' i ys
  unfolding machine_of process_at exit_at exit_list run_list waiter_list timer_list waits_on
  dropped-changed d =
      record { cells = d.cells; pids = d.pids; list = d.list; others = d.others; at = d.at; apart = d.apart; machine = d.machine }

-- With other exits as many are asleep.
asleep-exits
    : (z : machine.Sizes) (m : Memory) (i : ℕ) (es : List Exit)
    → i < z.processes
    → asleep (with_process i (with_exits es (process (machine_of z m) i)) (machine_of z m)) ≡ asleep (machine_of z m)
unfolding with_exits machine_of
asleep-exits z m i es l =
    omega (arith, asleep-process (machine_of z m) i (with_exits es (process (machine_of z m) i)) (rw (table-length z.processes (process_at m)) l))

-- Where one record's exits are others, and the words are right, every group is kept.
pub changed-keeps
    : {z : machine.Sizes} {m m' : Memory} {n i : ℕ} {ys : List ℕ}
    → InBounds z m
    → Keeps z m n
    → Used m i
    → Same m m'
    → Changed z m m' i ys
    → Index z m'
    → Keeps z m' n
changed-keeps {z} {m} {m'} {n} {i} {ys} b k u e d x =
    same-keeps e k d.cells x (ap asleep d.machine ∙ asleep-exits z m i (map (exit_at m') ys) (inside b fields.pid i u))

-- The cells of a state that holds.
pub holds-cells : {z : Sizes} {s : List ℕ} {n : ℕ} → Holds z s n → ExitsIn z s
holds-cells h = record { sizes = h.sizes; state = h.state; cells = h.keeps.cells }

-- As many exits as the record says.
pub exits-number
    : {z : Sizes} {s : List ℕ} {n : ℕ}
    → Holds z s n
    → (i : ℕ)
    → Used (mem_in z s) i
    → length (process (machine_in z s) i).exits ≡ mem_in z s fields.nexits i
exits-number {z} {s} h i u =
    ap (λ (p : Process). length p.exits) (used_of (holds-bounds h) i u)
    ∙ length-map (exit_at (mem_in z s)) (exit_list (mem_in z s) i)
    ∙ h.keeps.cells.counted i u
  where
    length-map : (f : ℕ → Exit) (xs : List ℕ) → length (map f xs) ≡ length xs
    length-map f [] = refl
    length-map f (x ∷ xs) = ap suc (length-map f xs)
