-- What the code of `exits::take` shows.
use Rattle.std.specs.Prelude.{◌≡◌, refl, List, ◌∷◌, ℕ, ◌-◌, ◌<◌}
use Rattle.std.proofs.Common.{sym, ap, ◌∙◌, arith}
use Rattle.std.proofs.Math.Path.{subst}
use Rattle.machine.specs.Machine.{process}
use Rattle.machine.specs.Update.{with_process}
use Rattle.machine.specs.Perform.{take_exit, newest}
use Rattle.layout.specs.Table.{slot}
use Rattle.layout.specs.Memory.{Memory}
use Rattle.chain.specs.Links.{rest, alter-same, alter-other}
use Rattle.state.specs.Fields as fields
use Rattle.state.specs.Abs.{exit_at, exit_list, process_at, machine_of, run_list, waiter_list, timer_list, waits_on}
use Rattle.state.specs.Places.{sizes_in, mem_in, ReachIn, Wrote, wrote_join}
use Rattle.state.specs.WellFormed.{Used, Cells, Index}
use Rattle.state.specs.declared.Sizes.{Sizes}
use Rattle.holds.specs.Whole.{holds-bounds}
use Rattle.holds.specs.Use.{Fewer}
use Rattle.holds.specs.Leftover.{Ceased}
use Rattle.holds.specs.Did.{WritableIn, spared-stores, writable_join}
use Rattle.free.specs.Asks.{cells_in}
use Rattle.free.specs.UseCell.{drop_cell_writes, drop_cell_mem, DropCellAsks, DropCellDone, drop_cell-asks}
use Rattle.free.specs.Restored.{ButOwner, dropped-cell}
use Rattle.waitq.specs.Same.{Same, same_join, same-updates}
use Rattle.waitq.specs.Change.{Changed}
use Rattle.waitq.specs.Stored.{exits-reach}
use Rattle.waitq.specs.Push.{head_stores}
use Rattle.waitq.specs.Pop.{unlink_stores, pop_stores, pop_mem}
use Rattle.waitq.specs.PopCode.{PopAsks, PopDone, pop-some, pop-cell, pop-owned}
use Rattle.waitq.specs.Marks.{dropped-same, dropped-cells, dropped-changed, changed-keeps, holds-cells}
use Rattle.waitq.specs.Take.{take_stores, take_mem, TakeAsks, TakeDone}
use Rattle.waitq.specs.InUse.{take-in_use, take-fewer, take-ceased}

-- `exits::pop` changes no word, and of the owners only the cell's.
pop_but : (m : Memory) (i c : ℕ) → ButOwner m (pop_mem m i c) c
unfolding pop_stores unlink_stores head_stores
pop_but m i c =
    record {
      records = record { words = refl; full = refl };
      cells = record { words = refl; middle = refl; full = refl };
      pid = refl;
      owner = λ j ne. alter-other (m fields.owner) c 0 j (λ e. ne (sym e));
    }

pop-freed : (m : Memory) (i c : ℕ) → pop_mem m i c fields.owner c ≡ 0
unfolding pop_stores unlink_stores head_stores
pop-freed m i c = alter-same (m fields.owner) c 0

-- What `exits::pop` ensures, of a memory k that is the one before it; and so of the memory before the mark, which does not matter to the exits.
record From (z : Sizes) (k : Memory) (s₁ s₂ : List ℕ) (i r : ℕ) : Type 0 where
  link : r ≡ k fields.exits i
  list : exit_list k i ≡ (r - 1) ∷ exit_list (mem_in z s₂) i
  wrote : Wrote z s₁ s₂ (pop_stores k i (r - 1))
  writable : WritableIn z (pop_stores k i (r - 1))
  changed : Changed (sizes_in z) k (mem_in z s₂) i (rest (exit_list k i))
  newest : newest (process (machine_of (sizes_in z) k) i) ≡ exit_at k (r - 1)
  machine : machine_of (sizes_in z) (mem_in z s₂) ≡ with_process i (take_exit (process (machine_of (sizes_in z) k) i)) (machine_of (sizes_in z) k)

from-pop : {z : Sizes} {s₁ s₂ : List ℕ} {i r : ℕ} → PopDone z s₁ s₂ i r → From z (mem_in z s₁) s₁ s₂ i r
from-pop p =
    record {
      link = p.link;
      list = p.list;
      wrote = p.stored.wrote;
      writable = p.stored.writable;
      changed = p.stored.changed;
      newest = p.newest;
      machine = p.machine;
    }

from-mark : {z : Sizes} {s₁ s₂ : List ℕ} {i r : ℕ} (m : Memory) (c : ℕ) → From z (drop_cell_mem z.cells m c) s₁ s₂ i r → From z m s₁ s₂ i r
unfolding machine_of process_at exit_at exit_list run_list waiter_list timer_list waits_on pop_stores head_stores
from-mark {z} m c f =
    record {
      link = f.link;
      list = f.list;
      wrote = f.wrote;
      writable = f.writable;
      changed = dropped-changed (sizes_in z) z.cells m c f.changed;
      newest = f.newest;
      machine = f.machine;
    }

module _ {z : Sizes} {s : List ℕ} {i : ℕ} (a : TakeAsks z s i) where
  asked : PopAsks z s i
  asked = record { cells = holds-cells a.holds; used = a.used; some = a.some }

  -- What the calls ask.
  pub take-reach : ReachIn z s (slot 1 34 2) i
  take-reach = exits-reach (holds-cells a.holds) a.used

  pub take_some : 0 < mem_in z s fields.exits i
  take_some = pop-some asked

  owned : {link : ℕ} → link ≡ mem_in z s fields.exits i → 0 < mem_in z s fields.owner (link - 1)
  owned e = omega (arith, pop-owned asked e)

  pub take-drop : {link : ℕ} → link ≡ mem_in z s fields.exits i → DropCellAsks z s (link - 1)
  take-drop e =
      drop_cell-asks (cells_in a.holds.sizes a.holds.state a.holds.keeps.index) (pop-cell asked e).index (owned e)

  pub take-pop : {s₁ : List ℕ} {c : ℕ} → DropCellDone z s s₁ c → PopAsks z s₁ i
  take-pop {s₁} {c} d =
      let e : mem_in z s₁ ≡ drop_cell_mem z.cells (mem_in z s) c = d.memory in
      record {
        cells =
            record {
              sizes = a.holds.sizes;
              state = d.state;
              cells = subst (Cells (sizes_in z)) (sym e) (dropped-cells (sizes_in z) z.cells (mem_in z s) c a.holds.keeps.cells);
            };
        used = subst (λ (k : Memory). Used k i) (sym e) a.used;
        some = subst (λ (k : Memory). 0 < k fields.nexits i) (sym e) a.some;
      }

  -- What the code shows at its return.
  module _ {s₁ s₂ : List ℕ} {link r : ℕ} (e : link ≡ mem_in z s fields.exits i) (d : DropCellDone z s s₁ (link - 1)) (p : PopDone z s₁ s₂ i r) where
    taken : From z (mem_in z s) s₁ s₂ i r
    taken = from-mark (mem_in z s) (link - 1) (subst (λ (k : Memory). From z k s₁ s₂ i r) d.memory (from-pop p))

    the_link : r ≡ link
    the_link = taken.link ∙ sym e

    memory_then : mem_in z s₂ ≡ take_mem z.cells (mem_in z s) i (r - 1)
    memory_then =
        rw the_link
        (rw the_link at p.stored.memory
        ∙ ap (λ (k : Memory). pop_mem k i (link - 1)) d.memory)

    same_then : Same (mem_in z s) (mem_in z s₂)
    unfolding pop_stores unlink_stores head_stores
    same_then =
        rw memory_then
        (same_join (dropped-same (sizes_in z) z.cells (mem_in z s) (r - 1))
        (same-updates (drop_cell_mem z.cells (mem_in z s) (r - 1)) (pop_stores (drop_cell_mem z.cells (mem_in z s) (r - 1)) i (r - 1)) (refl, (refl, (refl, (refl, tt))))))

    index_then : Index (sizes_in z) (mem_in z s₂)
    index_then =
        let f : mem_in z s₂ ≡ pop_mem (mem_in z s₁) i (link - 1) = rw the_link at p.stored.memory in
        dropped-cell a.holds.sizes a.holds.state a.holds.keeps.index (mem_in z s₂) d (owned e)
        (subst (λ (k : Memory). ButOwner (mem_in z s₁) k (link - 1)) (sym f) (pop_but (mem_in z s₁) i (link - 1)))
        (ap (λ (k : Memory). k fields.owner (link - 1)) f ∙ pop-freed (mem_in z s₁) i (link - 1))

    marked : Wrote z s s₁ (drop_cell_writes z.cells (mem_in z s) (r - 1))
    marked = record { bytes = rw the_link d.bytes; long = d.state.long }

    then_wrote : Wrote z s s₂ (take_stores z.cells (mem_in z s) i (r - 1))
    unfolding take_stores
    then_wrote = wrote_join z (drop_cell_writes z.cells (mem_in z s) (r - 1)) (pop_stores (mem_in z s) i (r - 1)) marked taken.wrote

    then_writable : WritableIn z (take_stores z.cells (mem_in z s) i (r - 1))
    unfolding take_stores
    then_writable =
        writable_join z (drop_cell_writes z.cells (mem_in z s) (r - 1)) (pop_stores (mem_in z s) i (r - 1)) (rw the_link d.writable) taken.writable

    pub took : TakeDone z s s₂ i r
    unfolding take_stores
    took =
        record {
          did =
              record {
                holds = λ n h.
                    record {
                      sizes = h.sizes;
                      state = p.stored.cells.state;
                      keeps = changed-keeps (holds-bounds h) h.keeps a.used same_then taken.changed index_then;
                    };
                bytes = then_wrote.bytes;
                writable = then_writable;
                memory = memory_then;
                machine = taken.machine;
                spared =
                    spared-stores a.holds then_wrote.bytes then_writable memory_then
                    (take-in_use z.cells i (r - 1) (rw the_link (owned e)) a.used);
              };
          link = taken.link;
          range = p.range;
          list = taken.list;
          changed = taken.changed;
          newest = taken.newest;
          fewer = subst (Fewer z (mem_in z s)) (sym memory_then) (take-fewer z.cells i (r - 1));
          ceased = subst (Ceased z (mem_in z s)) (sym memory_then) (take-ceased z.cells i (r - 1));
        }
