-- Whether a message is due at an exit and no cell is free for it, the cells of the process that goes being counted as free.
use Rattle.std.specs.Prelude.{◌≡◌, refl, Bool, true, false, Option, is_some, List, [], ◌∷◌, ℕ, suc, ◌-◌, ◌≤◌, ◌<◌, eqb, length}
use Rattle.std.proofs.Common.{sym, ap, ◌∙◌, arith, lit<, eq-eqb, ne_eqb, lt-ltb, le-ltb}
use Rattle.std.proofs.Math.Option.{none, some}
use Rattle.std.proofs.lemmas.Bool.{and_right}
use Rattle.memory.specs.Link.{link, link_there, link_nowhere}
use Rattle.machine.specs.Machine.{Exit, process}
use Rattle.machine.specs.Exits.{found, free_cell, has_room, message_due}
use Rattle.layout.specs.Table.{slot}
use Rattle.state.specs.Fields as fields
use Rattle.state.specs.Abs.{link_to, process_at, machine_of}
use Rattle.state.specs.Tables.{table-length}
use Rattle.state.specs.Places.{mem_in, ReachIn}
use Rattle.state.specs.WellFormed.{Used}
use Rattle.state.specs.declared.Sizes.{Sizes}
use Rattle.exact.specs.Bounds.{inside}
use Rattle.holds.specs.Whole.{holds-bounds}
use Rattle.holds.specs.Did.{machine_in}
use Rattle.free.specs.Asks.{CellsIn, cells_in}
use Rattle.free.specs.FindCell.{CellFound}
use Rattle.ages.specs.Parent.{ParentFound}
use Rattle.outcome.specs.Stepped.{Well}
use Rattle.outcome.specs.RefusalsExit.{no_cell}
use Rattle.proc_exit.specs.FreeCells.{cell_same, still-free, own-free, due-none, due-some}
use Rattle.waitq.specs.Marks.{exits-number}

-- The living process i may have a parent, the link says which.
pub record NoCellAsks (z : Sizes) (s : List ℕ) (i l : ℕ) : Type 0 where
  pub well : Well z s
  pub used : Used (mem_in z s) i
  pub parent : ParentFound z s i l

-- The answer is the table's.
pub record NoCellIs (z : Sizes) (s : List ℕ) (i : ℕ) (r : Bool) : Type 0 where
  pub answer : r ≡ no_cell (machine_in z s) i

module _ {z : Sizes} {s : List ℕ} {i l : ℕ} (a : NoCellAsks z s i l) where
  low : i < z.processes
  low = inside (holds-bounds a.well.holds) fields.pid i a.used

  there : i < length (machine_in z s).processes
  unfolding machine_of
  there = omega (arith, table-length z.processes (process_at (mem_in z s)), low)

  -- What the reads ask.
  pub no_cell-own : ReachIn z s (slot 1 36 1) i
  no_cell-own = record { inside = record { region = lit< tt; end = lit< tt }; index = low; long = a.well.holds.state.long }

  pub no_cell_find : CellsIn z s (mem_in z s fields.owner)
  no_cell_find = cells_in a.well.holds.sizes a.well.holds.state a.well.holds.keeps.index

  -- What the code shows at each return.
  pub no_cell-orphan : l ≡ 0 → NoCellIs z s i false
  no_cell-orphan e = record { answer = rw (due-none (machine_in z s) i (sym a.parent.link ∙ ap link_to e)) }

module _ {z : Sizes} {s : List ℕ} {i j : ℕ} (a : NoCellAsks z s i (suc j)) where
  -- The parent's record.
  parent-used : Used (mem_in z s) j
  parent-used = (a.parent.some j refl).used

  parent-found : found (process (machine_in z s) i).parent (machine_in z s) ≡ some j
  parent-found = sym a.parent.link

  module _ {k : ℕ} (d : k ≡ mem_in z s fields.nexits j) where
    number : length (process (machine_in z s) j).exits ≡ k
    number = exits-number a.well.holds j parent-used ∙ sym d

    pub no_cell-full : 128 ≤ k → NoCellIs z s i false
    unfolding has_room
    no_cell-full l =
        record {
          answer =
              rw (due-some (machine_in z s) i j parent-found
              ∙ le-ltb (length (process (machine_in z s) j).exits) 128 (omega (arith, number, l)));
        }

    due : k < 128 → message_due i (machine_in z s) ≡ true
    unfolding has_room
    due l =
        due-some (machine_in z s) i j parent-found
        ∙ lt-ltb (length (process (machine_in z s) j).exits) 128 (omega (arith, number, l))

    module _ (o : Option ℕ) (f : CellFound z s (link o)) where
      pub no_cell-free : k < 128 → is_some o ≡ true → NoCellIs z s i false
      no_cell-free l t =
          let x : link o ≡ suc (link o - 1) = omega (arith, link_there o t) in
          let q : free_cell (machine_in z s) ≡ some (link o - 1) = sym (f.machine a.well.holds.keeps.cells) ∙ ap link_to x in
          record {
            answer = rw (still-free (machine_in z s) i (there a) (link o - 1) q) (sym (and_right (message_due i (machine_in z s)) false refl));
          }

      -- No cell is free now: the answer is whether it has none of its own.
      pub no_cell-last : {n : ℕ} → k < 128 → is_some o ≡ false → n ≡ mem_in z s fields.nexits i → NoCellIs z s i (eqb n 0)
      no_cell-last {n} l e q = go (process (machine_in z s) i).exits refl
        where
          size : length (process (machine_in z s) i).exits ≡ n
          size = exits-number a.well.holds i a.used ∙ sym q

          none_now : free_cell (machine_in z s) ≡ none
          none_now = sym (f.machine a.well.holds.keeps.cells) ∙ ap link_to (link_nowhere o e)

          go : (xs : List Exit) → (process (machine_in z s) i).exits ≡ xs → NoCellIs z s i (eqb n 0)
          go [] x =
              let w : n ≡ 0 = sym size ∙ ap (λ (l : List Exit). length l) x in
              record { answer = eq-eqb n 0 w ∙ rw (due l, cell_same (machine_in z s) i x ∙ none_now) }
          go (y ∷ ys) x =
              let w : n ≡ suc (length ys) = sym size ∙ ap (λ (l : List Exit). length l) x in
              record {
                answer =
                    ne_eqb n 0 (λ v. omega (arith, v, w))
                    ∙ rw (own-free (machine_in z s) i (there a) a.well.good y ys x) (sym (and_right (message_due i (machine_in z s)) false refl));
              }
