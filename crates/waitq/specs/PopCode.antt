-- What `exits::pop` asks and ensures, and what its code shows.
use Rattle.std.specs.Prelude.{◌≡◌, refl, List, [], ◌∷◌, ℕ, suc, ◌-◌, ◌≤◌, ◌<◌, length}
use Rattle.std.proofs.Common.{sym, ap, ◌∙◌, arith}
use Rattle.machine.specs.Machine.{process}
use Rattle.machine.specs.Update.{with_process}
use Rattle.machine.specs.Perform.{take_exit, newest}
use Rattle.layout.specs.Table.{slot}
use Rattle.layout.specs.Memory.{Memory}
use Rattle.layout.specs.Writes.{Writable}
use Rattle.chain.specs.Links.{chain_head, rest, first_link}
use Rattle.state.specs.Fields as fields
use Rattle.state.specs.Abs.{exit_at, exit_list, machine_of}
use Rattle.state.specs.Places.{sizes_in, mem_in, PutIn, Wrote, wrote_join}
use Rattle.state.specs.WellFormed.{Used}
use Rattle.state.specs.declared.Sizes.{Sizes}
use Rattle.holds.specs.Did.{wrote_2}
use Rattle.exact.specs.Bounds.{InBounds, at_most}
use Rattle.waitq.specs.Stored.{ExitsIn, cells-bounds, used-index, CellThere, Stored, stored_by}
use Rattle.waitq.specs.Push.{head_stores}
use Rattle.waitq.specs.Pop.{unlink_stores, pop_stores, owned-here, pop-changed, pop-newest, pop-machine}

-- What `unlink` ensures: its stores, and the link that the cell held.
pub record Unlinked (z : Sizes) (s s' : List ℕ) (c r : ℕ) : Type 0 where
  pub wrote : Wrote z s s' (unlink_stores c)
  pub next : r ≡ mem_in z s fields.cell_next c

pub unlinked
    : {z : Sizes} {s s₁ s₂ : List ℕ} {c r : ℕ}
    → r ≡ mem_in z s fields.cell_next c
    → PutIn z s s₁ (slot 6 8 2) c 0
    → PutIn z s₁ s₂ (slot 6 10 2) c 0
    → Unlinked z s s₂ c r
unfolding unlink_stores
unlinked e p q = record { wrote = wrote_2 p q; next = e }

-- What the code asks: a record in use that has an exit, in a state in range whose cells are sound.
pub record PopAsks (z : Sizes) (s : List ℕ) (i : ℕ) : Type 0 where
  pub cells : ExitsIn z s
  pub used : Used (mem_in z s) i
  pub some : 0 < mem_in z s fields.nexits i

-- The answer is the link to the newest, whose cell is free then; the rest is as it was.
pub record PopDone (z : Sizes) (s s' : List ℕ) (i r : ℕ) : Type 0 where
  pub link : r ≡ mem_in z s fields.exits i
  pub range : (0 < r) × (r ≤ z.cells)
  pub list : exit_list (mem_in z s) i ≡ (r - 1) ∷ exit_list (mem_in z s') i
  pub stored : Stored z s s' (pop_stores (mem_in z s) i (r - 1)) i (rest (exit_list (mem_in z s) i))
  pub newest : newest (process (machine_of (sizes_in z) (mem_in z s)) i) ≡ exit_at (mem_in z s) (r - 1)
  pub machine : machine_of (sizes_in z) (mem_in z s')
      ≡ with_process i (take_exit (process (machine_of (sizes_in z) (mem_in z s)) i)) (machine_of (sizes_in z) (mem_in z s))

-- The exits begin with the cell that the record's link names.
record Front (z : Sizes) (m : Memory) (i : ℕ) : Type 0 where
  some : 0 < m fields.exits i
  below : m fields.exits i ≤ z.cells
  list : exit_list m i ≡ (m fields.exits i - 1) ∷ rest (exit_list m i)

front : {z : Sizes} {s : List ℕ} {i : ℕ} → PopAsks z s i → Front z (mem_in z s) i
front {z} {s} {i} a =
    go (exit_list m i) refl (a.cells.cells.counted i a.used) (chain_head (a.cells.cells.chain i a.used))
  where
    m : Memory
    m = mem_in z s

    go : (xs : List ℕ) → exit_list m i ≡ xs → length (exit_list m i) ≡ m fields.nexits i → m fields.exits i ≡ first_link (exit_list m i) → Front z m i
    go [] e n l = absurd (omega (arith, ap length e, n, a.some))
    go (x ∷ xs) e n l =
        let d : m fields.exits i ≡ suc x = rw e at l in
        record {
          some = omega (arith, d);
          below = at_most (cells-bounds a.cells) fields.exits i;
          list = rw e (ap (λ (k : ℕ). k ∷ xs) (omega (arith, d)));
        }

-- The link is one to a cell, which is there.
pub pop-some : {z : Sizes} {s : List ℕ} {i : ℕ} → PopAsks z s i → 0 < mem_in z s fields.exits i
pop-some a = (front a).some

pub pop-cell : {z : Sizes} {s : List ℕ} {i link : ℕ} → PopAsks z s i → link ≡ mem_in z s fields.exits i → CellThere z s (link - 1)
pop-cell a e = record { index = omega (arith, e, (front a).some, (front a).below); long = a.cells.state.long }

-- It is one of the record's.
pub pop-owned : {z : Sizes} {s : List ℕ} {i link : ℕ} → PopAsks z s i → link ≡ mem_in z s fields.exits i → mem_in z s fields.owner (link - 1) ≡ suc i
pop-owned {z} {s} {i} {link} a e =
    let x : exit_list (mem_in z s) i ≡ (link - 1) ∷ rest (exit_list (mem_in z s) i) = rw e (front a).list in
    (owned-here (cells-bounds a.cells) a.cells.cells a.used x).0

pub pop-index : {z : Sizes} {s : List ℕ} {i : ℕ} → PopAsks z s i → i < z.processes
pop-index a = used-index a.cells a.used

pop-writable
    : {z : Sizes} {s : List ℕ} {i c : ℕ}
    → PopAsks z s i
    → c < z.cells
    → Writable fields.layout1 (fields.most_of (sizes_in z)) (fields.counts (sizes_in z)) (pop_stores (mem_in z s) i c)
unfolding pop_stores unlink_stores head_stores
pop-writable {z} {s} {i} {c} a l =
    let b : InBounds (sizes_in z) (mem_in z s) = cells-bounds a.cells in
    omega (arith, l, pop-index a, at_most b fields.cell_next c, at_most b fields.nexits i)

-- What the code shows at its return.
pub popped
    : {z : Sizes} {s s₁ s₂ : List ℕ} {i link next number : ℕ}
    → PopAsks z s i
    → link ≡ mem_in z s fields.exits i
    → Unlinked z s s₁ (link - 1) next
    → Wrote z s₁ s₂ (head_stores i next (number - 1))
    → number ≡ mem_in z s fields.nexits i
    → PopDone z s s₂ i link
unfolding pop_stores
popped {z} {s} {s₁} {s₂} {i} {link} {next} {number} a e w₁ w₂ d =
    let m : Memory = mem_in z s in
    let c : ℕ = link - 1 in
    let t : Front z m i = front a in
    let x : exit_list m i ≡ c ∷ rest (exit_list m i) = rw e t.list in
    let l : c < z.cells = omega (arith, e, t.some, t.below) in
    let w₂' : Wrote z s₁ s₂ (head_stores i (m fields.cell_next c) (m fields.nexits i - 1)) = rw (← w₁.next, ← d) w₂ in
    let b : InBounds (sizes_in z) m = cells-bounds a.cells in
    let st : Stored z s s₂ (pop_stores m i c) i (rest (exit_list m i)) =
    stored_by a.cells (wrote_join z (unlink_stores c) (head_stores i (m fields.cell_next c) (m fields.nexits i - 1)) w₁.wrote w₂') (pop-writable a l)
    (pop-changed b a.cells.cells a.used x)
    in
    record {
      link = e;
      range = (omega (arith, e, t.some), omega (arith, e, t.below));
      list = x ∙ ap (λ (ys : List ℕ). c ∷ ys) (sym st.changed.list);
      stored = st;
      newest = pop-newest b a.cells.cells a.used x;
      machine = ap (machine_of (sizes_in z)) st.memory ∙ pop-machine b a.cells.cells a.used x;
    }
