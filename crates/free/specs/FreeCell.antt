-- The machine's free cell: the cells that its messages take are those that have an owner.
use Rattle.std.specs.Prelude.{◌≡◌, refl, Bool, true, false, not, List, [], ◌∷◌, map, ℕ, zero, suc, ◌≤◌, ◌<◌, eqb, get_or}
use Rattle.std.proofs.Common.{sym, ap, subst, ◌∙◌, arith, eqb-true, ne_eqb}
use Rattle.std.proofs.lemmas.Bool.{eqb-false}
use Rattle.lists.specs.Lists.{each_append, each_map, elem-none, count_concat_get}
use Rattle.machine.specs.Basics.{elem, count, concat_map}
use Rattle.machine.specs.Machine.{Sizes, Process, Exit, free}
use Rattle.machine.specs.Good.{Each}
use Rattle.machine.specs.Exits.{cells_used, free_cell}
use Rattle.layout.specs.Memory.{Memory}
use Rattle.state.specs.Fields as fields
use Rattle.state.specs.Abs.{table, exit_list, process_at, machine_of}
use Rattle.state.specs.Tables.{table-get}
use Rattle.state.specs.Reads.{cells-back}
use Rattle.state.specs.WellFormed.{Used, Cells}
use Rattle.free.specs.Highest.{highest_free, highest-same}

-- What every number in a list has, one that is in it has.
each-elem : (P : ℕ → Type 0) (xs : List ℕ) (k : ℕ) → Each P xs → elem k xs ≡ true → P k
unfolding elem
each-elem P [] k h e = let d : ◌≡◌ {A = ℕ} 0 1 = cc in absurd (omega arith)
each-elem P (x ∷ xs) k h e = go (eqb k x) refl (each-elem P xs k h.1)
  where
    go : (t : Bool) → eqb k x ≡ t → (elem k xs ≡ true → P k) → P k
    go true d more = subst P (sym (eqb-true k x d)) h.0
    go false d more = more (rw (d, elem) at e)

-- Lists one after another.
each_concat
    : {A : Type 0} (P : ℕ → Type 0) (f : A → List ℕ) (n : ℕ) (g : ℕ → A)
    → ((i : ℕ) → Each P (f (g i)))
    → Each P (concat_map f (table n g))
unfolding concat_map table
each_concat P f zero g h = tt
each_concat P f (suc n) g h =
    each_append P (f (g 0)) (concat_map f (table n (λ k. g (suc k)))) (h 0) (each_concat P f n (λ k. g (suc k)) (λ i. h (suc i)))

-- The cells of a record: none of a free one, and else those of its list of exits.
abbrev cells_of : Process → List ℕ
cells_of p = map (λ (e : Exit). e.cell) p.exits

cells-none : (m : Memory) (i : ℕ) → eqb (m fields.pid i) 0 ≡ true → cells_of (process_at m i) ≡ []
unfolding process_at free
cells-none m i e = rw e

cells-some : (m : Memory) (i : ℕ) → eqb (m fields.pid i) 0 ≡ false → cells_of (process_at m i) ≡ exit_list m i
unfolding process_at
cells-some m i e = rw e (cells-back m (exit_list m i))

-- Each cell that is taken has an owner.
cells-owned : {z : Sizes} {m : Memory} → Cells z m → Each (λ c. 0 < m fields.owner c) (cells_used (machine_of z m))
unfolding cells_used machine_of
cells-owned {z} {m} x = each_concat (λ c. 0 < m fields.owner c) cells_of z.processes (process_at m) (λ i. go i (eqb (m fields.pid i) 0) refl)
  where
    go : (i : ℕ) (t : Bool) → eqb (m fields.pid i) 0 ≡ t → Each (λ c. 0 < m fields.owner c) (cells_of (process_at m i))
    go i true e = rw (cells-none m i e) tt
    go i false e =
        let ne : m fields.pid i ≡ 0 → ⊥ = eqb-false (m fields.pid i) 0 e in
        let own : Each (λ c. m fields.owner c ≡ suc i) (exit_list m i) = x.owned i (omega arith) in
        subst (λ (l : List ℕ). Each (λ c. 0 < m fields.owner c) l) (sym (cells-some m i e))
        (each_map (λ c. m fields.owner c ≡ suc i) (λ c. 0 < m fields.owner c) (exit_list m i) (λ c d. omega arith) own)

-- Each cell that has an owner is taken.
cells-taken : {z : Sizes} {m : Memory} (c i : ℕ) → Cells z m → i < z.processes → m fields.owner c ≡ suc i → 1 ≤ count c (cells_used (machine_of z m))
unfolding cells_used machine_of free
cells-taken {z} {m} c i x l e =
    let o : Used m i × (1 ≤ count c (exit_list m i)) = x.owner c i e in
    let s : cells_of (process_at m i) ≡ exit_list m i = cells-some m i (ne_eqb (m fields.pid i) 0 (λ d. omega arith)) in
    let p : cells_of (get_or (table z.processes (process_at m)) i free) ≡ exit_list m i =
    ap cells_of (table-get z.processes (process_at m) i free l) ∙ s
    in
    omega (arith, count_concat_get cells_of (table z.processes (process_at m)) i free c refl, ap (count c) p, o.1)

-- So a cell is free in the machine where it has no owner.
cell_free
    : {z : Sizes} {m : Memory} (c : ℕ)
    → Cells z m
    → m fields.owner c ≤ z.processes
    → not (elem c (cells_used (machine_of z m))) ≡ eqb (m fields.owner c) 0
cell_free {z} {m} c x h = go (elem c (cells_used (machine_of z m))) refl (m fields.owner c) refl
  where
    go : (t : Bool) → elem c (cells_used (machine_of z m)) ≡ t → (v : ℕ) → m fields.owner c ≡ v → not t ≡ eqb v 0
    go true e zero d = absurd (omega (arith, each-elem (λ k. 0 < m fields.owner k) (cells_used (machine_of z m)) c (cells-owned x) e))
    go true e (suc i) d = sym (ne_eqb (suc i) 0 (λ q. omega arith))
    go false e zero d = refl
    go false e (suc i) d = absurd (omega (arith, elem-none c (cells_used (machine_of z m)) e, cells-taken c i x (omega arith) d))

pub free_cell_lem
    : {z : Sizes} {m : Memory}
    → Cells z m
    → ((c : ℕ) → m fields.owner c ≤ z.processes)
    → free_cell (machine_of z m) ≡ highest_free z.cells (m fields.owner)
unfolding free_cell machine_of
free_cell_lem {z} {m} x h =
    highest-same z.cells (λ c. not (elem c (cells_used (machine_of z m)))) (λ c. eqb (m fields.owner c) 0) (λ c l. cell_free c x (h c))
