-- Causes that never refuse on a well-formed machine: 14, and 13 where there are 128 message cells for each process.
use Rattle.std.specs.Prelude.{◌≡◌, refl, Bool, true, false, not, List, [], ◌∷◌, ℕ, zero, suc, ◌+◌, ◌*◌, ◌≤◌, ◌<◌, eqb, length, set}
use Rattle.std.proofs.Common.{ap, arith, not-suc-le-zero, le_of_suc-le-suc, eqb-true, ne_eqb, length-append}
use Rattle.std.proofs.Math.Option.{Option, none, some}
use Rattle.std.proofs.lemmas.Bool.{not-false}
use lib.Text.{eqt}
use Rattle.std.proofs.lemmas.List.{length-map}
use Rattle.machine.specs.Basics.{is_none, elem, count, concat_map}
use Rattle.machine.specs.Machine.{Sizes, nothing, Exit, Machine, Process, free, process}
use Rattle.machine.specs.Update.{with_up, with_process}
use Rattle.machine.specs.Step.{Step, word_of}
use Rattle.machine.specs.Outcome.{refused}
use Rattle.machine.specs.Exits.{cells_used, free_cell, without, message_due}
use Rattle.machine.specs.Table.{running, open_table}
use Rattle.machine.specs.StepOf.{step_of}
use Rattle.machine.specs.Good.{Good, Each, ProcessInRange}
use Rattle.lists.specs.Lists.{bit, highest-none, elem-some}
use Rattle.kept.specs.Fine.{at, cells_in, Fine, fine}
use Rattle.kept.specs.SpotsLaws.{pid-low}
use Rattle.kept.specs.Moves.{up-lives}
use Rattle.kept.specs.Allowed.{and_right, caused}
use Rattle.kept.specs.Refused.{refused_by_lem}

-- A test on who runs that passes is of one who runs, and passes there.
runs_so : (test : ℕ → Bool) (m : Machine) → running test m ≡ true → (i : ℕ) × ((m.up ≡ some i) × (test i ≡ true))
unfolding running
runs_so test m e = go m.up refl
  where
    go : (o : Option ℕ) → m.up ≡ o → (i : ℕ) × ((m.up ≡ some i) × (test i ≡ true))
    go none h = absurd (let y : false ≡ true = rw (h, running) at e in let x : ◌≡◌ {A = ℕ} 0 1 = cc in omega arith)
    go (some i) h = (i, (h, rw (h, running) at e))

-- Who runs has no call, and so no `wait` that has not returned.
pub never_14 : (m : Machine) (s : Step) → Good m → (step_of m s).reply ≡ refused 14 → ⊥
unfolding open_table process
never_14 m s g e =
    let h : (i : ℕ) × ((m.up ≡ some i) × (_ ≡ true)) = runs_so _ m (and_right (eqt (word_of s.body) "wait") _ (caused m s 14 (refused_by_lem m s 14 e))) in
    let r : (at m.processes h.0).resume ≡ nothing = g.calls_fit.runner h.0 h.1.0 in
    let y : false ≡ true = rw r at h.1.1 in
    let x : ◌≡◌ {A = ℕ} 0 1 = cc in
    omega arith

-- How often the numbers below a bound stand in a list, together.
total : ℕ → List ℕ → ℕ
total zero xs = 0
total (suc c) xs = count c xs + total c xs

-- A number that is not below the bound adds nothing.
total-high : (c x : ℕ) (xs : List ℕ) → c ≤ x → total c (x ∷ xs) ≡ total c xs
unfolding total count
total-high zero x xs h = refl
total-high (suc c) x xs h = omega (arith, ap bit (ne_eqb c x (λ e. omega arith)), total-high c x xs (omega arith))

-- Any number adds at most one.
total_cons : (c x : ℕ) (xs : List ℕ) → total c (x ∷ xs) ≤ suc (total c xs)
unfolding total count
total_cons zero x xs = omega arith
total_cons (suc c) x xs = go (eqb c x) refl (total_cons c x xs)
  where
    go : (b : Bool) → eqb c x ≡ b → total c (x ∷ xs) ≤ suc (total c xs) → (bit (eqb c x) + count c xs) + total c (x ∷ xs) ≤ suc (count c xs + total c xs)
    go true e r = omega (arith, ap bit e, total-high c x xs (omega (arith, eqb-true c x e)))
    go false e r = omega (arith, ap bit e)

-- Nothing stands in an empty list.
total-empty : (c : ℕ) → total c [] ≡ 0
unfolding total count
total-empty zero = refl
total-empty (suc c) = omega (arith, total-empty c)

-- Together they stand there no more often than the list is long.
total-length : (c : ℕ) (xs : List ℕ) → total c xs ≤ length xs
total-length c [] = omega (arith, total-empty c)
total-length c (x ∷ xs) = omega (arith, total_cons c x xs, total-length c xs)

-- The pigeonhole: a list in which every number below c stands has c elements or more.
all-counted : (c : ℕ) (xs : List ℕ) → ((k : ℕ) → k < c → elem k xs ≡ true) → c ≤ total c xs
unfolding total
all-counted zero xs h = omega arith
all-counted (suc c) xs h = omega (arith, elem-some c xs (h c (omega arith)), all-counted c xs (λ k l. h k (omega arith)))

-- So such a list has c elements or more.
pub pigeonhole : (c : ℕ) (xs : List ℕ) → ((k : ℕ) → k < c → elem k xs ≡ true) → c ≤ length xs
pigeonhole c xs h = omega (arith, all-counted c xs h, total-length c xs)

-- The cells of records in range are at most 128 for each record, and none for a free one.
cells-all : (z : Sizes) (ps : List Process) → Each (ProcessInRange z) ps → length (concat_map cells_in ps) ≤ 128 * length ps
unfolding concat_map
cells-all z [] h = omega arith
cells-all z (p ∷ ps) h =
    omega (arith, length-append (cells_in p) (concat_map cells_in ps), length-map p.exits (λ (e : Exit). e.cell), h.0.exits, cells-all z ps h.1)

-- With one record freed there are 128 fewer.
cells-without : (z : Sizes) (ps : List Process) (i : ℕ) → Each (ProcessInRange z) ps → i < length ps → length (concat_map cells_in (set ps i free)) + 128 ≤ 128 * length ps
unfolding concat_map free
cells-without z [] i h l = absurd (not-suc-le-zero l)
cells-without z (p ∷ ps) zero h l = omega (arith, cells-all z ps h.1)
cells-without z (p ∷ ps) (suc i) h l =
    omega (arith, length-append (cells_in p) (concat_map cells_in (set ps i free)), length-map p.exits (λ (e : Exit). e.cell), h.0.exits, cells-without z ps i h.1 (le_of_suc-le-suc l))

-- With 128 cells for each process, one is free once the process that exits has gone.
pub never_13 : (m : Machine) (s : Step) → Good m → 128 * m.sizes.processes ≤ m.sizes.cells → (step_of m s).reply ≡ refused 13 → ⊥
unfolding open_table free_cell cells_used without with_up with_process
never_13 m s g c e =
    let h : (i : ℕ) × ((m.up ≡ some i) × (_ ≡ true)) = runs_so _ m (and_right (eqt (word_of s.body) "exit") _ (caused m s 13 (refused_by_lem m s 13 e))) in
    let i : ℕ = h.0 in
    let f : Fine none [] m = fine m g in
    let used : List ℕ = concat_map cells_in (set m.processes i free) in
    let n : free_cell (without i m) ≡ none = nothing-there (free_cell (without i m)) (and_right (message_due i m) (is_none (free_cell (without i m))) h.1.1) in
    omega (
      arith,
      f.records.size,
      pigeonhole m.sizes.cells used (λ k l. not-false (elem k used) (highest-none m.sizes.cells (λ c. not (elem c used)) n k l)),
      cells-without m.sizes m.processes i f.records.each (pid-low m.processes i (up-lives m f i h.1.0)),
    )
  where
    nothing-there : (o : Option ℕ) → is_none o ≡ true → o ≡ none
    nothing-there none e = refl
    nothing-there (some a) e = let x : ◌≡◌ {A = ℕ} 0 1 = cc in absurd (omega arith)
