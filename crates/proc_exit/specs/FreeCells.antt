-- Which cells are free once a process has gone, and whether a message is due.
use Rattle.std.specs.Prelude.{◌≡◌, true, List, [], ◌∷◌, ◌++◌, map, ℕ, zero, suc, ◌+◌, ◌≤◌, ◌<◌, length, get_or, set}
use Rattle.std.proofs.Math.Path.{refl, ap}
use Rattle.std.proofs.Common.{sym, eq-eqb, arith}
use Rattle.std.proofs.Math.Bool.{false, not}
use Rattle.std.proofs.Math.Option.{Option, none, some}
use Rattle.std.proofs.lemmas.Bool.{not-true, not-false}
use Rattle.lists.specs.Lists.{bit, each-get, count_concat_set, highest-some, highest-none, elem-some, elem-none}
use Rattle.machine.specs.Basics.{is_none, elem, count, concat_map}
use Rattle.machine.specs.Machine.{Machine, Process, Exit, free, process}
use Rattle.machine.specs.Update.{with_up, with_process}
use Rattle.machine.specs.Good.{ProcessInRange, Good}
use Rattle.machine.specs.Exits.{found, cells_used, free_cell, without, has_room, message_due}

-- The cells of a process's exits.
abbrev cells_of : Process → List ℕ
cells_of p = map (λ (e : Exit). e.cell) p.exits

-- Lists one after another are the same where one is stored that is the same.
concat_set : {A B : Type 0} (f : A → List B) (xs : List A) (i : ℕ) (v d : A) → f v ≡ f (get_or xs i d) → concat_map f (set xs i v) ≡ concat_map f xs
unfolding concat_map
concat_set f [] i v d e = refl
concat_set f (x ∷ xs) zero v d e = rw e
concat_set {A} {B} f (x ∷ xs) (suc i) v d e = ap (λ (l : List B). f x ++ l) (concat_set f xs i v d e)

-- Without exits of its own, a process that goes frees no cell.
pub cell_same : (m : Machine) (i : ℕ) → (process m i).exits ≡ [] → free_cell (without i m) ≡ free_cell m
unfolding free_cell cells_used without with_up with_process process free
cell_same m i e = rw (concat_set cells_of m.processes i free free (ap (map (λ (e : Exit). e.cell)) (sym e)))

-- A cell that nobody else has is free then.
module _ (m : Machine) (i : ℕ) (l : i < length m.processes) where
  counted : (c : ℕ) → count c (cells_used (without i m)) + count c (cells_of (process m i)) ≡ count c (cells_used m)
  unfolding cells_used without with_up with_process process free count
  counted c = omega (arith, count_concat_set cells_of m.processes i free free c l)

  some-cell : (c : ℕ) → c < m.sizes.cells → count c (cells_used (without i m)) ≡ 0 → is_none (free_cell (without i m)) ≡ false
  unfolding free_cell without with_up with_process
  some-cell c h n = go (free_cell (without i m)) refl
    where
      go : (o : Option ℕ) → free_cell (without i m) ≡ o → is_none o ≡ false
      go none e =
          absurd
          (omega (
            arith,
            n,
            elem-some c (cells_used (without i m))
                (not-false (elem c (cells_used (without i m))) (highest-none m.sizes.cells (λ c. not (elem c (cells_used (without i m)))) e c h)),
          ))
      go (some d) e = refl

  -- One that is free now is, and one of its own.
  pub still-free : (c : ℕ) → free_cell m ≡ some c → is_none (free_cell (without i m)) ≡ false
  unfolding free_cell
  still-free c e =
      let h : (c < m.sizes.cells) × (not (elem c (cells_used m)) ≡ true) = highest-some m.sizes.cells (λ c. not (elem c (cells_used m))) c e in
      some-cell c h.0 (omega (arith, counted c, elem-none c (cells_used m) (not-true (elem c (cells_used m)) h.1)))

  pub own-free : Good m → (x : Exit) (xs : List Exit) → (process m i).exits ≡ x ∷ xs → is_none (free_cell (without i m)) ≡ false
  unfolding process count
  own-free g x xs e =
      let r : ProcessInRange m.sizes (process m i) = each-get (ProcessInRange m.sizes) m.processes i free g.in_range.each l in
      let one : 1 ≤ count x.cell (cells_of (process m i)) = rw e (omega (arith, ap bit (eq-eqb x.cell x.cell refl))) in
      some-cell x.cell (rw e at r.each).0.cell (omega (arith, counted x.cell, g.cells x.cell, one))

-- A message is due by what the parent has.
pub due-none : (m : Machine) (i : ℕ) → found (process m i).parent m ≡ none → message_due i m ≡ false
unfolding message_due
due-none m i e = rw (e, message_due)

pub due-some : (m : Machine) (i j : ℕ) → found (process m i).parent m ≡ some j → message_due i m ≡ has_room (process m j)
unfolding message_due
due-some m i j e = rw (e, message_due)
