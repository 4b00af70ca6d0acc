-- Laws of what is read of a state: whether a field is set, and which cells a list of exits takes.
use Rattle.std.specs.Prelude.{◌≡◌, refl, true, false, List, [], ◌∷◌, map, ℕ, ◌<◌, eqb}
use Rattle.std.proofs.Common.{ap, arith, eq-eqb, ne_eqb, eqb-true}
use Rattle.std.proofs.lemmas.Bool.{eqb-false, not-true, not-false}
use Rattle.machine.specs.Machine.{Exit}
use Rattle.layout.specs.Memory.{Memory}
use Rattle.state.specs.Abs.{is_set, exit_at}

-- Whether a number is set, from what it is, and back.
pub set_test : (v : ℕ) → 0 < v → is_set v ≡ true
set_test v h = rw (ne_eqb v 0 (λ e. omega arith))

pub unset_test : (v : ℕ) → v ≡ 0 → is_set v ≡ false
unset_test v e = rw (eq-eqb v 0 e)

pub test_set : (v : ℕ) → is_set v ≡ true → 0 < v
test_set v e = omega (arith, eqb-false v 0 (not-true (eqb v 0) e))

pub test_unset : (v : ℕ) → is_set v ≡ false → v ≡ 0
test_unset v e = eqb-true v 0 (not-false (eqb v 0) e)

-- The exits at cells take these cells.
pub cells-back : (m : Memory) (xs : List ℕ) → map (λ (e : Exit). e.cell) (map (exit_at m) xs) ≡ xs
unfolding exit_at
cells-back m [] = refl
cells-back m (x ∷ xs) = ap (λ (l : List ℕ). x ∷ l) (cells-back m xs)
