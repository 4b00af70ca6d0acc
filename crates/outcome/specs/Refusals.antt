-- A step's number as one test after another, and the step by its number.
use Rattle.std.specs.Prelude.{if◌then◌else◌, ◌≡◌, refl, Bool, true, false, List, [], ◌∷◌, ℕ}
use Rattle.std.proofs.Common.{◌∙◌}
use Rattle.std.proofs.Math.Option.{Option, none, some}
use Rattle.machine.specs.Machine.{Machine}
use Rattle.machine.specs.Step.{Step, Body}
use Rattle.machine.specs.Table.{one_of, in_range, table, order, holds, first_of, refusal, running}
use Rattle.machine.specs.Perform.{perform}
use Rattle.machine.specs.StepOf.{left_by, refusing, step_of}

-- The step with a body, and whether it is marked.
abbrev pub step : Bool → Body → Step
step k b = record { marked = k; body = b }

-- The first number whose cause holds, as one test after another.
abbrev pub tests : List ℕ → Machine → Step → Option ℕ
tests [] m x = none
tests (n ∷ ns) m x = if holds n table m x then some n else tests ns m x

first-tests : (ns : List ℕ) (m : Machine) (x : Step) → first_of ns m x ≡ tests ns m x
unfolding first_of
first-tests [] m x = refl
first-tests (n ∷ ns) m x = go (holds n table m x) refl (first-tests ns m x)
  where
    go
        : (b : Bool) → holds n table m x ≡ b → first_of ns m x ≡ tests ns m x
        → first_of (n ∷ ns) m x ≡ (if b then some n else tests ns m x)
    go true e h = rw (e, first_of)
    go false e h = rw (e, first_of) h

pub refusal-tests : (m : Machine) (x : Step) → refusal m x ≡ tests (order x.body) m x
unfolding refusal
refusal-tests m x = first-tests (order x.body) m x

-- Whatever the step: a field out of range is met first.
pub refused-range : (m : Machine) (k : Bool) (b : Body) → in_range m.sizes b ≡ false → refusal m (step k b) ≡ some 2
unfolding order holds table
refused-range m k b out = refusal-tests m (step k b) ∙ go (one_of ("sleep" ∷ []) b) refl
  where
    go : (s : Bool) → one_of ("sleep" ∷ []) b ≡ s → tests (order b) m (step k b) ≡ some 2
    go true e = rw (e, out)
    go false e = rw (e, out)

-- A step that meets no number is done.
pub step-allowed : (m : Machine) (x : Step) → refusal m x ≡ none → step_of m x ≡ perform x.body m
unfolding step_of
step-allowed m x e = rw (e, step_of)

-- A step that meets one is refused with it.
pub step-refused : (m : Machine) (x : Step) {n : ℕ} → refusal m x ≡ some n → step_of m x ≡ refusing n (left_by n x.body m)
unfolding step_of
step-refused m x e = rw (e, step_of)

-- A test on the process that runs, where it is known.
pub running-some : (m : Machine) {i : ℕ} (test : ℕ → Bool) → m.up ≡ some i → running test m ≡ test i
unfolding running
running-some m test up = rw up
