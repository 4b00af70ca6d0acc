-- A step always comes back done or with one number of the table: totality, for whatever is handed in.
use Rattle.std.specs.Prelude.{if◌then◌else◌, ◌≡◌, refl, Bool, true, false, ◌||◌, List, [], ◌∷◌, ℕ, eqb, ltb}
use Rattle.std.proofs.Common.{sym, subst, eqb-true, eq-eqb}
use Rattle.std.proofs.lemmas.Bool.{false≢true}
use Rattle.std.proofs.Math.Option.{Option, none, some, none-ne-some}
use Rattle.machine.specs.Basics.{elem}
use Rattle.machine.specs.Machine.{Machine}
use Rattle.machine.specs.Step.{Step}
use Rattle.machine.specs.Outcome.{Answer, Reply, answer, refused}
use Rattle.machine.specs.Table.{Row, table, holds, first_of, refusal}
use Rattle.machine.specs.StepOf.{refusing, step_of, outcome_of}
use Rattle.kept.specs.Refused.{refused_by_lem}

-- A step is refused where the table says.
pub refused_where : (m : Machine) (s : Step) (n : ℕ) → refusal m s ≡ some n → (step_of m s).reply ≡ refused n
unfolding step_of refusing
refused_where m s n e = rw (e, step_of)

-- The numbers of the table.
abbrev pub numbers : List Row → List ℕ
numbers [] = []
numbers (r ∷ rs) = r.number ∷ numbers rs

or_true : (a b : Bool) → b ≡ true → a || b ≡ true
or_true true b e = refl
or_true false b e = e

-- A cause that holds stands in the table.
holds-listed : (n : ℕ) (rs : List Row) (m : Machine) (s : Step) → holds n rs m s ≡ true → elem n (numbers rs) ≡ true
unfolding holds elem
holds-listed n [] m s e = absurd (false≢true e)
holds-listed n (r ∷ rs) m s e = go (eqb r.number n) refl (λ d. holds-listed n rs m s d)
  where
    go : (b : Bool) → eqb r.number n ≡ b → (holds n rs m s ≡ true → elem n (numbers rs) ≡ true) → elem n (r.number ∷ numbers rs) ≡ true
    go true d again = rw (eq-eqb n r.number (sym (eqb-true r.number n d)))
    go false d again = or_true (eqb n r.number) (elem n (numbers rs)) (again (rw (d, holds) at e))

first-listed : (ns : List ℕ) (m : Machine) (s : Step) (n : ℕ) → first_of ns m s ≡ some n → elem n (numbers table) ≡ true
unfolding first_of
first-listed [] m s n e = absurd (none-ne-some n e)
first-listed (k ∷ ns) m s n e = go (holds k table m s) refl (λ d. first-listed ns m s n d)
  where
    go : (b : Bool) → holds k table m s ≡ b → (first_of ns m s ≡ some n → elem n (numbers table) ≡ true) → elem n (numbers table) ≡ true
    go true d again =
        let q : some k ≡ some n = rw (d, first_of) at e in
        let r : k ≡ n = cc in
        subst (λ (x : ℕ). elem x (numbers table) ≡ true) r (holds-listed k table m s d)
    go false d again = again (rw (d, first_of) at e)

-- A step that is refused is refused with a number of the table.
pub refused-listed : (m : Machine) (s : Step) (n : ℕ) → (step_of m s).reply ≡ refused n → elem n (numbers table) ≡ true
unfolding refusal
refused-listed m s n e = first-listed _ m s n (refused_by_lem m s n e)

-- Done with an answer, or refused with one number of the table.
pub data Comes (r : Reply) : Type 0 where
  done : (a : Answer) → r ≡ answer a → Comes r
  with_number : (n : ℕ) → r ≡ refused n → elem n (numbers table) ≡ true → Comes r

pub total-step : (m : Machine) (s : Step) → Comes (step_of m s).reply
total-step m s = go (step_of m s).reply refl
  where
    go : (r : Reply) → (step_of m s).reply ≡ r → Comes (step_of m s).reply
    go (answer a) e = done a e
    go (refused n) e = with_number n e (refused-listed m s n e)

-- The same for whatever is handed in: a step or none, with any message buffer.
pub total-outcome : (m : Machine) (o : Option Step) (buffer : ℕ) → Comes (outcome_of m o buffer).reply
unfolding outcome_of refusing elem table
total-outcome m none buffer = with_number 2 refl refl
total-outcome m (some s) buffer = go (ltb buffer 127)
  where
    go : (b : Bool) → Comes (if b then refusing 2 m else step_of m s).reply
    go true = with_number 2 refl refl
    go false = total-step m s
