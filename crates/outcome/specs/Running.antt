-- Who runs, as the code reads it, and the refusals of a step that needs somebody to run.
use Rattle.std.specs.Prelude.{◌≡◌, Bool, true, false, List, [], ◌⊎◌, ℕ, suc, Err}
use Rattle.std.proofs.Common.{subst, sym, ap, ◌∙◌, inl, inr}
use Rattle.std.proofs.Math.Option.{none, some}
use Rattle.std.proofs.Math.Path.{refl}
use Rattle.machine.specs.Step.{Body}
use Rattle.machine.specs.Table.{refusal}
use Rattle.machine.specs.StepOf.{left_by}
pub use Rattle.kept.specs.Simple.{current-is}
use Rattle.state.specs.Fields as fields
use Rattle.state.specs.Abs.{link_to, machine_of}
use Rattle.state.specs.Places.{mem_in}
use Rattle.state.specs.declared.Sizes.{Sizes}
use Rattle.holds.specs.Holds.{Holds}
use Rattle.holds.specs.Did.{machine_in}
use Rattle.outcome.specs.declared.Refusal.{Refusal}
use Rattle.outcome.specs.declared.Refusal.TheVariants.{InInterrupt, NoneRuns}
use Rattle.outcome.specs.Stepped.{Stepped, left_bytes}
use Rattle.outcome.specs.Laws.{stepped-refused}
use Rattle.outcome.specs.Refusals.{step}

-- The step is not marked, and process i runs.
pub record IsRunning (z : Sizes) (s : List ℕ) (k : Bool) (i : ℕ) : Type 0 where
  pub unmarked : k ≡ false
  pub runs : mem_in z s fields.up 0 ≡ suc i

-- The step is marked, or else nobody runs.
abbrev pub NotRunning : Sizes → List ℕ → Bool → Refusal → Type 0
NotRunning z s k e =
    ((e ≡ InInterrupt) × (k ≡ true)) ⊎ ((e ≡ NoneRuns) × (k ≡ false) × (mem_in z s fields.up 0 ≡ 0))

up_in : (z : Sizes) (s : List ℕ) → (machine_in z s).up ≡ link_to (mem_in z s fields.up 0)
unfolding machine_of
up_in z s = refl

pub nobody-up : (z : Sizes) (s : List ℕ) → mem_in z s fields.up 0 ≡ 0 → (machine_in z s).up ≡ none
nobody-up z s e = up_in z s ∙ ap link_to e

pub somebody-up : (z : Sizes) (s : List ℕ) {i : ℕ} → mem_in z s fields.up 0 ≡ suc i → (machine_in z s).up ≡ some i
somebody-up z s e = up_in z s ∙ ap link_to e

-- What a step meets that needs somebody to run, and is not to be marked.
pub not-running
    : {z : Sizes} {s : List ℕ} {k : Bool} {b : Body} {e : Refusal}
    → Holds z s 0
    → (k ≡ true → refusal (machine_in z s) (step k b) ≡ some 3)
    → (k ≡ false → (machine_in z s).up ≡ none → refusal (machine_in z s) (step k b) ≡ some 4)
    → NotRunning z s k e
    → Stepped z s s (step k b) [] (Err e)
unfolding left_by left_bytes
not-running {z} {s} {k} {b} {e} h marked nobody (inl (x, m)) =
    subst (λ (y : Refusal). Stepped z s s (step k b) [] (Err y)) (sym x) (stepped-refused (marked m) h refl refl)
not-running {z} {s} {k} {b} {e} h marked nobody (inr (x, u, n)) =
    subst (λ (y : Refusal). Stepped z s s (step k b) [] (Err y)) (sym x) (stepped-refused (nobody u (nobody-up z s n)) h refl refl)
