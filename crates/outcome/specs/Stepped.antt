-- What a step asks of a state and ensures.
use Rattle.std.specs.Prelude.{if◌then◌else◌, ◌≡◌, ◌&&◌, List, [], ◌∷◌, ℕ, suc, eqb, Result}
use Rattle.machine.specs.Good.{Good}
use Rattle.machine.specs.Step.{Step, Body}
use Rattle.machine.specs.Table.{on}
use Rattle.machine.specs.Outcome.{refused}
use Rattle.machine.specs.StepOf.{step_of}
use Rattle.layout.specs.Writes.{to}
use Rattle.state.specs.Fields as fields
use Rattle.state.specs.Places.{mem_in}
use Rattle.state.specs.declared.Sizes.{Sizes}
use Rattle.holds.specs.Holds.{Holds}
use Rattle.holds.specs.Did.{machine_in, writes_in}
use Rattle.holds.specs.Touched.{Spares}
use Rattle.outcome.specs.declared.Reply.{Reply}
use Rattle.outcome.specs.declared.Refusal.{Refusal}
use Rattle.outcome.specs.Means.{means, told, status_of}

-- The state keeps every group of `Holds`, with nobody owed, and the machine's rules, at the sizes that the code carries: all of well-formedness but
-- `Idle`, which follows a step by `Spares` (`spares-idle`).
pub record Well (z : Sizes) (s : List ℕ) : Type 0 where
  pub holds : Holds z s 0
  pub good : Good (machine_in z s)

-- The bytes that a refusal leaves: all as they were, but for 11 on an rfork with M = 3, where the next pid rises by one.
unfoldable pub left_bytes : Sizes → List ℕ → ℕ → Body → List ℕ
left_bytes z s number b =
    if eqb number 11 && on 2 "rfork" (λ F M. eqb M 3) b then writes_in z s (to fields.next_pid 0 (suc (mem_in z s fields.next_pid 0)) ∷ []) else s

-- A step x took the state s to s' with the result r and the message m told: answer and machine are the definition's, and the state is one
-- of its kind again; a refusal leaves the bytes. No byte is written but of fields; what the machine then neither uses nor has cleared stays, and all
-- behind the state.
pub record Stepped (z : Sizes) (s s' : List ℕ) (x : Step) (m : List ℕ) (r : Result Reply Refusal) : Type 0 where
  pub holds : Holds z s' 0
  pub reply : means r m (status_of x.body) ≡ (step_of (machine_in z s) x).reply
  pub told : m ≡ told (step_of (machine_in z s) x).reply
  pub machine : machine_in z s' ≡ (step_of (machine_in z s) x).after
  pub spares : Spares z s s'
  pub left : (n : ℕ) → (step_of (machine_in z s) x).reply ≡ refused n → s' ≡ left_bytes z s n x.body
