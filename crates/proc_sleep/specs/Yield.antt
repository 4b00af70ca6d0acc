-- yield: what the code shows at each return.
use Rattle.std.specs.Prelude.{if◌then◌else◌, ◌≡◌, refl, Bool, List, [], ℕ, Result, Ok, Err}
use Rattle.std.proofs.Common.{sym, ap, ◌∙◌}
use Rattle.std.proofs.Math.Option.{none, some}
use Rattle.machine.specs.Basics.{is_none}
use Rattle.machine.specs.Step.{yield}
use Rattle.machine.specs.Table.{refusal}
use Rattle.machine.specs.Outcome.{open_outcome}
use Rattle.machine.specs.Update.{with_up}
use Rattle.machine.specs.Places.{ready}
use Rattle.machine.specs.Perform.{open_perform}
use Rattle.state.specs.declared.Sizes.{Sizes}
use Rattle.holds.specs.Did.{machine_in}
use Rattle.holds.specs.Use.{same_use}
use Rattle.holds.specs.Touched.{touched_join, touched-did}
use Rattle.dat.specs.Run.{ReadyAsks, Readied}
use Rattle.dat.specs.Own.{StopAsks, Stopped}
use Rattle.outcome.specs.declared.Reply as code
use Rattle.outcome.specs.declared.Reply.TheVariants.{Done}
use Rattle.outcome.specs.declared.Refusal.{Refusal}
use Rattle.outcome.specs.Means.{means, told}
use Rattle.outcome.specs.Stepped.{Well, Stepped}
use Rattle.outcome.specs.Laws.{stepped-done}
use Rattle.outcome.specs.Refusals.{step}
use Rattle.outcome.specs.RefusalsRun.{refusal-yield}
use Rattle.outcome.specs.Running.{IsRunning, NotRunning, somebody-up, current-is, not-running}

pub record Yielded (z : Sizes) (s s' : List ℕ) (k : Bool) (r : Result code.Reply Refusal) : Type 0 where
  pub stepped : Stepped z s s' (step k yield) [] r

pub yield-refused : {z : Sizes} {s : List ℕ} {k : Bool} {e : Refusal} → Well z s → NotRunning z s k e → Yielded z s s k (Err e)
yield-refused {z} {s} {k} w r =
    let n : refusal (machine_in z s) (step k yield) ≡ (if k then some 3 else if is_none (machine_in z s).up then some 4 else none) =
    refusal-yield (machine_in z s) k
    in
    record { stepped = not-running w.holds (λ m. n ∙ rw m) (λ u o. n ∙ rw (u, o)) r }

pub yield-stop : {z : Sizes} {s : List ℕ} → Well z s → StopAsks z s
yield-stop w = record { owed = 0; holds = w.holds }

pub yield-ready : {z : Sizes} {s s₁ : List ℕ} {k : Bool} {i : ℕ} → Well z s → IsRunning z s k i → Stopped z s s₁ → ReadyAsks z s₁ i
yield-ready {z} {s} {s₁} {k} {i} w u t = record { owed = 0; holds = t.did.holds 0 w.holds; nowhere = t.nowhere i u.runs }

pub yield-done
    : {z : Sizes} {s s₁ s₂ : List ℕ} {k : Bool} {i : ℕ}
    → Well z s
    → IsRunning z s k i
    → Stopped z s s₁
    → Readied z s₁ s₂ i
    → Yielded z s s₂ k (Ok Done)
unfolding open_perform open_outcome means told
yield-done {z} {s} {s₁} {s₂} {k} {i} w u t r =
    let o : (machine_in z s).up ≡ some i = somebody-up z s u.runs in
    record {
      stepped =
          stepped-done (refusal-yield (machine_in z s) k ∙ rw (u.unmarked, o)) (r.did.holds 0 (t.did.holds 0 w.holds))
          (touched_join (touched-did t.did (same_use refl refl refl refl refl refl refl refl refl)) (touched-did r.did (same_use refl refl refl refl refl refl refl refl refl))).spares refl refl
          (r.did.machine
          ∙ ap (ready i) t.did.machine
          ∙ ap (λ (j : ℕ). ready j (with_up none (machine_in z s))) (sym (current-is (machine_in z s) i o)));
    }
