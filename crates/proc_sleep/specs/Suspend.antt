-- The running process leaves the CPU in the middle of a call.
use Rattle.std.specs.Prelude.{◌≡◌, refl, List, ℕ, suc, ◌≤◌}
use Rattle.std.proofs.Common.{sym, ap, ◌∙◌, arith}
use Rattle.std.proofs.Math.Option.{none}
use Rattle.machine.specs.Machine.{Machine, process}
use Rattle.machine.specs.Update.{with_up, with_process, with_resume}
use Rattle.layout.specs.Memory.{Memory}
use Rattle.state.specs.Fields as fields
use Rattle.state.specs.Places.{sizes_in, mem_in}
use Rattle.state.specs.declared.Sizes.{Sizes}
use Rattle.record.specs.declared.Resume.{Resume}
use Rattle.record.specs.Resumes.{number_of, object_of, condition_of, meaning}
use Rattle.holds.specs.Holds.{Holds}
use Rattle.holds.specs.Did.{machine_in}
use Rattle.holds.specs.Use.{same_use}
use Rattle.holds.specs.Touched.{Touched, touched_join, touched-did}
use Rattle.places.specs.Nowhere.{Nowhere}
use Rattle.places.specs.Own.{stop_mem, call_mem}
use Rattle.dat.specs.Own.{StopAsks, Stopped, CallAsks, Called}

-- Whoever ran is not marked asleep once nobody runs.
stopped-awake : {z : Sizes} {s s₁ : List ℕ} {n : ℕ} → Holds z s n → Stopped z s s₁ → (i : ℕ) → mem_in z s fields.up 0 ≡ suc i → mem_in z s₁ fields.state_of i ≡ 3 → ⊥
stopped-awake {z} {s} {s₁} h t i e d =
    omega (arith, sym (ap (λ (k : Memory). k fields.state_of i) t.did.memory) ∙ d, h.keeps.placed.running i e)

-- The process i runs, and the call's numbers fit their fields.
pub record SuspendAsks (z : Sizes) (s : List ℕ) (i : ℕ) (c : Resume) : Type 0 where
  pub holds : Holds z s 0
  pub runs : mem_in z s fields.up 0 ≡ suc i
  pub object : object_of c ≤ 65535
  pub condition : condition_of c ≤ 255

-- Nobody runs, and i, whose call goes on at c, is nowhere.
pub record Suspended (z : Sizes) (s s' : List ℕ) (i : ℕ) (c : Resume) : Type 0 where
  pub holds : Holds z s' 0
  pub nowhere : Nowhere (sizes_in z) (mem_in z s') i
  pub memory : mem_in z s' ≡ call_mem (stop_mem (mem_in z s)) i (number_of c) (object_of c) (condition_of c)
  pub machine : machine_in z s' ≡ with_process i (with_resume (meaning c) (process (with_up none (machine_in z s)) i)) (with_up none (machine_in z s))
  pub touched : Touched z s s'

pub suspend-stop : {z : Sizes} {s : List ℕ} {i : ℕ} {c : Resume} → SuspendAsks z s i c → StopAsks z s
suspend-stop a = record { owed = 0; holds = a.holds }

pub suspend-call : {z : Sizes} {s s₁ : List ℕ} {i : ℕ} {c : Resume} → SuspendAsks z s i c → Stopped z s s₁ → CallAsks z s₁ i c
suspend-call {i = i} a t =
    record {
      owed = 0;
      holds = t.did.holds 0 a.holds;
      nowhere = t.nowhere i a.runs;
      awake = stopped-awake a.holds t i a.runs;
      object = a.object;
      condition = a.condition;
    }

pub suspended : {z : Sizes} {s s₁ s₂ : List ℕ} {i : ℕ} {c : Resume} → SuspendAsks z s i c → Stopped z s s₁ → Called z s₁ s₂ i c → Suspended z s s₂ i c
suspended {i = i} {c = c} a t d =
    record {
      holds = d.did.holds 0 (t.did.holds 0 a.holds);
      nowhere = d.nowhere;
      memory = d.did.memory ∙ ap (λ (x : Memory). call_mem x i (number_of c) (object_of c) (condition_of c)) t.did.memory;
      machine = d.did.machine ∙ ap (λ (x : Machine). with_process i (with_resume (meaning c) (process x i)) x) t.did.machine;
      touched =
          touched_join (touched-did t.did (same_use refl refl refl refl refl refl refl refl refl))
          (touched-did d.did (same_use refl refl refl refl refl refl refl refl refl));
    }
