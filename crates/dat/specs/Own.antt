-- Who runs, and where a call goes on: what `stop`, `run` and `set_resume` ask and ensure.
use Rattle.std.specs.Prelude.{◌≡◌, refl, List, [], ◌∷◌, ℕ, suc, ◌≤◌, ◌<◌}
use Rattle.std.proofs.Common.{sym, ap, subst, ◌∙◌, arith}
use Rattle.std.proofs.Math.Option.{none, some}
use Rattle.machine.specs.Machine as machine
use Rattle.machine.specs.Machine.{process}
use Rattle.machine.specs.Update.{with_up, with_process, with_resume}
use Rattle.layout.specs.Table.{slot}
use Rattle.layout.specs.Memory.{Memory}
use Rattle.layout.specs.Writes.{to}
use Rattle.state.specs.Fields as fields
use Rattle.state.specs.Places.{sizes_in, mem_in, PutIn, Wrote}
use Rattle.state.specs.declared.Sizes.{Sizes}
use Rattle.record.specs.declared.Resume.{Resume}
use Rattle.record.specs.declared.Resume.TheVariants.{Nothing, Sleep, Tsleep, Qlock, Wait}
use Rattle.record.specs.Resumes.{case_blank, number_of, object_of, condition_of, meaning, says-again}
use Rattle.record.specs.Stores.{resume_stores}
use Rattle.record.specs.Loads.{LoadAsks}
use Rattle.exact.specs.Bounds.{InBounds, inside}
use Rattle.holds.specs.Holds.{Holds}
use Rattle.holds.specs.Whole.{holds-bounds}
use Rattle.holds.specs.Use.{used_by, EachInUse, before}
use Rattle.holds.specs.Did.{Did, did, machine_in, same, wrote_2}
use Rattle.places.specs.Nowhere.{Nowhere}
use Rattle.places.specs.Others.{others, keeps_with}
use Rattle.places.specs.Own.{stop_mem, stop-machine, stop-placed, stop-nowhere, run_mem, run-machine, run-placed, call_mem, call-machine, call-placed, call-nowhere}

pub record StopAsks (z : Sizes) (s : List ℕ) : Type 0 where
  pub owed : ℕ
  pub holds : Holds z s owed

-- Nobody runs, and whoever ran is nowhere.
pub record Stopped (z : Sizes) (s s' : List ℕ) : Type 0 where
  pub did : Did z s s' same same (to fields.up 0 0 ∷ []) (stop_mem (mem_in z s)) (with_up none (machine_in z s))
  pub nowhere : (i : ℕ) → mem_in z s fields.up 0 ≡ suc i → Nowhere (sizes_in z) (mem_in z s') i

pub stopped : {z : Sizes} {s s₁ : List ℕ} → StopAsks z s → PutIn z s s₁ (slot 0 26 2) 0 0 → Stopped z s s₁
unfolding used_by
stopped {z} {s} {s₁} a p =
    let d : Did z s s₁ same same (to fields.up 0 0 ∷ []) (stop_mem (mem_in z s)) (with_up none (machine_in z s)) =
    did (to fields.up 0 0 ∷ []) (stop_mem (mem_in z s)) (with_up none (machine_in z s)) a.holds p.bytes
    (record { listed = omega arith; index = omega arith }, omega arith, tt)
    refl
    (λ n k. keeps_with (others k) (stop-placed k.placed))
    (stop-machine a.holds.keeps.placed)
    (EachInUse.more (before (omega arith)) EachInUse.none)
    in
    record {
      did = d;
      nowhere = λ i e. subst (λ (k : Memory). Nowhere (sizes_in z) k i) (sym d.memory) (stop-nowhere a.holds.keeps.placed i e);
    }

-- i, which is nowhere, runs.
pub record RunAsks (z : Sizes) (s : List ℕ) (i : ℕ) : Type 0 where
  pub owed : ℕ
  pub holds : Holds z s owed
  pub nowhere : Nowhere (sizes_in z) (mem_in z s) i

pub record Ran (z : Sizes) (s s' : List ℕ) (i : ℕ) : Type 0 where
  pub did : Did z s s' same same (to fields.up 0 (suc i) ∷ to fields.state_of i 1 ∷ []) (run_mem (mem_in z s) i) (with_up (some i) (machine_in z s))

pub run-low : {z : Sizes} {s : List ℕ} {i : ℕ} → RunAsks z s i → i < z.processes
run-low {i = i} a = inside (holds-bounds a.holds) fields.pid i a.nowhere.used

pub run_small : {z : Sizes} {s : List ℕ} {i : ℕ} → RunAsks z s i → i < 4096
run_small a = omega (arith, run-low a, a.holds.sizes.processes.1)

pub ran : {z : Sizes} {s s₁ s₂ : List ℕ} {i : ℕ} → RunAsks z s i → PutIn z s s₁ (slot 0 26 2) 0 (suc i) → PutIn z s₁ s₂ (slot 1 37 1) i 1 → Ran z s s₂ i
unfolding used_by
ran {z} {s} {s₁} {s₂} {i} a p₁ p₂ =
    record {
      did =
          did (to fields.up 0 (suc i) ∷ to fields.state_of i 1 ∷ []) (run_mem (mem_in z s) i) (with_up (some i) (machine_in z s)) a.holds
          (wrote_2 {z = z} {f₁ = fields.up} {f₂ = fields.state_of} p₁ p₂).bytes
          (record { listed = omega arith; index = omega arith }, run-low a, (record { listed = omega arith; index = run-low a }, omega arith, tt))
          refl
          (λ n k. keeps_with (others k) (run-placed k.placed a.nowhere))
          (run-machine a.holds.keeps.placed a.nowhere)
          (EachInUse.more (before (omega arith)) (EachInUse.more (before a.nowhere.used) EachInUse.none));
    }

-- i, which is nowhere and not marked asleep, has the call r.
pub record CallAsks (z : Sizes) (s : List ℕ) (i : ℕ) (r : Resume) : Type 0 where
  pub owed : ℕ
  pub holds : Holds z s owed
  pub nowhere : Nowhere (sizes_in z) (mem_in z s) i
  pub awake : mem_in z s fields.state_of i ≡ 3 → ⊥
  pub object : object_of r ≤ 65535
  pub condition : condition_of r ≤ 255

pub record Called (z : Sizes) (s s' : List ℕ) (i : ℕ) (r : Resume) : Type 0 where
  pub did
      : Did z s s' same same (resume_stores i r) (call_mem (mem_in z s) i (number_of r) (object_of r) (condition_of r))
      (with_process i (with_resume (meaning r) (process (machine_in z s) i)) (machine_in z s))
  pub nowhere : Nowhere (sizes_in z) (mem_in z s') i
  pub awake : mem_in z s' fields.state_of i ≡ 3 → ⊥

pub call-load : {z : Sizes} {s : List ℕ} {i : ℕ} {r : Resume} → CallAsks z s i r → LoadAsks z s i
call-load {i = i} a = record { index = inside (holds-bounds a.holds) fields.pid i a.nowhere.used; long = a.holds.state.long }

number-low : (r : Resume) → number_of r ≤ 4
number-low Nothing = omega arith
number-low (Sleep r c) = omega arith
number-low (Tsleep r c) = omega arith
number-low (Qlock q) = omega arith
number-low Wait = omega arith

pub called : {z : Sizes} {s s₁ : List ℕ} {i : ℕ} {r : Resume} → CallAsks z s i r → Wrote z s s₁ (resume_stores i r) → Called z s s₁ i r
unfolding used_by
called {z} {s} {s₁} {i} {r} a w =
    let m : Memory = mem_in z s in
    let b : InBounds (sizes_in z) m = holds-bounds a.holds in
    let l : i < z.processes = inside b fields.pid i a.nowhere.used in
    let k : Memory = call_mem m i (number_of r) (object_of r) (condition_of r) in
    let v : machine.Machine = with_process i (with_resume (meaning r) (process (machine_in z s) i)) (machine_in z s) in
    let d : Did z s s₁ same same (resume_stores i r) k v =
    did (resume_stores i r) k v a.holds w.bytes (
      record { listed = omega arith; index = l },
      number-low r,
      (record { listed = omega arith; index = l }, a.object, (record { listed = omega arith; index = l }, a.condition, tt)),
    )
    refl
    (λ n x. keeps_with (others x) (call-placed b x.placed a.nowhere a.awake (number_of r) (object_of r) (condition_of r) (case_blank r)))
    (call-machine b a.holds.keeps.placed a.nowhere a.awake (number_of r) (object_of r) (condition_of r)
    ∙ ap (λ (x : machine.Resume). with_process i (with_resume x (process (machine_in z s) i)) (machine_in z s)) (says-again r))
    (EachInUse.more (before a.nowhere.used) (EachInUse.more (before a.nowhere.used) (EachInUse.more (before a.nowhere.used) EachInUse.none)))
    in
    record {
      did = d;
      nowhere =
          subst (λ (x : Memory). Nowhere (sizes_in z) x i) (sym d.memory)
          (call-nowhere b a.holds.keeps.placed a.nowhere a.awake (number_of r) (object_of r) (condition_of r));
      awake = λ e. a.awake (sym (ap (λ (x : Memory). x fields.state_of i) d.memory) ∙ e);
    }
