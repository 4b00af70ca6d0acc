-- A process goes: it runs no more, and its cells and its record are free.
use Rattle.std.specs.Prelude.{◌≡◌, refl, List, [], ℕ, suc}
use Rattle.std.proofs.Common.{sym, subst, ◌∙◌, arith}
use Rattle.std.proofs.Math.Path.{ap}
use Rattle.std.proofs.Math.Option.{none}
use Rattle.machine.specs.Machine.{Machine, free, process}
use Rattle.machine.specs.Update.{with_up, with_process, with_exits}
use Rattle.machine.specs.Exits.{found, without}
use Rattle.layout.specs.Memory.{Memory}
use Rattle.state.specs.Fields as fields
use Rattle.state.specs.Abs.{link_to, machine_of}
use Rattle.state.specs.Places.{mem_in}
use Rattle.state.specs.WellFormed.{Used}
use Rattle.state.specs.declared.Sizes.{Sizes}
use Rattle.exact.specs.Tables.{some-link}
use Rattle.holds.specs.Holds.{Holds}
use Rattle.holds.specs.Did.{machine_in}
use Rattle.holds.specs.Use.{fewer-same, between_first, Smaller, smaller_join, same_use}
use Rattle.holds.specs.Leftover.{Steady, quiet-steady}
use Rattle.holds.specs.Touched.{Touched, Spares, spares_join, spares-did, touched-did}
use Rattle.places.specs.Nowhere.{state-used}
use Rattle.places.specs.Own.{stop_mem}
use Rattle.dat.specs.Own.{StopAsks, Stopped}
use Rattle.waitq.specs.Clear.{ClearAsks, ClearDone}
use Rattle.records.specs.ReleaseCode.{ReleaseAsks, Released}
use Rattle.proc_exit.specs.Told.{gone, found-still}

-- Process i runs.
pub record LeaveAsks (z : Sizes) (s : List ℕ) (i : ℕ) : Type 0 where
  pub holds : Holds z s 0
  pub runs : mem_in z s fields.up 0 ≡ suc i

-- The machine is without it; whoever is found by another pid still is. Nothing more is used.
pub record Left (z : Sizes) (s s' : List ℕ) (i : ℕ) : Type 0 where
  pub holds : Holds z s' 0
  pub machine : machine_in z s' ≡ without i (machine_in z s)
  pub found : (q : ℕ) → (mem_in z s fields.pid i ≡ q → ⊥) → found q (machine_in z s') ≡ found q (machine_in z s)
  pub spares : Spares z s s'
  pub smaller : Smaller z (mem_in z s) (mem_in z s')

-- To run no more leaves what a record keeps.
stop-steady : (m : Memory) → Steady m (stop_mem m)
stop-steady m =
    record {
      calm = record { parents = refl; deadlines = refl; exit_pids = refl; lengths = refl; bytes = refl };
      parents = refl;
      quanta = refl;
      children = refl;
      kinds = refl;
      conditions = refl;
      objects = refl;
      names = refl;
    }

module _ {z : Sizes} {s : List ℕ} {i : ℕ} (a : LeaveAsks z s i) where
  -- Whoever runs lives.
  pub leave-used : Used (mem_in z s) i
  leave-used = state-used a.holds.keeps.placed i (omega (arith, a.holds.keeps.placed.running i a.runs))

  -- What the calls ask.
  pub leave-clear : ClearAsks z s i
  leave-clear = record { owed = 0; holds = a.holds; used = leave-used }

  module _ {s₁ : List ℕ} (c : ClearDone z s s₁ i) where
    pub leave-stop : StopAsks z s₁
    leave-stop = record { owed = 0; holds = c.did.holds 0 a.holds }

    still : mem_in z s₁ fields.up 0 ≡ suc i
    unfolding machine_of with_process
    still = some-link (mem_in z s₁ fields.up 0) i (ap (λ (m : Machine). m.up) c.did.machine ∙ ap link_to a.runs)

    module _ {s₂ : List ℕ} (t : Stopped z s₁ s₂) where
      pub leave-release : ReleaseAsks z s₂ i
      leave-release =
          record {
            owed = 0;
            holds = t.did.holds 0 (c.did.holds 0 a.holds);
            nowhere = t.nowhere i still;
            exits = ap (λ (m : Memory). m fields.nexits i) t.did.memory ∙ c.number;
          }

      same-pid : mem_in z s₂ fields.pid i ≡ mem_in z s fields.pid i
      same-pid = ap (λ (m : Memory). m fields.pid i) t.did.memory ∙ ap (λ (g : ℕ → ℕ). g i) c.changed.pids

      then : machine_in z s₂ ≡ with_up none (with_process i (with_exits [] (process (machine_in z s) i)) (machine_in z s))
      then = t.did.machine ∙ ap (with_up none) c.did.machine

      -- What the code shows.
      pub left : {s₃ : List ℕ} → Released z s₂ s₃ i → Left z s s₃ i
      left d =
          let same : Touched z s₁ s₂ = touched-did t.did (same_use refl refl refl refl refl refl refl refl refl) in
          let steady : Steady (mem_in z s₁) (mem_in z s₂) = subst (Steady (mem_in z s₁)) (sym t.did.memory) (stop-steady (mem_in z s₁)) in
          record {
            holds = d.did.holds 0 (t.did.holds 0 (c.did.holds 0 a.holds));
            machine =
                d.did.machine
                ∙ ap (with_process i free) then
                ∙ gone (machine_in z s) i (with_exits [] (process (machine_in z s) i));
            found = λ q ne.
                d.found q (λ e. ne (sym same-pid ∙ e))
                ∙ ap (found q) then
                ∙ found-still (machine_in z s) i q;
            spares =
                spares_join (spares-did c.did c.ceased)
                (spares_join same.spares (spares-did d.did d.ceased) (between_first (fewer-same same.same)) (quiet-steady steady))
                (between_first c.fewer) (quiet-steady c.steady);
            smaller = smaller_join c.fewer (smaller_join (fewer-same same.same) d.smaller);
          }
