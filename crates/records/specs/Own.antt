-- Where the record of a living process alone differs, wherever it is.
use Rattle.std.specs.Prelude.{◌≡◌, List, ℕ, ◌<◌}
use Rattle.std.proofs.Common.{ap, ◌∙◌}
use Rattle.machine.specs.Machine as machine
use Rattle.machine.specs.Machine.{Process, process, asleep}
use Rattle.machine.specs.Update.{with_process}
use Rattle.layout.specs.Memory.{Memory}
use Rattle.state.specs.Fields as fields
use Rattle.state.specs.Abs.{process_at, machine_of}
use Rattle.state.specs.Places.{mem_in}
use Rattle.state.specs.WellFormed.{Used}
use Rattle.state.specs.declared.Sizes.{Sizes}
use Rattle.exact.specs.Bounds.{InBounds, inside}
use Rattle.holds.specs.Holds.{Holds}
use Rattle.holds.specs.Whole.{holds-bounds}
use Rattle.records.specs.Else.{Else}
use Rattle.records.specs.Parts.{else_machine, else-asleep}

-- Record i has a living process.
pub record LivingAsks (z : Sizes) (s : List ℕ) (i : ℕ) : Type 0 where
  pub owed : ℕ
  pub holds : Holds z s owed
  pub used : Used (mem_in z s) i

pub living-low : {z : Sizes} {s : List ℕ} {i : ℕ} → LivingAsks z s i → i < z.processes
living-low {i = i} a = inside (holds-bounds a.holds) fields.pid i a.used

-- Where a living process's record alone differs, and is on its waitr as it was.
module _ {z : machine.Sizes} {m m' : Memory} {i : ℕ} (b : InBounds z m) (u : Used m i) (e : Else m m' i) {q : Process} (p : process_at m' i ≡ q) where
  pub own-machine : machine_of z m' ≡ with_process i q (machine_of z m)
  own-machine = else_machine z e ∙ ap (λ (x : Process). with_process i x (machine_of z m)) p

  pub own-asleep : q.on_waitr ≡ (process (machine_of z m) i).on_waitr → asleep (machine_of z m') ≡ asleep (machine_of z m)
  own-asleep w = else-asleep z e (inside b fields.pid i u) (ap (λ (x : Process). x.on_waitr) p ∙ w)
