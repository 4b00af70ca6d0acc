-- tdel: what it asks, and what the code shows.
use Rattle.std.specs.Prelude.{◌≡◌, refl, Bool, List, ℕ, ◌≤◌, ◌<◌, Ok}
use Rattle.std.proofs.Math.Option.{none}
use Rattle.std.proofs.Common.{arith, lt-ltb, le-leb}
use Rattle.machine.specs.Step.{tdel}
use Rattle.machine.specs.Table.{refusal, in_range}
use Rattle.machine.specs.Outcome.{open_outcome}
use Rattle.machine.specs.Perform.{open_perform}
use Rattle.state.specs.Abs.{machine_of}
use Rattle.state.specs.declared.Sizes.{Sizes}
use Rattle.holds.specs.Did.{machine_in}
use Rattle.timer.specs.Del.{TimerAsks, Deleted}
use Rattle.outcome.specs.declared.Reply.TheVariants.{Done}
use Rattle.outcome.specs.Means.{means, told}
use Rattle.outcome.specs.Stepped.{Well}
use Rattle.outcome.specs.Laws.{stepped-done}
use Rattle.outcome.specs.Refusals.{step}
use Rattle.outcome.specs.RefusalsTime.{allowed-tdel}
use Rattle.outcome.specs.Took.{Took}

-- The state is well formed, and t is a kernel timer other than timer 0.
pub record KernelAsks (z : Sizes) (s : List ℕ) (t : ℕ) : Type 0 where
  pub well : Well z s
  pub some : 1 ≤ t
  pub index : t < z.timers

pub del-asks : {z : Sizes} {s : List ℕ} {t : ℕ} → KernelAsks z s t → TimerAsks z s t
del-asks a = record { owing = record { owed = 0; holds = a.well.holds }; index = omega (arith, a.index) }

tdel-allowed : {z : Sizes} {s : List ℕ} {t : ℕ} → KernelAsks z s t → (k : Bool) → refusal (machine_in z s) (step k (tdel t)) ≡ none
unfolding machine_of in_range
tdel-allowed {z} {s} {t} a k = allowed-tdel (machine_in z s) k t (rw (le-leb 1 t a.some, lt-ltb t z.timers a.index))

pub tdel-done : {z : Sizes} {s s₁ : List ℕ} {t : ℕ} → KernelAsks z s t → Deleted z s s₁ t → Took z s s₁ (tdel t) (Ok Done)
unfolding open_perform open_outcome means told
tdel-done a d = record { stepped = λ k. stepped-done (tdel-allowed a k) (d.holds 0 a.well.holds) d.spares refl refl d.machine }

-- What the answers of `tdel` come to.
pub ruleset taken_off = (del-asks, tdel-done)
