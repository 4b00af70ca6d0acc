-- What is asked of a call by a `sleep` or `tsleep`, and of a Rendez.
use Rattle.std.specs.Prelude.{◌≡◌, ℕ, suc, ◌<◌}
use Rattle.machine.specs.Machine.{Sizes}
use Rattle.layout.specs.Memory.{Memory}
use Rattle.state.specs.Fields as fields
use Rattle.rules.specs.Facts.{RendezOk}

-- The Rendez of a `sleep` or `tsleep` is in range, and names who is asleep in it.
abbrev pub SleepFits : Sizes → Memory → ℕ → Type 0
SleepFits z m i =
    (m fields.resume_object i < z.rendez) × (m fields.state_of i ≡ 3 → m fields.sleeper_of (m fields.resume_object i) ≡ suc i)

-- Who is said to sleep on Rendez r is asleep on it.
pub record SleeperOk (m : Memory) (r : ℕ) : Type 0 where
  pub asleep : RendezOk m r
