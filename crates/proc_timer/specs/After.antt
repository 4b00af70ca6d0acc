-- A reading of the clock, and a timer queued so many counts after it.
use Rattle.std.specs.Prelude.{◌≡◌, List, ℕ, ◌+◌, ◌≤◌, ◌<◌}
use Rattle.std.proofs.Common.{ap, ◌∙◌}
use Rattle.machine.specs.Update.{with_last_now}
use Rattle.machine.specs.Timers.{add}
use Rattle.layout.specs.Memory.{Memory}
use Rattle.layout.specs.Writes.{updates}
use Rattle.state.specs.Places.{mem_in}
use Rattle.state.specs.declared.Sizes.{Sizes}
use Rattle.holds.specs.Holds.{Holds}
use Rattle.holds.specs.Did.{machine_in}
use Rattle.holds.specs.Use.{SameKin, kin_join}
use Rattle.holds.specs.Leftover.{alive-kin}
use Rattle.holds.specs.Touched.{Spares, spares-after}
use Rattle.timers.specs.Find.{timers_in}
use Rattle.timer.specs.Only.{Owing}
use Rattle.timer.specs.Del.{TimerAsks}
use Rattle.timer.specs.Add.{add_mem, Added}
use Rattle.clockwork.specs.Stores.{Became}
use Rattle.clockwork.specs.Clock.{now_stores}

-- There is a timer t, the reading n is at most 2^51 − 1, and the counts are at most 2^63 − 1.
pub record AfterAsks (z : Sizes) (s : List ℕ) (t n counts : ℕ) : Type 0 where
  pub owing : Owing z s
  pub index : t < timers_in z
  pub small : n ≤ 2251799813685247
  pub few : counts ≤ 9223372036854775807

-- The memory then.
abbrev pub after_mem : Sizes → Memory → (t n counts : ℕ) → Memory
after_mem z m t n counts = add_mem z (updates m (now_stores n)) t (n + counts)

pub record AddedAfter (z : Sizes) (s s' : List ℕ) (t n counts : ℕ) : Type 0 where
  pub holds : (owed : ℕ) → Holds z s owed → Holds z s' owed
  pub owing : Owing z s'
  pub memory : mem_in z s' ≡ after_mem z (mem_in z s) t n counts
  pub machine : machine_in z s' ≡ add t (n + counts) (with_last_now n (machine_in z s))
  pub spares : Spares z s s'
  pub kin : SameKin (mem_in z s) (mem_in z s')

-- What the code of `add_after` shows.
pub after-add
    : {z : Sizes} {s s₁ : List ℕ} {t n counts : ℕ}
    → AfterAsks z s t n counts
    → Became z s s₁ (now_stores n) (with_last_now n (machine_in z s))
    → TimerAsks z s₁ t
after-add a b = record { owing = b.owing; index = a.index }

pub added-after
    : {z : Sizes} {s s₁ s₂ : List ℕ} {t n counts : ℕ}
    → Became z s s₁ (now_stores n) (with_last_now n (machine_in z s))
    → Added z s₁ s₂ t (n + counts)
    → AddedAfter z s s₂ t n counts
added-after {z} {s} {s₁} {s₂} {t} {n} {counts} b a =
    record {
      holds = λ owed h. a.holds owed (b.holds owed h);
      owing = a.owing;
      memory = a.memory ∙ ap (λ (m : Memory). add_mem z m t (n + counts)) b.memory;
      machine = a.machine ∙ ap (add t (n + counts)) b.machine;
      spares = spares-after b.touched a.spares (alive-kin a.kin);
      kin = kin_join b.touched.same.kin a.kin;
    }
