-- The own timer of the process that runs: taken off as its call returns, or queued as it goes asleep.
use Rattle.std.specs.Prelude.{◌≡◌, refl, List, ℕ, suc, ◌+◌, ◌≤◌, ◌<◌}
use Rattle.std.proofs.Common.{sym, ap, subst, ◌∙◌, inr, arith, Fits}
use Rattle.std.specs.Int.{w8, w16}
use Rattle.machine.specs.Machine.{in_tsleep}
use Rattle.machine.specs.Update.{with_last_now}
use Rattle.machine.specs.Places.{sleep_on}
use Rattle.machine.specs.Timers.{add, delete}
use Rattle.layout.specs.Memory.{Memory}
use Rattle.state.specs.Fields as fields
use Rattle.state.specs.Places.{mem_in}
use Rattle.state.specs.declared.Sizes.{Sizes}
use Rattle.record.specs.declared.Resume.TheVariants.{Tsleep}
use Rattle.exact.specs.Bounds.{at_most}
use Rattle.holds.specs.Holds.{Holds}
use Rattle.holds.specs.Whole.{holds-bounds}
use Rattle.holds.specs.Did.{machine_in}
use Rattle.holds.specs.Leftover.{alive-kin}
use Rattle.holds.specs.Touched.{Spares, spares-after, spares-before}
use Rattle.timer.specs.Only.{Owing}
use Rattle.timer.specs.Del.{TimerAsks, Deleted}
use Rattle.clockwork.specs.Stores.{Became}
use Rattle.clockwork.specs.Clock.{now_stores}
use Rattle.proc_sleep.specs.Sleep.{OffAsks, FellAsleep}
use Rattle.proc_timer.specs.After.{AfterAsks, AddedAfter}

-- Process i runs.
pub record UpAsks (z : Sizes) (s : List ℕ) (i : ℕ) : Type 0 where
  pub holds : Holds z s 0
  pub runs : mem_in z s fields.up 0 ≡ suc i

-- Its own timer is one of the timers.
own-low : {z : Sizes} {s : List ℕ} {i : ℕ} → Holds z s 0 → mem_in z s fields.up 0 ≡ suc i → i < z.processes
own-low h e = omega (arith, e, at_most (holds-bounds h) fields.up 0)

pub own-fits : {z : Sizes} {s : List ℕ} {i : ℕ} → UpAsks z s i → Fits w16 (z.timers + i)
own-fits a =
    record { fits = omega (arith, own-low a.holds a.runs, a.holds.sizes.processes.1, a.holds.sizes.timers.1) }

-- Its call returns at a reading of the clock: the timer is off.
pub record Returned (z : Sizes) (s s' : List ℕ) (i n : ℕ) : Type 0 where
  pub holds : Holds z s' 0
  pub machine : machine_in z s' ≡ delete (z.timers + i) (with_last_now n (machine_in z s))
  pub spares : Spares z s s'

pub return_owing : {z : Sizes} {s : List ℕ} {i : ℕ} → UpAsks z s i → Owing z s
return_owing a = record { owed = 0; holds = a.holds }

pub return_asks
    : {z : Sizes} {s s₁ : List ℕ} {i n : ℕ}
    → UpAsks z s i
    → Became z s s₁ (now_stores n) (with_last_now n (machine_in z s))
    → TimerAsks z s₁ (z.timers + i)
return_asks a b = record { owing = b.owing; index = omega (arith, own-low a.holds a.runs) }

pub returned
    : {z : Sizes} {s s₁ s₂ : List ℕ} {i n : ℕ}
    → UpAsks z s i
    → Became z s s₁ (now_stores n) (with_last_now n (machine_in z s))
    → Deleted z s₁ s₂ (z.timers + i)
    → Returned z s s₂ i n
returned {z} {s} {s₁} {s₂} {i} {n} a b d =
    record {
      holds = d.holds 0 (b.holds 0 a.holds);
      machine = d.machine ∙ ap (delete (z.timers + i)) b.machine;
      spares = spares-after b.touched d.spares (alive-kin d.fewer.kin);
    }

-- It goes asleep on Rendez r, where nobody is, its timer so many counts after the reading.
pub record UntilAsks (z : Sizes) (s : List ℕ) (i r n counts : ℕ) : Type 0 where
  pub up : UpAsks z s i
  pub index : r < z.rendez
  pub empty : mem_in z s fields.sleeper_of r ≡ 0
  pub room : mem_in z s fields.asleep_count 0 < 65535
  pub small : n ≤ 2251799813685247
  pub few : counts ≤ 9223372036854775807

pub record SleepsUntil (z : Sizes) (s s' : List ℕ) (i r c n counts : ℕ) : Type 0 where
  pub holds : Holds z s' 0
  pub machine : machine_in z s' ≡ sleep_on i r (in_tsleep r c) (add (z.timers + i) (n + counts) (with_last_now n (machine_in z s)))
  pub spares : Spares z s s'

pub until_fits : {z : Sizes} {s : List ℕ} {i r n counts : ℕ} → UntilAsks z s i r n counts → Fits w16 (z.timers + i)
until_fits a = own-fits a.up

pub until_after : {z : Sizes} {s : List ℕ} {i r n counts : ℕ} → UntilAsks z s i r n counts → AfterAsks z s (z.timers + i) n counts
until_after a =
    record {
      owing = return_owing a.up;
      index = omega (arith, own-low a.up.holds a.up.runs);
      small = a.small;
      few = a.few;
    }

-- No place of a process changed.
pub until_off
    : {z : Sizes} {s s₁ : List ℕ} {i r c n counts : ℕ}
    → UntilAsks z s i r n counts
    → Fits w8 c
    → AddedAfter z s s₁ (z.timers + i) n counts
    → OffAsks z s₁ i r (Tsleep r c)
until_off {z} {s} {s₁} {i} {r} {c} {n} {counts} a f b =
    record {
      holds = b.holds 0 a.up.holds;
      runs = ap (λ (m : Memory). m fields.up 0) b.memory ∙ a.up.runs;
      kind = inr refl;
      object = refl;
      condition = omega (arith, f);
      index = a.index;
      empty = ap (λ (m : Memory). m fields.sleeper_of r) b.memory ∙ a.empty;
      room = subst (λ (k : ℕ). k < 65535) (sym (ap (λ (m : Memory). m fields.asleep_count 0) b.memory)) a.room;
    }

pub sleeps_until
    : {z : Sizes} {s s₁ s₂ : List ℕ} {i r c n counts : ℕ}
    → AddedAfter z s s₁ (z.timers + i) n counts
    → FellAsleep z s₁ s₂ i r (Tsleep r c)
    → SleepsUntil z s s₂ i r c n counts
sleeps_until {r = r} {c = c} b f =
    record {
      holds = f.holds;
      machine = f.machine ∙ ap (sleep_on _ r (in_tsleep r c)) b.machine;
      spares = spares-before b.spares f.touched;
    }
