-- A kernel timer is set and queued: what `set_after` asks and ensures.
use Rattle.std.specs.Prelude.{if◌then◌else◌, ◌≡◌, refl, Bool, true, false, List, ℕ, ◌+◌, ◌≤◌, ◌<◌, eqb}
use Rattle.std.proofs.Common.{sym, ap, subst, ◌∙◌, arith}
use Rattle.machine.specs.Machine.{Machine}
use Rattle.machine.specs.Update.{with_last_now, with_setting, open_update}
use Rattle.machine.specs.Timers.{add}
use Rattle.state.specs.declared.Sizes.{Sizes}
use Rattle.holds.specs.Holds.{Holds}
use Rattle.holds.specs.Did.{machine_in}
use Rattle.holds.specs.Leftover.{alive-kin}
use Rattle.holds.specs.Touched.{Spares, spares-after}
use Rattle.timer.specs.Only.{Owing}
use Rattle.clockwork.specs.Stores.{Became}
use Rattle.clockwork.specs.Settings.{setting_stores, setting_of, SettingAsks}
use Rattle.proc_timer.specs.declared.Kind.{Kind}
use Rattle.proc_timer.specs.declared.Kind.TheVariants.{Relative, Periodic}
use Rattle.proc_timer.specs.Kinds.{kind_number}
use Rattle.proc_timer.specs.After.{AfterAsks, AddedAfter}

-- The period of a timer of a kind that fires after so many counts.
abbrev pub period_for : (kind counts : ℕ) → ℕ
period_for kind counts = if eqb kind 0 then 0 else counts

pub record Period (kind counts p : ℕ) : Type 0 where
  pub answer : p ≡ period_for kind counts

pub period-once : {kind : Kind} {counts : ℕ} → kind ≡ Relative → Period (kind_number kind) counts 0
period-once {kind} {counts} e = subst (λ (x : Kind). Period (kind_number x) counts 0) (sym e) (record { answer = refl })

pub period-each : {kind : Kind} {counts : ℕ} → kind ≡ Periodic → Period (kind_number kind) counts counts
period-each {kind} {counts} e = subst (λ (x : Kind). Period (kind_number x) counts counts) (sym e) (record { answer = refl })

period-most : (kind counts : ℕ) → counts ≤ 9223372036854775807 → period_for kind counts ≤ 9223372036854775807
period-most kind counts l = go (eqb kind 0)
  where
    go : (b : Bool) → (if b then 0 else counts) ≤ 9223372036854775807
    go true = omega arith
    go false = l

-- A kernel timer is set and queued: what `set_after` asks and ensures.
pub record SetAsks (z : Sizes) (s : List ℕ) (t r n counts : ℕ) : Type 0 where
  pub owing : Owing z s
  pub index : t < z.timers
  pub there : r < z.rendez
  pub small : n ≤ 2251799813685247
  pub few : counts ≤ 9223372036854775807

pub record SetAfter (z : Sizes) (s s' : List ℕ) (t kind r n counts : ℕ) : Type 0 where
  pub holds : (owed : ℕ) → Holds z s owed → Holds z s' owed
  pub machine : machine_in z s' ≡ add t (n + counts) (with_setting t (setting_of (period_for kind counts) r) (with_last_now n (machine_in z s)))
  pub spares : Spares z s s'

pub set-asks
    : {z : Sizes} {s : List ℕ} {t kind r n counts p : ℕ} → SetAsks z s t r n counts → Period kind counts p → SettingAsks z s t p r
set-asks {kind = kind} {counts = counts} a p =
    record { owing = a.owing; index = a.index; range = omega (arith, p.answer, period-most kind counts a.few); there = a.there }

pub set_after-asks
    : {z : Sizes} {s s₁ : List ℕ} {t r n counts p : ℕ}
    → SetAsks z s t r n counts
    → Became z s s₁ (setting_stores t p r) (with_setting t (setting_of p r) (machine_in z s))
    → AfterAsks z s₁ t n counts
set_after-asks a b = record { owing = b.owing; index = omega (arith, a.index); small = a.small; few = a.few }

-- Which of the two is stored first does not matter.
set_now : (t p r n : ℕ) (m : Machine) → with_last_now n (with_setting t (setting_of p r) m) ≡ with_setting t (setting_of p r) (with_last_now n m)
unfolding open_update
set_now t p r n m = refl

pub set_after
    : {z : Sizes} {s s₁ s₂ : List ℕ} {t kind r n counts p : ℕ}
    → Period kind counts p
    → Became z s s₁ (setting_stores t p r) (with_setting t (setting_of p r) (machine_in z s))
    → AddedAfter z s₁ s₂ t n counts
    → SetAfter z s s₂ t kind r n counts
set_after {z} {s} {s₁} {s₂} {t} {kind} {r} {n} {counts} {p} y b a =
    record {
      holds = λ owed h. a.holds owed (b.holds owed h);
      machine =
          a.machine
          ∙ ap (λ (m : Machine). add t (n + counts) (with_last_now n m)) b.machine
          ∙ ap (add t (n + counts)) (set_now t p r n (machine_in z s))
          ∙ ap (λ (x : ℕ). add t (n + counts) (with_setting t (setting_of x r) (with_last_now n (machine_in z s)))) y.answer;
      spares = spares-after b.touched a.spares (alive-kin a.kin);
    }

-- What the answers of `period_of` come to.
pub ruleset periods = (period-once, period-each)
