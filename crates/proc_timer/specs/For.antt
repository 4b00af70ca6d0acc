-- tsleep once its duration is counted: by the condition and the Rendez.
use Rattle.std.specs.Prelude.{if◌then◌else◌, ◌≡◌, refl, Bool, true, false, List, [], ℕ, suc, ◌+◌, ◌-◌, ◌≤◌, ◌<◌, Result, Ok, Err}
use Rattle.std.proofs.Common.{sym, ap, ◌∙◌, arith}
use Rattle.std.proofs.Math.Option.{some}
use Rattle.machine.specs.Machine.{Machine, in_tsleep, condition, sleeper}
use Rattle.machine.specs.Table.{taken}
use Rattle.machine.specs.Outcome.{Answer, Outcome, answered, open_outcome}
use Rattle.machine.specs.Update.{with_last_now}
use Rattle.machine.specs.Places.{sleep_on}
use Rattle.machine.specs.Timers.{add, delete}
use Rattle.state.specs.Fields as fields
use Rattle.state.specs.Abs.{link_to}
use Rattle.state.specs.Places.{mem_in}
use Rattle.state.specs.declared.Sizes.{Sizes}
use Rattle.exact.specs.Sums.{true-false}
use Rattle.exact.specs.Parts.{sleeper_of_lem}
use Rattle.holds.specs.Holds.{Holds}
use Rattle.holds.specs.Whole.{holds-bounds}
use Rattle.holds.specs.Did.{machine_in}
use Rattle.holds.specs.Touched.{Spares}
use Rattle.clockwork.specs.Conditions.{Condition}
use Rattle.outcome.specs.declared.Reply.{Reply}
use Rattle.outcome.specs.declared.Reply.TheVariants.{Done, Asleep}
use Rattle.outcome.specs.declared.Refusal.{Refusal}
use Rattle.outcome.specs.declared.Refusal.TheVariants.{RendezTaken}
use Rattle.outcome.specs.Means.{means, told}
use Rattle.outcome.specs.RefusalsRun.{taken_true, taken_free, taken-there}
use Rattle.proc_timer.specs.Own.{UpAsks, Returned, UntilAsks, SleepsUntil}

-- Process i runs, there is such a Rendez, one more can be counted asleep, and a deadline so many counts after the reading has 64 bits.
pub record ForAsks (z : Sizes) (s : List ℕ) (i r n counts : ℕ) : Type 0 where
  pub up : UpAsks z s i
  pub index : r < z.rendez
  pub room : mem_in z s fields.asleep_count 0 < 65535
  pub small : n ≤ 2251799813685247
  pub few : counts ≤ 9223372036854775807

-- What `tsleep` does where it is not refused, by its counts and the process that runs.
abbrev pub for_of : Machine → (own i r c n counts : ℕ) → Outcome
for_of m own i r c n counts =
    if condition m c
    then answered Answer.done (delete own (with_last_now n m))
    else answered Answer.asleep (sleep_on i r (in_tsleep r c) (add own (n + counts) (with_last_now n m)))

-- The answer and the state are those of an outcome.
pub record Came (z : Sizes) (s s' : List ℕ) (a : Result Reply Refusal) (o : Outcome) : Type 0 where
  pub holds : Holds z s' 0
  pub reply : means a [] [] ≡ o.reply
  pub told : [] ≡ told o.reply
  pub machine : machine_in z s' ≡ o.after
  pub spares : Spares z s s'

-- Refused where the condition is false and another is asleep there, and done otherwise.
pub record SleptFor (z : Sizes) (s s' : List ℕ) (i r c n counts : ℕ) (a : Result Reply Refusal) : Type 0 where
  pub refused : taken (machine_in z s) r c ≡ true → (a ≡ Err RendezTaken) × (s' ≡ s)
  pub done : taken (machine_in z s) r c ≡ false → Came z s s' a (for_of (machine_in z s) (z.timers + i) i r c n counts)

-- A true condition: the call returns.
pub for_done
    : {z : Sizes} {s s₁ : List ℕ} {i r c n counts : ℕ} {b : Bool}
    → Condition z s c b
    → b ≡ true
    → Returned z s s₁ i n
    → SleptFor z s s₁ i r c n counts (Ok Done)
unfolding open_outcome means told
for_done {z} {s} {s₁} {i} {r} {c} {n} {counts} h e w =
    let k : condition (machine_in z s) c ≡ true = sym h.answer ∙ e in
    record {
      refused = λ t. absurd (true-false (sym t ∙ taken_true (machine_in z s) r c k));
      done = λ t. record { holds = w.holds; reply = rw k; told = rw k; machine = rw k w.machine; spares = w.spares };
    }

-- A false one, and another asleep there.
pub for_5
    : {z : Sizes} {s : List ℕ} {i r c n counts l : ℕ} {b : Bool}
    → ForAsks z s i r n counts
    → Condition z s c b
    → b ≡ false
    → l ≡ mem_in z s fields.sleeper_of r
    → (l ≡ 0 → ⊥)
    → SleptFor z s s i r c n counts (Err RendezTaken)
for_5 {z} {s} {i} {r} {c} {n} {counts} {l} a h e d ne =
    let j : l ≡ suc (l - 1) = omega arith in
    let o : sleeper (machine_in z s) r ≡ some (l - 1) = sleeper_of_lem (holds-bounds a.up.holds) r ∙ ap link_to (sym d ∙ j) in
    record {
      refused = λ t. (refl, refl);
      done = λ t. absurd (true-false (sym (taken-there (machine_in z s) r c (sym h.answer ∙ e) o) ∙ t));
    }

-- A false one, and nobody there: the process goes asleep.
pub for_until
    : {z : Sizes} {s : List ℕ} {i r n counts l : ℕ}
    → ForAsks z s i r n counts
    → l ≡ mem_in z s fields.sleeper_of r
    → l ≡ 0
    → UntilAsks z s i r n counts
for_until a d e =
    record { up = a.up; index = a.index; empty = sym d ∙ e; room = a.room; small = a.small; few = a.few }

pub for_asleep
    : {z : Sizes} {s s₁ : List ℕ} {i r c n counts l : ℕ} {b : Bool}
    → ForAsks z s i r n counts
    → Condition z s c b
    → b ≡ false
    → l ≡ mem_in z s fields.sleeper_of r
    → l ≡ 0
    → SleepsUntil z s s₁ i r c n counts
    → SleptFor z s s₁ i r c n counts (Ok Asleep)
unfolding open_outcome means told
for_asleep {z} {s} {s₁} {i} {r} {c} {n} {counts} {l} a h e d f w =
    let k : condition (machine_in z s) c ≡ false = sym h.answer ∙ e in
    let y : taken (machine_in z s) r c ≡ false = taken_free (machine_in z s) r c (sleeper_of_lem (holds-bounds a.up.holds) r ∙ ap link_to (sym d ∙ f)) in
    record {
      refused = λ t. absurd (true-false (sym t ∙ y));
      done = λ t. record { holds = w.holds; reply = rw k; told = rw k; machine = rw k w.machine; spares = w.spares };
    }
