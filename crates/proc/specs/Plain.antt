-- A step that tells no message: what it ensures, and that a field out of range meets 2.
use Rattle.std.specs.Prelude.{◌≡◌, refl, Bool, false, List, [], ℕ, Result, Err}
use Rattle.std.proofs.Common.{sym, subst}
use Rattle.clock.specs.declared.Duration.{Duration}
use Rattle.machine.specs.Step.{Body, start, rfork, sleep, tsleep, wakeup, qlock, canqlock, qunlock, cond, tadd, tdel}
use Rattle.machine.specs.Table.{in_range}
use Rattle.machine.specs.StepOf.{left_by}
use Rattle.state.specs.Abs.{machine_of}
use Rattle.state.specs.Places.{sizes_in}
use Rattle.state.specs.declared.Sizes.{Sizes}
use Rattle.holds.specs.Did.{machine_in}
use Rattle.outcome.specs.declared.Reply.{Reply}
use Rattle.outcome.specs.declared.Refusal.{Refusal}
use Rattle.outcome.specs.declared.Refusal.TheVariants.{NoSuchStep}
use Rattle.outcome.specs.Stepped.{Well, Stepped, left_bytes}
use Rattle.outcome.specs.Laws.{stepped-refused}
use Rattle.outcome.specs.Took.{Took}
use Rattle.outcome.specs.Refusals.{step, refused-range}
use Rattle.proc_wake.specs.Steps.{CondTook}
use Rattle.proc_sleep.specs.Sleep.{SleepTook}
use Rattle.proc_sleep.specs.Qlock.{QlockTook}
use Rattle.proc_timer.specs.declared.Kind.{Kind}
use Rattle.proc_timer.specs.Kinds.{kind_number}
use Rattle.proc_timer.specs.Tsleep.{Tslept}
use Rattle.proc_timer.specs.Add.{TaddAsks, Tadded}
use Rattle.proc_start.specs.declared.Making.{Making}
use Rattle.proc_start.specs.Making.{number}
use Rattle.proc_start.specs.Start.{Started}
use Rattle.proc_fork.specs.Make.{RforkTook}
use Rattle.proc.specs.Ranges.{Within, Truth, IsKernel, Lasting}

-- The step with this body, marked or not, took the state s to s' with the result r, and told no message.
pub record Plain (z : Sizes) (s s' : List ℕ) (k : Bool) (b : Body) (r : Result Reply Refusal) : Type 0 where
  pub stepped : Stepped z s s' (step k b) [] r

-- A field out of range.
pub outside
    : {z : Sizes} {s : List ℕ} {k : Bool} {b : Body} {e : Refusal} → Well z s → e ≡ NoSuchStep → in_range (sizes_in z) b ≡ false → Plain z s s k b (Err e)
unfolding left_by left_bytes machine_of
outside {z} {s} {k} {b} w d o =
    subst (λ (x : Refusal). Plain z s s k b (Err x)) (sym d)
    (record { stepped = stepped-refused (refused-range (machine_in z s) k b o) w.holds refl refl })

pub outside-took
    : {z : Sizes} {s : List ℕ} {b : Body} {e : Refusal} → Well z s → e ≡ NoSuchStep → in_range (sizes_in z) b ≡ false → Took z s s b (Err e)
outside-took w d o = record { stepped = λ k. (outside {k = k} w d o).stepped }

-- A step that asks nothing of the mark.
pub took-plain : {z : Sizes} {s s' : List ℕ} {k : Bool} {b : Body} {r : Result Reply Refusal} → Took z s s' b r → Plain z s s' k b r
took-plain {k = k} t = record { stepped = t.stepped k }

-- A step whose fields were found in range: what it ensures of them it ensures of the numbers that stood there.
module _ {z : Sizes} {s s' : List ℕ} {k : Bool} {a : Result Reply Refusal} where
  pub start-plain : (how : Making) {M : ℕ} → number how ≡ M → Started z s s' k (number how) a → Plain z s s' k (start M) a
  start-plain how {M} e t = subst (λ (x : ℕ). Plain z s s' k (start x) a) e (record { stepped = t.stepped })

  pub rfork-plain : (how : Making) {F M f : ℕ} → f ≡ F → number how ≡ M → RforkTook z s s' k f (number how) a → Plain z s s' k (rfork F M) a
  rfork-plain how q e t = record { stepped = rw (← q, ← e) t.stepped }

  pub sleep-plain : {R C r c : ℕ} → Within z.rendez R r → Within 256 C c → SleepTook z s s' k r c a → Plain z s s' k (sleep R C) a
  sleep-plain x y t = record { stepped = rw (← x.same, ← y.same) t.stepped }

  pub tsleep-plain
      : {R C S N NOW r c : ℕ} {d : Duration}
      → Within z.rendez R r
      → Within 256 C c
      → Lasting S N d
      → Tslept z s s' k r c d NOW a
      → Plain z s s' k (tsleep R C S N NOW) a
  tsleep-plain x y l t = record { stepped = rw (← x.same, ← y.same, ← l.secs, ← l.nanos) t.stepped }

  pub qlock-plain : {Q q : ℕ} → Within z.locks Q q → QlockTook z s s' k q a → Plain z s s' k (qlock Q) a
  qlock-plain x t = record { stepped = rw (← x.same) t.stepped }

-- The same of a step that asks nothing of the mark.
module _ {z : Sizes} {s s' : List ℕ} {a : Result Reply Refusal} where
  pub wakeup-took : {R r : ℕ} → Within z.rendez R r → Took z s s' (wakeup r) a → Took z s s' (wakeup R) a
  wakeup-took x t = record { stepped = λ k. rw (← x.same) (t.stepped k) }

  pub canqlock-took : {Q q : ℕ} → Within z.locks Q q → Took z s s' (canqlock q) a → Took z s s' (canqlock Q) a
  canqlock-took x t = record { stepped = λ k. rw (← x.same) (t.stepped k) }

  pub qunlock-took : {Q q : ℕ} → Within z.locks Q q → Took z s s' (qunlock q) a → Took z s s' (qunlock Q) a
  qunlock-took x t = record { stepped = λ k. rw (← x.same) (t.stepped k) }

  pub cond-took : {C c V : ℕ} {v : Bool} → Within 256 C c → Truth V v → CondTook z s s' c v a → Took z s s' (cond C V) a
  cond-took x y t = record { stepped = λ k. rw (← x.same, ← y.same) (t.stepped k) }

  pub tadd-took
      : {T M S N R NOW t r : ℕ} (kind : Kind) {d : Duration}
      → IsKernel z.timers T t
      → kind_number kind ≡ M
      → Lasting S N d
      → Within z.rendez R r
      → Tadded z s s' t (kind_number kind) d r NOW a
      → Took z s s' (tadd T M S N R NOW) a
  tadd-took kind x m l y t = record { stepped = λ k. rw (← x.same, ← m, ← l.secs, ← l.nanos, ← y.same) (t.stepped k) }

  pub tdel-took : {T t : ℕ} → IsKernel z.timers T t → Took z s s' (tdel t) a → Took z s s' (tdel T) a
  tdel-took x t = record { stepped = λ k. rw (← x.same) (t.stepped k) }

pub tadd-asks
    : {z : Sizes} {s : List ℕ} {T S N R t r : ℕ} {d : Duration}
    → Well z s → IsKernel z.timers T t → Lasting S N d → Within z.rendez R r → TaddAsks z s t d r
tadd-asks w x l y = record { well = w; some = x.some; index = x.low; valid = l.valid; there = y.low }
