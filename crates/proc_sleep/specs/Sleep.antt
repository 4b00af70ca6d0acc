-- sleep: what the code shows at each return.
use Rattle.std.specs.Prelude.{if◌then◌else◌, ◌≡◌, refl, Bool, true, false, not, ◌&&◌, List, [], ◌⊎◌, ℕ, suc, ◌-◌, ◌≤◌, ◌<◌, Result, Ok, Err}
use Rattle.std.proofs.Common.{sym, ap, subst, ◌∙◌, inl, arith, lt-ltb}
use Rattle.std.proofs.Math.Option.{none, some}
use Rattle.machine.specs.Basics.{is_none}
use Rattle.machine.specs.Machine as machine
use Rattle.machine.specs.Machine.{Machine, process, sleeper, condition}
use Rattle.machine.specs.Step.{sleep}
use Rattle.machine.specs.Table.{refusal, taken, in_range}
use Rattle.machine.specs.Outcome.{Answer, answer, open_outcome}
use Rattle.machine.specs.Update.{with_up, with_sleeper, with_process, with_resume}
use Rattle.machine.specs.Places.{sleep_on}
use Rattle.machine.specs.Perform.{perform, open_perform}
use Rattle.machine.specs.StepOf.{left_by}
use Rattle.layout.specs.Memory.{Memory}
use Rattle.chain.specs.Links.{alter-same}
use Rattle.state.specs.Fields as fields
use Rattle.state.specs.Abs.{link_to, machine_of}
use Rattle.state.specs.Places.{mem_in}
use Rattle.state.specs.declared.Sizes.{Sizes}
use Rattle.record.specs.declared.Resume.{Resume}
use Rattle.record.specs.declared.Resume.TheVariants.{Sleep}
use Rattle.record.specs.Resumes.{number_of, object_of, condition_of, meaning}
use Rattle.exact.specs.Sums.{true-false}
use Rattle.exact.specs.Parts.{sleeper_of_lem}
use Rattle.holds.specs.Holds.{Holds}
use Rattle.holds.specs.Whole.{holds-bounds}
use Rattle.holds.specs.Did.{machine_in}
use Rattle.holds.specs.Use.{same_use}
use Rattle.holds.specs.Touched.{Touched, spares-none, touched_join, touched-did}
use Rattle.dat.specs.Asleep.{asleep_in}
use Rattle.dat.specs.Rendez.{SleepAsks, Slept}
use Rattle.timer.specs.Only.{Owing}
use Rattle.clockwork.specs.Conditions.{Condition}
use Rattle.outcome.specs.declared.Reply as code
use Rattle.outcome.specs.declared.Reply.TheVariants.{Done, Asleep}
use Rattle.outcome.specs.declared.Refusal.{Refusal}
use Rattle.outcome.specs.declared.Refusal.TheVariants.{InInterrupt, RendezTaken}
use Rattle.outcome.specs.Means.{means, told}
use Rattle.outcome.specs.Stepped.{Well, Stepped, left_bytes}
use Rattle.outcome.specs.Laws.{stepped-done, stepped-refused}
use Rattle.outcome.specs.Refusals.{step}
use Rattle.outcome.specs.RefusalsRun.{refusal-sleep, taken_true, taken_free, taken-there}
use Rattle.outcome.specs.Room.{well-room}
use Rattle.outcome.specs.Running.{IsRunning, NotRunning, somebody-up, current-is, not-running}
use Rattle.proc_sleep.specs.Suspend.{SuspendAsks, Suspended}

-- The running process i goes asleep on Rendez r, where nobody is, with a call that is a `sleep` or `tsleep` there.
pub record OffAsks (z : Sizes) (s : List ℕ) (i r : ℕ) (c : Resume) : Type 0 where
  pub holds : Holds z s 0
  pub runs : mem_in z s fields.up 0 ≡ suc i
  pub kind : (number_of c ≡ 1) ⊎ (number_of c ≡ 2)
  pub object : object_of c ≡ r
  pub condition : condition_of c ≤ 255
  pub index : r < z.rendez
  pub empty : mem_in z s fields.sleeper_of r ≡ 0
  pub room : asleep_in (mem_in z s) < 65535

pub record FellAsleep (z : Sizes) (s s' : List ℕ) (i r : ℕ) (c : Resume) : Type 0 where
  pub holds : Holds z s' 0
  pub machine : machine_in z s' ≡ sleep_on i r (meaning c) (machine_in z s)
  pub touched : Touched z s s'

pub off-suspend : {z : Sizes} {s : List ℕ} {i r : ℕ} {c : Resume} → OffAsks z s i r c → SuspendAsks z s i c
off-suspend a =
    record {
      holds = a.holds;
      runs = a.runs;
      object = omega (arith, a.object, a.index, a.holds.sizes.rendez.1);
      condition = a.condition;
    }

pub off-sleep : {z : Sizes} {s s₁ : List ℕ} {i r : ℕ} {c : Resume} → OffAsks z s i r c → Suspended z s s₁ i c → SleepAsks z s₁ i r
off-sleep {z} {s} {s₁} {i} {r} {c} a d =
    let k : mem_in z s₁ fields.resume_kind i ≡ number_of c =
    ap (λ (x : Memory). x fields.resume_kind i) d.memory ∙ alter-same (mem_in z s fields.resume_kind) i (number_of c)
    in
    let o : mem_in z s₁ fields.resume_object i ≡ object_of c =
    ap (λ (x : Memory). x fields.resume_object i) d.memory ∙ alter-same (mem_in z s fields.resume_object) i (object_of c)
    in
    record {
      owed = 0;
      holds = d.holds;
      nowhere = d.nowhere;
      call = record { kind = subst (λ (x : ℕ). (x ≡ 1) ⊎ (x ≡ 2)) (sym k) a.kind; object = o ∙ a.object };
      index = a.index;
      empty = ap (λ (x : Memory). x fields.sleeper_of r) d.memory ∙ a.empty;
      room = subst (λ (n : ℕ). n < 65535) (sym (ap (λ (x : Memory). x fields.asleep_count 0) d.memory)) a.room;
    }

-- Taken off, given its call and put on the Rendez, in whatever order.
sleep_on_lem : (m : Machine) (i r : ℕ) (c : machine.Resume) → with_sleeper r (some i) (with_process i (with_resume c (process (with_up none m) i)) (with_up none m)) ≡ sleep_on i r c m
unfolding sleep_on with_sleeper with_process with_up process
sleep_on_lem m i r c = refl

pub fell_asleep
    : {z : Sizes} {s s₁ s₂ : List ℕ} {i r : ℕ} {c : Resume}
    → OffAsks z s i r c
    → Suspended z s s₁ i c
    → Slept z s₁ s₂ i r
    → FellAsleep z s s₂ i r c
fell_asleep {z} {s} {s₁} {s₂} {i} {r} {c} a d p =
    record {
      holds = p.did.holds 0 d.holds;
      machine = p.did.machine ∙ ap (with_sleeper r (some i)) d.machine ∙ sleep_on_lem (machine_in z s) i r (meaning c);
      touched = touched_join d.touched (touched-did p.did (same_use refl refl refl refl refl refl refl refl refl));
    }

-- sleep
pub record SleepStepAsks (z : Sizes) (s : List ℕ) (r : ℕ) : Type 0 where
  pub well : Well z s
  pub index : r < z.rendez

pub record SleepTook (z : Sizes) (s s' : List ℕ) (k : Bool) (R C : ℕ) (a : Result code.Reply Refusal) : Type 0 where
  pub stepped : Stepped z s s' (step k (sleep R C)) [] a

pub sleep-owing : {z : Sizes} {s : List ℕ} {r : ℕ} → SleepStepAsks z s r → Owing z s
sleep-owing a = record { owed = 0; holds = a.well.holds }

-- what the tests of the table come to, the fields being in range
sleep-number
    : {z : Sizes} {s : List ℕ} {r c : ℕ} (k : Bool)
    → SleepStepAsks z s r
    → c < 256
    → refusal (machine_in z s) (step k (sleep r c))
    ≡ (if k
    then some 3
    else if taken (machine_in z s) r c then some 5 else if is_none (machine_in z s).up && not (condition (machine_in z s) c) then some 4 else none)
unfolding machine_of in_range
sleep-number {z} {s} {r} {c} k a l = refusal-sleep (machine_in z s) k r c ∙ rw (lt-ltb r z.rendez a.index, lt-ltb c 256 l)

pub sleep-marked : {z : Sizes} {s : List ℕ} {r c : ℕ} {k : Bool} → SleepStepAsks z s r → c < 256 → k ≡ true → SleepTook z s s k r c (Err InInterrupt)
unfolding left_by left_bytes
sleep-marked {z} {s} {r} {c} {k} a l e = record { stepped = stepped-refused (sleep-number k a l ∙ rw e) a.well.holds refl refl }

-- a true condition returns before the sleeper or the current process is looked at
sleep-true : (m : Machine) (r c : ℕ) → condition m c ≡ true → ((perform (sleep r c) m).reply ≡ answer Answer.done) × ((perform (sleep r c) m).after ≡ m)
unfolding open_perform open_outcome
sleep-true m r c e = (rw e, rw e)

and_off : (b : Bool) → (b && not true) ≡ false
and_off true = refl
and_off false = refl

pub sleep-held
    : {z : Sizes} {s : List ℕ} {r c : ℕ} {k t : Bool} → SleepStepAsks z s r → c < 256 → k ≡ false → Condition z s c t → t ≡ true → SleepTook z s s k r c (Ok Done)
unfolding means told
sleep-held {z} {s} {r} {c} {k} {t} a l f h e =
    let x : condition (machine_in z s) c ≡ true = sym h.answer ∙ e in
    let n : refusal (machine_in z s) (step k (sleep r c)) ≡ none =
    sleep-number k a l ∙ rw (f, taken_true (machine_in z s) r c x, x, and_off (is_none (machine_in z s).up))
    in
    let p : ((perform (sleep r c) (machine_in z s)).reply ≡ answer Answer.done) × ((perform (sleep r c) (machine_in z s)).after ≡ machine_in z s) =
    sleep-true (machine_in z s) r c x
    in
    record { stepped = stepped-done n a.well.holds spares-none (sym p.0) (ap told (sym p.0)) (sym p.1) }

-- The condition is false.
pub record FalseAsks (z : Sizes) (s : List ℕ) (r c : ℕ) : Type 0 where
  pub asks : SleepStepAsks z s r
  pub low : c < 256
  pub false_now : condition (machine_in z s) c ≡ false

pub false-asks : {z : Sizes} {s : List ℕ} {r c : ℕ} {t : Bool} → SleepStepAsks z s r → c < 256 → Condition z s c t → t ≡ false → FalseAsks z s r c
false-asks a l h e = record { asks = a; low = l; false_now = sym h.answer ∙ e }

pub sleep-rest : {z : Sizes} {s s₁ : List ℕ} {r c : ℕ} {k : Bool} {a : Result code.Reply Refusal} → k ≡ false → SleepTook z s s₁ false r c a → SleepTook z s s₁ k r c a
sleep-rest {z} {s} {s₁} {r} {c} {k} {a} e t = subst (λ (x : Bool). SleepTook z s s₁ x r c a) (sym e) t

-- another is asleep there
pub sleep-taken
    : {z : Sizes} {s : List ℕ} {r c l : ℕ}
    → FalseAsks z s r c
    → l ≡ mem_in z s fields.sleeper_of r
    → (l ≡ 0 → ⊥)
    → SleepTook z s s false r c (Err RendezTaken)
unfolding left_by left_bytes
sleep-taken {z} {s} {r} {c} {l} a d ne =
    let j : l ≡ suc (l - 1) = omega arith in
    let o : sleeper (machine_in z s) r ≡ some (l - 1) = sleeper_of_lem (holds-bounds a.asks.well.holds) r ∙ ap link_to (sym d ∙ j) in
    record {
      stepped =
          stepped-refused (sleep-number false a.asks a.low ∙ rw (taken-there (machine_in z s) r c a.false_now o)) a.asks.well.holds refl refl;
    }

sleep-free : {z : Sizes} {s : List ℕ} {r l : ℕ} (c : ℕ) → SleepStepAsks z s r → l ≡ mem_in z s fields.sleeper_of r → l ≡ 0 → taken (machine_in z s) r c ≡ false
sleep-free {z} {s} {r} {l} c a d e =
    taken_free (machine_in z s) r c (sleeper_of_lem (holds-bounds a.well.holds) r ∙ ap link_to (sym d ∙ e))

-- nobody runs
pub sleep-nobody
    : {z : Sizes} {s : List ℕ} {r c l : ℕ} {e : Refusal}
    → FalseAsks z s r c
    → l ≡ mem_in z s fields.sleeper_of r
    → l ≡ 0
    → NotRunning z s false e
    → SleepTook z s s false r c (Err e)
sleep-nobody {z} {s} {r} {c} {l} a d g n =
    let y : taken (machine_in z s) r c ≡ false = sleep-free c a.asks d g in
    record {
      stepped =
          not-running a.asks.well.holds (λ m. sleep-number false a.asks a.low ∙ absurd (true-false (sym m)))
          (λ u o. sleep-number false a.asks a.low ∙ rw (y, a.false_now, o)) n;
    }

-- it goes asleep
pub sleep-off
    : {z : Sizes} {s : List ℕ} {r c l i : ℕ}
    → FalseAsks z s r c
    → l ≡ mem_in z s fields.sleeper_of r
    → l ≡ 0
    → IsRunning z s false i
    → OffAsks z s i r (Sleep r c)
sleep-off {z} {s} {r} {c} {l} {i} a d g u =
    record {
      holds = a.asks.well.holds;
      runs = u.runs;
      kind = inl refl;
      object = refl;
      condition = omega (arith, a.low);
      index = a.asks.index;
      empty = sym d ∙ g;
      room = well-room a.asks.well;
    }

sleeps : (m : Machine) (r c i : ℕ) → condition m c ≡ false → m.up ≡ some i
    → ((perform (sleep r c) m).reply ≡ answer Answer.asleep) × ((perform (sleep r c) m).after ≡ sleep_on i r (machine.in_sleep r c) m)
unfolding open_perform open_outcome
sleeps m r c i e u = (rw e, rw e (ap (λ (j : ℕ). sleep_on j r (machine.in_sleep r c) m) (current-is m i u)))

pub sleep-asleep
    : {z : Sizes} {s s₁ : List ℕ} {r c l i : ℕ}
    → FalseAsks z s r c
    → l ≡ mem_in z s fields.sleeper_of r
    → l ≡ 0
    → IsRunning z s false i
    → FellAsleep z s s₁ i r (Sleep r c)
    → SleepTook z s s₁ false r c (Ok Asleep)
unfolding means told
sleep-asleep {z} {s} {s₁} {r} {c} {l} {i} a d g u w =
    let y : taken (machine_in z s) r c ≡ false = sleep-free c a.asks d g in
    let o : (machine_in z s).up ≡ some i = somebody-up z s u.runs in
    let p : ((perform (sleep r c) (machine_in z s)).reply ≡ answer Answer.asleep) × ((perform (sleep r c) (machine_in z s)).after ≡ sleep_on i r (machine.in_sleep r c) (machine_in z s)) =
    sleeps (machine_in z s) r c i a.false_now o
    in
    record {
      stepped =
          stepped-done (sleep-number false a.asks a.low ∙ rw (y, o)) w.holds w.touched.spares (sym p.0) (ap told (sym p.0))
          (w.machine ∙ sym p.1);
    }
