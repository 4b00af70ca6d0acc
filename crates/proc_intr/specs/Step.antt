-- The step: what the code shows at each return.
use Rattle.std.specs.Prelude.{◌≡◌, refl, Bool, true, false, List, ℕ, ◌/◌, ◌^◌, ◌-◌, ◌≤◌, Ok, Err}
use Rattle.std.proofs.Common.{sym, ap, subst, ◌∙◌, arith, Fits, lt-ltb, le-ltb}
use Rattle.std.proofs.Math.Option.{none}
use Rattle.std.specs.Int.{w64}
use Rattle.machine.specs.Machine.{Machine}
use Rattle.machine.specs.Step.{intr}
use Rattle.machine.specs.Update.{with_last_now}
use Rattle.machine.specs.Timers.{Firing, interrupt}
use Rattle.machine.specs.Table.{refusal, in_range, bad_now}
use Rattle.machine.specs.Outcome.{Answer, answer}
use Rattle.machine.specs.Perform.{perform, open_perform}
use Rattle.machine.specs.StepOf.{left_by}
use Rattle.machine.specs.Good.{Good}
use Rattle.kept.specs.Allowed.{now_fits}
use Rattle.kept.specs.Fine.{fine, good}
use Rattle.kept.specs.Simple.{fine-accepted}
use Rattle.state.specs.declared.Sizes.{Sizes}
use Rattle.holds.specs.Did.{machine_in}
use Rattle.holds.specs.Leftover.{alive-kin}
use Rattle.holds.specs.Touched.{Touched, spares-after}
use Rattle.clockwork.specs.Stores.{Became}
use Rattle.clockwork.specs.Clock.{now_stores}
use Rattle.clockwork.specs.Reading.{BadNow}
use Rattle.outcome.specs.declared.Reply.TheVariants.{Fired}
use Rattle.outcome.specs.declared.Refusal.TheVariants.{BadReading}
use Rattle.outcome.specs.Means.{means, told}
use Rattle.outcome.specs.Took.{Took}
use Rattle.outcome.specs.Stepped.{Well, left_bytes}
use Rattle.outcome.specs.Laws.{stepped-done, stepped-refused}
use Rattle.outcome.specs.Refusals.{step}
use Rattle.outcome.specs.RefusalsRange.{range-intr}
use Rattle.outcome.specs.RefusalsTime.{refused-intr_8, allowed-intr}
use Rattle.proc_intr.specs.Due.{DueAsks}
use Rattle.proc_intr.specs.Interrupt.{Interrupted}

-- Every reading of 64 bits is in range.
reading_in : (M : Machine) (reading : ℕ) → Fits w64 reading → in_range M.sizes (intr reading) ≡ true
reading_in M reading f = range-intr M.sizes reading ∙ lt-ltb reading (2 ^ 64) (omega (arith, f))

-- Refused: a reading before the last one, or over 2^51 − 1.
bad-reading : {z : Sizes} {s : List ℕ} {reading : ℕ} → Well z s → Fits w64 reading → bad_now (machine_in z s) reading ≡ true → Took z s s (intr reading) (Err BadReading)
unfolding left_by left_bytes
bad-reading {z} {s} {reading} w f e =
    record { stepped = λ k. stepped-refused (refused-intr_8 (machine_in z s) k reading (reading_in (machine_in z s) reading f) e) w.holds refl refl }

pub intr_8
    : {z : Sizes} {s : List ℕ} {reading : ℕ} {b : Bool} → Well z s → Fits w64 reading → BadNow z s reading b → b ≡ true → Took z s s (intr reading) (Err BadReading)
intr_8 w f b e = bad-reading w f (sym b.answer ∙ e)

-- A reading that is accepted.
pub record Accepted (z : Sizes) (s : List ℕ) (reading : ℕ) : Type 0 where
  pub well : Well z s
  pub after : (machine_in z s).last_now ≤ reading
  pub small : reading ≤ 2251799813685247

accepted : {z : Sizes} {s : List ℕ} {reading : ℕ} {b : Bool} → Well z s → BadNow z s reading b → b ≡ false → Accepted z s reading
accepted {z} {s} {reading} w b e =
    let h : ((machine_in z s).last_now ≤ reading) × (reading ≤ 2 ^ 51 - 1) = now_fits (machine_in z s) reading (sym b.answer ∙ e) in
    record { well = w; after = h.0; small = b.small e }

accepted-due
    : {z : Sizes} {s s₁ : List ℕ} {reading : ℕ}
    → Accepted z s reading
    → Became z s s₁ (now_stores reading) (with_last_now reading (machine_in z s))
    → DueAsks z s₁ reading
unfolding with_last_now
accepted-due {z} {s} {s₁} {reading} a b =
    let M : Machine = machine_in z s in
    record {
      well = record {
        holds = b.holds 0 a.well.holds;
        good =
            subst Good (sym b.machine)
            (good (with_last_now reading M) (fine-accepted M (fine M a.well.good) reading (a.after, omega (arith, a.small))));
      };
      last = ap (λ (x : Machine). x.last_now) b.machine;
    }

pub intr-due
    : {z : Sizes} {s s₁ : List ℕ} {reading : ℕ} {x : Bool}
    → Well z s
    → BadNow z s reading x
    → x ≡ false
    → Became z s s₁ (now_stores reading) (with_last_now reading (machine_in z s))
    → DueAsks z s₁ reading
intr-due w n e b = accepted-due (accepted w n e) b

-- What the definition answers, and the machine after it.
intr-reply : (M : Machine) (reading : ℕ) (f : Firing) → f ≡ interrupt reading (with_last_now reading M) → (perform (intr reading) M).reply ≡ answer (Answer.fired f.count (f.count / 20000))
unfolding open_perform
intr-reply M reading f e = rw e

intr-after : (M : Machine) (reading : ℕ) → (perform (intr reading) M).after ≡ (interrupt reading (with_last_now reading M)).machine
unfolding open_perform
intr-after M reading = refl

allowed : {z : Sizes} {s : List ℕ} {reading : ℕ} → Accepted z s reading → (k : Bool) → refusal (machine_in z s) (step k (intr reading)) ≡ none
unfolding bad_now
allowed {z} {s} {reading} a k =
    let M : Machine = machine_in z s in
    allowed-intr M k reading (range-intr M.sizes reading ∙ lt-ltb reading (2 ^ 64) (omega (arith, a.small)))
    (rw (le-ltb reading M.last_now a.after, le-ltb (2 ^ 51 - 1) reading (omega (arith, a.small))))

intr-done
    : {z : Sizes} {s s₁ s₂ : List ℕ} {reading n : ℕ}
    → Accepted z s reading
    → machine_in z s₁ ≡ with_last_now reading (machine_in z s)
    → Touched z s s₁
    → Interrupted z s₁ s₂ reading n
    → Took z s s₂ (intr reading) (Ok (Fired n (n / 20000)))
unfolding means told
intr-done {z} {s} {s₁} {s₂} {reading} {n} a e w i =
    let M : Machine = machine_in z s in
    let f : Firing = interrupt reading (with_last_now reading M) in
    let c : n ≡ f.count = i.count ∙ ap (λ (x : Machine). (interrupt reading x).count) e in
    let t : (perform (intr reading) M).reply ≡ answer (Answer.fired n (n / 20000)) = intr-reply M reading f refl ∙ rw c in
    record {
      stepped = λ k.
          stepped-done (allowed a k) i.well.holds (spares-after w i.spares (alive-kin i.kin)) (sym t) (ap told (sym t))
          (i.machine ∙ ap (λ (x : Machine). (interrupt reading x).machine) e ∙ sym (intr-after M reading));
    }

pub intr-fired
    : {z : Sizes} {s s₁ s₂ : List ℕ} {reading n : ℕ} {x : Bool}
    → Well z s
    → BadNow z s reading x
    → x ≡ false
    → Became z s s₁ (now_stores reading) (with_last_now reading (machine_in z s))
    → Interrupted z s₁ s₂ reading n
    → Took z s s₂ (intr reading) (Ok (Fired n (n / 20000)))
intr-fired w m e b i = intr-done (accepted w m e) b.machine b.touched i
