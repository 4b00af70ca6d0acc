-- clock: what the code shows.
use Rattle.std.specs.Prelude.{◌≡◌, refl, Bool, true, false, List, ℕ, ◌+◌, Ok, Err}
use Rattle.std.proofs.Common.{sym, ap, ◌∙◌, arith, Fits, lt-ltb}
use Rattle.std.specs.Int.{w64}
use Rattle.clock.specs.Counts.{counts_of}
use Rattle.machine.specs.Machine.{Setting}
use Rattle.machine.specs.Step.{clock}
use Rattle.machine.specs.Table.{in_range}
use Rattle.machine.specs.Outcome.{open_outcome}
use Rattle.machine.specs.Update.{with_last_now}
use Rattle.machine.specs.Timers.{add}
use Rattle.machine.specs.Perform.{open_perform}
use Rattle.machine.specs.StepOf.{left_by}
use Rattle.state.specs.Fields as fields
use Rattle.state.specs.Abs.{machine_of}
use Rattle.state.specs.Places.{mem_in}
use Rattle.state.specs.declared.Sizes.{Sizes}
use Rattle.exact.specs.Bounds.{at_most}
use Rattle.exact.specs.Parts.{setting_of_lem}
use Rattle.holds.specs.Whole.{holds-bounds}
use Rattle.holds.specs.Did.{machine_in}
use Rattle.clockwork.specs.Reading.{BadNow}
use Rattle.outcome.specs.declared.Reply.TheVariants.{Done}
use Rattle.outcome.specs.declared.Refusal.TheVariants.{BadReading}
use Rattle.outcome.specs.Means.{means, told}
use Rattle.outcome.specs.Stepped.{Well, left_bytes}
use Rattle.outcome.specs.Laws.{stepped-done, stepped-refused}
use Rattle.outcome.specs.RefusalsTime.{refused-clock_8, allowed-clock}
use Rattle.outcome.specs.Took.{Took}
use Rattle.proc_timer.specs.After.{AfterAsks, AddedAfter}

-- The period of timer 0 is 10 ms.
tick_is : {z : Sizes} {s : List ℕ} {p : ℕ} → Well z s → p ≡ mem_in z s fields.period 0 → p ≡ counts_of z.hz 0 10000000
unfolding machine_of
tick_is w e =
    e
    ∙ sym (ap (λ (x : Setting). x.period) (setting_of_lem (holds-bounds w.holds) 0 (omega (arith, w.holds.sizes.timers.0))))
    ∙ w.good.in_range.hzclock

pub first-asks : {z : Sizes} {s : List ℕ} {n p : ℕ} {b : Bool} → Well z s → BadNow z s n b → b ≡ false → p ≡ mem_in z s fields.period 0 → AfterAsks z s 0 n p
first-asks w b f e =
    record {
      owing = record { owed = 0; holds = w.holds };
      index = omega (arith, w.holds.sizes.timers.0);
      small = b.small f;
      few = omega (arith, e, at_most (holds-bounds w.holds) fields.period 0);
    }

-- clock
clock-range : (z : Sizes) (s : List ℕ) (n : ℕ) → Fits w64 n → in_range (machine_in z s).sizes (clock n) ≡ true
unfolding in_range
clock-range z s n f = lt-ltb n 18446744073709551616 (omega (arith, f))

pub clock_8 : {z : Sizes} {s : List ℕ} {n : ℕ} {b : Bool} → Well z s → Fits w64 n → BadNow z s n b → b ≡ true → Took z s s (clock n) (Err BadReading)
unfolding left_by left_bytes
clock_8 {z} {s} {n} w f b e =
    record {
      stepped = λ k.
          stepped-refused (refused-clock_8 (machine_in z s) k n (clock-range z s n f) (sym b.answer ∙ e)) w.holds refl refl;
    }

pub clock-done
    : {z : Sizes} {s s₁ : List ℕ} {n p : ℕ} {b : Bool}
    → Well z s
    → Fits w64 n
    → BadNow z s n b
    → b ≡ false
    → p ≡ mem_in z s fields.period 0
    → AddedAfter z s s₁ 0 n p
    → Took z s s₁ (clock n) (Ok Done)
unfolding open_perform open_outcome means told machine_of
clock-done {z} {s} {s₁} {n} {p} w f b e q a =
    record {
      stepped = λ k.
          stepped-done (allowed-clock (machine_in z s) k n (clock-range z s n f) (sym b.answer ∙ e)) (a.holds 0 w.holds) a.spares refl refl
          (a.machine ∙ ap (λ (x : ℕ). add 0 (n + x) (with_last_now n (machine_in z s))) (tick_is w q));
    }
