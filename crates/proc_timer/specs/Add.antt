-- tadd: what it asks and ensures, and what the code shows.
use Rattle.std.specs.Prelude.{◌≡◌, refl, Bool, true, false, ◌&&◌, List, [], ℕ, ◌+◌, ◌≤◌, ◌<◌, eqb, Result, Ok, Err}
use Rattle.std.proofs.Common.{ap, ◌∙◌, arith, Fits, lt-ltb, le-leb}
use Rattle.std.proofs.Math.Bool.{and-false}
use Rattle.std.specs.Int.{w64}
use Rattle.clock.specs.declared.Duration.{Duration}
use Rattle.machine.specs.Machine.{Machine}
use Rattle.machine.specs.Step.{tadd, open_step}
use Rattle.machine.specs.Table.{refusal, in_range, open_table}
use Rattle.machine.specs.Outcome.{open_outcome}
use Rattle.machine.specs.Update.{with_last_now, with_setting}
use Rattle.machine.specs.Timers.{add}
use Rattle.machine.specs.Perform.{open_perform}
use Rattle.machine.specs.StepOf.{left_by}
use Rattle.state.specs.Abs.{machine_of}
use Rattle.state.specs.declared.Sizes.{Sizes}
use Rattle.holds.specs.Did.{machine_in}
use Rattle.clockwork.specs.Settings.{setting_of}
use Rattle.outcome.specs.declared.Reply as code
use Rattle.outcome.specs.declared.Reply.TheVariants.{Done}
use Rattle.outcome.specs.declared.Refusal.{Refusal}
use Rattle.outcome.specs.Means.{number, means, told}
use Rattle.outcome.specs.Stepped.{Well, Stepped, left_bytes}
use Rattle.outcome.specs.Laws.{stepped-done, stepped-refused}
use Rattle.outcome.specs.Refusals.{step}
use Rattle.outcome.specs.RefusalsTime.{refusal-tadd}
use Rattle.proc_timer.specs.declared.Deadline.{Deadline}
use Rattle.proc_timer.specs.declared.Kind.{Kind}
use Rattle.proc_timer.specs.Kinds.{kind_number, kind_low}
use Rattle.proc_timer.specs.Set.{period_for, SetAsks, SetAfter}
use Rattle.proc_timer.specs.Counting.{number_for, CountedTo, DeadlineFor, NotCounted}

-- The state is well formed, t is a kernel timer other than timer 0, the duration one, and r a Rendez.
pub record TaddAsks (z : Sizes) (s : List ℕ) (t : ℕ) (d : Duration) (r : ℕ) : Type 0 where
  pub well : Well z s
  pub some : 1 ≤ t
  pub index : t < z.timers
  pub valid : d.nanos < 1000000000
  pub there : r < z.rendez

-- It asks nothing of the mark.
pub record Tadded (z : Sizes) (s s' : List ℕ) (t kind : ℕ) (d : Duration) (r n : ℕ) (a : Result code.Reply Refusal) : Type 0 where
  pub stepped : (k : Bool) → Stepped z s s' (step k (tadd t kind d.secs d.nanos r n)) [] a

tadd-range
    : {z : Sizes} {s : List ℕ} {t : ℕ} (kind : Kind) {d : Duration} {r n : ℕ}
    → TaddAsks z s t d r
    → Fits w64 d.secs
    → Fits w64 n
    → in_range (machine_in z s).sizes (tadd t (kind_number kind) d.secs d.nanos r n) ≡ true
unfolding machine_of in_range
tadd-range {z} {s} {t} kind {d} {r} {n} a f g =
    rw (
      le-leb 1 t a.some,
      lt-ltb t z.timers a.index,
      le-leb (kind_number kind) 1 (kind_low kind),
      lt-ltb d.secs 18446744073709551616 f.fits,
      lt-ltb d.nanos 1000000000 a.valid,
      lt-ltb r z.rendez a.there,
      lt-ltb n 18446744073709551616 g.fits,
    )

tadd-number
    : {z : Sizes} {s : List ℕ} {t : ℕ} (kind : Kind) {d : Duration} {r n : ℕ}
    → TaddAsks z s t d r
    → Fits w64 d.secs
    → Fits w64 n
    → (k : Bool)
    → refusal (machine_in z s) (step k (tadd t (kind_number kind) d.secs d.nanos r n)) ≡ number_for (machine_in z s) (kind_number kind) d.secs d.nanos n
tadd-number {z} {s} {t} kind {d} {r} {n} a f g k =
    refusal-tadd (machine_in z s) k t (kind_number kind) d.secs d.nanos r n ∙ rw (tadd-range kind a f g)

-- What the code shows: a number is met, or the timer is set and queued.
pub tadd-refused
    : {z : Sizes} {s : List ℕ} {t : ℕ} (kind : Kind) {d : Duration} {r n : ℕ} {e : Refusal}
    → TaddAsks z s t d r
    → NotCounted z s (kind_number kind) d n e
    → Tadded z s s t (kind_number kind) d r n (Err e)
unfolding left_by left_bytes open_table open_step
tadd-refused {z} {s} {t} kind {d} {r} {n} {e} a c =
    let o : eqb (number e) 11 && false ≡ false = and-false (eqb (number e) 11) in
    record { stepped = λ k. stepped-refused (tadd-number kind a c.secs c.reading k ∙ c.number) a.well.holds (rw o) (rw o) }

pub tadd-set
    : {z : Sizes} {s : List ℕ} {t : ℕ} (kind : Kind) {d : Duration} {r n : ℕ} {at : Deadline}
    → TaddAsks z s t d r
    → DeadlineFor z s (kind_number kind) d n at
    → SetAsks z s t r at.reading at.counts
tadd-set kind a c =
    record {
      owing = record { owed = 0; holds = a.well.holds };
      index = a.index;
      there = a.there;
      small = omega (arith, c.reading, c.counted.lasts.small);
      few = c.counted.lasts.few;
    }

pub tadd-done
    : {z : Sizes} {s s₁ : List ℕ} {t : ℕ} (kind : Kind) {d : Duration} {r n : ℕ} {at : Deadline}
    → TaddAsks z s t d r
    → DeadlineFor z s (kind_number kind) d n at
    → SetAfter z s s₁ t (kind_number kind) r at.reading at.counts
    → Tadded z s s₁ t (kind_number kind) d r n (Ok Done)
unfolding open_perform open_outcome means told machine_of
tadd-done {z} {s} {s₁} {t} kind {d} {r} {n} {at} a h y =
    let m : Machine = machine_in z s in
    let c : CountedTo z s (kind_number kind) d n at.counts = h.counted in
    record {
      stepped = λ k.
          stepped-done (tadd-number kind a c.secs c.reading k ∙ c.number) (y.holds 0 a.well.holds) y.spares refl refl
          (y.machine
          ∙ ap (λ (x : ℕ). add t (x + at.counts) (with_setting t (setting_of (period_for (kind_number kind) at.counts) r) (with_last_now x m))) h.reading
          ∙ ap (λ (v : ℕ). add t (n + v) (with_setting t (setting_of (period_for (kind_number kind) v) r) (with_last_now n m))) c.lasts.counts);
    }
