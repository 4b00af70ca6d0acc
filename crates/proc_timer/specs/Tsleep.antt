-- tsleep: what it asks and ensures, and what the code shows before the duration is counted.
use Rattle.std.specs.Prelude.{◌≡◌, Bool, true, false, List, [], ℕ, suc, ◌<◌, Result, Err}
use Rattle.std.proofs.Common.{sym, subst, Fits, lt-ltb}
use Rattle.std.specs.Int.{w8, w64}
use Rattle.clock.specs.declared.Duration.{Duration}
use Rattle.machine.specs.Step.{tsleep}
use Rattle.machine.specs.Table.{in_range}
use Rattle.state.specs.Fields as fields
use Rattle.state.specs.Abs.{machine_of}
use Rattle.state.specs.Places.{mem_in}
use Rattle.state.specs.declared.Sizes.{Sizes}
use Rattle.holds.specs.Did.{machine_in}
use Rattle.outcome.specs.declared.Reply as code
use Rattle.outcome.specs.declared.Refusal.{Refusal}
use Rattle.outcome.specs.Stepped.{Well, Stepped}
use Rattle.outcome.specs.Refusals.{step}
use Rattle.outcome.specs.RefusalsTsleep.{refused-tsleep-3, refused-tsleep-4}
use Rattle.outcome.specs.Running.{IsRunning, NotRunning, not-running}

-- The state is well formed, there is such a Rendez, and the duration is one.
pub record TsleepAsks (z : Sizes) (s : List ℕ) (r : ℕ) (d : Duration) : Type 0 where
  pub well : Well z s
  pub index : r < z.rendez
  pub valid : d.nanos < 1000000000

pub record Tslept (z : Sizes) (s s' : List ℕ) (k : Bool) (r c : ℕ) (d : Duration) (n : ℕ) (a : Result code.Reply Refusal) : Type 0 where
  pub stepped : Stepped z s s' (step k (tsleep r c d.secs d.nanos n)) [] a

pub tsleep-range
    : {z : Sizes} {s : List ℕ} {r c : ℕ} {d : Duration} {n : ℕ}
    → TsleepAsks z s r d
    → Fits w8 c
    → Fits w64 d.secs
    → Fits w64 n
    → in_range (machine_in z s).sizes (tsleep r c d.secs d.nanos n) ≡ true
unfolding machine_of in_range
tsleep-range {z} {s} {r} {c} {d} {n} a f g h =
    rw (
      lt-ltb r z.rendez a.index,
      lt-ltb c 256 f.fits,
      lt-ltb d.secs 18446744073709551616 g.fits,
      lt-ltb d.nanos 1000000000 a.valid,
      lt-ltb n 18446744073709551616 h.fits,
    )

-- The step is marked, or nobody runs.
pub tsleep-nobody
    : {z : Sizes} {s : List ℕ} {k : Bool} {r c : ℕ} {d : Duration} {n : ℕ} {e : Refusal}
    → TsleepAsks z s r d
    → Fits w8 c
    → Fits w64 d.secs
    → Fits w64 n
    → NotRunning z s k e
    → Tslept z s s k r c d n (Err e)
tsleep-nobody {z} {s} {k} {r} {c} {d} {n} a f g h u =
    let y : in_range (machine_in z s).sizes (tsleep r c d.secs d.nanos n) ≡ true = tsleep-range a f g h in
    record {
      stepped =
          not-running a.well.holds (refused-tsleep-3 (machine_in z s) k r c d.secs d.nanos n y)
          (refused-tsleep-4 (machine_in z s) k r c d.secs d.nanos n y) u;
    }

-- Process i runs.
pub record RunningAsks (z : Sizes) (s : List ℕ) (i r : ℕ) (d : Duration) : Type 0 where
  pub asks : TsleepAsks z s r d
  pub runs : mem_in z s fields.up 0 ≡ suc i

pub tsleep-running
    : {z : Sizes} {s : List ℕ} {k : Bool} {i r : ℕ} {d : Duration} → TsleepAsks z s r d → IsRunning z s k i → RunningAsks z s i r d
tsleep-running a u = record { asks = a; runs = u.runs }

pub tsleep-rest
    : {z : Sizes} {s s₁ : List ℕ} {k : Bool} {r c : ℕ} {d : Duration} {n : ℕ} {a : Result code.Reply Refusal}
    → k ≡ false
    → Tslept z s s₁ false r c d n a
    → Tslept z s s₁ k r c d n a
tsleep-rest {z} {s} {s₁} {k} {r} {c} {d} {n} {a} e t = subst (λ (x : Bool). Tslept z s s₁ x r c d n a) (sym e) t
