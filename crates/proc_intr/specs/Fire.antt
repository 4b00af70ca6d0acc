-- One firing of a timer that is off the queue.
use Rattle.std.specs.Prelude.{◌≡◌, List, ℕ, ◌≤◌, ◌<◌}
use Rattle.std.proofs.Common.{sym, ap, ◌∙◌, arith}
use Rattle.machine.specs.Machine.{Queued}
use Rattle.machine.specs.Timers.{callback, readd}
use Rattle.layout.specs.Memory.{Memory}
use Rattle.state.specs.Fields as fields
use Rattle.state.specs.Places.{mem_in}
use Rattle.state.specs.declared.Sizes.{Sizes}
use Rattle.holds.specs.Holds.{Holds}
use Rattle.holds.specs.Did.{machine_in}
use Rattle.holds.specs.Use.{Between, fewer-same}
use Rattle.holds.specs.Leftover.{alive-kin}
use Rattle.holds.specs.Touched.{Spares, spares-after}
use Rattle.timer.specs.Rounds.{period_in, period-same, Rounds, rounds_join, rounds-calm}
use Rattle.timer.specs.Readd.{ReaddAsks, Readded}
use Rattle.proc_intr.specs.Callback.{CallbackAsks, CalledBack}

-- Timer t with its deadline, as it is queued.
abbrev pub timer_at : Memory → ℕ → Queued
timer_at m t = record { timer = t; deadline = m fields.deadline t }

-- `fire`: timer t is off the queue, and its deadline is below 2^63.
pub record FireAsks (z : Sizes) (s : List ℕ) (t : ℕ) : Type 0 where
  pub call : CallbackAsks z s t
  pub off : mem_in z s fields.is_queued t ≡ 0
  pub small : mem_in z s fields.deadline t ≤ 9223372036854775807

-- It did what it does, and a periodic one is back at its deadline plus its period.
pub record Fired (z : Sizes) (s s' : List ℕ) (t : ℕ) : Type 0 where
  pub holds : (n : ℕ) → Holds z s n → Holds z s' n
  pub machine : machine_in z s' ≡ readd (timer_at (mem_in z s) t) (callback t (machine_in z s)).machine
  pub spares : Spares z s s'
  pub rounds : Rounds z (mem_in z s) (mem_in z s')
  -- a periodic one is queued then
  pub back : (period_in z (mem_in z s) t ≡ 0 → ⊥) → 0 < mem_in z s' fields.is_queued t
  -- no more is used than before, and in a memory in which it is queued
  pub uses : (k : Memory) → 0 < k fields.is_queued t → Between z k (mem_in z s') (mem_in z s)

pub fire-readd : {z : Sizes} {s s₁ : List ℕ} {t l : ℕ} → FireAsks z s t → CalledBack z s s₁ t l → ReaddAsks z s₁ t
fire-readd {t = t} a c =
    record {
      owing = record { owed = 0; holds = c.did.holds 0 a.call.well.holds };
      index = a.call.index;
      off = ap (λ (k : ℕ → ℕ). k t) c.did.flags ∙ a.off;
      small = omega (arith, ap (λ (k : ℕ → ℕ). k t) c.did.touched.same.calm.deadlines, a.small);
    }

pub fired : {z : Sizes} {s s₁ s₂ : List ℕ} {t l : ℕ} → FireAsks z s t → CalledBack z s s₁ t l → Readded z s₁ s₂ t → Fired z s s₂ t
fired {z} {s} {s₁} {s₂} {t} a c r =
    record {
      holds = λ n h. r.holds n (c.did.holds n h);
      machine =
          r.machine
          ∙ ap (readd (timer_at (mem_in z s₁) t)) c.did.machine
          ∙ ap (λ (k : ℕ → ℕ). readd (record { timer = t; deadline = k t }) (callback t (machine_in z s)).machine) c.did.touched.same.calm.deadlines;
      spares = spares-after c.did.touched r.spares (alive-kin r.rounds.kin);
      rounds = rounds_join (rounds-calm c.did.touched.same.kin c.did.touched.same.calm c.did.periods c.did.flags) r.rounds;
      back = λ ne. r.back (λ e. ne (sym (period-same z (mem_in z s) (mem_in z s₁) t c.did.periods) ∙ e));
      uses = λ k h. record { between = λ f i x y. (r.uses k h).between f i x ((fewer-same c.did.touched.same).fewer f i y) };
    }
