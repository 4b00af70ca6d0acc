-- A process that was taken off the run queue: it runs, or sleeps on its Rendez again.
use Rattle.std.specs.Prelude.{◌≡◌, refl, false, List, [], ◌∷◌, ℕ, zero, suc, ◌<◌, length, get_or, set, Result, Ok}
use Rattle.std.proofs.Common.{sym, ap, ◌∙◌, arith}
use Rattle.std.proofs.Math.Option.{none, some}
use Rattle.machine.specs.Machine as machine
use Rattle.machine.specs.Machine.{Machine, free, process, pid_of}
use Rattle.machine.specs.Outcome.{Answer, Outcome, answer, open_outcome}
use Rattle.machine.specs.Update.{with_up, with_process, with_resume, with_sleeper}
use Rattle.machine.specs.Places.{sleep_on}
use Rattle.machine.specs.Perform.{runs, checks_again, open_perform}
use Rattle.state.specs.Fields as fields
use Rattle.state.specs.Abs.{link_to, machine_of}
use Rattle.state.specs.Places.{sizes_in, mem_in}
use Rattle.state.specs.declared.Sizes.{Sizes}
use Rattle.record.specs.declared.Resume.TheVariants.{Nothing}
use Rattle.exact.specs.Bounds.{inside}
use Rattle.exact.specs.Parts.{pid_of_lem}
use Rattle.holds.specs.Holds.{Holds}
use Rattle.holds.specs.Whole.{holds-bounds}
use Rattle.holds.specs.Did.{machine_in}
use Rattle.holds.specs.Use.{SameKin, kin_join, same_use, Fewer}
use Rattle.holds.specs.Leftover.{alive-kin}
use Rattle.holds.specs.Touched.{Touched, touched_join, touched-did, Spares, spares-fewer}
use Rattle.places.specs.Nowhere.{Nowhere}
use Rattle.places.specs.Rendez.{CallsRendez}
use Rattle.dat.specs.Asleep.{asleep_in}
use Rattle.dat.specs.Own.{CallAsks, Called, RunAsks, Ran}
use Rattle.dat.specs.Rendez.{SleepAsks, Slept}
use Rattle.outcome.specs.Length.{length_of}
use Rattle.outcome.specs.declared.Reply as code
use Rattle.outcome.specs.declared.Reply.TheVariants.{Run, Asleep}
use Rattle.outcome.specs.declared.Refusal.{Refusal}
use Rattle.outcome.specs.Means.{means, told}

-- Nobody runs; i is in no place and not marked asleep; and there is room in the count of those asleep.
pub record Limbo (z : Sizes) (s : List ℕ) (i : ℕ) : Type 0 where
  pub holds : Holds z s 0
  pub nowhere : Nowhere (sizes_in z) (mem_in z s) i
  pub idle : mem_in z s fields.up 0 ≡ 0
  pub awake : mem_in z s fields.state_of i ≡ 3 → ⊥
  pub room : asleep_in (mem_in z s) < 65535

pub record Dispatched (z : Sizes) (s s' : List ℕ) (i : ℕ) : Type 0 where
  pub holds : Holds z s' 0
  pub machine : machine_in z s' ≡ with_up (some i) (with_process i (with_resume machine.nothing (process (machine_in z s) i)) (machine_in z s))
  pub touched : Touched z s s'

pub limbo-call : {z : Sizes} {s : List ℕ} {i : ℕ} → Limbo z s i → CallAsks z s i Nothing
limbo-call l =
    record { owed = 0; holds = l.holds; nowhere = l.nowhere; awake = l.awake; object = omega arith; condition = omega arith }

pub limbo-run : {z : Sizes} {s s₁ : List ℕ} {i : ℕ} → Limbo z s i → Called z s s₁ i Nothing → RunAsks z s₁ i
limbo-run l c = record { owed = 0; holds = c.did.holds 0 l.holds; nowhere = c.nowhere }

pub dispatched : {z : Sizes} {s s₁ s₂ : List ℕ} {i : ℕ} → Limbo z s i → Called z s s₁ i Nothing → Ran z s₁ s₂ i → Dispatched z s s₂ i
dispatched {i = i} l c r =
    record {
      holds = r.did.holds 0 (c.did.holds 0 l.holds);
      machine = r.did.machine ∙ ap (with_up (some i)) c.did.machine;
      touched = touched_join (touched-did c.did (same_use refl refl refl refl refl refl refl refl refl)) (touched-did r.did (same_use refl refl refl refl refl refl refl refl refl));
    }

pub limbo-low : {z : Sizes} {s : List ℕ} {i : ℕ} → Limbo z s i → i < z.processes
limbo-low {i = i} l = inside (holds-bounds l.holds) fields.pid i l.nowhere.used

-- The outcome o, as the code has it: reply, message told, and machine.
pub record Went (z : Sizes) (s s' : List ℕ) (o : Outcome) (m : List ℕ) (r : Result code.Reply Refusal) : Type 0 where
  pub holds : Holds z s' 0
  pub reply : means r m [] ≡ o.reply
  pub told : m ≡ told o.reply
  pub long : length_of r ≡ length m
  pub machine : machine_in z s' ≡ o.after
  pub spares : Spares z s s'
  pub kin : SameKin (mem_in z s) (mem_in z s')

-- The same, from before what was written first.
pub went-from
    : {z : Sizes} {s s₁ s₂ : List ℕ} {o : Outcome} {m : List ℕ} {r : Result code.Reply Refusal}
    → Spares z s s₁
    → Fewer z (mem_in z s) (mem_in z s₁)
    → Went z s₁ s₂ o m r
    → Went z s s₂ o m r
went-from t u w =
    record {
      holds = w.holds;
      reply = w.reply;
      told = w.told;
      long = w.long;
      machine = w.machine;
      spares = spares-fewer t u w.spares (alive-kin w.kin);
      kin = kin_join u.kin w.kin;
    }

pub record RunsOn (z : Sizes) (s s' : List ℕ) (i : ℕ) (r : Result code.Reply Refusal) : Type 0 where
  pub went : Went z s s' (runs i (Answer.run (pid_of (machine_in z s) i)) (machine_in z s)) [] r

pub runs_on
    : {z : Sizes} {s s₁ : List ℕ} {i p : ℕ} → Limbo z s i → p ≡ mem_in z s fields.pid i → Dispatched z s s₁ i → RunsOn z s s₁ i (Ok (Run p))
unfolding open_perform open_outcome means told
runs_on {z} {s} {s₁} {i} {p} l e d =
    let q : p ≡ pid_of (machine_in z s) i = e ∙ sym (pid_of_lem (holds-bounds l.holds) i) in
    record {
      went =
          record {
            holds = d.holds;
            reply = ap (λ (n : ℕ). answer (Answer.run n)) q;
            told = refl;
            long = refl;
            machine = d.machine;
            spares = d.touched.spares;
            kin = d.touched.same.kin;
          };
    }

-- Its call is a `sleep` or `tsleep` on Rendez r, where nobody is.
pub record AgainAsks (z : Sizes) (s : List ℕ) (i r : ℕ) : Type 0 where
  pub limbo : Limbo z s i
  pub call : CallsRendez (mem_in z s) r i
  pub index : r < z.rendez
  pub empty : mem_in z s fields.sleeper_of r ≡ 0

pub record SleptAgain (z : Sizes) (s s' : List ℕ) (i r : ℕ) (a : Result code.Reply Refusal) : Type 0 where
  pub went : Went z s s' (checks_again false i r (machine_in z s)) [] a

pub again-asks : {z : Sizes} {s : List ℕ} {i r : ℕ} → AgainAsks z s i r → SleepAsks z s i r
again-asks a =
    record {
      owed = 0;
      holds = a.limbo.holds;
      nowhere = a.limbo.nowhere;
      call = a.call;
      index = a.index;
      empty = a.empty;
      room = a.limbo.room;
    }

-- A record stored as it was.
set_same : {A : Type 0} (xs : List A) (i : ℕ) (d : A) → set xs i (get_or xs i d) ≡ xs
set_same [] i d = refl
set_same (x ∷ xs) zero d = refl
set_same {A} (x ∷ xs) (suc i) d = ap (λ (ys : List A). x ∷ ys) (set_same xs i d)

-- A machine with nobody running and a record as it was.
pub stays : (m : Machine) (i : ℕ) → m.up ≡ none → with_up none (with_process i (process m i) m) ≡ m
unfolding with_up with_process process
stays m i u =
    λ j. record {
      sizes = m.sizes;
      next_pid = m.next_pid;
      ticks = m.ticks;
      last_now = m.last_now;
      up = sym u j;
      run = m.run;
      processes = set_same m.processes i free j;
      sleepers = m.sleepers;
      locks = m.locks;
      settings = m.settings;
      queued = m.queued;
      conditions = m.conditions;
    }

pub up_none : {z : Sizes} {s : List ℕ} {i : ℕ} → Limbo z s i → (machine_in z s).up ≡ none
unfolding machine_of
up_none l = ap link_to l.idle

sleeps-same : (m : Machine) (i r : ℕ) → m.up ≡ none → sleep_on i r (process m i).resume m ≡ with_sleeper r (some i) m
unfolding sleep_on with_sleeper with_up with_process with_resume
sleeps-same m i r u = ap (with_sleeper r (some i)) (stays m i u)

pub slept-again : {z : Sizes} {s s₁ : List ℕ} {i r : ℕ} → AgainAsks z s i r → Slept z s s₁ i r → SleptAgain z s s₁ i r (Ok Asleep)
unfolding open_perform open_outcome means told
slept-again {z} {s} {s₁} {i} {r} a p =
    let y : Touched z s s₁ = touched-did p.did (same_use refl refl refl refl refl refl refl refl refl) in
    record {
      went =
          record {
            holds = p.did.holds 0 a.limbo.holds;
            reply = refl;
            told = refl;
            long = refl;
            machine = p.did.machine ∙ sym (sleeps-same (machine_in z s) i r (up_none a.limbo));
            spares = y.spares;
            kin = y.same.kin;
          };
    }
