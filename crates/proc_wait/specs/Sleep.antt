-- A process goes asleep on its own waitr.
use Rattle.std.specs.Prelude.{◌≡◌, refl, true, List, ℕ, suc, ◌<◌, length, get_or, set}
use Rattle.std.proofs.Common.{sym, ap, subst, ◌∙◌, arith, get_or-set_same, set-set}
use Rattle.std.proofs.Math.Option.{none}
use Rattle.machine.specs.Machine as machine
use Rattle.machine.specs.Machine.{Machine, Process, free, process}
use Rattle.machine.specs.Update.{with_up, with_process, with_resume, with_on_waitr}
use Rattle.machine.specs.Places.{sleep_on_waitr}
use Rattle.layout.specs.Memory.{Memory}
use Rattle.chain.specs.Links.{alter-same}
use Rattle.state.specs.Fields as fields
use Rattle.state.specs.Abs.{process_at, machine_of}
use Rattle.state.specs.Tables.{table-length}
use Rattle.state.specs.Places.{mem_in}
use Rattle.state.specs.declared.Sizes.{Sizes}
use Rattle.record.specs.declared.Resume.TheVariants.{Wait}
use Rattle.exact.specs.Bounds.{at_most}
use Rattle.holds.specs.Holds.{Holds}
use Rattle.holds.specs.Whole.{holds-bounds}
use Rattle.holds.specs.Did.{machine_in}
use Rattle.holds.specs.Use.{same_use}
use Rattle.holds.specs.Touched.{Touched, touched_join, touched-did}
use Rattle.dat.specs.Asleep.{asleep_in}
use Rattle.dat.specs.Waitr.{WaitAsks, Waited}
use Rattle.proc_sleep.specs.Suspend.{SuspendAsks, Suspended}

-- The running process i goes asleep on its waitr.
pub record AloneAsks (z : Sizes) (s : List ℕ) (i : ℕ) : Type 0 where
  pub holds : Holds z s 0
  pub runs : mem_in z s fields.up 0 ≡ suc i
  pub room : asleep_in (mem_in z s) < 65535

pub record WentAsleep (z : Sizes) (s s' : List ℕ) (i : ℕ) : Type 0 where
  pub holds : Holds z s' 0
  pub machine : machine_in z s' ≡ sleep_on_waitr i machine.in_wait (machine_in z s)
  pub touched : Touched z s s'

pub alone-suspend : {z : Sizes} {s : List ℕ} {i : ℕ} → AloneAsks z s i → SuspendAsks z s i Wait
alone-suspend a = record { holds = a.holds; runs = a.runs; object = omega arith; condition = omega arith }

pub alone-wait : {z : Sizes} {s s₁ : List ℕ} {i : ℕ} → AloneAsks z s i → Suspended z s s₁ i Wait → WaitAsks z s₁ i
alone-wait {z} {s} {s₁} {i} a d =
    record {
      owed = 0;
      holds = d.holds;
      nowhere = d.nowhere;
      call = ap (λ (x : Memory). x fields.resume_kind i) d.memory ∙ alter-same (mem_in z s fields.resume_kind) i 4;
      room = subst (λ (n : ℕ). n < 65535) (sym (ap (λ (x : Memory). x fields.asleep_count 0) d.memory)) a.room;
    }

-- The machine then: the call and the waitr, stored one after another.
sleep_on_lem
    : (m : Machine) (i : ℕ) (c : machine.Resume) (x : Machine)
    → x ≡ with_process i (with_resume c (process (with_up none m) i)) (with_up none m)
    → i < length m.processes
    → with_process i (with_on_waitr true (process x i)) x ≡ sleep_on_waitr i c m
unfolding sleep_on_waitr with_process with_up process
sleep_on_lem m i c x e l =
    let v : Process = with_resume c (get_or m.processes i free) in
    let g : get_or (set m.processes i v) i free ≡ v = get_or-set_same m.processes i v free l in
    ap (λ (y : Machine). with_process i (with_on_waitr true (process y i)) y) e
    ∙ ap (λ (ps : List Process). record { sizes = m.sizes; next_pid = m.next_pid; ticks = m.ticks; last_now = m.last_now; up = none; run = m.run; processes = ps; sleepers = m.sleepers; locks = m.locks; settings = m.settings; queued = m.queued; conditions = m.conditions })
    (set-set m.processes i v (with_on_waitr true (get_or (set m.processes i v) i free)) ∙ ap (λ (p : Process). set m.processes i (with_on_waitr true p)) g)

pub went-asleep
    : {z : Sizes} {s s₁ s₂ : List ℕ} {i : ℕ}
    → AloneAsks z s i
    → Suspended z s s₁ i Wait
    → Waited z s₁ s₂ i
    → WentAsleep z s s₂ i
unfolding machine_of
went-asleep {z} {s} {s₁} {s₂} {i} a d p =
    record {
      holds = p.did.holds 0 d.holds;
      machine =
          p.did.machine
          ∙ sleep_on_lem (machine_in z s) i machine.in_wait (machine_in z s₁) d.machine
          (omega (arith, table-length z.processes (process_at (mem_in z s)), low));
      touched = touched_join d.touched (touched-did p.did (same_use refl refl refl refl refl refl refl refl refl));
    }
  where
    low : i < z.processes
    low = omega (arith, at_most (holds-bounds a.holds) fields.up 0, a.runs)
