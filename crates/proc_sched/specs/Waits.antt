-- A process woken from its `wait`: what the code shows at each return.
use Rattle.std.specs.Prelude.{◌≡◌, refl, true, false, List, [], ◌∷◌, ◌++◌, ℕ, ◌-◌, ◌≤◌, ◌<◌, length, take, drop, set, Result, Ok}
use Rattle.std.proofs.Common.{sym, ap, ap₂, subst, ◌∙◌, arith}
use Rattle.std.proofs.Math.Option.{none, some}
use Rattle.std.proofs.Math.Seq.{take-length}
use Rattle.machine.specs.Basics.{is_empty}
use Rattle.machine.specs.Machine as machine
use Rattle.machine.specs.Machine.{Machine, Process, Exit, process, pid_of}
use Rattle.machine.specs.Outcome.{Answer, Outcome, answer, open_outcome}
use Rattle.machine.specs.Update.{with_up, with_process, with_resume, with_on_waitr}
use Rattle.machine.specs.Places.{sleep_on_waitr}
use Rattle.machine.specs.Perform.{runs, wait_checks, take_exit, newest, open_perform}
use Rattle.layout.specs.Memory.{Memory}
use Rattle.state.specs.Fields as fields
use Rattle.state.specs.Abs.{run_list, waiter_list, waits_on, resume_of}
use Rattle.state.specs.Places.{sizes_in, mem_in}
use Rattle.state.specs.declared.Sizes.{Sizes}
use Rattle.exact.specs.Parts.{used_of, pid_of_lem}
use Rattle.holds.specs.Whole.{holds-bounds}
use Rattle.holds.specs.Did.{machine_in}
use Rattle.holds.specs.Use.{kin_join, same_use}
use Rattle.holds.specs.Touched.{Touched, touched-did, spares-before}
use Rattle.places.specs.Nowhere.{Nowhere}
use Rattle.dat.specs.Waitr.{WaitAsks, Waited}
use Rattle.waitq.specs.Push.{head_stores}
use Rattle.waitq.specs.Pop.{pop_stores, unlink_stores}
use Rattle.waitq.specs.Take.{take_mem}
use Rattle.waitq.specs.Marks.{exits-number}
use Rattle.outcome.specs.declared.Reply as code
use Rattle.outcome.specs.declared.Reply.TheVariants.{RunChild, Asleep}
use Rattle.outcome.specs.declared.Refusal.{Refusal}
use Rattle.outcome.specs.Means.{means, told}
use Rattle.proc_wait.specs.declared.Gone.{Gone}
use Rattle.proc_wait.specs.Wait.{ChildAsks, TookChild}
use Rattle.proc_sched.specs.Limbo.{Limbo, Went, Dispatched, limbo-low, up_none}

-- There is an exit, and room for its message.
pub record FinishAsks (z : Sizes) (s : List ℕ) (i : ℕ) (b : List ℕ) : Type 0 where
  pub limbo : Limbo z s i
  pub some : 0 < mem_in z s fields.nexits i
  pub room : 127 ≤ length b

-- It runs, and its `wait` gives the newest exit, whose message stands at the front of the buffer.
pub record WaitFinished (z : Sizes) (s s' : List ℕ) (i : ℕ) (b b' : List ℕ) (a : Result code.Reply Refusal) : Type 0 where
  pub went
      : Went z s s'
      (runs i
      (Answer.run_child (pid_of (machine_in z s) i) (newest (process (machine_in z s) i)).pid (newest (process (machine_in z s) i)).message)
      (with_process i (take_exit (process (machine_in z s) i)) (machine_in z s)))
      (newest (process (machine_in z s) i)).message a
  pub buffer : b' ≡ (newest (process (machine_in z s) i)).message ++ drop (length (newest (process (machine_in z s) i)).message) b

pub finish-child : {z : Sizes} {s : List ℕ} {i : ℕ} {b : List ℕ} → FinishAsks z s i b → ChildAsks z s i b
finish-child f = record { holds = f.limbo.holds; used = f.limbo.nowhere.used; some = f.some; room = f.room }

pub finish-low : {z : Sizes} {s : List ℕ} {i : ℕ} {b : List ℕ} → FinishAsks z s i b → i < z.processes
finish-low f = limbo-low f.limbo

nowhere-kept : (z : Sizes) (m : Memory) (n i c : ℕ) → Nowhere (sizes_in z) m i → Nowhere (sizes_in z) (take_mem n m i c) i
unfolding run_list waiter_list waits_on pop_stores unlink_stores head_stores
nowhere-kept z m n i c w = record { used = w.used; up = w.up; run = w.run; rendez = w.rendez; locks = w.locks; waitr = w.waitr; next = w.next }

pub finish-limbo : {z : Sizes} {s s₁ : List ℕ} {i : ℕ} {b b₁ : List ℕ} {g : Gone} → FinishAsks z s i b → TookChild z s s₁ i b b₁ g → Limbo z s₁ i
unfolding pop_stores unlink_stores head_stores
finish-limbo {z} {s} {s₁} {i} f t =
    record {
      holds = t.holds;
      nowhere =
          subst (λ (k : Memory). Nowhere (sizes_in z) k i) (sym t.memory)
          (nowhere-kept z (mem_in z s) z.cells i (mem_in z s fields.exits i - 1) f.limbo.nowhere);
      idle = ap (λ (k : Memory). k fields.up 0) t.memory ∙ f.limbo.idle;
      awake = λ e. f.limbo.awake (sym (ap (λ (k : Memory). k fields.state_of i) t.memory) ∙ e);
      room = subst (λ (n : ℕ). n < 65535) (sym (ap (λ (k : Memory). k fields.asleep_count 0) t.memory)) f.limbo.room;
    }

pub finished
    : {z : Sizes} {s s₁ s₂ : List ℕ} {i p : ℕ} {b b₁ : List ℕ} {g : Gone}
    → FinishAsks z s i b
    → p ≡ mem_in z s fields.pid i
    → TookChild z s s₁ i b b₁ g
    → Dispatched z s₁ s₂ i
    → WaitFinished z s s₂ i b b₁ (Ok (RunChild p g.pid g.length))
unfolding open_perform open_outcome means told
finished {z} {s} {s₁} {s₂} {i} {p} {b} {b₁} {g} f e t d =
    let x : Process = process (machine_in z s) i in
    let q : p ≡ pid_of (machine_in z s) i = e ∙ sym (pid_of_lem (holds-bounds f.limbo.holds) i) in
    let y : machine_in z s₂ ≡ with_up (some i) (with_process i (with_resume machine.nothing (process (with_process i (take_exit x) (machine_in z s)) i)) (with_process i (take_exit x) (machine_in z s))) =
    d.machine ∙ ap (λ (m : Machine). with_up (some i) (with_process i (with_resume machine.nothing (process m i)) m)) t.machine
    in
    record {
      went =
          record {
            holds = d.holds;
            reply =
                ap (λ (n : ℕ). answer (Answer.run_child n g.pid (take g.length (newest x).message))) q
                ∙ ap₂ (λ (n k : ℕ). answer (Answer.run_child (pid_of (machine_in z s) i) n (take k (newest x).message))) t.pid t.long
                ∙ ap (λ (l : List ℕ). answer (Answer.run_child (pid_of (machine_in z s) i) (newest x).pid l)) (take-length (newest x).message);
            told = refl;
            long = t.long;
            machine = y;
            spares = spares-before t.spares d.touched;
            kin = kin_join t.kin d.touched.same.kin;
          };
      buffer = t.buffer;
    }

-- The call of i is a `wait`.
pub record WaitCheckAsks (z : Sizes) (s : List ℕ) (i : ℕ) (b : List ℕ) : Type 0 where
  pub limbo : Limbo z s i
  pub call : mem_in z s fields.resume_kind i ≡ 4
  pub room : 127 ≤ length b

pub record WaitChecked (z : Sizes) (s s' : List ℕ) (i : ℕ) (b b' : List ℕ) (a : Result code.Reply Refusal) : Type 0 where
  pub message : List ℕ
  pub went : Went z s s' (wait_checks i (machine_in z s)) message a
  pub buffer : b' ≡ message ++ drop (length message) b

pub wait-low : {z : Sizes} {s : List ℕ} {i : ℕ} {b : List ℕ} → WaitCheckAsks z s i b → i < z.processes
wait-low a = limbo-low a.limbo

pub wait-sleep : {z : Sizes} {s : List ℕ} {i : ℕ} {b : List ℕ} → WaitCheckAsks z s i b → WaitAsks z s i
wait-sleep a =
    record { owed = 0; holds = a.limbo.holds; nowhere = a.limbo.nowhere; call = a.call; room = a.limbo.room }

waiting : {z : Sizes} {s : List ℕ} {i : ℕ} {b : List ℕ} → WaitCheckAsks z s i b → (process (machine_in z s) i).resume ≡ machine.in_wait
unfolding resume_of
waiting {z} {s} {i} a = ap (λ (p : Process). p.resume) (used_of (holds-bounds a.limbo.holds) i a.limbo.nowhere.used) ∙ rw a.call

no-exits : {z : Sizes} {s : List ℕ} {i : ℕ} {b : List ℕ} → WaitCheckAsks z s i b → mem_in z s fields.nexits i ≡ 0 → is_empty (process (machine_in z s) i).exits ≡ true
no-exits {z} {s} {i} a e = go (process (machine_in z s) i).exits refl
  where
    go : (xs : List Exit) → (process (machine_in z s) i).exits ≡ xs → is_empty (process (machine_in z s) i).exits ≡ true
    go [] q = ap (is_empty {A = Exit}) q
    go (x ∷ xs) q = absurd (omega (arith, e, exits-number a.limbo.holds i a.limbo.nowhere.used, ap (λ (l : List Exit). length l) q))

some-exits : {z : Sizes} {s : List ℕ} {i : ℕ} {b : List ℕ} → WaitCheckAsks z s i b → (mem_in z s fields.nexits i ≡ 0 → ⊥) → is_empty (process (machine_in z s) i).exits ≡ false
some-exits {z} {s} {i} a ne = go (process (machine_in z s) i).exits refl
  where
    go : (xs : List Exit) → (process (machine_in z s) i).exits ≡ xs → is_empty (process (machine_in z s) i).exits ≡ false
    go [] q = absurd (ne (omega (arith, exits-number a.limbo.holds i a.limbo.nowhere.used, ap (λ (l : List Exit). length l) q)))
    go (x ∷ xs) q = ap (is_empty {A = Exit}) q

checks-none : (m : Machine) (i : ℕ) → is_empty (process m i).exits ≡ true
    → ((wait_checks i m).reply ≡ answer Answer.asleep) × ((wait_checks i m).after ≡ sleep_on_waitr i machine.in_wait m)
unfolding wait_checks open_outcome
checks-none m i e = (rw e, rw e)

checks-some : (m : Machine) (i : ℕ) → is_empty (process m i).exits ≡ false
    → wait_checks i m ≡ runs i (Answer.run_child (pid_of m i) (newest (process m i)).pid (newest (process m i)).message) (with_process i (take_exit (process m i)) m)
unfolding wait_checks
checks-some m i e = rw e

-- It sleeps on its waitr again: its call and the rest stay.
again : (m : Machine) (i : ℕ) → m.up ≡ none → (process m i).resume ≡ machine.in_wait
    → sleep_on_waitr i machine.in_wait m ≡ with_process i (with_on_waitr true (process m i)) m
unfolding sleep_on_waitr with_up with_process with_on_waitr with_resume
again m i u e =
    λ j. record {
      sizes = m.sizes;
      next_pid = m.next_pid;
      ticks = m.ticks;
      last_now = m.last_now;
      up = sym u j;
      run = m.run;
      processes = set m.processes i (with_on_waitr true (with_resume (sym e j) (process m i)));
      sleepers = m.sleepers;
      locks = m.locks;
      settings = m.settings;
      queued = m.queued;
      conditions = m.conditions;
    }

pub wait-slept
    : {z : Sizes} {s s₁ : List ℕ} {i n : ℕ} {b : List ℕ}
    → WaitCheckAsks z s i b → n ≡ mem_in z s fields.nexits i → n ≡ 0 → Waited z s s₁ i → WaitChecked z s s₁ i b b (Ok Asleep)
unfolding means told
wait-slept {z} {s} {s₁} {i} {n} {b} a e d w =
    let q : ((wait_checks i (machine_in z s)).reply ≡ answer Answer.asleep) × ((wait_checks i (machine_in z s)).after ≡ sleep_on_waitr i machine.in_wait (machine_in z s)) =
    checks-none (machine_in z s) i (no-exits a (sym e ∙ d))
    in
    let y : Touched z s s₁ = touched-did w.did (same_use refl refl refl refl refl refl refl refl refl) in
    record {
      message = [];
      went =
          record {
            holds = w.did.holds 0 a.limbo.holds;
            reply = sym q.0;
            told = ap told (sym q.0);
            long = refl;
            machine = w.did.machine ∙ sym (again (machine_in z s) i (up_none a.limbo) (waiting a)) ∙ sym q.1;
            spares = y.spares;
            kin = y.same.kin;
          };
      buffer = refl;
    }

pub wait-finish : {z : Sizes} {s : List ℕ} {i n : ℕ} {b : List ℕ} → WaitCheckAsks z s i b → n ≡ mem_in z s fields.nexits i → (n ≡ 0 → ⊥) → FinishAsks z s i b
wait-finish a e ne = record { limbo = a.limbo; some = omega (arith, e, ne); room = a.room }

pub wait-finished
    : {z : Sizes} {s s₁ : List ℕ} {i n : ℕ} {b b₁ : List ℕ} {r : Result code.Reply Refusal}
    → WaitCheckAsks z s i b → n ≡ mem_in z s fields.nexits i → (n ≡ 0 → ⊥) → WaitFinished z s s₁ i b b₁ r → WaitChecked z s s₁ i b b₁ r
wait-finished {z} {s} {s₁} {i} {n} {b} {b₁} {r} a e ne f =
    record {
      message = (newest (process (machine_in z s) i)).message;
      went =
          subst (λ (o : Outcome). Went z s s₁ o (newest (process (machine_in z s) i)).message r)
          (sym (checks-some (machine_in z s) i (some-exits a (λ d. ne (e ∙ d))))) f.went;
      buffer = f.buffer;
    }
